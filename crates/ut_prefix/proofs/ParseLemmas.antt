-- A whole dictionary that was read.
use Rattle.std.proofs.Common.{◌≡◌, ℕ, ℤ, ◌+◌, ◌-◌, ◌/◌, ◌^◌, ◌<◌, ◌≤◌, List, [], ◌++◌, length, take, drop, refl, sym, ◌∙◌, ap, arith}
use Rattle.std.specs.Int.{to_le_bytes, from_le_bytes, w32}
use Rattle.std.proofs.lemmas.List.{length-drop, take_rest}
use Rattle.std.proofs.lemmas.Nat.{from_le_bytes-to_le_bytes_4}
use Rattle.std.proofs.Math.Seq.{take-add}
use Rattle.ut_prefix.specs.Spelling.{blocks_bytes, dict_bytes, IsDictionary, Spells}
use Rattle.ut_prefix.specs.Reading.{entries, IsRead, IsKept, keys_of}
use Rattle.ut_prefix.proofs.EntryLemmas.{entries-blocks}
use Rattle.ut_prefix.proofs.SpellingLemmas.{keys_of-written, IsKept-written}

-- the blocks that were read are those of the keys
blocks_read : (n : ℕ) (body own starts : List ℕ) (size : ℕ) (total : ℤ) (keys : List (List ℕ)) → IsRead n body starts size total keys → own ≡ take size body → own ≡ blocks_bytes ((n + 15) / 16) keys
blocks_read n body own starts size total keys r o =
    let m : (n + 15) / 16 ≡ (length keys + 15) / 16 = ap (λ (k : ℕ). (k + 15) / 16) (sym r.count) in
    o ∙ r.spelled ∙ entries-blocks ((n + 15) / 16) 0 [] keys refl m

pub IsKept-read : (n : ℕ) (body own starts : List ℕ) (size : ℕ) (total : ℤ) → (r : (keys : List (List ℕ)) × IsRead n body starts size total keys) → own ≡ take size body → n < 2 ^ 31 → IsKept starts n own total
IsKept-read n body own starts size total r o few =
    IsKept-written r.0 n starts own total r.1.count r.1.begins (blocks_read n body own starts size total r.0 r.1 o) few r.1.short r.1.ascending r.1.sum

-- a number and blocks are the first bytes
joined : (number : ℕ → List ℕ) (n size : ℕ) (bytes : List ℕ) (keys : List (List ℕ)) → take 4 bytes ≡ number n → length keys ≡ n → take size (drop 4 bytes) ≡ blocks_bytes ((n + 15) / 16) keys
    → take (4 + size) bytes ≡ number (length keys) ++ blocks_bytes ((length keys + 15) / 16) keys
joined number n size bytes keys f e b =
    take-add 4 size bytes ∙ ap (λ (l : List ℕ). l ++ take size (drop 4 bytes)) f ∙ ap (λ (l : List ℕ). number n ++ l) b
    ∙ ap (λ (k : ℕ). number k ++ blocks_bytes ((k + 15) / 16) keys) (sym e)

pub Spells-read : (n : ℕ) (bytes own starts : List ℕ) (size : ℕ) (total : ℤ) → (r : (keys : List (List ℕ)) × IsRead n (take (length bytes - 4) (drop 4 bytes)) starts size total keys)
    → own ≡ take size (take (length bytes - 4) (drop 4 bytes)) → 4 ≤ length bytes → take 4 bytes ≡ to_le_bytes w32 n → Spells bytes (keys_of starts n own) (4 + size)
Spells-read n bytes own starts size total r o long f =
    let body = take_rest bytes 4 in
    let blocks = blocks_read n (take (length bytes - 4) (drop 4 bytes)) own starts size total r.0 r.1 o in
    let keys = keys_of-written r.0 n starts own r.1.count r.1.begins blocks in
    let size_is = ap (λ (l : List ℕ). length l) body in
    record {
      within = omega (arith, r.1.within, size_is, length-drop 4 bytes, long);
      same =
          joined (to_le_bytes w32) n size bytes r.0 f r.1.count (ap (λ (l : List ℕ). take size l) (sym body) ∙ sym o ∙ blocks)
          ∙ ap (λ (l : List (List ℕ)). dict_bytes l) (sym keys);
    }

-- the number that bytes begin with is the one that was read
pub count_read : (n len : ℕ) (bytes rest : List ℕ) → n < 2 ^ 31 → len < 2 ^ 31 → take 4 bytes ≡ to_le_bytes w32 len → bytes ≡ to_le_bytes w32 n ++ rest → (n ≡ len) × (drop 4 bytes ≡ rest)
count_read n len bytes rest few short f is =
    let same : to_le_bytes w32 n ≡ to_le_bytes w32 len = sym (ap (λ (l : List ℕ). take 4 l) is) ∙ f in (
      sym (from_le_bytes-to_le_bytes_4 n (omega (arith, few))) ∙ ap (λ (l : List ℕ). from_le_bytes w32 l) same ∙ from_le_bytes-to_le_bytes_4 len (omega (arith, short)),
      ap (λ (l : List ℕ). drop 4 l) is,
    )

-- bytes that spell a dictionary of so many keys behind their number
pub body_spelled : (len : ℕ) (bytes rest : List ℕ) (keys : List (List ℕ)) → IsDictionary keys → len < 2 ^ 31 → take 4 bytes ≡ to_le_bytes w32 len → bytes ≡ dict_bytes keys ++ rest
    → (length keys ≡ len) × (take (length bytes - 4) (drop 4 bytes) ≡ entries 0 [] keys ++ rest)
body_spelled len bytes rest keys good few f is =
    let split : bytes ≡ to_le_bytes w32 (length keys) ++ (blocks_bytes ((length keys + 15) / 16) keys ++ rest) = is in
    let read = count_read (length keys) len bytes (blocks_bytes ((length keys + 15) / 16) keys ++ rest) good.few few f split in
    (read.0, take_rest bytes 4 ∙ read.1 ∙ ap (λ (l : List ℕ). l ++ rest) (sym (entries-blocks ((length keys + 15) / 16) 0 [] keys refl refl)))
