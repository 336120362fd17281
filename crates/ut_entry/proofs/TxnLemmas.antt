-- A transaction's bytes with one operation more.
use Rattle.std.proofs.Common.{◌≡◌, ℕ, ◌+◌, ◌<◌, ◌≤◌, ◌^◌, List, [], ◌∷◌, ◌++◌, length, take, drop, sym, ◌∙◌, ap, arith}
use Rattle.std.specs.Int.{w32, to_le_bytes}
use Rattle.std.specs.List.{flat_map}
use Rattle.std.proofs.lemmas.List.{flat_map_more, length_push, take_all, drop_all, append-nil}
use Rattle.ut_value.specs.declared.entry.Op.{Op}
use Rattle.ut_value.specs.declared.entry.Entry.TheVariants.{Txn}
use Rattle.ut_value.specs.Spelling.{op_spelling, spelling}
use Rattle.ut_value.proofs.SpellingLengths.{ops_length}
use Rattle.ut_value.proofs.OneSpelling.{few_ops}

-- all of the old bytes are replaced
replaced : (old new : List ℕ) (n : ℕ) → n ≡ length old → length new ≡ length old → take n (new ++ drop (length new) old) ≡ new
replaced old new n is long =
    ap (λ (l : List ℕ). take n (new ++ l)) (drop_all (length new) old (omega (arith, long)))
    ∙ ap (take n) (append-nil new) ∙ take_all n new (omega (arith, is, long))

-- the number of operations is raised, and the operation's bytes stand at the end
pub added : (os : List Op) (op : Op) (old new whole : List ℕ) (n : ℕ) → old ≡ spelling (Txn os) → n ≡ length old → n ≤ 2 ^ 30 → length new ≡ length old
    → ((k : ℕ) (rest : List ℕ) → k + 1 < 2 ^ 32 → old ≡ 2 ∷ to_le_bytes w32 k ++ rest → new ≡ 2 ∷ to_le_bytes w32 (k + 1) ++ rest)
    → whole ≡ take n (new ++ drop (length new) old) ++ op_spelling op → whole ≡ spelling (Txn (os ++ op ∷ []))
added os op old new whole n is size small long raised made =
    let few : length os + 1 < 2 ^ 32 = omega (arith, few_ops os, ops_length os, ap length is, size, small) in
    let counted : new ≡ 2 ∷ to_le_bytes w32 (length os + 1) ++ flat_map op_spelling os = raised (length os) (flat_map op_spelling os) few is in
    made ∙ ap (λ (l : List ℕ). l ++ op_spelling op) (replaced old new n size long ∙ counted)
    ∙ ap (λ (l : List ℕ). 2 ∷ to_le_bytes w32 (length os + 1) ++ l) (flat_map_more op_spelling [] os op)
    ∙ ap (λ (k : ℕ). 2 ∷ to_le_bytes w32 k ++ flat_map op_spelling (os ++ op ∷ [])) (sym (length_push os op))
