-- The bytes of a frame.
use Rattle.std.proofs.Common.{◌≡◌, ℕ, ◌+◌, ◌-◌, ◌<◌, ◌≤◌, ◌^◌, List, [], ◌∷◌, ◌++◌, length, take, drop, refl, sym, ◌∙◌, ap, arith, append_assoc}
use Rattle.std.specs.Int.{w32, to_le_bytes}
use Rattle.std.specs.List.{flat_map}
use Rattle.std.proofs.lemmas.List.{take_at, drop_at, take_all, drop_all, append-nil, length-append, length-drop, take-append-drop, flat_map_more, length_push}
use Rattle.ut_value.specs.declared.entry.Op.{Op}
use Rattle.ut_value.specs.declared.entry.Entry.TheVariants.{Txn}
use Rattle.ut_value.specs.Spelling.{op_spelling, spelling}
use Rattle.ut_value.proofs.SpellingLengths.{ops_length}
use Rattle.ut_value.proofs.OneSpelling.{few_ops}
use Rattle.ut_frame.specs.Framed.{body, payload_in, IsWhole}

-- the last byte is the gate
pub payload_in_end : (s : List ℕ) (gate : ℕ) → payload_in (s ++ gate ∷ []) ≡ drop 4 s
payload_in_end s gate = ap (drop 4) (take_at s (gate ∷ []) (length (s ++ gate ∷ []) - 1) (omega (arith, length-append s (gate ∷ []))))

pub payload_in_body : (p : List ℕ) → payload_in (body p) ≡ p
payload_in_body p = payload_in_end (to_le_bytes w32 (length p) ++ p) 0 ∙ drop_at (to_le_bytes w32 (length p)) p 4 refl

pub whole_body : (bytes p : List ℕ) → bytes ≡ body p → length p ≤ 2 ^ 30 → IsWhole bytes
whole_body bytes p is short =
    let same : payload_in bytes ≡ p = ap payload_in is ∙ payload_in_body p in
    record { parts = is ∙ ap body (sym same); short = omega (arith, ap (λ (l : List ℕ). length l) same, short) }

-- a length and what it counts
pub body_from : (s : List ℕ) → 4 ≤ length s → take 4 s ≡ to_le_bytes w32 (length s - 4) → s ++ 0 ∷ [] ≡ body (drop 4 s)
body_from s long front =
    let counted : to_le_bytes w32 (length s - 4) ≡ to_le_bytes w32 (length (drop 4 s)) = ap (to_le_bytes w32) (sym (length-drop 4 s)) in
    ap (λ (l : List ℕ). l ++ 0 ∷ []) (sym (take-append-drop 4 s) ∙ ap (λ (l : List ℕ). l ++ drop 4 s) (front ∙ counted))

-- all of the old bytes are replaced
pub replaced : (old new : List ℕ) (n : ℕ) → n ≡ length old → length new ≡ length old → take n (new ++ drop (length new) old) ≡ new
replaced old new n is long =
    ap (λ (l : List ℕ). take n (new ++ l)) (drop_all (length new) old (omega (arith, long)))
    ∙ ap (take n) (append-nil new) ∙ take_all n new (omega (arith, is, long))

-- a frame without its gate
pub front_of : (bytes : List ℕ) (n : ℕ) → IsWhole bytes → n + 1 ≡ length bytes → take n bytes ≡ to_le_bytes w32 (length (payload_in bytes)) ++ payload_in bytes
front_of bytes n whole is =
    let long : n ≡ length (to_le_bytes w32 (length (payload_in bytes)) ++ payload_in bytes) = omega (arith, is, ap (λ (l : List ℕ). length l) whole.parts, length-append (to_le_bytes w32 (length (payload_in bytes)) ++ payload_in bytes) (0 ∷ [])) in
    ap (take n) whole.parts ∙ take_at (to_le_bytes w32 (length (payload_in bytes)) ++ payload_in bytes) (0 ∷ []) n (sym long)

-- the number of operations is raised, and the operation's bytes stand at the end
pub added : (os : List Op) (op : Op) (bytes cut put set new : List ℕ) (n : ℕ) → IsWhole bytes → n + 1 ≡ length bytes → cut ≡ take n bytes → put ≡ cut ++ op_spelling op
    → ((k : ℕ) (front rest : List ℕ) → k + 1 < 2 ^ 32 → length front ≡ 4 → put ≡ front ++ (2 ∷ to_le_bytes w32 k ++ rest) → set ≡ to_le_bytes w32 (length put - 4) ++ (2 ∷ to_le_bytes w32 (k + 1) ++ rest))
    → new ≡ set ++ 0 ∷ [] → payload_in bytes ≡ spelling (Txn os) → payload_in new ≡ spelling (Txn (os ++ op ∷ []))
added os op bytes cut put set new n whole n_is cut_is put_is raised new_is old_is =
    let few : length os + 1 < 2 ^ 32 = omega (arith, few_ops os, ops_length os, ap (λ (l : List ℕ). length l) old_is, whole.short) in
    let front : List ℕ = to_le_bytes w32 (length (payload_in bytes)) in
    let parts : put ≡ front ++ (2 ∷ to_le_bytes w32 (length os) ++ (flat_map op_spelling os ++ op_spelling op)) =
    put_is ∙ ap (λ (l : List ℕ). l ++ op_spelling op) (cut_is ∙ front_of bytes n whole n_is ∙ ap (λ (l : List ℕ). front ++ l) old_is)
    ∙ append_assoc front (2 ∷ to_le_bytes w32 (length os) ++ flat_map op_spelling os) (op_spelling op) in
    let set_is = raised (length os) front (flat_map op_spelling os ++ op_spelling op) few refl parts in
    ap payload_in new_is ∙ payload_in_end set 0 ∙ ap (drop 4) set_is
    ∙ drop_at (to_le_bytes w32 (length put - 4)) (2 ∷ to_le_bytes w32 (length os + 1) ++ (flat_map op_spelling os ++ op_spelling op)) 4 refl
    ∙ ap (λ (l : List ℕ). 2 ∷ to_le_bytes w32 (length os + 1) ++ l) (flat_map_more op_spelling [] os op)
    ∙ ap (λ (k : ℕ). 2 ∷ to_le_bytes w32 k ++ flat_map op_spelling (os ++ op ∷ [])) (sym (length_push os op))
