-- The own operations of a session, seen from their bytes.
use Rattle.std.proofs.Common.{ℕ, ◌<◌, ◌≤◌, ◌≡◌, ◌≢◌, List, [], ◌∷◌, length, slice_get, get_or, Option, Bool, IsTrue, nat_lt, ◌↔◌, Some, refl, sym, ap, ◌∙◌, arith}
use Rattle.std.proofs.lemmas.Bool.{ltb-true, lt-ltb}
use Rattle.std.proofs.lemmas.Option.{slice_get_read}
use Rattle.std.proofs.lemmas.List.Sums.{sum_by-cons}
use Rattle.std.specs.Option.{option_map, unwrap_or}
use Rattle.ut_value.specs.declared.entry.Op.{Op}
use Rattle.ut_value.specs.declared.entry.Op.TheVariants.{Insert, Delete}
use Rattle.ut_value.specs.declared.entry.Entry.TheVariants.{Txn}
use Rattle.ut_value.specs.Spelling.{spelling, op_len}
use Rattle.ut_value.proofs.SpellingLengths.{entry_length}
use Rattle.ut_txn.specs.Seats.{Seat, payload_at}

-- the seat at an index has the bytes of that session
pub payload_read : (inside seats : List Seat) (session : ℕ) (seat : Seat) → inside ≡ seats → length inside ≡ 17 → session < 17 → seat ≡ get_or inside session seat → seat.payload ≡ payload_at seats session
payload_read inside seats session seat view count small is =
    let there : slice_get seats session ≡ Some seat = ap (λ (l : List Seat). slice_get l session) (sym view) ∙ slice_get_read inside 17 session seat (sym count) small is in
    ap (λ (o : Option Seat). unwrap_or (option_map (λ (x : Seat). x.payload) o) []) (sym there)

op_some : (op : Op) → 7 ≤ op_len op
op_some (Insert table id values) = omega arith
op_some (Delete table id) = omega arith

-- the bytes of a transaction are more than five exactly where it has operations
pub own_some : (more : Bool) (payload : List ℕ) (os : List Op) → more ≡ nat_lt 5 (length payload) → payload ≡ spelling (Txn os) → IsTrue more ↔ os ≢ []
own_some more payload [] test is = (λ yes. absurd (omega (arith, ltb-true 5 (length payload) (sym test ∙ yes), ap (λ (l : List ℕ). length l) is)), λ some. absurd (some refl))
own_some more payload (o ∷ os) test is =
    let long : 5 < length payload = omega (arith, op_some o, entry_length (Txn (o ∷ os)), sum_by-cons op_len o os, ap (λ (l : List ℕ). length l) is) in
    (λ yes none. not_none o os none, λ some. test ∙ lt-ltb 5 (length payload) long)
  where
    not_none : (o : Op) (os : List Op) → o ∷ os ≡ [] → ⊥
    not_none o os none = cc
