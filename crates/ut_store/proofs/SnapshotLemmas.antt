-- The snapshots that the seats have are those of the open transactions.
use Rattle.std.proofs.Common.{ℕ, zero, suc, ◌≡◌, inl, inr, Bool, true, false, ◌||◌, List, [], ◌∷◌, Option, None, Some, refl, sym, ap, ◌∙◌, nat_eq, unwrap_or, true≢false}
use Rattle.std.proofs.lemmas.Bool.{eqb-true, eq-eqb, or_cases, or_left, or_right}
use Rattle.std.proofs.lemmas.List.Concat.{flat_map-cons}
use Rattle.std.proofs.lemmas.List.Folds.{list_any-append}
use Rattle.std.specs.List.{list_any}
use Rattle.ut_plain.specs.declared.transaction.OpenTransaction.{OpenTransaction}
use Rattle.ut_plain.specs.Plain.{Sessions, open_at}
use Rattle.ut_exact.specs.Kept.{AreSnapshots}
use Rattle.ut_txn.specs.declared.opened.Opened.{Opened}
use Rattle.ut_txn.specs.Seats.{Seat, opened_at, looks_of, snapshots_of}
use Rattle.ut_store.specs.Stands.{AreSeats, snapshot_of, opened_snapshot}

none_some : {X : Type 0} (x : X) → None ≡ Some x → ⊥
none_some x h = cc

-- whether one of them is such, seat by seat
any-cons : (test : ℕ → Bool) (seat : Seat) (seats : List Seat) → list_any test (snapshots_of (seat ∷ seats)) ≡ (list_any test (looks_of seat.opened) || list_any test (snapshots_of seats))
any-cons test seat seats = ap (list_any test) (flat_map-cons (λ (x : Seat). looks_of x.opened) seat seats) ∙ list_any-append test (looks_of seat.opened) (snapshots_of seats)

looked : (o : Option Opened) (x : Opened) → o ≡ Some x → list_any (nat_eq x.snapshot) (looks_of o) ≡ true
looked None x h = absurd (none_some x h)
looked (Some y) x h = or_left (nat_eq x.snapshot y.snapshot) _ (eq-eqb x.snapshot y.snapshot (ap (λ (o : Option Opened). (unwrap_or o x).snapshot) (sym h)))

seat_looks : (seats : List Seat) (s : ℕ) (x : Opened) → opened_at seats s ≡ Some x → list_any (nat_eq x.snapshot) (snapshots_of seats) ≡ true
seat_looks [] s x h = absurd (none_some x h)
seat_looks (seat ∷ seats) zero x h = any-cons (nat_eq x.snapshot) seat seats ∙ or_left (list_any (nat_eq x.snapshot) (looks_of seat.opened)) _ (looked seat.opened x h)
seat_looks (seat ∷ seats) (suc s) x h = any-cons (nat_eq x.snapshot) seat seats ∙ or_right (list_any (nat_eq x.snapshot) (looks_of seat.opened)) _ (seat_looks seats s x h)

who_looks : (k : ℕ) (o : Option Opened) → list_any (nat_eq k) (looks_of o) ≡ true → (x : Opened) × (o ≡ Some x) × (x.snapshot ≡ k)
who_looks k None h = absurd (true≢false (sym h))
who_looks k (Some x) h = elim (or_cases (nat_eq k x.snapshot) false h) [ inl same ↦ (x, refl, sym (eqb-true k x.snapshot same)) | inr none ↦ absurd (true≢false (sym none)) ]

look_seat : (seats : List Seat) (k : ℕ) → list_any (nat_eq k) (snapshots_of seats) ≡ true → (s : ℕ) × (x : Opened) × (opened_at seats s ≡ Some x) × (x.snapshot ≡ k)
look_seat [] k h = absurd (true≢false (sym h))
look_seat (seat ∷ seats) k h = elim (or_cases (list_any (nat_eq k) (looks_of seat.opened)) (list_any (nat_eq k) (snapshots_of seats)) (sym (any-cons (nat_eq k) seat seats) ∙ h)) [
  | inl here ↦ let x = who_looks k seat.opened here in (0, x.0, x.1, x.2)
  | inr there ↦ let x = look_seat seats k there in (suc x.0, x.1, x.2, x.3)
]

pub are_snapshots : (seats : List Seat) (sessions : Sessions) → AreSeats seats sessions → AreSnapshots (snapshots_of seats) sessions
are_snapshots seats sessions a = record {
  each = λ s o is. opens s o (opened_at seats s) refl (a.snapshots s ∙ ap snapshot_of is);
  only = λ k h. let x = look_seat seats k h in is_open x.0 k (open_at sessions x.0) refl (sym (a.snapshots x.0) ∙ ap opened_snapshot x.2 ∙ ap Some x.3);
}
  where
    opens : (s : ℕ) (o : OpenTransaction) (x : Option Opened) → opened_at seats s ≡ x → opened_snapshot x ≡ Some o.snapshot → list_any (nat_eq o.snapshot) (snapshots_of seats) ≡ true
    opens s o None is same = absurd (none_some o.snapshot same)
    opens s o (Some x) is same = ap (λ k. list_any (nat_eq k) (snapshots_of seats)) (ap (λ (q : Option ℕ). unwrap_or q 0) (sym same)) ∙ seat_looks seats s x is

    is_open : (s k : ℕ) (t : Option OpenTransaction) → open_at sessions s ≡ t → snapshot_of t ≡ Some k → (r : ℕ) × (o : OpenTransaction) × (open_at sessions r ≡ Some o) × (o.snapshot ≡ k)
    is_open s k None is same = absurd (none_some k same)
    is_open s k (Some o) is same = (s, o, is, ap (λ (q : Option ℕ). unwrap_or q k) same)
