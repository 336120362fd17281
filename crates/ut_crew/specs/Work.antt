-- What the members of a crew may do, whenever it is their turn.
use Rattle.std.specs.Prelude.{◌≡◌, None}
use Rattle.ut_gate.specs.declared.held.Slip.{Slip}

-- sessions and savers may act with any slip, mergers with one that has no job, and builders are ready
abbrev pub CanAlways : {A M S J : Type 0} → (A → Slip J → Type 0) → (M → Slip J → Type 0) → (M → Type 0) → (S → Slip J → Type 0) → Type 0
CanAlways {A} {M} {S} {J} session merger ready saver =
    ((a : A) (s : Slip J) → session a s)
    × ((m : M) (s : Slip J) → s.job ≡ None → merger m s)
    × ((m : M) → ready m)
    × ((k : S) (s : Slip J) → saver k s)
