-- A turn, from the look that found it to the act's end.
use Rattle.std.proofs.Common.{◌≡◌, ℕ, List, [], ◌∷◌, sym, refl, ap, ◌∙◌, subst}
use Rattle.std.specs.Prelude.{Option}
use mathlib.Core.List.{IsPrefix}
use Rattle.atomic_table.specs.Table.{Me, rest}
use Rattle.ut_gate.specs.declared.view.Home.{Home}
use Rattle.ut_gate.specs.declared.view.Stage.TheVariants.{Away, Holds}
use Rattle.ut_gate.specs.declared.view.View.{View}
use Rattle.ut_gate.specs.Turns.{AddsOne, MayChange, MeetsJob, slip_after}
use Rattle.ut_gate.specs.Tells.{staged, view_after, own_after}
use Rattle.ut_gate.specs.Steps.{HasTurn, MayLeave, HasLeft}
use Rattle.ut_gate.proofs.Leaves.{first_home}

module _ {X J S : Type 0} (book : S → List X) (job : S → Option J) (good : S → Type 0) where
  -- the value that is lent is the one that was found
  pub found : (m m' : Me (Home S) (View X J)) (x : Home S) (turn : HasTurn book job good m m') → m'.1 ≡ (0, x) ∷ rest m'.1 → turn.1.home ≡ x
  found m m' x turn lent = ap (λ (z : Me (Home S) (View X J)). first_home turn.1.home z.1) (sym turn.1.is) ∙ ap (first_home turn.1.home) lent

  -- what an act made of the value may go home
  pub may_leave : (m m' n : Me (Home S) (View X J)) (x y : Home S) (turn : HasTurn book job good m m') → m.1 ≡ [] → m'.1 ≡ (0, x) ∷ rest m'.1 → n ≡ (m'.0, (0, y) ∷ rest m'.1) → y.turns ≡ x.turns
      → good y.value → AddsOne (book x.value) (book y.value) → MayChange (job x.value) (job y.value) m.0.job → MayLeave book job good n
  may_leave m m' n x y turn none lent is same fits adds may =
      let h = turn.1 in
      let home_is : h.home ≡ x = found m m' x turn lent in
      let held : Me (Home S) (View X J) → Type 0 = λ z. (y : Home S) → y.turns ≡ h.home.turns → good y.value → AddsOne (book h.home.value) (book y.value) → MayChange (job h.home.value) (job y.value) m.0.job → MayLeave book job good (z.0, (0, y) ∷ rest z.1) in
      let at : held m' = subst held (sym h.is) (λ y same fits adds may. record {
        home = y;
        out = ap (λ (l : List (ℕ × Home S)). (0, y) ∷ l) none;
        stage = refl;
        turns = same ∙ h.turns;
        fits = fits;
        adds = adds;
        may = may;
      }) in
      subst (MayLeave book job good) (sym is)
      (at y (same ∙ ap (λ (z : Home S). z.turns) (sym home_is)) fits (subst (λ (z : Home S). AddsOne (book z.value) (book y.value)) (sym home_is) adds) (subst (λ (z : Home S). MayChange (job z.value) (job y.value) m.0.job) (sym home_is) may))

  -- the pass behind an act, which made y of x
  abbrev pub acted : View X J → S → S → View X J
  acted v x y = record { stage = Away; seen = book y; told = v.told; own = own_after v.own (book x) (book y); job = slip_after (job x) (job y) v.job; spare = v.spare }

  pub acts : (m m' n left : Me (Home S) (View X J)) (x y : Home S) (turn : HasTurn book job good m m') → m.1 ≡ [] → m'.1 ≡ (0, x) ∷ rest m'.1 → n ≡ (m'.0, (0, y) ∷ rest m'.1) → HasLeft book job good n left
      → left ≡ (acted m.0 x.value y.value, [])
  acts m m' n left x y turn none lent is gone =
      let h = turn.1 in
      let none_left : rest m'.1 ≡ [] = ap (λ (z : Me (Home S) (View X J)). rest z.1) h.is ∙ none in
      let out : n.1 ≡ (0, y) ∷ [] = ap (λ (z : Me (Home S) (View X J)). z.1) is ∙ ap (λ (l : List (ℕ × Home S)). (0, y) ∷ l) none_left in
      let held : n.0 ≡ staged m.0 (Holds turn.0 (book h.home.value) (job h.home.value)) = ap (λ (z : Me (Home S) (View X J)). z.0) is ∙ ap (λ (z : Me (Home S) (View X J)). z.0) h.is in
      gone y out
      ∙ ap (λ (v : View X J). let u : Me (Home S) (View X J) = (view_after book job good v y.value, []) in u) held
      ∙ ap (λ (z : Home S). let u : Me (Home S) (View X J) = (acted m.0 z.value y.value, []) in u) (found m m' x turn lent)

  -- what was found of the value, said of what was lent
  pub fits_lent : (m m' : Me (Home S) (View X J)) (x : Home S) (turn : HasTurn book job good m m') → m'.1 ≡ (0, x) ∷ rest m'.1 → good x.value
  fits_lent m m' x turn lent = subst (λ (z : Home S). good z.value) (found m m' x turn lent) turn.1.fits

  pub seen_lent : (m m' : Me (Home S) (View X J)) (x : Home S) (turn : HasTurn book job good m m') → m'.1 ≡ (0, x) ∷ rest m'.1 → IsPrefix m.0.seen (book x.value)
  seen_lent m m' x turn lent = subst (λ (z : Home S). IsPrefix m.0.seen (book z.value)) (found m m' x turn lent) turn.1.seen

  pub job_lent : (m m' : Me (Home S) (View X J)) (x : Home S) (turn : HasTurn book job good m m') → m'.1 ≡ (0, x) ∷ rest m'.1 → MeetsJob (job x.value) m.0.job
  job_lent m m' x turn lent = subst (λ (z : Home S). MeetsJob (job z.value) m.0.job) (found m m' x turn lent) turn.1.job_meets
