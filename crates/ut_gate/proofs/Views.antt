-- Views of the passes, one by one and counted together.
use Rattle.std.proofs.Common.{◌≡◌, ◌≢◌, ◌⊎◌, inl, inr, ℕ, zero, suc, ◌+◌, ◌<◌, ◌≤◌, eqb, Bool, true, false, cond, List, [], ◌∷◌, ◌++◌, length, set, sym, refl, ap, subst, ⊎_elim, arith, eq-eqb, ne_eqb, None}
use Rattle.std.specs.Prelude.{Option}
use mathlib.Core.Option as M
use mathlib.Core.Option.{some-injective, some-ne-none}
use mathlib.Core.List.{IsPrefix}
use mathlib.Core.Logic.{dite}
use native.Mathlib.Decide.{ℕ_discrete}
use lib.ListN.{get_elem?}
use Rattle.atomic_table.proofs.Lists.{at_set}
use Rattle.ut_gate.specs.declared.view.Stage.{Stage}
use Rattle.ut_gate.specs.declared.view.Stage.TheVariants.{Away, Waits, Holds, Ends}
use Rattle.ut_gate.specs.declared.view.View.{View}
use Rattle.ut_gate.specs.Counts.{total, one_if, times}
use Rattle.ut_gate.specs.Line.{queued, queued_at, has_turn, InLine, Knows}
use Rattle.ut_gate.specs.Tells.{own_after, newcomer}
use Rattle.ut_gate.proofs.Sums.{total_set, total_snoc, one_in, two_in}

pub bool_cases : (b : Bool) → (b ≡ true) ⊎ (b ≡ false)
bool_cases true = inl refl
bool_cases false = inr refl

one_of : (b : Bool) → one_if b ≤ 1
one_of true = omega arith
one_of false = omega arith

pub there_is : {A : Type 0} (l : List A) (i : ℕ) → i < length l → (a : A) × (get_elem? l i ≡ M.some a)
there_is [] i h = absurd (omega arith)
there_is (x ∷ xs) zero h = (x, refl)
there_is (x ∷ xs) (suc i) h = there_is xs i (omega arith)

module _ {X J : Type 0} where
  pub few : (st : Stage X J) → queued st ≤ 1
  few Away = omega arith
  few (Waits t) = omega arith
  few (Holds t b k) = omega arith
  few (Ends t) = omega arith

  abbrev pub waits : View X J → ℕ
  waits v = queued v.stage

  abbrev pub spares : View X J → ℕ
  spares v = v.spare

  abbrev pub at_ticket : ℕ → View X J → ℕ
  at_ticket t v = queued_at t v.stage

  abbrev pub places : ℕ → View X J → ℕ
  places p v = times p v.own

  -- a fact of each seat, where one seat's view changes
  pub each_set : (K : ℕ → View X J → Type 0) (vs : List (View X J)) (id : ℕ) (w : View X J) → K id w → ((j : ℕ) (v : View X J) → j ≢ id → get_elem? vs j ≡ M.some v → K j v)
      → (j : ℕ) (v : View X J) → get_elem? (set vs id w) j ≡ M.some v → K j v
  each_set K vs id w mine others j v e = ⊎_elim (λ (t : (j ≡ id) × (w ≡ v)). subst (λ (x : ℕ × View X J). K x.0 x.1) (λ i. (sym t.0 i, t.1 i)) mine)
      (λ (t : (j ≢ id) × (get_elem? vs j ≡ M.some v)). others j v t.0 t.1) (at_set vs id j w v e)

  -- the ticket of a turn
  pub at_of_turn : (first past : ℕ) (log : List X) (held : Option J) (st : Stage X J) → InLine first past log held st → has_turn st ≡ true → queued_at first st ≡ 1
  at_of_turn first past log held Away h e = cc
  at_of_turn first past log held (Waits t) h e = cc
  at_of_turn first past log held (Holds t b k) h e = ap one_if (eq-eqb t first h.0)
  at_of_turn first past log held (Ends t) h e = cc

  -- two seats have no ticket in common
  pub clash : (vs : List (View X J)) (t i j : ℕ) (v w : View X J) → total (at_ticket t) vs ≤ 1 → i ≢ j → get_elem? vs i ≡ M.some v → get_elem? vs j ≡ M.some w → queued_at t v.stage ≡ 1 → queued_at t w.stage ≡ 1 → ⊥
  clash vs t i j v w once ne e d p q = let h : queued_at t v.stage + queued_at t w.stage ≤ total (at_ticket t) vs = two_in (at_ticket t) vs i j v w ne e d in omega arith

  -- past every ticket
  pub none_past : (first past : ℕ) (log : List X) (held : Option J) (st : Stage X J) → InLine first past log held st → queued_at past st ≡ 0
  none_past first past log held Away h = refl
  none_past first past log held (Waits t) h = ap one_if (ne_eqb t past (λ q. let a = h.1 in omega arith))
  none_past first past log held (Holds t b k) h = ap one_if (ne_eqb t past (λ q. let a = h.0 in let b = h.1 in omega arith))
  none_past first past log held (Ends t) h = ap one_if (ne_eqb t past (λ q. let a = h.0 in let b = h.1 in omega arith))

  pub same_total : (f : View X J → ℕ) (vs : List (View X J)) (id : ℕ) (v w : View X J) → get_elem? vs id ≡ M.some v → f w ≡ f v → total f (set vs id w) ≡ total f vs
  same_total f vs id v w e same = let h : total f (set vs id w) + f v ≡ total f vs + f w = total_set f vs id v w e in omega arith

  pub line_longer : (first past : ℕ) (log : List X) (held : Option J) (st : Stage X J) → InLine first past log held st → InLine first (past + 1) log held st
  line_longer first past log held Away h = tt
  line_longer first past log held (Waits t) h = let a = h.1 in (h.0, omega arith)
  line_longer first past log held (Holds t b k) h = let a = h.1 in (h.0, omega arith, h.2, h.3)
  line_longer first past log held (Ends t) h = let a = h.1 in (h.0, omega arith)

  pub drawn_once : (x : ℕ) (vs : List (View X J)) (past id : ℕ) (v w : View X J) → get_elem? vs id ≡ M.some v → queued_at x v.stage ≡ 0 → queued_at x w.stage ≡ one_if (eqb past x) → total (at_ticket x) vs ≤ 1
      → (past ≡ x → total (at_ticket x) vs ≡ 0) → total (at_ticket x) (set vs id w) ≤ 1
  drawn_once x vs past id v w e none new once fresh = let h : total (at_ticket x) (set vs id w) + queued_at x v.stage ≡ total (at_ticket x) vs + queued_at x w.stage = total_set (at_ticket x) vs id v w e in
      dite (ℕ_discrete past x)
      (λ is. let a : one_if (eqb past x) ≡ 1 = ap one_if (eq-eqb past x is) in let b : total (at_ticket x) vs ≡ 0 = fresh is in omega arith)
      (λ not. let a : one_if (eqb past x) ≡ 0 = ap one_if (ne_eqb past x not) in omega arith)

  abbrev pub turns : View X J → Bool
  turns v = has_turn v.stage

  pub mine_or_none : (first past : ℕ) (log : List X) (held : Option J) (owner seat : ℕ) (v : View X J) → Knows first past log held owner seat v → (v.job ≡ held) ⊎ (v.job ≡ None)
  mine_or_none first past log held owner seat v k = dite (ℕ_discrete seat owner) (λ e. inl (k.mine e)) (λ e. inr (k.others e))

  pub line_served : (first past : ℕ) (log log' : List X) (held held' : Option J) (st : Stage X J) → InLine first past log held st → (queued_at first st ≡ 1 → ⊥) → InLine (first + 1) past log' held' st
  line_served first past log log' held held' Away h un = tt
  line_served first past log log' held held' (Waits t) h un = let a = h.0 in let apart : t ≢ first = λ e. un (ap one_if (eq-eqb t first e)) in (omega arith, h.1)
  line_served first past log log' held held' (Holds t b k) h un = absurd (un (ap one_if (eq-eqb t first h.0)))
  line_served first past log log' held held' (Ends t) h un = absurd (un (ap one_if (eq-eqb t first h.0)))

  pub still_apart : (p : ℕ) (vs : List (View X J)) (id : ℕ) (v w : View X J) (before after : List X) → get_elem? vs id ≡ M.some v → w.own ≡ own_after v.own before after → total (places p) vs ≤ 1
      → (length before ≡ p → total (places p) vs ≡ 0) → total (places p) (set vs id w) ≤ 1
  still_apart p vs id v w before after at own one fresh = let h : total (places p) (set vs id w) + times p v.own ≡ total (places p) vs + times p w.own = total_set (places p) vs id v w at in
      let inn : times p v.own ≤ total (places p) vs = one_in (places p) vs id v at in
      let own_is : times p w.own ≡ times p (own_after v.own before after) = ap (λ (l : List ℕ). times p l) own in
      dite (ℕ_discrete (length after) (length before))
      (λ is. let e : times p (own_after v.own before after) ≡ times p v.own = ap (λ (b : Bool). times p (cond b v.own (v.own ++ length before ∷ []))) (eq-eqb (length after) (length before) is) in omega arith)
      (λ not.
      let e : times p (own_after v.own before after) ≡ times p (v.own ++ length before ∷ []) = ap (λ (b : Bool). times p (cond b v.own (v.own ++ length before ∷ []))) (ne_eqb (length after) (length before) not) in
      let f : times p (v.own ++ length before ∷ []) ≡ times p v.own + one_if (eqb (length before) p) = total_snoc (λ x. one_if (eqb x p)) v.own (length before) in
      let o : one_if (eqb (length before) p) ≤ 1 = one_of (eqb (length before) p) in
      dite (ℕ_discrete (length before) p)
      (λ here. let z = fresh here in omega arith)
      (λ away. let z : one_if (eqb (length before) p) ≡ 0 = ap one_if (ne_eqb (length before) p away) in omega arith))

  pub fresh_knows : (first past : ℕ) (log : List X) (held : Option J) (owner seat : ℕ) (seen : List X) (spare : ℕ) → IsPrefix seen log → seat ≢ owner → Knows first past log held owner seat (newcomer seen spare)
  fresh_knows first past log held owner seat seen spare pre apart = record {
    line = tt;
    seen = pre;
    told = λ b k e. absurd (some-ne-none b (sym e));
    own = λ k p e. absurd (some-ne-none p (sym e));
    mine = λ e. absurd (apart e);
    others = λ _. refl;
  }

  pub lone : (v : View X J) (j : ℕ) (u : View X J) → get_elem? (v ∷ []) j ≡ M.some u → (j ≡ 0) × (v ≡ u)
  lone v zero u e = (refl, some-injective v u e)
  lone v (suc j) u e = absurd (some-ne-none u (sym e))
