-- A pass draws a ticket, and looks whether its turn has come.
use Rattle.std.proofs.Common.{◌≡◌, ◌⊎◌, inl, inr, ℕ, ◌+◌, ◌%◌, ◌≤◌, true, false, List, [], ◌∷◌, get_or, set, sym, refl, ap, ◌∙◌, subst, ⊎_elim, arith, length-set, eq-eqb, Some, None}
use Rattle.std.specs.Prelude.{Option}
use mathlib.Core.Option as M
use mathlib.Core.Option.{some-injective, some-ne-none}
use mathlib.Core.List.{IsPrefix}
use mathlib.Core.Logic.{dite}
use native.Mathlib.Decide.{ℕ_discrete}
use native.Mathlib.Nat.{mod-add-mod}
use lib.ListN.{get_elem?}
use lib.Seq.{set-get_or}
use Rattle.atomic_table.specs.Table.{State, Me, step, keeps, takes, Allows}
use Rattle.atomic_table.proofs.Lists.{set_here, one_turn}
use Rattle.ut_gate.specs.declared.view.Home.{Home}
use Rattle.ut_gate.specs.declared.view.Stage.{Stage}
use Rattle.ut_gate.specs.declared.view.Stage.TheVariants.{Away, Waits, Holds}
use Rattle.ut_gate.specs.declared.view.View.{View}
use Rattle.ut_gate.specs.Counts.{total, one_if, times, word_of}
use Rattle.ut_gate.specs.Turns.{MeetsJob}
use Rattle.ut_gate.specs.Line.{queued, queued_at, has_turn, InLine, Knows, AtHome, IsOut, InOrder}
use Rattle.ut_gate.specs.Tells.{staged, Draws, Gets, Looks}
use Rattle.ut_gate.specs.Steps.{IsWaiting, HasTurn, IsAtTurn}
use Rattle.ut_gate.proofs.Sums.{total_set, total_none, one_in, inside}
use Rattle.ut_gate.proofs.Views.{waits, spares, at_ticket, places, turns, each_set, none_past, same_total, line_longer, drawn_once, mine_or_none}
use Rattle.ut_gate.proofs.Rules.{short, slot_same, unchanged, only_turn}

module _ {J : Type 0} where
  meets_same : (k : Option J) → MeetsJob k k
  meets_same None = tt
  meets_same (Some j) = refl

  meets_if : (k : Option J) (mine : Option J) → (mine ≡ k) ⊎ (mine ≡ None) → MeetsJob k mine
  meets_if k mine (inl e) = subst (λ (z : Option J). MeetsJob k z) (sym e) (meets_same k)
  meets_if k mine (inr e) = subst (λ (z : Option J). MeetsJob k z) (sym e) tt

module _ {X J S : Type 0} (book : S → List X) (job : S → Option J) (good : S → Type 0) where
  abbrev Rule : State (Home S) (View X J) → Type 0
  Rule = InOrder book job good

  pub draws : (slots id : ℕ) (me : Me (Home S) (View X J)) → me.0.stage ≡ Away → Allows Rule slots id me 0 (λ n. (n + 1) % 18446744073709551616) (Draws book job good (step slots 0 1 0 M.none) me)
  draws slots id me away s r _ at _ =
      let w : View X J = staged me.0 (Waits r.past) in
      let old = r.each id me.0 at in
      let none : (x : ℕ) → queued_at x me.0.stage ≡ 0 = λ x. ap (λ (st : Stage X J). queued_at x st) away in
      let none' : queued me.0.stage ≡ 0 = ap (λ (st : Stage X J). queued st) away in (
        w,
        keeps,
        tt,
        record {
          first = r.first;
          past = r.past + 1;
          log = r.log;
          held = r.held;
          owner = r.owner;
          words = ap (λ (ws : List ℕ). set ws 0 ((get_or ws 0 0 + 1) % 18446744073709551616)) r.words ∙ ap (λ (z : ℕ). z ∷ word_of r.first ∷ []) (mod-add-mod r.past 18446744073709551616 1);
          line = let h : total waits (set s.views id w) + queued me.0.stage ≡ total waits s.views + 1 = total_set waits s.views id me.0 w at in let b = r.line in omega arith;
          spare = let h = same_total spares s.views id me.0 w at refl in let c = r.spare in omega (arith, length-set s.views id w);
          each = each_set (Knows r.first (r.past + 1) r.log r.held r.owner) s.views id w
              record { line = (let b = r.line in omega arith, omega arith); seen = old.seen; told = old.told; own = old.own; mine = old.mine; others = old.others }
              (λ j v _ e. let k = r.each j v e in record { line = line_longer r.first r.past r.log r.held v.stage k.line; seen = k.seen; told = k.told; own = k.own; mine = k.mine; others = k.others });
          once = λ x. drawn_once x s.views r.past id me.0 w at (none x) refl (r.once x) (λ is. total_none (at_ticket x) s.views (λ j v e. subst (λ (n : ℕ). queued_at n v.stage ≡ 0) is (none_past r.first r.past r.log r.held v.stage (r.each j v e).line)));
          apart = λ p. let h = same_total (places p) s.views id me.0 w at refl in let c = r.apart p in omega arith;
          there = let c = r.there in omega (arith, length-set s.views id w);
          slot = slot_same book job good s r.first r.log r.held _ id me.0 w at (ap (λ (st : Stage X J). has_turn st) away) refl r.slot;
        },
        (r.past, ap (λ (ws : List ℕ). get_or ws 0 0) r.words, refl),
      )

  pub looks : (slots id : ℕ) (me : Me (Home S) (View X J)) (t : ℕ) → me.0.stage ≡ Waits t → Allows Rule slots id me 1 (λ n. n) (Looks book job good (step slots 1 0 0 M.none) me)
  looks slots id me t is s r _ at _ = let n : ℕ = get_or s.words 1 0 in
      let found : n ≡ word_of r.first = ap (λ (ws : List ℕ). get_or ws 1 0) r.words in
      let old = r.each id me.0 at in
      let lin : InLine r.first r.past r.log r.held (Waits t) = subst (InLine r.first r.past r.log r.held) is old.line in
      let near = short book job good s r in
      dite (ℕ_discrete n (word_of t))
      (λ hit.
      let a = lin.0 in
      let b = lin.1 in
      let first_is : r.first ≡ t = one_turn r.first t 18446744073709551616 a (omega arith) (sym found ∙ hit) in
      let queue : queued_at r.first me.0.stage ≡ 1 = ap (λ (st : Stage X J). queued_at r.first st) is ∙ ap one_if (eq-eqb t r.first (sym first_is)) in
      ⊎_elim (λ (h : AtHome book job good r.first r.log r.held s).
      let w : View X J = staged me.0 (Holds t (book h.home.value) (job h.home.value)) in (
        w,
        takes 0 h.home,
        ap (λ (hs : List (M.Option (Home S))). get_elem? hs 0) h.homes,
        record {
          first = r.first;
          past = r.past;
          log = r.log;
          held = r.held;
          owner = r.owner;
          words = set-get_or s.words 1 0 ∙ r.words;
          line = let e = same_total waits s.views id me.0 w at (sym (ap (λ (st : Stage X J). queued st) is)) in let l = r.line in omega arith;
          spare = let e = same_total spares s.views id me.0 w at refl in let c = r.spare in omega (arith, length-set s.views id w);
          each = each_set (Knows r.first r.past r.log r.held r.owner) s.views id w
              record { line = (sym first_is, omega arith, h.book_is, h.job_is); seen = old.seen; told = old.told; own = old.own; mine = old.mine; others = old.others }
              (λ j v _ e. r.each j v e);
          once = λ x. let e = same_total (at_ticket x) s.views id me.0 w at (sym (ap (λ (st : Stage X J). queued_at x st) is)) in let c = r.once x in omega arith;
          apart = λ p. let e = same_total (places p) s.views id me.0 w at refl in let c = r.apart p in omega arith;
          there = let c = r.there in omega (arith, length-set s.views id w);
          slot = inr record {
            homes = ap (λ (hs : List (M.Option (Home S))). set hs 0 M.none) h.homes;
            seat = id;
            view = w;
            at = set_here s.views id w (inside s.views id me.0 at);
            turn = refl;
          };
        },
        λ t' is'. let same : t ≡ t' = cc in inl (
          hit ∙ ap word_of same,
          record {
            home = h.home;
            turns = h.turns ∙ ap word_of (first_is ∙ same);
            fits = h.fits;
            is = ap (λ (z : ℕ). let u : View X J = staged me.0 (Holds z (book h.home.value) (job h.home.value)) in (u, (0, h.home) ∷ me.1)) same;
            seen = subst (IsPrefix me.0.seen) (sym h.book_is) old.seen;
            told = λ c k e. subst (IsPrefix c) (sym h.book_is) (old.told c k e);
            job_meets = subst (λ (z : Option J). MeetsJob z me.0.job) (sym h.job_is) (meets_if r.held me.0.job (mine_or_none r.first r.past r.log r.held r.owner id me.0 old));
            apart = λ p. let e : times p me.0.own ≤ total (places p) s.views = one_in (places p) s.views id me.0 at in let c = r.apart p in omega arith;
          },
        ),
      ))
      (λ (o : IsOut book job good s).
      absurd (only_turn book job good s r id me.0 at queue o.seat o.view
      (λ same. let e : o.view ≡ me.0 = some-injective o.view me.0 (sym o.at ∙ (ap (λ j. get_elem? s.views j) same ∙ at)) in
      let no : true ≡ false = sym o.turn ∙ (ap turns e ∙ ap (λ (st : Stage X J). has_turn st) is) in cc)
      o.at o.turn))
      r.slot)
      (λ miss. (me.0, keeps, tt, unchanged book job good s r 1 id me.0 at, λ t' is'. let same : t ≡ t' = cc in inr ((λ e. miss (e ∙ ap word_of (sym same))), refl)))

  pub waits_on : (found : ℕ) (m me : Me (Home S) (View X J)) → IsWaiting found m me → (slots id : ℕ) → Allows Rule slots id me 1 (λ n. n) (Looks book job good (step slots 1 0 0 M.none) me)
  waits_on found m me w slots id = looks slots id me w.0 (ap (λ (z : Me (Home S) (View X J)). z.0.stage) w.2)

  regot : (t : ℕ) (m m1 m2 : Me (Home S) (View X J)) → m1 ≡ (staged m.0 (Waits t), m.1) → Gets book job good t m1 m2 → Gets book job good t m m2
  regot t m m1 m2 is h = let g = subst (λ (z : Me (Home S) (View X J)). Gets book job good t z m2) is h in record { home = g.home; turns = g.turns; fits = g.fits; is = g.is; seen = g.seen; told = g.told; job_meets = g.job_meets; apart = g.apart }

  -- the turn came
  pub came : (ticket found : ℕ) (m m1 m2 : Me (Home S) (View X J)) (slots : ℕ) → IsWaiting ticket m m1 → Looks book job good (step slots 1 0 0 M.none) m1 found m2 → found ≡ ticket → HasTurn book job good m m2
  came ticket found m m1 m2 slots w look same = ⊎_elim (λ h. (w.0, regot w.0 m m1 m2 w.2 h.1)) (λ h. absurd (h.0 (same ∙ w.1))) (look w.0 (ap (λ (z : Me (Home S) (View X J)). z.0.stage) w.2))

  -- and the value is as the pass found it
  pub came_with : (ticket found : ℕ) (m m1 m2 : Me (Home S) (View X J)) (slots : ℕ) → IsWaiting ticket m m1 → Looks book job good (step slots 1 0 0 M.none) m1 found m2 → found ≡ ticket → m.1 ≡ [] → IsAtTurn book job good m2
  came_with ticket found m m1 m2 slots w look same none = let turn : HasTurn book job good m m2 = came ticket found m m1 m2 slots w look same in record {
    ticket = turn.0;
    home = turn.1.home;
    out = ap (λ (z : Me (Home S) (View X J)). z.1) turn.1.is ∙ ap (λ (l : List (ℕ × Home S)). (0, turn.1.home) ∷ l) none;
    stage = ap (λ (z : Me (Home S) (View X J)). z.0.stage) turn.1.is;
    turns = turn.1.turns;
    fits = turn.1.fits;
  }
