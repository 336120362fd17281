-- The first pass, and passes that are split off.
use Rattle.std.proofs.Common.{◌≡◌, inl, inr, ℕ, ◌+◌, ◌-◌, ◌<◌, false, List, [], ◌∷◌, ◌++◌, length, set, sym, refl, ap, ◌∙◌, subst, ⊎_elim, arith, length-append, length-set, Some, None}
use Rattle.std.specs.Prelude.{Option}
use mathlib.Core.Option as M
use mathlib.Core.Option.{some-injective, some-ne-none}
use mathlib.Core.Logic.{dite}
use native.Mathlib.Decide.{ℕ_discrete}
use lib.ListN.{get_elem?}
use Rattle.atomic_table.specs.Table.{State, Me, opening, Splits}
use Rattle.atomic_table.proofs.Lists.{at_snoc, at_longer}
use Rattle.ut_gate.specs.declared.view.Home.{Home}
use Rattle.ut_gate.specs.declared.view.Stage.{Stage}
use Rattle.ut_gate.specs.declared.view.Stage.TheVariants.{Away}
use Rattle.ut_gate.specs.declared.view.View.{View}
use Rattle.ut_gate.specs.Counts.{total}
use Rattle.ut_gate.specs.Line.{has_turn, Knows, AtHome, IsOut, InOrder}
use Rattle.ut_gate.specs.Tells.{newcomer, cut_left, cut_right}
use Rattle.ut_gate.proofs.Sums.{total_set, total_snoc}
use Rattle.ut_gate.proofs.Views.{waits, spares, at_ticket, places, each_set, same_total, fresh_knows, lone, there_is}
use Rattle.ut_gate.proofs.Rules.{slot_same}

module _ {X J S : Type 0} (book : S → List X) (job : S → Option J) (good : S → Type 0) where
  abbrev Rule : State (Home S) (View X J) → Type 0
  Rule = InOrder book job good

  pub splits : (id : ℕ) (v : View X J) → v.stage ≡ Away → 0 < v.spare → Splits Rule id v (cut_left v) (cut_right v)
  splits id v away some_spare s r at =
      let l : View X J = cut_left v in
      let n : View X J = cut_right v in
      let vs : List (View X J) = set s.views id l in
      let old = r.each id v at in
      let K : ℕ → View X J → Type 0 = Knows r.first r.past r.log r.held r.owner in
      let long : length vs ≡ length s.views = length-set s.views id l in
      let each : (j : ℕ) (u : View X J) → get_elem? vs j ≡ M.some u → K j u = each_set K s.views id l
      record { line = old.line; seen = old.seen; told = old.told; own = old.own; mine = old.mine; others = old.others } (λ j u _ e. r.each j u e) in
      let owns = r.there in
      let u = there_is vs r.owner (omega arith) in
      let slot = slot_same book job good s r.first r.log r.held s.words id v l at (ap (λ (st : Stage X J). has_turn st) away) (ap (λ (st : Stage X J). has_turn st) away) r.slot in record {
        first = r.first;
        past = r.past;
        log = r.log;
        held = r.held;
        owner = r.owner;
        words = r.words;
        line = let a = total_snoc waits vs n in let b = same_total waits s.views id v l at refl in let c = r.line in omega arith;
        spare = let a = total_snoc spares vs n in let b : total spares vs + v.spare ≡ total spares s.views + (v.spare - 1) = total_set spares s.views id v l at in let c = r.spare in omega (arith, length-append vs (n ∷ []));
        each = λ j w e. dite (ℕ_discrete j r.owner)
            (λ is. let here : w ≡ u.0 = some-injective w u.0 (sym e ∙ (ap (λ i. get_elem? (vs ++ n ∷ []) i) is ∙ at_longer vs (n ∷ []) r.owner u.0 u.1)) in
            subst (λ (x : ℕ × View X J). K x.0 x.1) (λ i. (sym is i, sym here i)) (each r.owner u.0 u.1))
            (λ apart. ⊎_elim (λ (a : get_elem? vs j ≡ M.some w). each j w a) (λ (a : n ≡ w). subst (K j) a (fresh_knows r.first r.past r.log r.held r.owner j v.seen 0 old.seen apart)) (at_snoc vs n w j e));
        once = λ x. let a = total_snoc (at_ticket x) vs n in let b = same_total (at_ticket x) s.views id v l at refl in let c = r.once x in omega arith;
        apart = λ p. let a = total_snoc (places p) vs n in let b = same_total (places p) s.views id v l at refl in let c = r.apart p in omega arith;
        there = omega (arith, length-append vs (n ∷ []));
        slot = ⊎_elim (λ (h : AtHome book job good r.first r.log r.held record { words = s.words; homes = s.homes; views = vs }). inl record {
          home = h.home;
          homes = h.homes;
          turns = h.turns;
          book_is = h.book_is;
          job_is = h.job_is;
          fits = h.fits;
          nobody = λ j w e. ⊎_elim (λ (a : get_elem? vs j ≡ M.some w). h.nobody j w a) (λ (a : n ≡ w). subst (λ (z : View X J). has_turn z.stage ≡ false) a refl) (at_snoc vs n w j e);
        })
            (λ (o : IsOut book job good record { words = s.words; homes = s.homes; views = vs }). inr record { homes = o.homes; seat = o.seat; view = o.view; at = at_longer vs (n ∷ []) o.seat o.view o.at; turn = o.turn })
            slot;
      }

  -- the gate at the start
  pub opens : (x : S) → job x ≡ None → good x → Rule (opening (0 ∷ 0 ∷ []) (record { value = x; turns = 0 } ∷ []) (newcomer [] 63))
  opens x none fits = let v : View X J = newcomer [] 63 in let one : (j : ℕ) (u : View X J) → get_elem? (v ∷ []) j ≡ M.some u → (j ≡ 0) × (v ≡ u) = lone v in record {
    first = 0;
    past = 0;
    log = book x;
    held = job x;
    owner = 0;
    words = refl;
    line = refl;
    spare = omega arith;
    each = λ j u e. let is = one j u e in subst (Knows 0 0 (book x) (job x) 0 j) is.1 record {
      line = tt;
      seen = (book x, refl);
      told = λ b k q. absurd (some-ne-none b (sym q));
      own = λ k p q. absurd (some-ne-none p (sym q));
      mine = λ _. sym none;
      others = λ ne. absurd (ne is.0);
    };
    once = λ t. omega arith;
    apart = λ p. omega arith;
    there = omega arith;
    slot = inl record { home = record { value = x; turns = 0 }; homes = refl; turns = refl; book_is = refl; job_is = refl; fits = fits; nobody = λ j u e. subst (λ (z : View X J). has_turn z.stage ≡ false) (one j u e).1 refl };
  }

  pub splits_new : (id spare : ℕ) (m : Me (Home S) (View X J)) → m ≡ (newcomer [] spare, []) → 0 < spare → Splits Rule id m.0 (cut_left m.0) (cut_right m.0)
  splits_new id spare m is some_spare = let e : m.0.spare ≡ spare = ap (λ (z : Me (Home S) (View X J)). z.0.spare) is in splits id m.0 (ap (λ (z : Me (Home S) (View X J)). z.0.stage) is) (omega arith)
