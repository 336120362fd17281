-- The last turn: the value goes home, and is taken out of the table.
use Rattle.std.proofs.Common.{◌≡◌, ◌≢◌, inl, ℕ, zero, suc, ◌<◌, ◌≤◌, Bool, true, false, List, [], ◌∷◌, get_or, set, sym, refl, ap, ◌∙◌, subst, ⊎_elim, arith, length-set, eq-eqb}
use Rattle.std.specs.Prelude.{Option}
use mathlib.Core.Option as M
use mathlib.Core.Option.{some-injective}
use mathlib.Core.List.{IsPrefix}
use lib.ListN.{get_elem?}
use lib.Seq.{set-get_or}
use Rattle.atomic_table.specs.Table.{State, Me, step, gives, put_back, Allows, Final, Seen}
use Rattle.ut_gate.specs.declared.view.Home.{Home}
use Rattle.ut_gate.specs.declared.view.Stage.{Stage}
use Rattle.ut_gate.specs.declared.view.Stage.TheVariants.{Holds, Ends}
use Rattle.ut_gate.specs.declared.view.View.{View}
use Rattle.ut_gate.specs.Counts.{total, one_if, times, word_of}
use Rattle.ut_gate.specs.Line.{queued, queued_at, has_turn, InLine, Knows, AtHome, IsOut, InOrder}
use Rattle.ut_gate.specs.Tells.{staged, Rests, ticket_of}
use Rattle.ut_gate.specs.Steps.{IsAtTurn, IsLast}
use Rattle.ut_gate.proofs.Sums.{one_in}
use Rattle.ut_gate.proofs.Views.{waits, spares, at_ticket, places, turns, each_set, same_total, bool_cases}
use Rattle.ut_gate.proofs.Rules.{only_turn}

module _ {X J S : Type 0} (book : S → List X) (job : S → Option J) (good : S → Type 0) where
  abbrev Rule : State (Home S) (View X J) → Type 0
  Rule = InOrder book job good

  pub rests : (slots id : ℕ) (me : Me (Home S) (View X J)) → IsAtTurn book job good me → Allows Rule slots id me 1 (λ n. n) (Rests book job good (step slots 1 0 0 M.none) me)
  rests slots id me here s r _ at _ =
      let x = here.home in
      let is = here.stage in
      let old = r.each id me.0 at in
      let lin : InLine r.first r.past r.log r.held (Holds here.ticket (book x.value) (job x.value)) = subst (InLine r.first r.past r.log r.held) is old.line in
      let w : View X J = staged me.0 (Ends (ticket_of me.0.stage)) in
      let ticket_is : ticket_of me.0.stage ≡ here.ticket = ap (λ (st : Stage X J). ticket_of st) is in
      let queue : queued_at r.first me.0.stage ≡ 1 = ap (λ (st : Stage X J). queued_at r.first st) is ∙ ap one_if (eq-eqb here.ticket r.first lin.0) in
      let turn : has_turn me.0.stage ≡ true = ap (λ (st : Stage X J). has_turn st) is in (
        w,
        gives,
        tt,
        record {
          first = r.first;
          past = r.past;
          log = r.log;
          held = r.held;
          owner = r.owner;
          words = set-get_or s.words 1 0 ∙ r.words;
          line = let e = same_total waits s.views id me.0 w at (sym (ap (λ (st : Stage X J). queued st) is)) in let l = r.line in omega arith;
          spare = let e = same_total spares s.views id me.0 w at refl in let c = r.spare in omega (arith, length-set s.views id w);
          each = each_set (Knows r.first r.past r.log r.held r.owner) s.views id w
              record { line = (ticket_is ∙ lin.0, lin.1); seen = old.seen; told = old.told; own = old.own; mine = old.mine; others = old.others }
              (λ j v _ e. r.each j v e);
          once = λ n. let e = same_total (at_ticket n) s.views id me.0 w at (ap (λ (z : ℕ). let st : Stage X J = Ends z in queued_at n st) ticket_is ∙ sym (ap (λ (st : Stage X J). queued_at n st) is)) in let c = r.once n in omega arith;
          apart = λ p. let e = same_total (places p) s.views id me.0 w at refl in let c = r.apart p in omega arith;
          there = let c = r.there in omega (arith, length-set s.views id w);
          slot = inl record {
            home = x;
            homes = ⊎_elim (λ (h : AtHome book job good r.first r.log r.held s). let no : true ≡ false = sym turn ∙ h.nobody id me.0 at in cc)
                (λ (o : IsOut book job good s). ap (λ (c : List (ℕ × Home S)). put_back s.homes c) here.out ∙ ap (λ (hs : List (M.Option (Home S))). set hs 0 (M.some x)) o.homes) r.slot;
            turns = here.turns ∙ ap word_of lin.0;
            book_is = lin.2;
            job_is = lin.3;
            fits = here.fits;
            nobody = each_set (λ j u. has_turn u.stage ≡ false) s.views id w refl
                (λ j u ne e. ⊎_elim (λ (q : has_turn u.stage ≡ true). absurd (only_turn book job good s r id me.0 at queue j u ne e q)) (λ (q : has_turn u.stage ≡ false). q) (bool_cases (has_turn u.stage)));
          };
        },
        refl,
      )

  -- what is taken out is the value, with all that the pass at its last turn has seen
  pub lasts : (id ticket : ℕ) (v : View X J) (ws : List ℕ) (xs : List (Home S)) (x : Home S) → v.stage ≡ Ends ticket → Final (Seen Rule id v) ws xs → get_elem? xs 0 ≡ M.some x → IsLast book good v x.value
  lasts id ticket v ws xs x is final taken =
      let s = final.0 in
      let r = final.1.0 in
      let at = final.1.1 in
      let old = r.each id v at in
      let lin : InLine r.first r.past r.log r.held (Ends ticket) = subst (InLine r.first r.past r.log r.held) is old.line in
      let queue : queued_at r.first v.stage ≡ 1 = ap (λ (st : Stage X J). queued_at r.first st) is ∙ ap one_if (eq-eqb ticket r.first lin.0) in
      ⊎_elim (λ (h : AtHome book job good r.first r.log r.held s).
      let same : h.home ≡ x = some-injective h.home x (sym (final.4 0 h.home (ap (λ (hs : List (M.Option (Home S))). get_elem? hs 0) h.homes)) ∙ taken) in
      subst (λ (z : Home S). IsLast book good v z.value) same record {
        ground = h.fits;
        seen = subst (IsPrefix v.seen) (sym h.book_is) old.seen;
        told = λ b k e. subst (IsPrefix b) (sym h.book_is) (old.told b k e);
        apart = λ p. let e : times p v.own ≤ total (places p) s.views = one_in (places p) s.views id v at in let c = r.apart p in omega arith;
      })
      (λ (o : IsOut book job good s).
      absurd (only_turn book job good s r id v at queue o.seat o.view
      (λ here. let e : o.view ≡ v = some-injective o.view v (sym o.at ∙ (ap (λ j. get_elem? s.views j) here ∙ at)) in
      let no : true ≡ false = sym o.turn ∙ (ap turns e ∙ ap (λ (st : Stage X J). has_turn st) is) in cc)
      o.at o.turn))
      r.slot

-- a stage more says nothing of what was seen
pub last_at : {X J S : Type 0} (book : S → List X) (good : S → Type 0) (v : View X J) (st : Stage X J) (slots : List (ℕ × Home S)) (m : Me (Home S) (View X J)) (y : S) → m ≡ (staged v st, slots) → IsLast book good m.0 y → IsLast book good v y
last_at {X} {J} {S} book good v st slots m y is h = let g = subst (λ (z : Me (Home S) (View X J)). IsLast book good z.0 y) is h in record { ground = g.ground; seen = g.seen; told = g.told; apart = g.apart }

-- the one slot is empty, where its value was taken
pub none_left : (filled : List Bool) (k : ℕ) → k < 1 → get_or (set filled 0 false) k false ≡ false
none_left [] k h = refl
none_left (x ∷ xs) zero h = refl
none_left (x ∷ xs) (suc k) h = absurd (omega arith)
