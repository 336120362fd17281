-- What the rule of the gate says of its line and of its slot.
use Rattle.std.proofs.Common.{◌≡◌, ◌≢◌, ◌⊎◌, inl, inr, ℕ, ◌+◌, ◌≤◌, true, false, List, length, get_or, set, sym, ap, ◌∙◌, subst, arith}
use Rattle.std.specs.Prelude.{Option}
use mathlib.Core.Option as M
use mathlib.Core.Option.{some-injective, some-ne-none}
use lib.ListN.{get_elem?}
use lib.Seq.{set-get_or}
use Rattle.atomic_table.specs.Table.{State}
use Rattle.atomic_table.proofs.Lists.{set_else, set_again}
use Rattle.ut_gate.specs.declared.view.Home.{Home}
use Rattle.ut_gate.specs.declared.view.View.{View}
use Rattle.ut_gate.specs.Counts.{total}
use Rattle.ut_gate.specs.Line.{queued_at, has_turn, AtHome, IsOut, InOrder}
use Rattle.ut_gate.proofs.Sums.{total_few}
use Rattle.ut_gate.proofs.Views.{few, waits, turns, each_set, at_of_turn, clash}

module _ {X J S : Type 0} (book : S → List X) (job : S → Option J) (good : S → Type 0) where
  abbrev Rule : State (Home S) (View X J) → Type 0
  Rule = InOrder book job good

  -- the line is short
  pub short : (s : State (Home S) (View X J)) (r : Rule s) → r.past ≤ r.first + 64
  short s r = let a : total waits s.views ≤ length s.views = total_few waits s.views (λ v. few v.stage) in let b = r.line in let c = r.spare in omega arith

  -- the slot, where a seat that has no turn gets a new view with none
  pub slot_same : (s : State (Home S) (View X J)) (first : ℕ) (log : List X) (held : Option J) (ws : List ℕ) (id : ℕ) (v w : View X J) → get_elem? s.views id ≡ M.some v → has_turn v.stage ≡ false → has_turn w.stage ≡ false
      → AtHome book job good first log held s ⊎ IsOut book job good s
      → AtHome book job good first log held record { words = ws; homes = s.homes; views = set s.views id w } ⊎ IsOut book job good record { words = ws; homes = s.homes; views = set s.views id w }
  slot_same s first log held ws id v w at not not' (inl h) = inl record {
    home = h.home;
    homes = h.homes;
    turns = h.turns;
    book_is = h.book_is;
    job_is = h.job_is;
    fits = h.fits;
    nobody = each_set (λ j u. has_turn u.stage ≡ false) s.views id w not' (λ j u _ e. h.nobody j u e);
  }
  slot_same s first log held ws id v w at not not' (inr o) = inr record {
    homes = o.homes;
    seat = o.seat;
    view = o.view;
    at = set_else s.views id o.seat w (λ is. let e : M.some o.view ≡ M.some v = sym o.at ∙ (ap (λ j. get_elem? s.views j) is ∙ at) in
        let same : o.view ≡ v = some-injective o.view v e in
        let clash : true ≡ false = sym o.turn ∙ (ap turns same ∙ not) in cc) ∙ o.at;
    turn = o.turn;
  }

  pub unchanged : (s : State (Home S) (View X J)) (r : Rule s) (i id : ℕ) (v : View X J) → get_elem? s.views id ≡ M.some v → Rule record { words = set s.words i (get_or s.words i 0); homes = s.homes; views = set s.views id v }
  unchanged s r i id v at = let same : Prim.Path (State (Home S) (View X J)) s record { words = set s.words i (get_or s.words i 0); homes = s.homes; views = set s.views id v } = λ k. record { words = sym (set-get_or s.words i 0) k; homes = s.homes; views = sym (set_again s.views id v at) k } in subst Rule same r

  -- who has the turn is the one whose ticket is served
  pub only_turn : (s : State (Home S) (View X J)) (r : Rule s) (id : ℕ) (v : View X J) → get_elem? s.views id ≡ M.some v → queued_at r.first v.stage ≡ 1 → (j : ℕ) (u : View X J) → j ≢ id → get_elem? s.views j ≡ M.some u → has_turn u.stage ≡ true → ⊥
  only_turn s r id v at q j u ne e turn = clash s.views r.first j id u v (r.once r.first) ne e at (at_of_turn r.first r.past r.log r.held u.stage (r.each j u e).line turn) q
