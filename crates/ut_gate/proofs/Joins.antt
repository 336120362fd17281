-- Two passes become one.
use Rattle.std.proofs.Common.{◌≡◌, ◌≢◌, ℕ, zero, suc, ◌+◌, ◌<◌, eqb, ltb, Bool, true, false, cond, List, [], ◌∷◌, ◌++◌, length, set, sym, refl, ap, ◌∙◌, subst, arith, length-set, Some, None}
use Rattle.std.specs.Prelude.{Option}
use mathlib.Core.Option as M
use mathlib.Core.Option.{some-injective, some-ne-none}
use mathlib.Core.List.{IsPrefix}
use mathlib.Core.Logic.{dite}
use native.Mathlib.Decide.{ℕ_discrete}
use lib.ListN.{get_elem?}
use Rattle.atomic_table.specs.Table.{State, Joins}
use Rattle.atomic_table.proofs.Lists.{set_else}
use Rattle.ut_gate.specs.declared.view.Home.{Home}
use Rattle.ut_gate.specs.declared.view.Stage.{Stage}
use Rattle.ut_gate.specs.declared.view.Stage.TheVariants.{Away}
use Rattle.ut_gate.specs.declared.view.View.{View}
use Rattle.ut_gate.specs.Counts.{total, one_if, times}
use Rattle.ut_gate.specs.Line.{queued, queued_at, has_turn, Knows, InOrder}
use Rattle.ut_gate.specs.Tells.{newcomer, longer, either_job, joined}
use Rattle.ut_gate.proofs.Sums.{total_set, total_append, inside}
use Rattle.ut_gate.proofs.Views.{waits, spares, at_ticket, places, each_set, same_total, fresh_knows}
use Rattle.ut_gate.proofs.Rules.{slot_same}

append_below : (n : ℕ) (l m : List ℕ) → ((k p : ℕ) → get_elem? l k ≡ M.some p → p < n) → ((k p : ℕ) → get_elem? m k ≡ M.some p → p < n) → (k p : ℕ) → get_elem? (l ++ m) k ≡ M.some p → p < n
append_below n [] m f g k p e = g k p e
append_below n (x ∷ xs) m f g zero p e = f zero p e
append_below n (x ∷ xs) m f g (suc k) p e = append_below n xs m (λ i. f (suc i)) g k p e

module _ {X : Type 0} where
  pub choose : (c : Bool) (a b log : List X) → IsPrefix a log → IsPrefix b log → IsPrefix (cond c b a) log
  choose true a b log p q = q
  choose false a b log p q = p

  longer_prefix : (a b log : List X) → IsPrefix a log → IsPrefix b log → IsPrefix (longer a b) log
  longer_prefix a b log p q = choose (ltb (length a) (length b)) a b log p q

  told_more : (told : List (List X)) (a b log : List X) → ((c : List X) (k : ℕ) → get_elem? told k ≡ M.some c → IsPrefix c log) → IsPrefix a log → IsPrefix b log → (c : List X) (k : ℕ) → get_elem? (told ++ a ∷ b ∷ []) k ≡ M.some c → IsPrefix c log
  told_more [] a b log h p q c zero e = subst (λ (l : List X). IsPrefix l log) (some-injective a c e) p
  told_more [] a b log h p q c (suc zero) e = subst (λ (l : List X). IsPrefix l log) (some-injective b c e) q
  told_more [] a b log h p q c (suc (suc k)) e = absurd (some-ne-none c (sym e))
  told_more (t ∷ ts) a b log h p q c zero e = h c zero e
  told_more (t ∷ ts) a b log h p q c (suc k) e = told_more ts a b log (λ d i. h d (suc i)) p q c k e

module _ {J : Type 0} where
  either_none : (j k : Option J) → j ≡ None → either_job j k ≡ k
  either_none j k e = ap (λ (z : Option J). either_job z k) e

  either_none_right : (j k : Option J) → k ≡ None → either_job j k ≡ j
  either_none_right None k e = e
  either_none_right (Some x) k e = refl

module _ {X J S : Type 0} (book : S → List X) (job : S → Option J) (good : S → Type 0) where
  abbrev Rule : State (Home S) (View X J) → Type 0
  Rule = InOrder book job good

  joins_with : (id : ℕ) (v : View X J) (other : ℕ) (w : View X J) (owner : ℕ) (s : State (Home S) (View X J)) (r : Rule s) → v.stage ≡ Away → w.stage ≡ Away → get_elem? s.views id ≡ M.some v → other ≢ id → get_elem? s.views other ≡ M.some w
      → owner < length s.views → owner ≢ other → (id ≡ owner → either_job v.job w.job ≡ r.held) → (id ≢ owner → either_job v.job w.job ≡ None)
      → ((j : ℕ) (u : View X J) → j ≢ id → j ≢ other → get_elem? s.views j ≡ M.some u → (j ≡ owner → u.job ≡ r.held) × (j ≢ owner → u.job ≡ None))
      → Rule record { words = s.words; homes = s.homes; views = set (set s.views id (joined v w)) other (newcomer [] 0) }
  joins_with id v other w owner s r away gone at apart there inn not_other mine none others =
      let b : View X J = joined v w in
      let n : View X J = newcomer [] 0 in
      let vs : List (View X J) = set s.views id b in
      let ws : List (View X J) = set vs other n in
      let at' : get_elem? vs other ≡ M.some w = set_else s.views id other b apart ∙ there in
      let old = r.each id v at in
      let its = r.each other w there in
      let K : ℕ → View X J → Type 0 = Knows r.first r.past r.log r.held owner in
      let still : has_turn v.stage ≡ false = ap (λ (st : Stage X J). has_turn st) away in
      let still' : has_turn w.stage ≡ false = ap (λ (st : Stage X J). has_turn st) gone in
      let none_waits : queued w.stage ≡ 0 = ap (λ (st : Stage X J). queued st) gone in
      let slot = slot_same book job good s r.first r.log r.held s.words id v b at still still r.slot in record {
        first = r.first;
        past = r.past;
        log = r.log;
        held = r.held;
        owner = owner;
        words = r.words;
        line = let c = same_total waits s.views id v b at refl in let d : total waits ws + queued w.stage ≡ total waits vs + 0 = total_set waits vs other w n at' in let l = r.line in omega arith;
        spare = let c = same_total spares s.views id v b at refl in let d : total spares ws + w.spare ≡ total spares vs + 0 = total_set spares vs other w n at' in let l = r.spare in omega (arith, length-set s.views id b, length-set vs other n);
        each = each_set K vs other n (fresh_knows r.first r.past r.log r.held owner other [] 0 (r.log, refl) (λ e. not_other (sym e)))
            (λ j u ne e. each_set (λ i x. i ≢ other → K i x) s.views id b
            (λ _. record {
              line = old.line;
              seen = longer_prefix v.seen w.seen r.log old.seen its.seen;
              told = told_more v.told v.seen w.seen r.log old.told old.seen its.seen;
              own = append_below (length r.log) v.own w.own old.own its.own;
              mine = mine;
              others = none;
            })
            (λ i x ne' q away_from. let k = r.each i x q in let jobs = others i x ne' away_from q in record { line = k.line; seen = k.seen; told = k.told; own = k.own; mine = jobs.0; others = jobs.1 })
            j u e ne);
        once = λ x. let c = same_total (at_ticket x) s.views id v b at refl in let d : total (at_ticket x) ws + queued_at x w.stage ≡ total (at_ticket x) vs + 0 = total_set (at_ticket x) vs other w n at' in let l = r.once x in omega arith;
        apart = λ p. let c : total (places p) vs + times p v.own ≡ total (places p) s.views + times p (v.own ++ w.own) = total_set (places p) s.views id v b at in
            let f : times p (v.own ++ w.own) ≡ times p v.own + times p w.own = total_append (λ x. one_if (eqb x p)) v.own w.own in
            let d : total (places p) ws + times p w.own ≡ total (places p) vs + 0 = total_set (places p) vs other w n at' in let l = r.apart p in omega arith;
        there = omega (arith, length-set s.views id b, length-set vs other n);
        slot = slot_same book job good record { words = s.words; homes = s.homes; views = vs } r.first r.log r.held s.words other w n at' still' refl slot;
      }

  pub joins : (id : ℕ) (v : View X J) (other : ℕ) (w : View X J) → v.stage ≡ Away → w.stage ≡ Away → Joins Rule id v other w (joined v w) (newcomer [] 0)
  joins id v other w away gone s r at apart there' =
      let there : get_elem? s.views other ≡ M.some w = sym (set_else s.views id other (joined v w) apart) ∙ there' in
      let old = r.each id v at in
      let its = r.each other w there in
      dite (ℕ_discrete r.owner other)
      (λ is. joins_with id v other w id s r away gone at apart there (inside s.views id v at) (λ e. apart (sym e))
      (λ _. either_none v.job w.job (old.others (λ e. apart (sym (e ∙ is)))) ∙ its.mine (sym is))
      (λ q. absurd (q refl))
      (λ j u ne ne' e. (λ q. absurd (ne q), λ _. (r.each j u e).others (λ q. ne' (q ∙ is)))))
      (λ not. joins_with id v other w r.owner s r away gone at apart there r.there not
      (λ e. either_none_right v.job w.job (its.others (λ q. not (sym q))) ∙ old.mine e)
      (λ e. either_none_right v.job w.job (its.others (λ q. not (sym q))) ∙ old.others e)
      (λ j u _ _ e. ((r.each j u e).mine, (r.each j u e).others)))
