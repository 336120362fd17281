-- A pass puts the value back, and leaves the line.
use Rattle.std.proofs.Common.{◌≡◌, ◌≢◌, inl, inr, ℕ, ◌+◌, ◌%◌, ◌<◌, ◌≤◌, Bool, true, false, cond, List, [], ◌∷◌, ◌++◌, length, get_or, set, sym, refl, ap, ◌∙◌, subst, ⊎_elim, arith, length-set, eq-eqb, ne_eqb, Some, None}
use Rattle.std.specs.Prelude.{Option}
use mathlib.Core.Option as M
use mathlib.Core.Option.{some-injective, some-ne-none}
use mathlib.Core.List.{IsPrefix}
use mathlib.Core.Logic.{dite}
use native.Mathlib.Decide.{ℕ_discrete}
use native.Mathlib.Nat.{mod-add-mod}
use lib.ListN.{get_elem?}
use Rattle.atomic_table.specs.Table.{State, Me, step, gives, put_back, rest, Allows}
use Rattle.atomic_table.proofs.Lists.{at_snoc}
use Rattle.ut_gate.specs.declared.view.Home.{Home}
use Rattle.ut_gate.specs.declared.view.Stage.{Stage}
use Rattle.ut_gate.specs.declared.view.Stage.TheVariants.{Holds}
use Rattle.ut_gate.specs.declared.view.View.{View}
use Rattle.ut_gate.specs.Counts.{total, one_if, word_of}
use Rattle.ut_gate.specs.Turns.{AddsOne, MayChange, slip_after}
use Rattle.ut_gate.specs.Line.{queued, queued_at, has_turn, InLine, Knows, AtHome, IsOut, InOrder}
use Rattle.ut_gate.specs.Tells.{own_after, view_after, Leaves, book_of, job_of, ticket_of}
use Rattle.ut_gate.specs.Steps.{MayLeave, HasLeft}
use Rattle.ut_gate.proofs.Sums.{total_set, total_none, inside, prefix_refl, prefix_trans, prefix_length, times_none}
use Rattle.ut_gate.proofs.Views.{waits, spares, at_ticket, places, each_set, clash, same_total, line_served, still_apart, bool_cases}
use Rattle.ut_gate.proofs.Rules.{only_turn}

module _ {X : Type 0} where
  own_below : (own : List ℕ) (before after : List X) → IsPrefix before after → ((k p : ℕ) → get_elem? own k ≡ M.some p → p < length before)
      → (k p : ℕ) → get_elem? (own_after own before after) k ≡ M.some p → p < length after
  own_below own before after pre h k p e = let more = prefix_length before after pre in
      dite (ℕ_discrete (length after) (length before))
      (λ is. let old : get_elem? own k ≡ M.some p = subst (λ (b : Bool). get_elem? (cond b own (own ++ length before ∷ [])) k ≡ M.some p) (eq-eqb (length after) (length before) is) e in let l = h k p old in omega arith)
      (λ not. let new : get_elem? (own ++ length before ∷ []) k ≡ M.some p = subst (λ (b : Bool). get_elem? (cond b own (own ++ length before ∷ [])) k ≡ M.some p) (ne_eqb (length after) (length before) not) e in
      ⊎_elim (λ (a : get_elem? own k ≡ M.some p). let l = h k p a in omega arith) (λ (a : length before ≡ p). omega arith) (at_snoc own (length before) p k new))

  begins : (before after : List X) → AddsOne before after → IsPrefix before after
  begins before after (inl e) = subst (IsPrefix before) (sym e) (prefix_refl before)
  begins before after (inr e) = (e.0 ∷ [], sym e.1)

module _ {J : Type 0} where
  abbrev owner_after : Option J → ℕ → ℕ → ℕ
  owner_after None id owner = id
  owner_after (Some k) id owner = owner

  owner_there : (k : Option J) (id owner n : ℕ) → id < n → owner < n → owner_after k id owner < n
  owner_there None id owner n a b = a
  owner_there (Some k) id owner n a b = b

  -- the job of the seat whose turn it was
  job_mine : (k k' mine : Option J) (id owner : ℕ) → (id ≡ owner → mine ≡ k) → (id ≢ owner → mine ≡ None) → (id ≡ owner_after k id owner → slip_after k k' mine ≡ k') × (id ≢ owner_after k id owner → slip_after k k' mine ≡ None)
  job_mine None k' mine id owner same other = (λ _. refl, λ un. absurd (un refl))
  job_mine (Some j) k' mine id owner same other = (λ e. ap (λ (z : Option J). slip_after (Some j) k' z) (same e), λ un. ap (λ (z : Option J). slip_after (Some j) k' z) (other un))

  -- the job of another seat
  job_other : (k k' mine his : Option J) (id owner seat : ℕ) → seat ≢ id → MayChange k k' mine → (id ≢ owner → mine ≡ None) → (seat ≡ owner → his ≡ k) → (seat ≢ owner → his ≡ None)
      → (seat ≡ owner_after k id owner → his ≡ k') × (seat ≢ owner_after k id owner → his ≡ None)
  job_other None k' mine his id owner seat apart may none same other = (λ e. absurd (apart e), λ _. dite (ℕ_discrete seat owner) same other)
  job_other (Some j) k' mine his id owner seat apart may none same other = (
    λ e. let gone : mine ≡ None = none (λ i. apart (e ∙ sym i)) in let kept : k' ≡ Some j = subst (λ (z : Option J). MayChange (Some j) k' z) gone may in same e ∙ sym kept,
    other,
  )

module _ {S : Type 0} where
  abbrev pub first_home : Home S → List (ℕ × Home S) → Home S
  first_home d [] = d
  first_home d (x ∷ xs) = x.1

module _ {X J S : Type 0} (book : S → List X) (job : S → Option J) (good : S → Type 0) where
  abbrev Rule : State (Home S) (View X J) → Type 0
  Rule = InOrder book job good

  pub leaves : (slots id : ℕ) (me : Me (Home S) (View X J)) (y : Home S) → me.0.stage ≡ Holds (ticket_of me.0.stage) (book_of me.0.stage) (job_of me.0.stage) → me.1 ≡ (0, y) ∷ []
      → y.turns ≡ word_of (ticket_of me.0.stage + 1) → AddsOne (book_of me.0.stage) (book y.value) → MayChange (job_of me.0.stage) (job y.value) me.0.job → good y.value
      → Allows Rule slots id me 1 (λ n. (n + 1) % 18446744073709551616) (Leaves book job good (step slots 1 1 0 M.none) me)
  leaves slots id me y is has turns_is adds may fits s r _ at _ =
      let t : ℕ = ticket_of me.0.stage in
      let b : List X = book_of me.0.stage in
      let k : Option J = job_of me.0.stage in
      let old = r.each id me.0 at in
      let lin : InLine r.first r.past r.log r.held (Holds t b k) = subst (InLine r.first r.past r.log r.held) is old.line in
      let w : View X J = view_after book job good me.0 y.value in
      let ahead = lin.1 in
      let log_is : b ≡ r.log = lin.2 in
      let held_is : k ≡ r.held = lin.3 in
      let pre : IsPrefix b (book y.value) = begins b (book y.value) adds in
      let pre' : IsPrefix r.log (book y.value) = subst (λ (l : List X). IsPrefix l (book y.value)) log_is pre in
      let more : length r.log ≤ length (book y.value) = prefix_length r.log (book y.value) pre' in
      let queue : queued_at r.first me.0.stage ≡ 1 = ap (λ (st : Stage X J). queued_at r.first st) is ∙ ap one_if (eq-eqb t r.first lin.0) in
      let in_line : queued me.0.stage ≡ 1 = ap (λ (st : Stage X J). queued st) is in
      let turn : has_turn me.0.stage ≡ true = ap (λ (st : Stage X J). has_turn st) is in
      let owner' : ℕ = owner_after k id r.owner in
      let mine = job_mine k (job y.value) me.0.job id r.owner (λ e. old.mine e ∙ sym held_is) old.others in
      let len_is : length b ≡ length r.log = ap (λ (l : List X). length l) log_is in (
        w,
        gives,
        tt,
        record {
          first = r.first + 1;
          past = r.past;
          log = book y.value;
          held = job y.value;
          owner = owner';
          words = ap (λ (ws : List ℕ). set ws 1 ((get_or ws 1 0 + 1) % 18446744073709551616)) r.words ∙ ap (λ (z : ℕ). word_of r.past ∷ z ∷ []) (mod-add-mod r.first 18446744073709551616 1);
          line = let h : total waits (set s.views id w) + queued me.0.stage ≡ total waits s.views + 0 = total_set waits s.views id me.0 w at in let l = r.line in omega arith;
          spare = let h = same_total spares s.views id me.0 w at refl in let c = r.spare in omega (arith, length-set s.views id w);
          each = each_set (Knows (r.first + 1) r.past (book y.value) (job y.value) owner') s.views id w
              record {
                line = tt;
                seen = prefix_refl (book y.value);
                told = λ c i e. prefix_trans c r.log (book y.value) (old.told c i e) pre';
                own = own_below me.0.own b (book y.value) pre (λ i p e. let l = old.own i p e in omega arith);
                mine = mine.0;
                others = mine.1;
              }
              (λ j v ne e. let his = r.each j v e in let jobs = job_other k (job y.value) me.0.job v.job id r.owner j ne may old.others (λ q. his.mine q ∙ sym held_is) his.others in record {
                line = line_served r.first r.past r.log (book y.value) r.held (job y.value) v.stage his.line (λ q. clash s.views r.first j id v me.0 (r.once r.first) ne e at q queue);
                seen = prefix_trans v.seen r.log (book y.value) his.seen pre';
                told = λ c i d. prefix_trans c r.log (book y.value) (his.told c i d) pre';
                own = λ i p d. let l = his.own i p d in omega arith;
                mine = jobs.0;
                others = jobs.1;
              });
          once = λ x. let h : total (at_ticket x) (set s.views id w) + queued_at x me.0.stage ≡ total (at_ticket x) s.views + 0 = total_set (at_ticket x) s.views id me.0 w at in let c = r.once x in omega arith;
          apart = λ p. still_apart p s.views id me.0 w b (book y.value) at refl (r.apart p)
              (λ here. total_none (places p) s.views (λ j v e. times_none p v.own (λ i q d. let l = (r.each j v e).own i q d in omega arith)));
          there = let c = owner_there k id r.owner (length s.views) (inside s.views id me.0 at) r.there in omega (arith, length-set s.views id w);
          slot = inl record {
            home = y;
            turns = turns_is ∙ ap (λ (z : ℕ). word_of (z + 1)) lin.0;
            homes = ⊎_elim (λ (h : AtHome book job good r.first r.log r.held s). let no : true ≡ false = sym turn ∙ h.nobody id me.0 at in cc)
                (λ (o : IsOut book job good s). ap (λ (c : List (ℕ × Home S)). put_back s.homes c) has ∙ ap (λ (hs : List (M.Option (Home S))). set hs 0 (M.some y)) o.homes) r.slot;
            book_is = refl;
            job_is = refl;
            fits = fits;
            nobody = each_set (λ j u. has_turn u.stage ≡ false) s.views id w refl
                (λ j u ne e. ⊎_elim (λ (q : has_turn u.stage ≡ true). absurd (only_turn book job good s r id me.0 at queue j u ne e q)) (λ (q : has_turn u.stage ≡ false). q) (bool_cases (has_turn u.stage)));
          };
        },
        λ y' has'. let lists : Prim.Path (List (ℕ × Home S)) ((0, y) ∷ []) ((0, y') ∷ []) = sym has ∙ has' in
            let y_is : y ≡ y' = ap (first_home y) lists in
            λ i. (view_after book job good me.0 (y_is i).value, rest me.1),
      )

  -- the pass at its turn, with the value as it is when the turn was counted
  counted : (m m1 : Me (Home S) (View X J)) (y z : Home S) → m.1 ≡ (0, z) ∷ [] → m1 ≡ (m.0, (0, y) ∷ rest m.1) → m1 ≡ (m.0, (0, y) ∷ [])
  counted m m1 y z out is = is ∙ ap (λ (l : List (ℕ × Home S)). let u : Me (Home S) (View X J) = (m.0, (0, y) ∷ rest l) in u) out

  -- the value that is out is the one that was lent
  lent : (m : Me (Home S) (View X J)) (x z : Home S) → m.1 ≡ (0, x) ∷ rest m.1 → m.1 ≡ (0, z) ∷ [] → x ≡ z
  lent m x z has out = let lists : Prim.Path (List (ℕ × Home S)) ((0, x) ∷ rest m.1) ((0, z) ∷ []) = sym has ∙ out in ap (first_home x) lists

  pub leaves_at : (slots id : ℕ) (m m1 : Me (Home S) (View X J)) (x y : Home S) → MayLeave book job good m → m.1 ≡ (0, x) ∷ rest m.1 → m1 ≡ (m.0, (0, y) ∷ rest m.1)
      → y.value ≡ x.value → y.turns ≡ (x.turns + 1) % 18446744073709551616
      → Allows Rule slots id m1 1 (λ n. (n + 1) % 18446744073709551616) (Leaves book job good (step slots 1 1 0 M.none) m1)
  leaves_at slots id m m1 x y h has is same turns_is =
      let e : Prim.Path (Me (Home S) (View X J)) (m.0, (0, y) ∷ []) m1 = sym (counted m m1 y h.home h.out is) in
      let home_is : x ≡ h.home = lent m x h.home has h.out in
      let value_is : h.home.value ≡ y.value = sym (same ∙ ap (λ (z : Home S). z.value) home_is) in
      let now : y.turns ≡ word_of (ticket_of m.0.stage + 1) =
      turns_is ∙ (ap (λ (z : ℕ). (z + 1) % 18446744073709551616) (ap (λ (z : Home S). z.turns) home_is ∙ h.turns) ∙ mod-add-mod (ticket_of m.0.stage) 18446744073709551616 1) in
      subst (λ (z : Me (Home S) (View X J)). Allows Rule slots id z 1 (λ n. (n + 1) % 18446744073709551616) (Leaves book job good (step slots 1 1 0 M.none) z)) e
      (leaves slots id (m.0, (0, y) ∷ []) y h.stage refl now
      (subst (λ (z : S). AddsOne (book_of m.0.stage) (book z)) value_is h.adds)
      (subst (λ (z : S). MayChange (job_of m.0.stage) (job z) m.0.job) value_is h.may)
      (subst good value_is h.fits))

  pub left_at : (m m1 m2 : Me (Home S) (View X J)) (slots : ℕ) (x y : Home S) → m.1 ≡ (0, x) ∷ rest m.1 → m1 ≡ (m.0, (0, y) ∷ rest m.1) → y.value ≡ x.value → Leaves book job good (step slots 1 1 0 M.none) m1 0 m2
      → HasLeft book job good m m2
  left_at m m1 m2 slots x y has is same l z out =
      let e = counted m m1 y z out is in
      let k : Leaves book job good (step slots 1 1 0 M.none) (m.0, (0, y) ∷ []) 0 m2 = subst (λ (u : Me (Home S) (View X J)). Leaves book job good (step slots 1 1 0 M.none) u 0 m2) e l in
      let value_is : y.value ≡ z.value = same ∙ ap (λ (u : Home S). u.value) (lent m x z has out) in
      k y refl ∙ ap (λ (u : S). let w : Me (Home S) (View X J) = (view_after book job good m.0 u, []) in w) value_is
