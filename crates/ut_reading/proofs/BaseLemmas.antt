-- The rows of an image as a value.
use Rattle.std.proofs.Common.{◌≡◌, ◌≢◌, inl, inr, ⊎_elim, ℕ, zero, suc, ◌+◌, ◌<◌, Bool, true, false, not, cond, nat_eq, List, [], ◌∷◌, ◌++◌, length, map, filter, Option, None, Some, refl, sym, ◌∙◌, ap, subst, arith}
use Rattle.std.specs.Prelude.{Contains, is_some}
use Rattle.std.specs.List.{AllByRecursion, AllPairs, flat_map}
use Rattle.std.specs.Ordering.{nat_cmp, eq_by_cmp}
use Rattle.std.specs.Cmp.{nat_cmp_total, unsigned_tied}
use Rattle.std.specs.FinMap as finmap
use Rattle.std.specs.FinMap.{find, nat_cmp-IsAntisymmetric}
use Rattle.std.proofs.lemmas.Bool.{ne_eqb, eq-eqb, eqb-true}
use Rattle.std.proofs.lemmas.List.{map-append, length-map}
use Rattle.std.proofs.lemmas.List.Elements.{Contains-append_left, Contains-append_right, Contains-append_cases}
use Rattle.ut_plain.specs.declared.table.Stored.{Stored}
use Rattle.ut_plain.specs.declared.stage.Placed.{Placed}
use Rattle.ut_plain.specs.declared.stage.TableStages.{TableStages}
use Rattle.ut_plain.specs.Rows.{Rows}
use Rattle.ut_plain.specs.Stages.{Stages, stages_at}
use Rattle.ut_plain.specs.Capture.{StandsAt, row_of, AreRowsOf, AreDistinct, ids}
use Rattle.ut_plain.proofs.CaptureLaws.{in_tail, in_filter, to_filter, in_map, to_map, first_in, later_in}
use Rattle.ut_durable.specs.Rules.{delta_ids, live_ids, part_ids, image_ids}
use Rattle.ut_durable.proofs.DistinctLemmas.{distinct_by_pairs}

abbrev Entry : Type 0
Entry = ℕ × Stored

-- ---- entries with keys of their own

abbrev keys : List Entry → List ℕ
keys es = map (λ (e : Entry). e.0) es

tied : (a b : ℕ) → a ≡ b → eq_by_cmp nat_cmp a b ≡ true
tied a b same = unsigned_tied a b ∙ eq-eqb a b same

apart : (a b : ℕ) → a ≢ b → eq_by_cmp nat_cmp a b ≡ false
apart a b differ = unsigned_tied a b ∙ ne_eqb a b differ

-- what is found is an entry
found_in : (es : List Entry) (id : ℕ) (row : Stored) → find nat_cmp id es ≡ Some row → Contains es (id, row)
found_in [] id row is = cc
found_in (e ∷ es) id row is = by (nat_eq id e.0) refl (found_in es id row)
  where
    by : (b : Bool) → nat_eq id e.0 ≡ b → (find nat_cmp id es ≡ Some row → Contains es (id, row)) → Contains (e ∷ es) (id, row)
    by true same rest =
        let key : id ≡ e.0 = eqb-true id e.0 same in
        let here : Some e.1 ≡ Some row = sym (ap (λ (b : Bool). cond b (Some e.1) (find nat_cmp id es)) (unsigned_tied id e.0 ∙ same)) ∙ is in
        let value : e.1 ≡ row = cc in
        first_in e (id, row) es (λ i. (sym key i, value i))
    by false same rest = later_in e (id, row) es (rest (sym (ap (λ (b : Bool). cond b (Some e.1) (find nat_cmp id es)) (unsigned_tied id e.0 ∙ same)) ∙ is))

key_there : (es : List Entry) (e : Entry) (P : ℕ → Type 0) → AllByRecursion P (keys es) → Contains es e → P e.0
key_there [] e P all has = absurd (omega (arith, has.1))
key_there (f ∷ es) e P all has = ⊎_elim (λ same. subst (λ (x : Entry). P x.0) same all.0) (λ rest. key_there es e P all.1 rest) (in_tail f e es has)

-- an entry is found, where no two have one key
in_found : (es : List Entry) (id : ℕ) (row : Stored) → AreDistinct (keys es) → Contains es (id, row) → find nat_cmp id es ≡ Some row
in_found [] id row own has = absurd (omega (arith, has.1))
in_found (e ∷ es) id row own has = ⊎_elim
    (λ same. ap (λ (b : Bool). cond b (Some e.1) (find nat_cmp id es)) (tied id e.0 (sym (ap (λ (x : Entry). x.0) same))) ∙ ap (λ (x : Entry). Some x.1) same)
    (λ rest. ap (λ (b : Bool). cond b (Some e.1) (find nat_cmp id es)) (apart id e.0 (key_there es (id, row) (λ (k : ℕ). k ≢ e.0) own.0 rest)) ∙ in_found es id row own.1 rest)
    (in_tail e (id, row) es has)

not_found : (es : List Entry) (id : ℕ) → AllByRecursion (λ (k : ℕ). k ≢ id) (keys es) → find nat_cmp id es ≡ None
not_found [] id others = refl
not_found (e ∷ es) id others = ap (λ (b : Bool). cond b (Some e.1) (find nat_cmp id es)) (apart id e.0 (λ same. others.0 (sym same))) ∙ not_found es id others.1

-- a map of entries is as long as they are
entries_long : (es : List Entry) → AreDistinct (keys es) → finmap.len (finmap.from_entries {R = nat_cmp} es) ≡ length es
entries_long [] own = finmap.len-empty nat_cmp Stored
entries_long (e ∷ es) own =
    let rest : Rows = finmap.from_entries es in
    let new : finmap.contains_key rest e.0 ≡ false = ap is_some (finmap.get-from_entries nat_cmp_total es e.0 ∙ not_found es e.0 own.0) in
    finmap.len-insert nat_cmp_total rest e.0 e.1 ∙ ap (λ (b : Bool). cond b (finmap.len rest) (finmap.len rest + 1)) new ∙ ap (λ (n : ℕ). n + 1) (entries_long es own.1) ∙ more (length es)
  where
    more : (n : ℕ) → n + 1 ≡ suc n
    more n = omega arith

-- ---- the rows of all tables

abbrev entry_of : ℕ → Placed → Entry
entry_of n p = (p.id, row_of n p)

abbrev delta_rows : ℕ → TableStages → List Entry
delta_rows n s = map (entry_of n) s.l2 ++ map (entry_of n) s.l1

abbrev live_rows : ℕ → List Placed → List Entry
live_rows n part = map (entry_of n) (filter (λ (p : Placed). not p.dead) part)

abbrev part_rows : ℕ → TableStages → List Entry
part_rows n s = flat_map (live_rows n) s.parts

-- from a table on
abbrev rows_from : (ℕ → TableStages → List Entry) → ℕ → Stages → List Entry
rows_from f n [] = []
rows_from f n (s ∷ ss) = f n s ++ rows_from f (suc n) ss

abbrev image_rows : Stages → List Entry
image_rows stages = rows_from delta_rows 0 stages ++ rows_from part_rows 0 stages

pub base_rows : Stages → Rows
base_rows stages = finmap.from_entries (image_rows stages)

-- ---- their keys

entry_ids : (n : ℕ) (ps : List Placed) → keys (map (entry_of n) ps) ≡ ids ps
entry_ids n [] = refl
entry_ids n (p ∷ ps) = ap (λ (l : List ℕ). p.id ∷ l) (entry_ids n ps)

delta_keys : (n : ℕ) (s : TableStages) → keys (delta_rows n s) ≡ delta_ids s
delta_keys n s = map-append (λ (e : Entry). e.0) (map (entry_of n) s.l2) (map (entry_of n) s.l1) ∙ (λ i. entry_ids n s.l2 i ++ entry_ids n s.l1 i)

parts_keys : (n : ℕ) (parts : List (List Placed)) → keys (flat_map (live_rows n) parts) ≡ flat_map live_ids parts
parts_keys n [] = refl
parts_keys n (part ∷ parts) =
    map-append (λ (e : Entry). e.0) (live_rows n part) (flat_map (live_rows n) parts)
    ∙ (λ i. entry_ids n (filter (λ (p : Placed). not p.dead) part) i ++ parts_keys n parts i)

part_keys : (n : ℕ) (s : TableStages) → keys (part_rows n s) ≡ part_ids s
part_keys n s = parts_keys n s.parts

rows_keys : (f : ℕ → TableStages → List Entry) (g : TableStages → List ℕ) → ((n : ℕ) (s : TableStages) → keys (f n s) ≡ g s) → (n : ℕ) (stages : Stages) → keys (rows_from f n stages) ≡ flat_map g stages
rows_keys f g each n [] = refl
rows_keys f g each n (s ∷ ss) = map-append (λ (e : Entry). e.0) (f n s) (rows_from f (suc n) ss) ∙ (λ i. each n s i ++ rows_keys f g each (suc n) ss i)

image_keys : (stages : Stages) → keys (image_rows stages) ≡ image_ids stages
image_keys stages =
    map-append (λ (e : Entry). e.0) (rows_from delta_rows 0 stages) (rows_from part_rows 0 stages)
    ∙ (λ i. rows_keys delta_rows delta_ids delta_keys 0 stages i ++ rows_keys part_rows part_ids part_keys 0 stages i)

-- ---- where they stand

to_flat : {X Y : Type 0} (f : X → List Y) (xs : List X) (x : X) (y : Y) → Contains xs x → Contains (f x) y → Contains (flat_map f xs) y
to_flat f [] x y has there = absurd (omega (arith, has.1))
to_flat f (z ∷ xs) x y has there = ⊎_elim
    (λ same. Contains-append_left (f z) (flat_map f xs) y (subst (λ w. Contains (f w) y) (sym same) there))
    (λ rest. Contains-append_right (f z) (flat_map f xs) y (to_flat f xs x y rest there))
    (in_tail z x xs has)

in_flat : {X Y : Type 0} (f : X → List Y) (xs : List X) (y : Y) → Contains (flat_map f xs) y → (x : X) × Contains xs x × Contains (f x) y
in_flat f [] y has = absurd (omega (arith, has.1))
in_flat f (x ∷ xs) y has = ⊎_elim
    (λ here. (x, first_in x x xs refl, here))
    (λ rest. let more = in_flat f xs y rest in (more.0, later_in x more.0 xs more.1, more.2))
    (Contains-append_cases (f x) (flat_map f xs) y has)

to_rows : (f : ℕ → TableStages → List Entry) (n : ℕ) (stages : Stages) (k : ℕ) (e : Entry) → k < length stages → Contains (f (n + k) (stages_at stages k)) e → Contains (rows_from f n stages) e
to_rows f n [] k e lt has = absurd (omega (arith, lt))
to_rows f n (s ∷ ss) zero e lt has =
    let same : n + 0 ≡ n = omega arith in
    Contains-append_left (f n s) (rows_from f (suc n) ss) e (subst (λ (m : ℕ). Contains (f m s) e) same has)
to_rows f n (s ∷ ss) (suc k) e lt has =
    let same : n + suc k ≡ suc n + k = omega arith in
    Contains-append_right (f n s) (rows_from f (suc n) ss) e (to_rows f (suc n) ss k e (omega (arith, lt)) (subst (λ (m : ℕ). Contains (f m (stages_at ss k)) e) same has))

in_rows : (f : ℕ → TableStages → List Entry) (n : ℕ) (stages : Stages) (e : Entry) → Contains (rows_from f n stages) e → (k : ℕ) × (k < length stages) × Contains (f (n + k) (stages_at stages k)) e
in_rows f n [] e has = absurd (omega (arith, has.1))
in_rows f n (s ∷ ss) e has = ⊎_elim
    (λ here. let same : n ≡ n + 0 = omega arith in (zero, omega arith, subst (λ (m : ℕ). Contains (f m s) e) same here))
    (λ rest. let more = in_rows f (suc n) ss e rest in let same : suc n + more.0 ≡ n + suc more.0 = omega arith in (suc more.0, omega (arith, more.1), subst (λ (m : ℕ). Contains (f m (stages_at ss more.0)) e) same more.2))
    (Contains-append_cases (f n s) (rows_from f (suc n) ss) e has)

-- no place stands in a table that isn't there
within : (stages : Stages) (n : ℕ) (p : Placed) → StandsAt stages n p → n < length stages
within [] n p (inl (k, lt, is)) = absurd (omega (arith, lt))
within [] n p (inr (inl (k, lt, is))) = absurd (omega (arith, lt))
within [] n p (inr (inr (part, (k, lt, is), there))) = absurd (omega (arith, lt))
within (s ∷ ss) zero p stands = omega arith
within (s ∷ ss) (suc n) p stands = omega (arith, within ss n p stands)

-- the deltas of each table are live
abbrev pub AreLive : Stages → Type 0
AreLive stages = AllByRecursion (λ (s : TableStages). AllByRecursion (λ (p : Placed). p.dead ≡ false) s.l2 × AllByRecursion (λ (p : Placed). p.dead ≡ false) s.l1) stages

live_test : (p : Placed) → p.dead ≡ false → not p.dead ≡ true
live_test p live = ap not live

-- a live place is a row
stands_row : (stages : Stages) (n : ℕ) (p : Placed) → StandsAt stages n p → p.dead ≡ false → Contains (image_rows stages) (entry_of n p)
stands_row stages n p stands live = by stands
  where
    lt : n < length stages
    lt = within stages n p stands

    zero_more : n ≡ 0 + n
    zero_more = omega arith

    in_deltas : Contains (delta_rows n (stages_at stages n)) (entry_of n p) → Contains (image_rows stages) (entry_of n p)
    in_deltas has = Contains-append_left (rows_from delta_rows 0 stages) (rows_from part_rows 0 stages) (entry_of n p)
        (to_rows delta_rows 0 stages n (entry_of n p) lt (subst (λ (m : ℕ). Contains (delta_rows m (stages_at stages n)) (entry_of n p)) zero_more has))

    by : StandsAt stages n p → Contains (image_rows stages) (entry_of n p)
    by (inl l1) = in_deltas (Contains-append_right (map (entry_of n) (stages_at stages n).l2) (map (entry_of n) (stages_at stages n).l1) (entry_of n p) (to_map (entry_of n) (stages_at stages n).l1 p l1))
    by (inr (inl l2)) = in_deltas (Contains-append_left (map (entry_of n) (stages_at stages n).l2) (map (entry_of n) (stages_at stages n).l1) (entry_of n p) (to_map (entry_of n) (stages_at stages n).l2 p l2))
    by (inr (inr (part, in_parts, in_part))) =
        let live_in : Contains (live_rows n part) (entry_of n p) = to_map (entry_of n) (filter (λ (q : Placed). not q.dead) part) p (to_filter (λ (q : Placed). not q.dead) part p in_part (live_test p live)) in
        let has : Contains (part_rows n (stages_at stages n)) (entry_of n p) = to_flat (live_rows n) (stages_at stages n).parts part (entry_of n p) in_parts live_in in
        Contains-append_right (rows_from delta_rows 0 stages) (rows_from part_rows 0 stages) (entry_of n p)
        (to_rows part_rows 0 stages n (entry_of n p) lt (subst (λ (m : ℕ). Contains (part_rows m (stages_at stages n)) (entry_of n p)) zero_more has))

-- a live place of a table, for an entry
abbrev Stand : Stages → Entry → Type 0
Stand stages e = (n : ℕ) × (p : Placed) × StandsAt stages n p × (p.dead ≡ false) × (entry_of n p ≡ e)

live_at : (stages : Stages) → AreLive stages → (n : ℕ) → n < length stages → AllByRecursion (λ (p : Placed). p.dead ≡ false) (stages_at stages n).l2 × AllByRecursion (λ (p : Placed). p.dead ≡ false) (stages_at stages n).l1
live_at [] live n lt = absurd (omega (arith, lt))
live_at (s ∷ ss) live zero lt = live.0
live_at (s ∷ ss) live (suc n) lt = live_at ss live.1 n (omega (arith, lt))

one_live : (ps : List Placed) (p : Placed) → AllByRecursion (λ (q : Placed). q.dead ≡ false) ps → Contains ps p → p.dead ≡ false
one_live [] p all has = absurd (omega (arith, has.1))
one_live (q ∷ ps) p all has = ⊎_elim (λ same. subst (λ (x : Placed). x.dead ≡ false) same all.0) (λ rest. one_live ps p all.1 rest) (in_tail q p ps has)

not_true : (b : Bool) → not b ≡ true → b ≡ false
not_true true is = sym is
not_true false is = refl

row_stands : (stages : Stages) (e : Entry) → AreLive stages → Contains (image_rows stages) e → Stand stages e
row_stands stages e live has = ⊎_elim deltas parts (Contains-append_cases (rows_from delta_rows 0 stages) (rows_from part_rows 0 stages) e has)
  where
    deltas : Contains (rows_from delta_rows 0 stages) e → Stand stages e
    deltas there =
        let at = in_rows delta_rows 0 stages e there in
        let n : ℕ = 0 + at.0 in
        let same : n ≡ at.0 = omega arith in
        let s : TableStages = stages_at stages at.0 in
        let here : Contains (delta_rows at.0 s) e = subst (λ (m : ℕ). Contains (delta_rows m s) e) same at.2 in
        let lives = live_at stages live at.0 at.1 in
        ⊎_elim
        (λ l2. let p = in_map (entry_of at.0) s.l2 e l2 in (at.0, p.0, inr (inl p.1), one_live s.l2 p.0 lives.0 p.1, p.2))
        (λ l1. let p = in_map (entry_of at.0) s.l1 e l1 in (at.0, p.0, inl p.1, one_live s.l1 p.0 lives.1 p.1, p.2))
        (Contains-append_cases (map (entry_of at.0) s.l2) (map (entry_of at.0) s.l1) e here)

    parts : Contains (rows_from part_rows 0 stages) e → Stand stages e
    parts there =
        let at = in_rows part_rows 0 stages e there in
        let n : ℕ = 0 + at.0 in
        let same : n ≡ at.0 = omega arith in
        let s : TableStages = stages_at stages at.0 in
        let here : Contains (part_rows at.0 s) e = subst (λ (m : ℕ). Contains (part_rows m s) e) same at.2 in
        let part = in_flat (live_rows at.0) s.parts e here in
        let p = in_map (entry_of at.0) (filter (λ (q : Placed). not q.dead) part.0) e part.2 in
        let kept = in_filter (λ (q : Placed). not q.dead) part.0 p.0 p.1 in
        (at.0, p.0, inr (inr (part.0, part.1, kept.0)), not_true p.0.dead kept.1, p.2)

-- Where no two rows have one id, they are the rows of the stages.
pub base_rows_of : (stages : Stages) → AreLive stages → AllPairs (λ (a b : ℕ). a ≢ b) (image_ids stages) → AreRowsOf stages (base_rows stages)
unfolding base_rows
base_rows_of stages live pairs = record {
  each = λ n p stands is. finmap.get-from_entries nat_cmp_total (image_rows stages) p.id ∙ in_found (image_rows stages) p.id (row_of n p) own (stands_row stages n p stands is);
  only = λ id row is.
      let has = found_in (image_rows stages) id row (sym (finmap.get-from_entries nat_cmp_total (image_rows stages) id) ∙ is) in
      let at = row_stands stages (id, row) live has in
      (at.0, at.1, at.2, at.3, ap (λ (e : Entry). e.0) at.4, ap (λ (e : Entry). e.1) at.4);
}
  where
    own : AreDistinct (keys (image_rows stages))
    own = subst AreDistinct (sym (image_keys stages)) (distinct_by_pairs (image_ids stages) pairs)

pub base_rows_long : (stages : Stages) → AllPairs (λ (a b : ℕ). a ≢ b) (image_ids stages) → finmap.len (base_rows stages) ≡ length (image_ids stages)
unfolding base_rows
base_rows_long stages pairs =
    let own : AreDistinct (keys (image_rows stages)) = subst AreDistinct (sym (image_keys stages)) (distinct_by_pairs (image_ids stages) pairs) in
    entries_long (image_rows stages) own ∙ sym (length-map (image_rows stages) (λ (e : Entry). e.0)) ∙ ap (λ (l : List ℕ). length l) (image_keys stages)

-- Stages have the rows of one map at most.
pub one_rows : (stages : Stages) (rows rows' : Rows) → AreRowsOf stages rows → AreRowsOf stages rows' → rows ≡ rows'
one_rows stages rows rows' a b = finmap.same_map nat_cmp_total nat_cmp-IsAntisymmetric rows rows' (λ id. by id (finmap.get rows id) (finmap.get rows' id) refl refl)
  where
    over : (xs ys : Rows) → AreRowsOf stages xs → AreRowsOf stages ys → (id : ℕ) (row : Stored) → finmap.get xs id ≡ Some row → finmap.get ys id ≡ Some row
    over xs ys a b id row is =
        let at = a.only id row is in
        ap (λ (k : ℕ). finmap.get ys k) (sym at.4) ∙ b.each at.0 at.1 at.2 at.3 ∙ ap (λ (r : Stored). Some r) at.5

    by : (id : ℕ) (x y : Option Stored) → finmap.get rows id ≡ x → finmap.get rows' id ≡ y → finmap.get rows id ≡ finmap.get rows' id
    by id None None here there = here ∙ sym there
    by id (Some row) y here there = here ∙ sym (over rows rows' a b id row here)
    by id None (Some row) here there = over rows' rows b a id row there ∙ sym there

-- the id of a live place is one of the image's
pub live_id : (P : ℕ → Type 0) (stages : Stages) (n : ℕ) (p : Placed) → AllByRecursion P (image_ids stages) → StandsAt stages n p → p.dead ≡ false → P p.id
live_id P stages n p all stands live = key_there (image_rows stages) (entry_of n p) P (subst (AllByRecursion P) (sym (image_keys stages)) all) (stands_row stages n p stands live)
