-- The notes of an image's rows are those of its stages: one for each place that is somebody's.
use Rattle.std.proofs.Common.{◌≡◌, ◌⊎◌, inl, inr, ℕ, zero, suc, ◌+◌, Bool, true, false, not, cond, List, [], ◌∷◌, ◌++◌, length, map, drop, get_or, filter, Some, refl, sym, ◌∙◌, ap, subst, arith, slice_get}
use Rattle.std.specs.Option.{option_and_then}
use Rattle.std.specs.List.{AllByRecursion, flat_map}
use Rattle.std.proofs.lemmas.List.{map-append, length-map}
use Rattle.ut_plain.specs.declared.stage.Placed.{Placed}
use Rattle.ut_plain.specs.declared.stage.TableStages.{TableStages}
use Rattle.ut_plain.specs.Stages.{Stages, stages_at}
use Rattle.ut_plain.specs.Capture.{ids}
use Rattle.ut_stamps.specs.declared.place.Place.{Place}
use Rattle.ut_stamps.specs.declared.place.Place.TheVariants.{L1, L2, Closed, Main}
use Rattle.ut_main.specs.Parts.{MainValue}
use Rattle.ut_image.specs.declared.drawn.PartRef.{PartRef}
use Rattle.ut_image.specs.declared.drawn.Drawn.{Drawn}
use Rattle.ut_durable.specs.Rules.{delta_ids, live_ids, part_ids, image_ids}
use Rattle.ut_durable.specs.Bytes.{row_in, key_rows, live_marks}
use Rattle.ut_restart.specs.declared.rows.Position.{Position}
use Rattle.ut_restart.specs.Rows.{position}
use Rattle.ut_restart.specs.Noted.{Note, Cell, noted, row_cells, part_cells, deltas_noted, parts_noted, mains_noted}
use Rattle.ut_restart.specs.Shown.{marks_of, AreShown}
use Rattle.ut_restart.proofs.NotedLemmas.{keys, Among, among_left, among_right, among_cases}
use Rattle.ut_restart.proofs.ShownLemmas.{placed_in}

-- ---- the notes of stages

abbrev pub place_cells : List Placed → List Cell
place_cells ps = map (λ (p : Placed). (p.id, p.dead)) ps

abbrev pub list_notes : ℕ → (ℕ → Place) → List Placed → List Note
list_notes n at ps = noted n at 0 (place_cells ps)

abbrev pub delta_notes : ℕ → Stages → List Note
delta_notes n [] = []
delta_notes n (s ∷ ss) = (list_notes n L2 s.l2 ++ list_notes n L1 s.l1) ++ delta_notes (suc n) ss

abbrev pub part_notes : (n p : ℕ) → List (List Placed) → List Note
part_notes n p [] = []
part_notes n p (part ∷ parts) = list_notes n (Main p) part ++ part_notes n (suc p) parts

abbrev pub main_notes : ℕ → Stages → List Note
main_notes n [] = []
main_notes n (s ∷ ss) = part_notes n 0 s.parts ++ main_notes (suc n) ss

-- ---- they are those of the rows in memory

abbrev AreAlive : List Placed → Type 0
AreAlive ps = AllByRecursion (λ (p : Placed). p.dead ≡ false) ps

row-cells : (ps : List Placed) → AreAlive ps → row_cells (map row_in ps) ≡ place_cells ps
row-cells [] alive = refl
row-cells (p ∷ ps) alive = λ i. (p.id, sym alive.0 i) ∷ row-cells ps alive.1 i

not-not : (b : Bool) → not (not b) ≡ b
not-not true = refl
not-not false = refl

part-cells : (ps : List Placed) → part_cells (key_rows ps) (live_marks ps) ≡ place_cells ps
part-cells [] = refl
part-cells (p ∷ ps) = λ i. (p.id, not-not p.dead i) ∷ part-cells ps i

parts-notes : (n p : ℕ) (refs : List PartRef) (parts : List (List Placed)) → marks_of refs ≡ map live_marks parts → parts_noted n p refs (map key_rows parts) ≡ part_notes n p parts
parts-notes n p [] [] marks = refl
parts-notes n p [] (part ∷ parts) marks = cc
parts-notes n p (ref ∷ refs) [] marks = cc
parts-notes n p (ref ∷ refs) (part ∷ parts) marks =
    let here : ref.live ≡ live_marks part = ap (λ (l : List (List Bool)). get_or l 0 []) marks in
    λ i. noted n (Main p) 0 ((ap (part_cells (key_rows part)) here ∙ part-cells part) i) ++ parts-notes n (suc p) refs parts (ap (drop 1) marks) i

pub deltas-notes : (n : ℕ) (ts : List Drawn) (ms : List MainValue) (ss : Stages) → AreShown ts ms ss → deltas_noted n ts ≡ delta_notes n ss
deltas-notes n [] [] [] all = refl
deltas-notes n [] [] (s ∷ ss) all = absurd all
deltas-notes n [] (m ∷ ms) ss all = absurd all
deltas-notes n (t ∷ ts) [] ss all = absurd all
deltas-notes n (t ∷ ts) (m ∷ ms) [] all = absurd all
deltas-notes n (t ∷ ts) (m ∷ ms) (s ∷ ss) all = λ i.
    (noted n L2 0 ((ap row_cells all.0.l2 ∙ row-cells s.l2 all.0.rules.l2.live) i) ++ noted n L1 0 ((ap row_cells all.0.l1 ∙ row-cells s.l1 all.0.rules.l1.live) i))
    ++ deltas-notes (suc n) ts ms ss all.1 i

pub mains-notes : (n : ℕ) (ts : List Drawn) (ms : List MainValue) (ss : Stages) → AreShown ts ms ss → mains_noted n ts ms ≡ main_notes n ss
mains-notes n [] [] [] all = refl
mains-notes n [] [] (s ∷ ss) all = absurd all
mains-notes n [] (m ∷ ms) ss all = absurd all
mains-notes n (t ∷ ts) [] ss all = absurd all
mains-notes n (t ∷ ts) (m ∷ ms) [] all = absurd all
mains-notes n (t ∷ ts) (m ∷ ms) (s ∷ ss) all = λ i.
    (ap (λ (x : MainValue). parts_noted n 0 t.parts x.parts) all.0.keys ∙ parts-notes n 0 t.parts s.parts all.0.marks) i ++ mains-notes (suc n) ts ms ss all.1 i

-- ---- their ids

list-keys : (n : ℕ) (at : ℕ → Place) (i : ℕ) (ps : List Placed) → keys (noted n at i (place_cells ps)) ≡ live_ids ps
list-keys n at i [] = refl
list-keys n at i (p ∷ ps) = by (list-keys n at (suc i) ps) p.dead refl
  where
    by : keys (noted n at (suc i) (place_cells ps)) ≡ live_ids ps → (b : Bool) → p.dead ≡ b → keys (noted n at i (place_cells (p ∷ ps))) ≡ live_ids (p ∷ ps)
    by rest true e = ap (λ (b : Bool). keys (cond b (noted n at (suc i) (place_cells ps)) ((p.id, position n (at i)) ∷ noted n at (suc i) (place_cells ps)))) e ∙ rest
        ∙ sym (ap (λ (b : Bool). ids (cond (not b) (p ∷ filter (λ (q : Placed). not q.dead) ps) (filter (λ (q : Placed). not q.dead) ps))) e)
    by rest false e = ap (λ (b : Bool). keys (cond b (noted n at (suc i) (place_cells ps)) ((p.id, position n (at i)) ∷ noted n at (suc i) (place_cells ps)))) e ∙ ap (λ (l : List ℕ). p.id ∷ l) rest
        ∙ sym (ap (λ (b : Bool). ids (cond (not b) (p ∷ filter (λ (q : Placed). not q.dead) ps) (filter (λ (q : Placed). not q.dead) ps))) e)

alive-ids : (ps : List Placed) → AreAlive ps → live_ids ps ≡ ids ps
alive-ids [] alive = refl
alive-ids (p ∷ ps) alive = ap (λ (b : Bool). ids (cond (not b) (p ∷ filter (λ (q : Placed). not q.dead) ps) (filter (λ (q : Placed). not q.dead) ps))) alive.0 ∙ ap (λ (l : List ℕ). p.id ∷ l) (alive-ids ps alive.1)

-- as many as the rows of a delta
pub list-long : (n : ℕ) (at : ℕ → Place) (ps : List Placed) → AreAlive ps → length (list_notes n at ps) ≡ length ps
list-long n at ps alive =
    sym (length-map (list_notes n at ps) (λ (e : Note). e.0)) ∙ ap length (list-keys n at 0 ps ∙ alive-ids ps alive) ∙ length-map ps (λ (p : Placed). p.id)

keys-append : (xs ys : List Note) → keys (xs ++ ys) ≡ keys xs ++ keys ys
keys-append xs ys = map-append (λ (e : Note). e.0) xs ys

delta-keys : (n : ℕ) (ts : List Drawn) (ms : List MainValue) (ss : Stages) → AreShown ts ms ss → keys (delta_notes n ss) ≡ flat_map delta_ids ss
delta-keys n [] [] [] all = refl
delta-keys n [] [] (s ∷ ss) all = absurd all
delta-keys n [] (m ∷ ms) ss all = absurd all
delta-keys n (t ∷ ts) [] ss all = absurd all
delta-keys n (t ∷ ts) (m ∷ ms) [] all = absurd all
delta-keys n (t ∷ ts) (m ∷ ms) (s ∷ ss) all =
    keys-append (list_notes n L2 s.l2 ++ list_notes n L1 s.l1) (delta_notes (suc n) ss)
    ∙ (λ i. (keys-append (list_notes n L2 s.l2) (list_notes n L1 s.l1)
    ∙ (λ j. (list-keys n L2 0 s.l2 ∙ alive-ids s.l2 all.0.rules.l2.live) j ++ (list-keys n L1 0 s.l1 ∙ alive-ids s.l1 all.0.rules.l1.live) j)) i
    ++ delta-keys (suc n) ts ms ss all.1 i)

part-keys : (n p : ℕ) (parts : List (List Placed)) → keys (part_notes n p parts) ≡ flat_map live_ids parts
part-keys n p [] = refl
part-keys n p (part ∷ parts) = keys-append (list_notes n (Main p) part) (part_notes n (suc p) parts) ∙ (λ i. list-keys n (Main p) 0 part i ++ part-keys n (suc p) parts i)

main-keys : (n : ℕ) (ss : Stages) → keys (main_notes n ss) ≡ flat_map part_ids ss
main-keys n [] = refl
main-keys n (s ∷ ss) = keys-append (part_notes n 0 s.parts) (main_notes (suc n) ss) ∙ (λ i. part-keys n 0 s.parts i ++ main-keys (suc n) ss i)

pub image-keys : (ts : List Drawn) (ms : List MainValue) (ss : Stages) → AreShown ts ms ss → keys (delta_notes 0 ss ++ main_notes 0 ss) ≡ image_ids ss
image-keys ts ms ss all = keys-append (delta_notes 0 ss) (main_notes 0 ss) ∙ (λ i. delta-keys 0 ts ms ss all i ++ main-keys 0 ss i)

-- ---- their places

-- so far behind a place
abbrev IsAt : ℕ → (ℕ → Place) → ℕ → List Placed → ℕ → Position → Type 0
IsAt n at i ps id pos = (k : ℕ) × (p : Placed) × (slice_get ps k ≡ Some p) × (p.dead ≡ false) × (p.id ≡ id) × (position n (at (i + k)) ≡ pos)

later : (n : ℕ) (at : ℕ → Place) (i : ℕ) (q : Placed) (ps : List Placed) (id : ℕ) (pos : Position) → IsAt n at (suc i) ps id pos → IsAt n at i (q ∷ ps) id pos
later n at i q ps id pos a =
    let e : i + suc a.0 ≡ suc i + a.0 = omega arith in
    (suc a.0, a.1, a.2, a.3, a.4, ap (λ (m : ℕ). position n (at m)) e ∙ a.5)

list-there : (n : ℕ) (at : ℕ → Place) (i : ℕ) (ps : List Placed) (id : ℕ) (pos : Position) → Among (noted n at i (place_cells ps)) id pos → IsAt n at i ps id pos
list-there n at i [] id pos a = absurd a
list-there n at i (p ∷ ps) id pos a = by (λ among. list-there n at (suc i) ps id pos among) p.dead refl
  where
    cut : (b : Bool) → p.dead ≡ b → Among (cond b (noted n at (suc i) (place_cells ps)) ((p.id, position n (at i)) ∷ noted n at (suc i) (place_cells ps))) id pos
    cut b e = subst (λ (b : Bool). Among (cond b (noted n at (suc i) (place_cells ps)) ((p.id, position n (at i)) ∷ noted n at (suc i) (place_cells ps))) id pos) e a

    by : (Among (noted n at (suc i) (place_cells ps)) id pos → IsAt n at (suc i) ps id pos) → (b : Bool) → p.dead ≡ b → IsAt n at i (p ∷ ps) id pos
    by there true e = later n at i p ps id pos (there (cut true e))
    by there false e = elim (cut false e) [
      | inl here ↦ let zero_more : i + 0 ≡ i = omega arith in (0, p, refl, e, here.0, ap (λ (m : ℕ). position n (at m)) zero_more ∙ here.1)
      | inr rest ↦ later n at i p ps id pos (there rest)
    ]

list-among : (n : ℕ) (at : ℕ → Place) (i : ℕ) (ps : List Placed) (k : ℕ) (p : Placed) → slice_get ps k ≡ Some p → p.dead ≡ false → Among (noted n at i (place_cells ps)) p.id (position n (at (i + k)))
list-among n at i [] k p is lives = cc
list-among n at i (q ∷ ps) zero p is lives =
    let same : q ≡ p = cc in
    let zero_more : i ≡ i + 0 = omega arith in
    subst (λ (b : Bool). Among (cond b (noted n at (suc i) (place_cells ps)) ((q.id, position n (at i)) ∷ noted n at (suc i) (place_cells ps))) p.id (position n (at (i + 0)))) (sym (ap (λ (x : Placed). x.dead) same ∙ lives))
    (inl (ap (λ (x : Placed). x.id) same, ap (λ (m : ℕ). position n (at m)) zero_more))
list-among n at i (q ∷ ps) (suc k) p is lives = by (list-among n at (suc i) ps k p is lives) q.dead refl
  where
    next : Among (noted n at (suc i) (place_cells ps)) p.id (position n (at (suc i + k))) → Among (noted n at (suc i) (place_cells ps)) p.id (position n (at (i + suc k)))
    next among = let e : suc i + k ≡ i + suc k = omega arith in subst (λ (m : ℕ). Among (noted n at (suc i) (place_cells ps)) p.id (position n (at m))) e among

    back : (b : Bool) → q.dead ≡ b → Among (cond b (noted n at (suc i) (place_cells ps)) ((q.id, position n (at i)) ∷ noted n at (suc i) (place_cells ps))) p.id (position n (at (i + suc k))) → Among (noted n at i (place_cells (q ∷ ps))) p.id (position n (at (i + suc k)))
    back b e a = subst (λ (b : Bool). Among (cond b (noted n at (suc i) (place_cells ps)) ((q.id, position n (at i)) ∷ noted n at (suc i) (place_cells ps))) p.id (position n (at (i + suc k)))) (sym e) a

    by : Among (noted n at (suc i) (place_cells ps)) p.id (position n (at (suc i + k))) → (b : Bool) → q.dead ≡ b → Among (noted n at i (place_cells (q ∷ ps))) p.id (position n (at (i + suc k)))
    by among true e = back true e (next among)
    by among false e = back false e (inr (next among))

-- a note of a table that has a number, as the row in its place
abbrev pub IsThere : ℕ → Stages → ℕ → Position → Type 0
IsThere n ss id pos = (m : ℕ) × (q : Place) × (x : Placed) × (placed_in (stages_at ss m) q ≡ Some x) × (x.dead ≡ false) × (x.id ≡ id) × (position (n + m) q ≡ pos)

there-first : (n : ℕ) (s : TableStages) (ss : Stages) (at : ℕ → Place) (ps : List Placed) (id : ℕ) (pos : Position) → ((k : ℕ) → placed_in s (at k) ≡ slice_get ps k) → IsAt n at 0 ps id pos → IsThere n (s ∷ ss) id pos
there-first n s ss at ps id pos stands a =
    let number : n + 0 ≡ n = omega arith in
    let place : 0 + a.0 ≡ a.0 = omega arith in
    (0, at a.0, a.1, stands a.0 ∙ a.2, a.3, a.4, (λ i. position (number i) (at (sym place i))) ∙ a.5)

there-rest : (n : ℕ) (s : TableStages) (ss : Stages) (id : ℕ) (pos : Position) → IsThere (suc n) ss id pos → IsThere n (s ∷ ss) id pos
there-rest n s ss id pos t =
    let number : n + suc t.0 ≡ suc n + t.0 = omega arith in
    (suc t.0, t.1, t.2, t.3, t.4, t.5, ap (λ (m : ℕ). position m t.1) number ∙ t.6)

pub delta-there : (n : ℕ) (ss : Stages) (id : ℕ) (pos : Position) → Among (delta_notes n ss) id pos → IsThere n ss id pos
delta-there n [] id pos a = absurd a
delta-there n (s ∷ ss) id pos a = elim (among_cases (list_notes n L2 s.l2 ++ list_notes n L1 s.l1) (delta_notes (suc n) ss) id pos a) [
  | inl here ↦ elim (among_cases (list_notes n L2 s.l2) (list_notes n L1 s.l1) id pos here) [
    | inl second ↦ there-first n s ss L2 s.l2 id pos (λ k. refl) (list-there n L2 0 s.l2 id pos second)
    | inr first ↦ there-first n s ss L1 s.l1 id pos (λ k. refl) (list-there n L1 0 s.l1 id pos first)
  ]
  | inr rest ↦ there-rest n s ss id pos (delta-there (suc n) ss id pos rest)
]

parts-there : (n p : ℕ) (all parts : List (List Placed)) (s : TableStages) (ss : Stages) (id : ℕ) (pos : Position) → s.parts ≡ all → ((g : ℕ) → slice_get all (p + g) ≡ slice_get parts g) → Among (part_notes n p parts) id pos → IsThere n (s ∷ ss) id pos
parts-there n p all [] s ss id pos is rest a = absurd a
parts-there n p all (part ∷ parts) s ss id pos is rest a = elim (among_cases (list_notes n (Main p) part) (part_notes n (suc p) parts) id pos a) [
  | inl here ↦
      let none : p + 0 ≡ p = omega arith in
      let there : slice_get s.parts p ≡ Some part = ap (λ (l : List (List Placed)). slice_get l p) is ∙ ap (slice_get all) (sym none) ∙ rest 0 in
      there-first n s ss (Main p) part id pos (λ k. ap (option_and_then (λ (l : List Placed). slice_get l k)) there) (list-there n (Main p) 0 part id pos here)
  | inr more ↦ parts-there n (suc p) all parts s ss id pos is (λ g. let e : suc p + g ≡ p + suc g = omega arith in ap (slice_get all) e ∙ rest (suc g)) more
]

pub main-there : (n : ℕ) (ss : Stages) (id : ℕ) (pos : Position) → Among (main_notes n ss) id pos → IsThere n ss id pos
main-there n [] id pos a = absurd a
main-there n (s ∷ ss) id pos a = elim (among_cases (part_notes n 0 s.parts) (main_notes (suc n) ss) id pos a) [
  | inl here ↦ parts-there n 0 s.parts s.parts s ss id pos refl (λ g. let e : 0 + g ≡ g = omega arith in ap (slice_get s.parts) e) here
  | inr rest ↦ there-rest n s ss id pos (main-there (suc n) ss id pos rest)
]

-- ---- each place has a note

abbrev pub HasNote : ℕ → Stages → ℕ → Position → Type 0
HasNote n ss id pos = Among (delta_notes n ss) id pos ⊎ Among (main_notes n ss) id pos

part-among : (n p : ℕ) (parts : List (List Placed)) (g i : ℕ) (x : Placed) → option_and_then (λ (part : List Placed). slice_get part i) (slice_get parts g) ≡ Some x → x.dead ≡ false → Among (part_notes n p parts) x.id (position n (Main (p + g) i))
part-among n p [] g i x is lives = cc
part-among n p (part ∷ parts) zero i x is lives =
    let e : p ≡ p + 0 = omega arith in
    let k : 0 + i ≡ i = omega arith in
    among_left (list_notes n (Main p) part) (part_notes n (suc p) parts) x.id (position n (Main (p + 0) i))
    (subst (λ (pos : Position). Among (list_notes n (Main p) part) x.id pos) (λ j. position n (Main (e j) (k j))) (list-among n (Main p) 0 part i x is lives))
part-among n p (part ∷ parts) (suc g) i x is lives =
    let e : suc p + g ≡ p + suc g = omega arith in
    among_right (list_notes n (Main p) part) (part_notes n (suc p) parts) x.id (position n (Main (p + suc g) i))
    (subst (λ (m : ℕ). Among (part_notes n (suc p) parts) x.id (position n (Main m i))) e (part-among n (suc p) parts g i x is lives))

table-note : (n : ℕ) (s : TableStages) (ss : Stages) (p : Place) (x : Placed) → placed_in s p ≡ Some x → x.dead ≡ false → HasNote n (s ∷ ss) x.id (position n p)
table-note n s ss (L1 i) x is lives =
    let k : 0 + i ≡ i = omega arith in
    let it : Among (list_notes n L1 s.l1) x.id (position n (L1 i)) = subst (λ (m : ℕ). Among (list_notes n L1 s.l1) x.id (position n (L1 m))) k (list-among n L1 0 s.l1 i x is lives) in
    inl (among_left (list_notes n L2 s.l2 ++ list_notes n L1 s.l1) (delta_notes (suc n) ss) x.id (position n (L1 i)) (among_right (list_notes n L2 s.l2) (list_notes n L1 s.l1) x.id (position n (L1 i)) it))
table-note n s ss (L2 i) x is lives =
    let k : 0 + i ≡ i = omega arith in
    let it : Among (list_notes n L2 s.l2) x.id (position n (L2 i)) = subst (λ (m : ℕ). Among (list_notes n L2 s.l2) x.id (position n (L2 m))) k (list-among n L2 0 s.l2 i x is lives) in
    inl (among_left (list_notes n L2 s.l2 ++ list_notes n L1 s.l1) (delta_notes (suc n) ss) x.id (position n (L2 i)) (among_left (list_notes n L2 s.l2) (list_notes n L1 s.l1) x.id (position n (L2 i)) it))
table-note n s ss (Closed i) x is lives = cc
table-note n s ss (Main p i) x is lives =
    let k : 0 + p ≡ p = omega arith in
    let it : Among (part_notes n 0 s.parts) x.id (position n (Main p i)) = subst (λ (m : ℕ). Among (part_notes n 0 s.parts) x.id (position n (Main m i))) k (part-among n 0 s.parts p i x is lives) in
    inr (among_left (part_notes n 0 s.parts) (main_notes (suc n) ss) x.id (position n (Main p i)) it)

later-note : (n : ℕ) (s : TableStages) (ss : Stages) (id : ℕ) (pos : Position) → HasNote (suc n) ss id pos → HasNote n (s ∷ ss) id pos
later-note n s ss id pos (inl a) = inl (among_right (list_notes n L2 s.l2 ++ list_notes n L1 s.l1) (delta_notes (suc n) ss) id pos a)
later-note n s ss id pos (inr a) = inr (among_right (part_notes n 0 s.parts) (main_notes (suc n) ss) id pos a)

nothing-stands : {A : Type 0} (p : Place) (x : Placed) → placed_in (stages_at [] 0) p ≡ Some x → A
nothing-stands (L1 i) x is = cc
nothing-stands (L2 i) x is = cc
nothing-stands (Closed i) x is = cc
nothing-stands (Main p i) x is = cc

pub stands-note : (n : ℕ) (ss : Stages) (m : ℕ) (p : Place) (x : Placed) → placed_in (stages_at ss m) p ≡ Some x → x.dead ≡ false → HasNote n ss x.id (position (n + m) p)
stands-note n [] m p x is lives = nothing-stands p x is
stands-note n (s ∷ ss) zero p x is lives = let e : n ≡ n + 0 = omega arith in subst (λ (k : ℕ). HasNote n (s ∷ ss) x.id (position k p)) e (table-note n s ss p x is lives)
stands-note n (s ∷ ss) (suc m) p x is lives =
    let e : suc n + m ≡ n + suc m = omega arith in
    subst (λ (k : ℕ). HasNote n (s ∷ ss) x.id (position k p)) e (later-note n s ss x.id (position (suc n + m) p) (stands-note (suc n) ss m p x is lives))
