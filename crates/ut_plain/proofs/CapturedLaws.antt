-- How long the stages are that are captured.
use Rattle.std.proofs.Common.{◌≡◌, ℕ, ◌≤◌, Bool, true, false, ◌&&◌, not, cond, List, [], ◌∷◌, ◌++◌, length, map, refl, sym, ap, subst, arith, length-append}
use Rattle.std.specs.Prelude.{is_some}
use Rattle.std.specs.Option.{unwrap_or}
use Rattle.std.specs.List.{sum_by}
use Rattle.std.specs.FinMap as finmap
use Rattle.std.proofs.lemmas.List.{length-map}
use Rattle.std.proofs.lemmas.List.Sums.{sum_by-cons}
use Rattle.ut_plain.specs.declared.stage.Placed.{Placed}
use Rattle.ut_plain.specs.declared.stage.TableStages.{TableStages}
use Rattle.ut_plain.specs.Rows.{Rows}
use Rattle.ut_plain.specs.Stages.{Stages, stages_at, places_of, all_places}
use Rattle.ut_plain.specs.Reached.{IsMain, IsAtRest}
use Rattle.ut_plain.specs.Capture.{is_live, captured_place, captured_rows, captured_table, capture, ids, ids_of}
use Rattle.ut_plain.specs.Laws.{CaptureHasFew}
use Rattle.ut_plain.proofs.CaptureLaws.{captured_at}
use Rattle.ut_plain.proofs.CountLaws.{AreThere, no_more_than}

count_ids : (rows : Rows) (stages : Stages) → all_places (map (captured_table rows) stages) ≡ length (ids_of (map (captured_table rows) stages))
count_ids rows [] = refl
count_ids rows (t ∷ ts) =
    let c : TableStages = captured_table rows t in
    let rest = count_ids rows ts in
    omega (arith, sum_by-cons places_of c (map (captured_table rows) ts), rest, length-append (ids c.l1) (ids c.l2 ++ ids_of (map (captured_table rows) ts)), length-append (ids c.l2) (ids_of (map (captured_table rows) ts)), length-map c.l1 (λ (p : Placed). p.id), length-map c.l2 (λ (p : Placed). p.id))

there_both : (rows : Rows) (xs ys : List ℕ) → AreThere rows xs → AreThere rows ys → AreThere rows (xs ++ ys)
there_both rows [] ys a b = b
there_both rows (x ∷ xs) ys a b = (a.0, there_both rows xs ys a.1 b)

and_second : (a b : Bool) → (a && b) ≡ true → b ≡ true
and_second true b is = is
and_second false b is = absurd cc

captured_there : (rows : Rows) (places : List Placed) → AreThere rows (ids (captured_rows rows places))
captured_there rows [] = tt
captured_there rows (p ∷ places) = split (is_live rows p) refl (captured_there rows places)
  where
    split : (b : Bool) → is_live rows p ≡ b → AreThere rows (ids (captured_rows rows places)) → AreThere rows (ids (cond b (p ∷ captured_rows rows places) (captured_rows rows places)))
    split true live rest = (and_second (not p.dead) (is_some (finmap.get rows p.id)) live, rest)
    split false live rest = rest

ids_append : (xs ys : List Placed) → ids (xs ++ ys) ≡ ids xs ++ ids ys
ids_append [] ys = refl
ids_append (x ∷ xs) ys = ap (λ (l : List ℕ). x.id ∷ l) (ids_append xs ys)

all_there : (rows : Rows) (stages : Stages) → AreThere rows (ids_of (map (captured_table rows) stages))
all_there rows [] = tt
all_there rows (t ∷ ts) =
    let closed : List Placed = captured_rows rows (unwrap_or t.closed []) in
    let own : List Placed = captured_rows rows t.l2 in
    let l2 : AreThere rows (ids (closed ++ own)) = subst (AreThere rows) (sym (ids_append closed own)) (there_both rows (ids closed) (ids own) (captured_there rows (unwrap_or t.closed [])) (captured_there rows t.l2)) in
    there_both rows (ids (captured_rows rows t.l1)) (ids (closed ++ own) ++ ids_of (map (captured_table rows) ts)) (captured_there rows t.l1) (there_both rows (ids (closed ++ own)) (ids_of (map (captured_table rows) ts)) l2 (all_there rows ts))

-- no more of them than there are rows, where no two have one id
pub captured_places : CaptureHasFew
captured_places s stages distinct = omega (arith, count_ids s.rows stages, no_more_than (ids_of (capture s stages).stages) s.rows distinct (all_there s.rows stages))

-- main is as long as before, and nothing is closed
parts_long : (rows : Rows) (parts : List (List Placed)) → sum_by length (map (map (captured_place rows)) parts) ≡ sum_by length parts
parts_long rows [] = refl
parts_long rows (part ∷ parts) = let rest = parts_long rows parts in
    omega (arith, rest, sum_by-cons length part parts, sum_by-cons length (map (captured_place rows) part) (map (map (captured_place rows)) parts), length-map part (captured_place rows))

captured_main : (rows : Rows) (t : TableStages) → IsMain t → IsMain (captured_table rows t)
captured_main rows t is = record { parts = let few : length t.parts ≤ 8 = is.parts in omega (arith, few, length-map t.parts (map (captured_place rows))); few = let few = is.few in omega (arith, few, parts_long rows t.parts) }

pub captured_mains : (rows : Rows) (stages : Stages) → ((n : ℕ) → IsMain (stages_at stages n)) → (n : ℕ) → IsMain (stages_at (map (captured_table rows) stages) n)
captured_mains rows stages mains n = subst IsMain (sym (captured_at rows stages n)) (captured_main rows (stages_at stages n) (mains n))

pub captured_rest : (rows : Rows) (stages : Stages) (n : ℕ) → IsAtRest (stages_at (map (captured_table rows) stages) n)
captured_rest rows stages n = record { closed = ap (λ (t : TableStages). t.closed) (captured_at rows stages n); keep = ap (λ (t : TableStages). t.keep) (captured_at rows stages n) }
