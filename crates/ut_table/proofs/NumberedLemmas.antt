-- Rows whose ids are below a number, as the stages of a small table change.
use Rattle.std.proofs.Common.{◌≡◌, ◌≢◌, inl, inr, ℕ, ◌+◌, ◌<◌, ◌≤◌, Bool, List, [], ◌∷◌, ◌++◌, length, map, take, drop, Some, IsTrue, refl, sym, ◌∙◌, ap, subst, arith, length-append, lt-ltb}
use Rattle.std.specs.List.{sum_by}
use Rattle.std.proofs.lemmas.List.{length-map, map-append, take-append-drop}
use Rattle.std.proofs.lemmas.List.Sums.{sum_by-cons}
use Rattle.ut_value.specs.declared.entry.MergeKind.{MergeKind}
use Rattle.ut_value.specs.declared.entry.MergeKind.TheVariants.{Classic, Resort, Partial, Extend}
use Rattle.ut_plain.specs.declared.stage.PendingMerge.{PendingMerge}
use Rattle.ut_plain.specs.Merges.{staying, has_part_room}
use Rattle.ut_stamps.specs.declared.fates.Fate.{Fate}
use Rattle.ut_stamps.specs.declared.place.Place.{Place}
use Rattle.ut_stamps.specs.declared.place.Place.TheVariants.{L1, L2}
use Rattle.ut_exact.specs.Places.{StagedRow, Pushed}
use Rattle.ut_merge.specs.Jobs.{IsJob}
use Rattle.ut_staged.specs.Staged.{Staged, row_at, count_of, entered_l1, entered_l2, merged_l1, closed_l2, switched}
use Rattle.ut_staged.specs.Tables.{IsArranged, place_at}
use Rattle.ut_staged.specs.Keeping.{stamp_flags}
use Rattle.ut_staged.proofs.StageLemmas.{pushed_l1, pushed_l2}
use Rattle.ut_staged.proofs.MovedLemmas.{moved_l1}
use Rattle.ut_staged.proofs.BeginLemmas.{closed_moved}
use Rattle.ut_staged.proofs.SwitchLemmas.{switched_is}
use Rattle.ut_staged.proofs.FlagLemmas.{flags-sizes}
use Rattle.ut_staged.specs.Choice.{IsDropped}
use Rattle.ut_table.specs.Numbered.{AreNumbered, IsAtRest}
use Rattle.ut_table.specs.Pending.{key_row, job_of}

-- one row more, under the next id
module _ (row : StagedRow) (s new : Staged) (p : Place) (pushed : Pushed (place_at (s ∷ [])) (place_at (new ∷ [])) 0 p row) (h : AreNumbered row.id s) (count : count_of new ≡ count_of s + 1) where
  numbered-pushed : AreNumbered (row.id + 1) new
  numbered-pushed = record {
    below = λ q r e. elim (pushed.each 0 q r e) [
      | inl it ↦ omega (arith, ap (λ (x : StagedRow). x.id) it.2)
      | inr was ↦ omega (arith, h.below q r was)
    ];
    once = λ q u a b e f same. elim (pushed.each 0 q a e) [
      | inl it ↦ elim (pushed.each 0 u b f) [
        | inl other ↦ it.1 ∙ sym other.1
        | inr was ↦ absurd (omega (arith, ap (λ (x : StagedRow). x.id) it.2, same, h.below u b was))
      ]
      | inr was ↦ elim (pushed.each 0 u b f) [
        | inl other ↦ absurd (omega (arith, ap (λ (x : StagedRow). x.id) other.2, same, h.below q a was))
        | inr were ↦ h.once q u a b was were same
      ]
    ];
    few = omega (arith, h.few, count);
  }

pub rest-entered_l1 : (row : StagedRow) (s new : Staged) → new ≡ entered_l1 row s → IsAtRest row.id s → IsAtRest (row.id + 1) new
rest-entered_l1 row s new is h = subst (IsAtRest (row.id + 1)) (sym is) (record {
  numbered = numbered-pushed row s (entered_l1 row s) (L1 (length s.l1)) (pushed_l1 (s ∷ []) 0 s row refl) h.numbered (omega (arith, length-append s.l1 (row ∷ [])));
  idle = h.idle;
  unclosed = h.unclosed;
})

pub rest-entered_l2 : (row : StagedRow) (s new : Staged) → new ≡ entered_l2 (row ∷ []) s → IsAtRest row.id s → IsAtRest (row.id + 1) new
rest-entered_l2 row s new is h = subst (IsAtRest (row.id + 1)) (sym is) (record {
  numbered = numbered-pushed row s (entered_l2 (row ∷ []) s) (L2 (length s.l2)) (pushed_l2 (s ∷ []) 0 s row refl) h.numbered (omega (arith, length-append s.l2 (row ∷ [])));
  idle = h.idle;
  unclosed = h.unclosed;
})

-- each row stands where one row stood
numbered-moved : (next : ℕ) (s new : Staged) (from : Place → Place) → ((q : Place) (r : StagedRow) → row_at new q ≡ Some r → row_at s (from q) ≡ Some r)
    → ((p q : Place) (r u : StagedRow) → row_at new p ≡ Some r → row_at new q ≡ Some u → from p ≡ from q → p ≡ q) → count_of new ≤ count_of s → AreNumbered next s → AreNumbered next new
numbered-moved next s new from each apart count h = record {
  below = λ q r e. h.below (from q) r (each q r e);
  once = λ p q a b e f same. apart p q a b e f (h.once (from p) (from q) a b (each p a e) (each q b f) same);
  few = omega (arith, h.few, count);
}

pub rest-merged_l1 : (next n : ℕ) (s new : Staged) → new ≡ merged_l1 n s → IsAtRest next s → IsAtRest next new
rest-merged_l1 next n s new is h =
    let m = moved_l1 (s ∷ []) 0 n s refl in
    subst (IsAtRest next) (sym is) (record {
      numbered = numbered-moved next s (merged_l1 n s) _ (m.each 0) (m.apart 0)
          (omega (arith, length-append s.l2 (take n s.l1), length-append (take n s.l1) (drop n s.l1), ap length (take-append-drop n s.l1))) h.numbered;
      idle = h.idle;
      unclosed = h.unclosed;
    })

-- ---- a merge

pub numbered-closed : (next : ℕ) (head : PendingMerge) (keep : List (List Bool)) (s new : Staged) → new ≡ closed_l2 head keep s → IsAtRest next s → AreNumbered next new
numbered-closed next head keep s new is h =
    let m = closed_moved head keep s h.unclosed in
    subst (AreNumbered next) (sym is) (numbered-moved next s (closed_l2 head keep s) _ (m.each 0) (m.apart 0) (omega arith) h.numbered)

pub rest-switched : (next : ℕ) (kind : MergeKind) (s new : Staged) → ((olds : List Place) × IsArranged kind s olds × (new ≡ switched (staying kind (length s.parts)) olds s)) → AreNumbered next s → IsAtRest next new
rest-switched next kind s new after h =
    let stay = staying kind (length s.parts) in
    let m = switched_is stay s (IsDropped s) after.0 (after.1).choice in
    subst (IsAtRest next) (sym after.2) (record {
      numbered = numbered-moved next s (switched stay after.0 s) _ (m.each 0) (m.apart 0) (omega arith) h;
      idle = refl;
      unclosed = refl;
    })

-- rows as their keys are as many
pub sizes : (lists : List (List StagedRow)) → map length (map (map key_row) lists) ≡ map length lists
sizes [] = refl
sizes (rows ∷ lists) = λ i. length-map rows key_row i ∷ sizes lists i

pub sum_sizes : (lists : List (List StagedRow)) → sum_by length (map (map key_row) lists) ≡ sum_by length lists
sum_sizes [] = refl
sum_sizes (rows ∷ lists) =
    let rest = sum_sizes lists in
    omega (arith, rest, length-map rows key_row, sum_by-cons length rows lists, sum_by-cons length (map key_row rows) (map (map key_row) lists))

part_room : (kind : MergeKind) (n : ℕ) → n < 8 → IsTrue (has_part_room kind n)
part_room Classic n lt = refl
part_room Resort n lt = refl
part_room Partial n lt = refl
part_room Extend n lt = lt-ltb n 8 lt

-- a merge of a small table that re-sorts nothing
pub small-job : (fates : List Fate) (snapshots : List ℕ) (head : PendingMerge) (keep : List (List Bool)) (s : Staged) → keep ≡ stamp_flags fates snapshots head.kind s → head.kind ≢ Resort
    → sum_by length s.parts + length s.l2 ≤ 100 → length s.parts < 8 → IsJob (job_of (closed_l2 head keep s) head)
small-job fates snapshots head keep s is kind few room = record {
  flags = ap (map length) is ∙ flags-sizes fates snapshots head.kind s ∙ sym (sizes (s.parts ++ s.l2 ∷ [])) ∙ ap (map length) (map-append (map key_row) s.parts (s.l2 ∷ []));
  few = omega (arith, few, sum_sizes s.parts, length-map s.l2 key_row);
  room = part_room head.kind (length (map (map key_row) s.parts)) (omega (arith, room, length-map s.parts (map key_row)));
  differ = λ e. absurd (kind e);
}
