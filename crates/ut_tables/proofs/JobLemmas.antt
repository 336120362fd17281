-- The job of a merge that may begin can be built, and is that of the table behind it.
use Rattle.std.proofs.Common.{ℕ, zero, suc, ◌<◌, ◌≡◌, Bool, List, [], ◌∷◌, ◌++◌, length, map, drop, get_or, refl, sym, ap, ◌∙◌, subst, arith, IsTrue}
use Rattle.std.proofs.lemmas.List.{length-map, map-append}
use Rattle.ut_plain.specs.declared.stage.PendingMerge.{PendingMerge}
use Rattle.ut_plain.specs.Merges.{staying, flagged_all, has_part_room}
use Rattle.ut_exact.specs.Places.{StagedRow}
use Rattle.ut_l2.specs.KeyRows.{KeyRow, no_row}
use Rattle.ut_merge.specs.Jobs as jobs
use Rattle.ut_merge.specs.Jobs.{IsJob, kept_rows}
use Rattle.ut_table.specs.Pending.{key_row, job_of}
use Rattle.ut_staged.specs.Staged as staged
use Rattle.ut_staged.specs.Staged.{Staged, closed_l2}
use Rattle.ut_staged.specs.Keeping.{taken_over, HaveOwnIds}
use Rattle.ut_staged.proofs.ListLemmas.{map-drop}
use Rattle.ut_staged.proofs.FlagLemmas.{flags-sizes}
use Rattle.ut_staged.proofs.OrderLemmas.{flagged_all-map}
use Rattle.ut_table.proofs.NumberedLemmas.{sizes, sum_sizes}
use Rattle.ut_tables.specs.Rows.{Rows}
use Rattle.ut_tables.specs.Merging.{flags_now, MayMerge}

-- the rows that are kept, as their keys
kept_are : (head : PendingMerge) (keep : List (List Bool)) (s : Staged) → kept_rows (job_of (closed_l2 head keep s) head) ≡ map key_row (taken_over head.kind keep s)
kept_are head keep s =
    let stay = staying head.kind (length s.parts) in
    let lists = s.parts ++ s.l2 ∷ [] in
    let same : staying head.kind (length (map (map key_row) s.parts)) ≡ stay = ap (staying head.kind) (length-map s.parts (map key_row)) in
    (λ i. flagged_all (drop (same i) (sym (map-append (map key_row) s.parts (s.l2 ∷ [])) i)) (drop (same i) keep))
    ∙ ap (λ (l : List (List KeyRow)). flagged_all l (drop stay keep)) (sym (map-drop (map key_row) stay lists)) ∙ flagged_all-map key_row (drop stay lists) (drop stay keep)

id_at : (rows : List StagedRow) (k : ℕ) → k < length rows → (get_or (map key_row rows) k no_row).id ≡ (get_or rows k staged.no_row).id
id_at [] k h = absurd (omega arith)
id_at (row ∷ rows) zero h = refl
id_at (row ∷ rows) (suc k) h = id_at rows k (omega arith)

own_keys : (rows : List StagedRow) → HaveOwnIds rows → jobs.HaveOwnIds (map key_row rows)
own_keys rows h i k lt within same =
    let count = length-map rows key_row in
    h i k lt (omega (arith, within, count)) (sym (id_at rows i (omega (arith, lt, within, count))) ∙ same ∙ id_at rows k (omega (arith, within, count)))

pub is_job : (r : Rows) (snapshots : List ℕ) (head : PendingMerge) (m : MayMerge r snapshots head.table head.kind) → IsJob (job_of (closed_l2 head (flags_now r snapshots head.kind m.table) m.table) head)
is_job r snapshots head m =
    let s = m.table in
    let keep = flags_now r snapshots head.kind s in
    let few = m.few in
    record {
      flags = flags-sizes r.fates snapshots head.kind s ∙ sym (sizes (s.parts ++ s.l2 ∷ [])) ∙ ap (map length) (map-append (map key_row) s.parts (s.l2 ∷ []));
      few = omega (arith, few, sum_sizes s.parts, length-map s.l2 key_row);
      room = subst (λ k. IsTrue (has_part_room head.kind k)) (sym (length-map s.parts (map key_row))) m.room;
      differ = λ resort. subst jobs.HaveOwnIds (sym (kept_are head keep s)) (own_keys (taken_over head.kind keep s) m.own_ids);
    }

-- the same of what was read
pub is_job_read : (r : Rows) (snapshots : List ℕ) (head : PendingMerge) (s : Staged) (keep : List (List Bool)) (m : MayMerge r snapshots head.table head.kind) → s ≡ m.table → keep ≡ flags_now r snapshots head.kind s → IsJob (job_of (closed_l2 head keep s) head)
is_job_read r snapshots head s keep m here is =
    subst (λ (k : List (List Bool)). IsJob (job_of (closed_l2 head k s) head)) (sym is)
    (subst (λ (t : Staged). IsJob (job_of (closed_l2 head (flags_now r snapshots head.kind t) t) head)) (sym here) (is_job r snapshots head m))
