-- A merge begins: the second stage is closed. And what it freezes.
use Rattle.std.proofs.Common.{◌≡◌, ℕ, Bool, List, [], ◌∷◌, length, map, Option, None, Some, unwrap_or, All, refl, sym, ◌∙◌, ap, subst, arith, drop, get_or}
use Rattle.std.specs.Option.{option_map}
use Rattle.std.proofs.lemmas.Option.{same_Some}
use Rattle.std.proofs.lemmas.List.Elements.{All-nil, All-head, All-tail}
use Rattle.ut_value.specs.declared.value.Column.{Column}
use Rattle.ut_stamps.specs.declared.visibility.Stamp.{Stamp}
use Rattle.ut_plain.specs.declared.stage.PendingMerge.{PendingMerge}
use Rattle.ut_l2.specs.KeyRows.{KeyRow}
use Rattle.ut_l2.specs.Delta.{Delta}
use Rattle.ut_stamps.specs.StampLists.{StampLists}
use Rattle.ut_staged.specs.Staged.{Staged, closed_l2}
use Rattle.ut_merge.specs.Jobs.{JobValue, IsJob, job_value}
use Rattle.ut_table.specs.Pending.{key_row, job_of, pending_job}
use Rattle.ut_table.specs.Contents.{Contents, PendingValue, closed_rows, held, held_parts, staged, job_in}
use Rattle.ut_table.specs.Kept.{IsHeld, IsTable}
use Rattle.ut_table.proofs.StampedLemmas.{held-keys}
use Rattle.ut_table.proofs.PlaceLemmas.{closed-lengths}

-- no merge is pending
pub none-pending : (pending : Option PendingValue) → option_map (λ (p : PendingValue). p.head) pending ≡ None → pending ≡ None
none-pending None e = refl
none-pending (Some p) e = cc

module _ {t : Contents} (h : IsTable t) (none : t.pending ≡ None) (head : PendingMerge) (keep : List (List Bool)) (fresh : Delta) (news : StampLists)
    (empty : fresh.rows ≡ []) (no_stamps : news.l2.items ≡ []) (others : news ≡ record t.stamps { l2 = news.l2; closed = Some t.stamps.l2.items }) where
  abbrev pub shut : Contents
  shut = record t { l2 = fresh; pending = Some (record { head = head; closed = t.l2; keep = keep }); stamps = news }

  pub closed-stages : staged shut ≡ closed_l2 head keep (staged t)
  closed-stages = λ i. record {
    columns = t.columns;
    l1 = (staged (record t { stamps = others i })).l1;
    l2 = held t.columns (empty i) (no_stamps i);
    closed = Some (held t.columns t.l2.rows (unwrap_or (others i).closed []));
    parts = held_parts t.columns t.main.parts (others i).parts;
    keep = keep;
    merge = Some head;
  }

  pub closed-kept : fresh.width ≡ t.l2.width → IsJob (job_value head t.main t.l2.rows keep) → IsTable shut
  closed-kept width job = record {
    rows = record {
      narrow = h.rows.narrow;
      l1 = h.rows.l1;
      l2_wide = width ∙ h.rows.l2_wide;
      l2 = subst (All (IsHeld t.columns)) (sym empty) (All-nil (IsHeld t.columns));
      closed_wide = λ p e. ap (λ (q : PendingValue). q.closed.width) (sym (same_Some (record { head = head; closed = t.l2; keep = keep }) p e)) ∙ h.rows.l2_wide;
      closed = h.rows.l2;
      main_wide = h.rows.main_wide;
      parts = h.rows.parts;
    };
    stamped = record {
      l1 = ap (λ (s : StampLists). length s.l1.items) others ∙ h.stamped.l1;
      l2 = ap length no_stamps ∙ sym (ap length empty);
      closed = ap (λ (s : StampLists). option_map length s.closed) others ∙ ap Some h.stamped.l2;
      parts = ap (λ (s : StampLists). map length s.parts) others ∙ h.stamped.parts;
    };
    job = λ p e. subst (λ (q : PendingValue). IsJob (job_in t q)) (same_Some (record { head = head; closed = t.l2; keep = keep }) p e) job;
    few = omega (arith, ap length empty, h.few);
  }

-- ---- the job

keys-of_parts : (columns : List Column) (parts : List (List KeyRow)) (stamps : List (List Stamp)) → All (All (IsHeld columns)) parts → map length stamps ≡ map length parts → map (map key_row) (held_parts columns parts stamps) ≡ parts
keys-of_parts columns [] stamps are same = refl
keys-of_parts columns (r ∷ rs) [] are same = absurd (omega (arith, ap length same))
keys-of_parts columns (r ∷ rs) (s ∷ ss) are same = λ i.
    held-keys columns r s (All-head (All (IsHeld columns)) r rs are) (ap (λ (l : List ℕ). get_or l 0 0) same) i
    ∷ keys-of_parts columns rs ss (All-tail (All (IsHeld columns)) r rs are) (ap (drop 1) same) i

module _ {t : Contents} (h : IsTable t) where
  pub parts-keys : map (map key_row) (held_parts t.columns t.main.parts t.stamps.parts) ≡ t.main.parts
  parts-keys = keys-of_parts t.columns t.main.parts t.stamps.parts h.rows.parts h.stamped.parts

  -- the job of a merge that would begin now
  pub begun-job : (head : PendingMerge) (keep : List (List Bool)) → job_of (closed_l2 head keep (staged t)) head ≡ job_value head t.main t.l2.rows keep
  begun-job head keep = λ i. record { head = head; width = sym h.rows.main_wide i; parts = parts-keys i; closed = held-keys t.columns t.l2.rows t.stamps.l2.items h.rows.l2 h.stamped.l2 i; keep = keep }

  pub pending-is : pending_job (staged t) ≡ option_map (job_in t) t.pending
  pending-is = by t.pending h.rows.closed (closed-lengths h)
    where
      by : (q : Option PendingValue) → All (IsHeld t.columns) (closed_rows q) → length (unwrap_or t.stamps.closed []) ≡ length (closed_rows q)
          → pending_job (staged (record t { pending = q })) ≡ option_map (job_in t) q
      by None are same = refl
      by (Some p) are same = λ i. Some (record { head = p.head; width = sym h.rows.main_wide i; parts = parts-keys i; closed = held-keys t.columns p.closed.rows (unwrap_or t.stamps.closed []) are same i; keep = p.keep })

  -- the merge whose job it is
  pub pending-of : (b : JobValue) → pending_job (staged t) ≡ Some b → (p : PendingValue) × (t.pending ≡ Some p) × (job_in t p ≡ b)
  pending-of b e = by t.pending refl (sym pending-is ∙ e)
    where
      by : (q : Option PendingValue) → t.pending ≡ q → option_map (job_in t) q ≡ Some b → (p : PendingValue) × (t.pending ≡ Some p) × (job_in t p ≡ b)
      by None is e = cc
      by (Some p) is e = (p, is, same_Some (job_in t p) b e)

-- ---- a merge begins, of what a caller knows

closed-none : (closed : Option (List Stamp)) (pending : Option PendingValue) → option_map length closed ≡ option_map (λ (p : PendingValue). length p.closed.rows) pending → pending ≡ None → closed ≡ None
closed-none None pending e none = refl
closed-none (Some l) None e none = cc
closed-none (Some l) (Some p) e none = cc

module _ {t : Contents} (h : IsTable t) {s : Staged} (view : staged t ≡ s) (head : PendingMerge) (keep : List (List Bool)) (p : PendingValue) (p_is : p ≡ record { head = head; closed = t.l2; keep = keep })
    (idle : s.merge ≡ None) (job : IsJob (job_of (closed_l2 head keep s) head)) where
  pub idle-table : t.pending ≡ None
  idle-table = none-pending t.pending (ap (λ (x : Staged). x.merge) view ∙ idle)

  pub no-closed : t.stamps.closed ≡ None
  no-closed = closed-none t.stamps.closed t.pending h.stamped.closed idle-table

  job-is : IsJob (job_value head t.main t.l2.rows keep)
  job-is = subst IsJob (ap (λ (x : Staged). job_of (closed_l2 head keep x) head) (sym view) ∙ begun-job h head keep) job

  pub frozen : IsJob (job_value p.head t.main p.closed.rows p.keep)
  frozen = subst (λ (q : PendingValue). IsJob (job_value q.head t.main q.closed.rows q.keep)) (sym p_is) job-is

  pub frozen-width : p.closed.width ≡ t.main.width
  frozen-width = ap (λ (q : PendingValue). q.closed.width) p_is ∙ h.rows.l2_wide ∙ sym h.rows.main_wide

  module _ (fresh : Delta) (news : StampLists) (width : fresh.width ≡ t.main.width) (empty : fresh.rows ≡ []) (no_stamps : news.l2.items ≡ []) (others : news ≡ record t.stamps { l2 = news.l2; closed = Some t.stamps.l2.items }) where
    pub begun-kept : IsTable (record t { l2 = fresh; pending = Some p; stamps = news })
    begun-kept = subst (λ (q : PendingValue). IsTable (record t { l2 = fresh; pending = Some q; stamps = news })) (sym p_is)
        (closed-kept h idle-table head keep fresh news empty no_stamps others (width ∙ h.rows.main_wide ∙ sym h.rows.l2_wide) job-is)

    pub begun-stages : staged (record t { l2 = fresh; pending = Some p; stamps = news }) ≡ closed_l2 head keep s
    begun-stages = ap (λ (q : PendingValue). staged (record t { l2 = fresh; pending = Some q; stamps = news })) p_is
        ∙ closed-stages h idle-table head keep fresh news empty no_stamps others ∙ ap (closed_l2 head keep) view

    pub begun-pending : (j : JobValue) → j ≡ job_value p.head t.main p.closed.rows p.keep → pending_job (staged (record t { l2 = fresh; pending = Some p; stamps = news })) ≡ Some j
    begun-pending j e = pending-is begun-kept ∙ ap Some (sym e)
