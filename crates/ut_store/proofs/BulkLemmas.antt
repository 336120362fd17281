-- The operations of a bulk.
use Rattle.std.proofs.Common.{ℕ, ◌+◌, ◌<◌, ◌≤◌, ◌≡◌, true, false, List, [], length, map, refl, sym, ap, ◌∙◌, subst, arith, IsTrue, nat_le, nat_lt, leb-true, slice_set}
use Rattle.std.specs.List.{list_all}
use Rattle.ut_value.specs.declared.value.Value.{Value}
use Rattle.ut_value.specs.KeyBytes.{is_value}
use Rattle.ut_value.specs.Text.{is_name}
use Rattle.ut_value.specs.Spelling.{is_count, is_op, names_differ}
use Rattle.ut_plain.specs.declared.statement.Statement.{Statement}
use Rattle.ut_plain.specs.declared.statement.Statement.TheVariants as statements
use Rattle.ut_plain.specs.declared.reply.Reply.TheVariants as replies
use Rattle.ut_plain.specs.declared.reply.Refusal.TheVariants as refusals
use Rattle.ut_plain.specs.Tables.{fits_columns, place_in, columns_in}
use Rattle.ut_plain.specs.Made.{rows_of, inserts}
use Rattle.ut_plain.specs.Spelled.{are_some_values}
use Rattle.ut_plain.proofs.BoolLemmas.{and_left, and_right}
use Rattle.ut_plain.proofs.TableLemmas.{there}
use Rattle.ut_plain.proofs.MadeLemmas.{inserts_of-inserts}
use Rattle.ut_exact.specs.Places.{StagedRow}
use Rattle.ut_exact.proofs.FreeLemmas.{inserts_fit}
use Rattle.ut_staged.specs.Staged.{begun_row, entered_l2}
use Rattle.ut_change.proofs.LoadLemmas.{begun-numbered, inserted-inserts, inserts-fit, inserts-rule, cut-values, ends-inserts, inserts-none, inserts-some}
use Rattle.ut_store.specs.declared.response.Response.TheVariants.{Answered}
use Rattle.ut_store.specs.Held.{Held}
use Rattle.ut_store.specs.Answers.{Answers}
use Rattle.ut_staged.specs.Staging.{Staging, new_rows}
use Rattle.ut_change.specs.Writes.{op_fits}
use Rattle.ut_change.specs.declared.bulk.Bulk.{Bulk}
use Rattle.ut_change.specs.Bulks.{CanLoad}
use Rattle.ut_change.specs.Loads.{inserted}
use Rattle.ut_tables.specs.Works.{IsWide}
use Rattle.ut_store.specs.Changes.{has_ids_for, MayChange, AreReady, IsWork}
use Rattle.ut_store.specs.Works.{IsBulk}
use Rattle.ut_store.proofs.ReadLemmas.{reads}
use Rattle.ut_store.proofs.FinishLemmas.{answers_refused}
use Rattle.ut_staged.proofs.StagingLemmas.{staging-bulk}
use Rattle.ut_store.proofs.KindLemmas.{early_tests, TableAt, table_at}
use Rattle.ut_store.proofs.UpdateLemmas.{ids_from, no_ids}

-- ---- the statement

-- rows are loaded, with ids from the next one on
abbrev pub IsBulkWork : Held → ℕ → Statement → ℕ → List (List Value) → ℕ → Type 0
IsBulkWork e session st n rows count = IsWork e session st n [] (inserts n e.counts.next_id rows) count (λ t s. entered_l2 (map (begun_row t) (inserted (inserts n e.counts.next_id rows))) s)

-- they are those that their inserts insert
loaded_rows : (t n id : ℕ) (rows : List (List Value)) → new_rows t id rows ≡ map (begun_row t) (inserted (inserts n id rows))
loaded_rows t n id rows = sym (begun-numbered t id rows) ∙ ap (map (begun_row t)) (sym (inserted-inserts n id rows))

module _ (e : Held) (session n : ℕ) (name : List ℕ) (values : List Value) (m : MayChange e session (statements.Bulk name values)) (is : n ≡ place_in e.rows.tables name) where
  bulk_table : TableAt e n (columns_in e.rows.tables name)
  bulk_table = table_at e m.stands.plain name n m.stands.stands (there e.rows.tables name (early_tests e session (statements.Bulk name values) m.early).0) is

  fit_all : IsTrue (list_all (fits_columns (columns_in e.rows.tables name)) (rows_of (length (columns_in e.rows.tables name)) values))
  fit_all = and_right (nat_lt 0 (length values)) _ (early_tests e session (statements.Bulk name values) m.early).1

  each_value : IsTrue (list_all is_value values)
  each_value = and_right _ _ (and_right (is_name name) (are_some_values values) m.spelled)

  ready_of : has_ids_for e (length (rows_of (length (columns_in e.rows.tables name)) values)) ≡ true → AreReady e n [] (inserts n e.counts.next_id (rows_of (length (columns_in e.rows.tables name)) values))
  ready_of ids =
      let rows = rows_of (length (columns_in e.rows.tables name)) values in
      record {
        table = bulk_table.table;
        at = bulk_table.at;
        there = tt;
        enough = let ends = ends-inserts n e.counts.next_id rows in omega (arith, ends);
        fits = subst (λ cs. IsTrue (list_all (op_fits cs) (inserts n e.counts.next_id rows))) (sym bulk_table.has) (inserts-fit (columns_in e.rows.tables name) n e.counts.next_id rows fit_all);
        rule = inserts-rule (columns_in e.rows.tables name) n e.counts.next_id rows bulk_table.small (ids_from e m.stands.plain (length rows) m.stands.stands ids) bulk_table.are fit_all (cut-values (length values) (length (columns_in e.rows.tables name)) values each_value);
      }

  work_of : IsBulkWork e session (statements.Bulk name values) n (rows_of (length (columns_in e.rows.tables name)) values) (length (rows_of (length (columns_in e.rows.tables name)) values))
  work_of = record {
    changes_rows = λ p. refl;
    operations = λ p s. let r = reads e p session m.seat s in
        (λ i. inserts (place_in (r.tables i) name) (r.next_id i) (rows_of (length (columns_in (r.tables i) name)) values)) ∙ ap (λ k. inserts k e.counts.next_id (rows_of (length (columns_in e.rows.tables name)) values)) (sym is);
    count = λ p s. ap (λ ts. length (rows_of (length (columns_in ts name)) values)) (reads e p session m.seat s).tables;
    none = inserts-none n e.counts.next_id _;
    some = inserts-some n e.counts.next_id _;
    limits = λ v. refl;
    clash = λ p s. refl;
    fits_inside = λ o p s free h. inserts_fit e.rows.fates o.snapshot o.number e.counts.next_id n s.rows.held _;
    fits_alone = λ p s free h. inserts_fit _ e.counts.entries (length e.rows.fates) e.counts.next_id n s.rows.held _;
    staging = λ t s at alive.
        let rows = rows_of (length (columns_in e.rows.tables name)) values in
        subst (λ (news : List StagedRow). Staging e.rows.staged (slice_set e.rows.staged n (entered_l2 news s)) t true e.counts.next_id (inserts n e.counts.next_id rows))
        (loaded_rows t n e.counts.next_id rows) (staging-bulk e.rows.staged n t e.counts.next_id rows s at alive);
  }

-- ---- the same of a statement that is a bulk

module _ (e : Held) (session : ℕ) (st : Statement) (n width : ℕ) (values : List Value) (m : MayChange e session st) (d : IsBulk e.rows.tables st n width values) where
  that : MayChange e session (statements.Bulk d.name values)
  that = subst (λ x. MayChange e session x) d.is m

  bulk_at : TableAt e n (columns_in e.rows.tables d.name)
  bulk_at = bulk_table e session n d.name values that d.at

  pub bulk_small : n < 65536
  bulk_small = bulk_at.small

  pub bulk_wide : 0 < width
  bulk_wide = let cs = columns_in e.rows.tables d.name in
      let one : 1 ≤ length cs = leb-true 1 (length cs) (and_left _ (nat_le (length cs) 64) (and_left (is_count 64 (length cs)) _ (and_left _ (names_differ cs) bulk_at.are))) in omega (arith, one, d.wide)

  pub bulk_ready : has_ids_for e (length (rows_of width values)) ≡ true → AreReady e n [] (inserts n e.counts.next_id (rows_of width values))
  bulk_ready ids =
      subst (λ w. AreReady e n [] (inserts n e.counts.next_id (rows_of w values))) (sym d.wide)
      (ready_of e session n d.name values that d.at (ap (λ w. has_ids_for e (length (rows_of w values))) (sym d.wide) ∙ ids))

  -- there are ids for all of them
  bulk_few : has_ids_for e (length (rows_of width values)) ≡ true → e.counts.next_id + length (rows_of width values) ≤ 2147483649
  bulk_few ids = ids_from e m.stands.plain (length (rows_of width values)) m.stands.stands ids

  -- they can be loaded, and are as wide as the table
  pub bulk_can : (b : Bulk) → b.table ≡ n → b.id ≡ e.counts.next_id → b.width ≡ width → b.values.now ≡ values → has_ids_for e (length (rows_of width values)) ≡ true → CanLoad b
  bulk_can b table id wide are ids =
      let rows : rows_of b.width b.values.now ≡ rows_of width values = λ i. rows_of (wide i) (are i) in
      let some = bulk_wide in
      let few = bulk_few ids in
      record {
        width = omega (arith, some, wide);
        ids = omega (arith, few, id, ap length rows);
        rule = subst (λ os. IsTrue (list_all is_op os)) (λ i. inserts (sym table i) (sym id i) (sym rows i)) (bulk_ready ids).rule;
      }

  pub bulk_fits : (b : Bulk) → b.width ≡ width → IsWide e.rows n b
  bulk_fits b wide = record { table = bulk_at.table; at = bulk_at.at; has = wide ∙ d.wide ∙ ap length (sym bulk_at.has) }

  pub bulk_work : (count : ℕ) → count ≡ length (rows_of width values) → IsBulkWork e session st n (rows_of width values) count
  bulk_work count many =
      subst (λ x. IsBulkWork e session x n (rows_of width values) count) (sym d.is)
      (subst (λ x. IsBulkWork e session (statements.Bulk d.name values) n (rows_of width values) x) (sym many)
      (subst (λ w. IsBulkWork e session (statements.Bulk d.name values) n (rows_of w values) (length (rows_of w values))) (sym d.wide) (work_of e session n d.name values that d.at)))

  pub bulk_full : (rows : ℕ) → rows ≡ length (rows_of width values) → has_ids_for e rows ≡ false → Answers e session st (Answered (replies.Refused refusals.Full)) e
  bulk_full rows count none =
      let os = inserts n e.counts.next_id (rows_of width values) in
      answers_refused e session st n [] os rows (λ t s. entered_l2 (map (begun_row t) (inserted os)) s) refusals.Full m (bulk_work rows count)
      (no_ids e session n [] os (ap (has_ids_for e) (inserts_of-inserts n e.counts.next_id (rows_of width values) ∙ sym count) ∙ none))
