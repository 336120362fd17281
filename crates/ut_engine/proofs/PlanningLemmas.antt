-- The savepoint that is planned of what was captured.
use Rattle.std.proofs.Common.{◌≡◌, ◌+◌, ◌≤◌, ◌<◌, ◌^◌, ℕ, List, [], ◌∷◌, length, Option, None, Some, Result, Ok, Err, refl, sym, subst, arith}
use Rattle.std.specs.Prelude.{IfOk, IfSome, IfNone}
use Rattle.ut_plain.specs.declared.table.Table.{Table}
use Rattle.ut_plain.specs.State.{IsState}
use Rattle.ut_plain.specs.Stages.{Stages}
use Rattle.ut_plain.specs.Journal.{current}
use Rattle.ut_plain.specs.Capture.{Directory}
use Rattle.ut_plain.specs.Plain.{Plain}
use Rattle.ut_plain.specs.Reached.{IsPlain}
use Rattle.ut_plain.specs.View.{captured_now}
use Rattle.ut_plain.proofs.StateLaws.{IsState-current}
use Rattle.ut_pages.specs.declared.root.Root.{Root}
use Rattle.ut_durable.specs.Bytes.{image_pages}
use Rattle.ut_durable.specs.Saving.{Saving}
use Rattle.ut_savepoint.specs.declared.captured.CapturedTable.{CapturedTable}
use Rattle.ut_savepoint.specs.Captured.{CaptureTables, Captures}
use Rattle.ut_savepoint.specs.Planning.{Plans}
use Rattle.ut_tables.specs.Rows.{Rows}
use Rattle.ut_tables.specs.Standing.{AreRowsOf}
use Rattle.ut_txn.specs.Seats.{number_at}
use Rattle.ut_store.specs.Held.{Held}
use Rattle.ut_store.specs.Stands.{StandsFor}
use Rattle.ut_engine.specs.Logged.{Logged}
use Rattle.ut_engine.specs.Saves.{IsCapturedRoot}

-- the rows of a store are those of the plain state that it stands for
pub rows_read : (e : Held) (p : Plain) (r : Rows) (entries : ℕ) → r ≡ e.rows → entries ≡ e.counts.entries → StandsFor e p → AreRowsOf r entries p
rows_read e p r entries same count stands = subst (λ (x : Rows). AreRowsOf x entries p) (sym same) (subst (λ (n : ℕ). AreRowsOf e.rows n p) (sym count) here)
  where
    here : AreRowsOf e.rows e.counts.entries p
    here = record { plain = stands.plain; tables = stands.counts.tables; length_is = stands.counts.entries; next_id = e.counts.next_id; pending = e.counts.pending; numbers = number_at e.seats; rows = stands.rows }

captured_length : (cs : List CapturedTable) (ts : List Table) (ss : Stages) → CaptureTables cs ts ss → length cs ≡ length ts
captured_length [] [] [] is = refl
captured_length [] [] (s ∷ ss) is = absurd is
captured_length [] (t ∷ ts) ss is = absurd is
captured_length (c ∷ cs) [] ss is = absurd is
captured_length (c ∷ cs) (t ∷ ts) [] is = absurd is
captured_length (c ∷ cs) (t ∷ ts) (s ∷ ss) is = let rest = captured_length cs ts ss is.1 in omega (arith, rest)

pub few_tables : (cs : List CapturedTable) (p : Plain) → IsPlain p → Captures cs (captured_now p) → length cs < 2 ^ 32
few_tables cs p plain captures =
    let state : IsState (current p.journal) = IsState-current p.journal plain.base plain.journal in
    let long = captured_length cs (current p.journal).tables (captured_now p).stages captures in
    let few = state.few in
    omega (arith, long, few)

module _ (e : Logged) (root : Root) (cs : List CapturedTable) (captured : IsCapturedRoot e root) (captures : (p : Plain) → StandsFor e.store p → Captures cs (captured_now p)) where
  pub planned_is : {E : Type 0} (result : Result (Option Saving) E) → IfOk result (λ o. IfSome o (λ s. (d : Directory) → Captures cs d → Plans root e.files.reached d s))
      → IfOk result (λ o. IfSome o (λ s. (r : Root) × IsCapturedRoot e r × ((p : Plain) → StandsFor e.store p → Plans r e.files.reached (captured_now p) s)))
  planned_is (Ok (Some s)) plans = (root, captured, λ p stands. plans (captured_now p) (captures p stands))
  planned_is (Ok None) plans = tt
  planned_is (Err x) plans = tt

  pub none_is : {E : Type 0} (result : Result (Option Saving) E) → IfOk result (λ o. IfNone o ((d : Directory) → Captures cs d → 2 ^ 32 ≤ 3 + image_pages d + length e.files.reached))
      → IfOk result (λ o. IfNone o ((p : Plain) → StandsFor e.store p → 2 ^ 32 ≤ 3 + image_pages (captured_now p) + length e.files.reached))
  none_is (Ok (Some s)) none = tt
  none_is (Ok None) none = λ p stands. none (captured_now p) (captures p stands)
  none_is (Err x) none = tt
