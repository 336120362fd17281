-- A place is live where a session outside a transaction sees its row.
use Rattle.std.proofs.Common.{◌≡◌, ◌≤◌, ℕ, Bool, true, false, not, ◌&&◌, cond, List, Option, None, Some, refl, sym, ◌∙◌, ap, arith}
use Rattle.std.specs.Prelude.{is_some}
use Rattle.std.specs.FinMap as finmap
use Rattle.ut_plain.specs.declared.stage.Placed.{Placed}
use Rattle.ut_plain.specs.Journal.{Journal, journal_len, current}
use Rattle.ut_plain.specs.State.{State}
use Rattle.ut_plain.specs.Capture.{is_live}
use Rattle.ut_plain.proofs.JournalLaws.{state_at-last}
use Rattle.ut_stamps.specs.declared.fates.Fate.{Fate}
use Rattle.ut_stamps.specs.declared.visibility.Stamp.{Stamp}
use Rattle.ut_stamps.specs.declared.fates.Fate.TheVariants.{Aborted}
use Rattle.ut_stamps.specs.Stamps.{fate_at, is_committed_by, counts, has_ended, sees}
use Rattle.ut_exact.specs.Stamped.{Stamped}
use Rattle.ut_exact.specs.Exact.{IsExact, shown_by}
use Rattle.ut_exact.specs.Places.{StagedRow, AreHeld, is_dead, dead_number, stamped_in}
use Rattle.std.proofs.lemmas.Bool.{eqb-true}

-- a row in its place as the plain store has it
abbrev pub place_of : StagedRow → Placed
place_of row = record { id = row.id; values = row.values; dead = is_dead row.stamp }

-- nobody sees the row of a transaction that aborted
unseen : (fates : List Fate) (k begin : ℕ) (end : Option ℕ) → fate_at fates begin ≡ Aborted → sees fates k None (record { begin = begin; end = end }) ≡ false
unseen fates k begin end aborted = ap (λ (f : Fate). is_committed_by f k && not (has_ended (counts fates k None) end)) aborted

some_if : {X : Type 0} (b : Bool) (x : X) → is_some (cond b (Some x) None) ≡ b
some_if true x = refl
some_if false x = refl

pub live_is_seen : {P : Type 0} (at : ℕ → P → Option StagedRow) (gone : Stamp → Type 0) (held : ℕ → Option Stamped) (fates : List Fate) (j : Journal) (o n : ℕ) (p : P) (row : StagedRow)
    → AreHeld at gone held → IsExact fates held j o → o ≤ journal_len j → fate_at fates dead_number ≡ Aborted → at n p ≡ Some row
    → is_live (current j).rows (place_of row) ≡ sees fates (journal_len j) None row.stamp
live_is_seen at gone held fates j o n p row are exact opened dead is = split (is_dead row.stamp) refl
  where
    k : ℕ
    k = journal_len j

    split : (b : Bool) → is_dead row.stamp ≡ b → is_live (current j).rows (place_of row) ≡ sees fates (journal_len j) None row.stamp
    split true buried =
        let nobody : row.stamp.begin ≡ dead_number = eqb-true row.stamp.begin dead_number buried in
        ap (λ (b : Bool). not b && is_some (finmap.get (current j).rows row.id)) buried
        ∙ sym (unseen fates (journal_len j) row.stamp.begin row.stamp.end (ap (fate_at fates) nobody ∙ dead))
    split false held_by =
        let seen = counts fates (journal_len j) None row.stamp.begin && not (has_ended (counts fates (journal_len j) None) row.stamp.end) in
        let here : finmap.get (current j).rows row.id ≡ cond seen (Some (stamped_in n row).stored) None =
        ap (λ (s : State). finmap.get s.rows row.id) (sym (state_at-last j (journal_len j) (omega arith))) ∙ exact.shows (journal_len j) opened (omega arith) row.id
        ∙ ap (shown_by (counts fates (journal_len j) None)) (are.each n p row is held_by) in
        ap (λ (b : Bool). not b && is_some (finmap.get (current j).rows row.id)) held_by ∙ ap is_some here ∙ some_if seen (stamped_in n row).stored
