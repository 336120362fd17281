-- An opened store has the rows of a prefix of each journal of which its files held one.
use Rattle.std.proofs.Common.{◌≡◌, ⊎_elim, ℕ, ◌≤◌, Option, None, Some, refl, sym, ◌∙◌, ap, subst}
use Rattle.std.specs.Cmp.{nat_cmp_total}
use Rattle.std.specs.FinMap as finmap
use Rattle.std.specs.FinMap.{nat_cmp-IsAntisymmetric}
use Rattle.ut_outside.specs.Disk.{View}
use Rattle.ut_plain.specs.declared.table.Stored.{Stored}
use Rattle.ut_plain.specs.Journal.{journal_len, current}
use Rattle.ut_plain.specs.Plain.{Plain}
use Rattle.ut_plain.proofs.JournalLaws.{length-current}
use Rattle.ut_stamps.specs.Stamps.{counts}
use Rattle.ut_exact.specs.Exact.{shown_by}
use Rattle.ut_exact.specs.Stamped.{Stamped}
use Rattle.ut_reading.proofs.RestoredLemmas.{prefix_is_restored}
use Rattle.ut_store.specs.Held.{Held}
use Rattle.ut_store.specs.Stands.{AreRows}
use Rattle.ut_engine.specs.Logged.{Logged}
use Rattle.ut_engine.specs.Runs.{Runs, Opens}
use Rattle.ut_engine.specs.Restoring.{Restores}
use Rattle.ut_engine.proofs.HeldByLemmas.{held_some, shows, not_gone}

-- ---- the rows that a store holds are those of one state

-- a row of one plain state that the places agree with is one of another
module _ (e : Held) (p q : Plain) (a : AreRows e p) (b : AreRows e q) (p_opened : p.opening ≤ journal_len p.journal) (q_opened : q.opening ≤ journal_len q.journal) (same : journal_len p.journal ≡ journal_len q.journal) where
  over : (id : ℕ) (row : Stored) → finmap.get (current p.journal).rows id ≡ Some row → finmap.get (current q.journal).rows id ≡ Some row
  over id row is =
      let shown : shown_by (counts e.rows.fates (journal_len p.journal) None) (a.held id) ≡ Some row = sym (shows e p a p_opened id) ∙ is in
      let h = held_some (counts e.rows.fates (journal_len p.journal) None) (a.held id) row shown in
      let at = ⊎_elim (λ gone. absurd (not_gone e p a id h.0 row h.1 shown gone)) (λ found. found) (a.places.only id h.0 h.1) in
      let there : b.held id ≡ Some h.0 = subst (λ (k : ℕ). b.held k ≡ Some h.0) at.5 (b.places.each at.0 at.1 at.2 at.3 at.4 ∙ ap (λ (x : Stamped). Some x) at.6) in
      shows e q b q_opened id
      ∙ (λ i. shown_by (counts e.rows.fates (sym same i) None) ((there ∙ sym h.1) i))
      ∙ shown

same_rows : (e : Held) (p q : Plain) → AreRows e p → AreRows e q → p.opening ≤ journal_len p.journal → q.opening ≤ journal_len q.journal → journal_len p.journal ≡ journal_len q.journal → (current p.journal).rows ≡ (current q.journal).rows
same_rows e p q a b p_opened q_opened same = finmap.same_map nat_cmp_total nat_cmp-IsAntisymmetric (current p.journal).rows (current q.journal).rows (λ id. by id (finmap.get (current p.journal).rows id) (finmap.get (current q.journal).rows id) refl refl)
  where
    by : (id : ℕ) (x y : Option Stored) → finmap.get (current p.journal).rows id ≡ x → finmap.get (current q.journal).rows id ≡ y → finmap.get (current p.journal).rows id ≡ finmap.get (current q.journal).rows id
    by id None None here there = here ∙ sym there
    by id (Some row) y here there = here ∙ sym (over e p q a b p_opened q_opened same id row here)
    by id None (Some row) here there = over e q p b a q_opened p_opened (sym same) id row there ∙ sym there

-- A store runs from plain states of one journal's end alone.
same_end : (e : Logged) (disk : View) (p q : Plain) → Runs e disk p → Runs e disk q → (current p.journal ≡ current q.journal) × (journal_len p.journal ≡ journal_len q.journal)
same_end e disk p q a b =
    let x = a.stands.counts in
    let y = b.stands.counts in
    let same : journal_len p.journal ≡ journal_len q.journal = sym x.entries ∙ y.entries in (
      λ i. record {
        tables = (sym x.tables ∙ y.tables) i;
        rows = same_rows e.store p q a.stands.rows b.stands.rows a.stands.plain.opened.1 b.stands.plain.opened.1 same i;
        next = (sym a.next.next ∙ b.next.next) i;
        commits = (sym x.commits ∙ y.commits) i;
        merges = (sym x.merges ∙ y.merges) i;
        length = (length-current p.journal ∙ same ∙ sym (length-current q.journal)) i;
      },
      same,
    )

pub opened_restores : (e : Logged) (rows : ℕ) (before after : View) → Opens e rows before after → Restores e before after
opened_restores e rows before after opens told full least holds p runs =
    let said = opens.said told in
    let read = prefix_is_restored full opens.journal least before.seen holds (record { directory = opens.directory; end = said.end; reading = said.reading }) in
    let same = same_end e after p _ runs opens.runs in
    record { count = read.count; no_fewer = read.no_fewer; no_more = read.no_more; state = same.0 ∙ read.state; length = same.1 ∙ read.length }
