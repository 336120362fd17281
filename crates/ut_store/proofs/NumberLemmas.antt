-- The numbers of a store are far from the end of their types.
use Rattle.std.proofs.Common.{◌≤◌, length, arith, ap}
use Rattle.ut_plain.specs.State.{IsState}
use Rattle.ut_plain.specs.Journal.{current}
use Rattle.ut_plain.proofs.JournalLaws.{length-current}
use Rattle.ut_plain.proofs.StateLaws.{IsState-current}
use Rattle.ut_store.specs.Held.{Held}
use Rattle.ut_store.specs.Standing.{Stands}

-- bounds of the numbers that a store counts
pub record AreSmall (e : Held) : Type 0 where
  pub entries : e.counts.entries ≤ 1073741824
  pub commits : e.counts.commits ≤ e.counts.entries
  pub merges : e.counts.merges ≤ e.counts.entries
  pub next_id : e.counts.next_id ≤ 2147483649
  pub rows_limit : e.counts.rows_limit ≤ 2147483648
  pub tables : length e.rows.tables ≤ 256

pub are_small : (e : Held) → Stands e → AreSmall e
are_small e st =
    let p = st.plain in
    let s = st.stands in
    let now : IsState (current p.journal) = IsState-current p.journal s.plain.base s.plain.journal in
    let sums = now.counts in
    let count = length-current p.journal in
    record {
      entries = omega (arith, s.counts.entries, s.plain.short);
      commits = omega (arith, s.counts.entries, s.counts.commits, sums, count);
      merges = omega (arith, s.counts.entries, s.counts.merges, sums, count);
      next_id = omega (arith, s.counts.next_id, s.plain.last);
      rows_limit = omega (arith, s.counts.rows_limit, s.plain.limit);
      tables = omega (arith, now.few, ap length s.counts.tables);
    }
