-- The rows that a session sees keep the rules of rows.
use Rattle.std.proofs.Common.{ℕ, ◌-◌, ◌≤◌, ◌≡◌, List, [], ◌∷◌, ◌++◌, append-nil, append_assoc, take, drop, Option, None, Some, refl, sym, ap, ◌∙◌, subst, arith}
use Rattle.std.specs.FinMap as finmap
use Rattle.ut_value.specs.declared.entry.Entry.{Entry}
use Rattle.ut_value.specs.declared.entry.Entry.TheVariants as entries
use Rattle.ut_plain.specs.declared.table.Table.{Table}
use Rattle.ut_plain.specs.declared.table.Stored.{Stored}
use Rattle.ut_plain.specs.declared.transaction.OpenTransaction.{OpenTransaction}
use Rattle.ut_plain.specs.Rows.{with_ops, concerns}
use Rattle.ut_plain.specs.State.{State, after, IsRow, AreRows}
use Rattle.ut_plain.specs.Journal.{Journal, after_all, current, state_at, prefix, IsJournal}
use Rattle.ut_plain.specs.Plain.{Plain, open_at, seen, seen_by}
use Rattle.ut_plain.specs.View.{own_ops}
use Rattle.ut_plain.specs.Reached.{IsPlain}
use Rattle.ut_plain.proofs.BoolLemmas.{Tested, tested, Passes, Fails}
use Rattle.ut_plain.proofs.ListLemmas.{take_and_drop}
use Rattle.ut_plain.proofs.JournalLaws.{after_all-append}
use Rattle.ut_plain.proofs.RowLaws.{get-with_ops, get-other, ops_at-same}
use Rattle.ut_plain.proofs.StateLaws.{AreRows-more, AreRows-more_tables, IsState-current, next_after-more}
use Rattle.ut_plain.proofs.KeptLemmas.{IsJournal-prefix}
use Rattle.ut_plain.proofs.SeenLemmas.{AreRows-own}

-- a state behind another has its tables, and perhaps more, and no lower next id
record Grown (s t : State) : Type 0 where
  more : List Table
  tables : t.tables ≡ s.tables ++ more
  next : s.next ≤ t.next

grown : (s : State) (e : Entry) → Grown s (after s e)
grown s (entries.Create name columns) = record { more = record { name = name; columns = columns } ∷ []; tables = refl; next = omega arith }
grown s (entries.Txn os) = record { more = []; tables = sym (append-nil s.tables); next = next_after-more s.next os }
grown s (entries.Begun n table kind) = record { more = []; tables = sym (append-nil s.tables); next = omega arith }
grown s (entries.Ended n) = record { more = []; tables = sym (append-nil s.tables); next = omega arith }

grown_all : (s : State) (es : List Entry) → Grown s (after_all s es)
grown_all s [] = record { more = []; tables = sym (append-nil s.tables); next = omega arith }
grown_all s (e ∷ es) =
    let one = grown s e in
    let rest = grown_all (after s e) es in
    let first = one.next in
    let last = rest.next in
    record {
      more = one.more ++ rest.more;
      tables = rest.tables ∙ ap (λ ts. ts ++ rest.more) one.tables ∙ append_assoc s.tables one.more rest.more;
      next = omega arith;
    }

-- the tables of now are those of then, and perhaps more
grown_since : (j : Journal) (k : ℕ) → Grown (state_at j k) (current j)
grown_since j k =
    let n : ℕ = k - j.base.length in
    let is : after_all (after_all j.base (take n j.entries)) (drop n j.entries) ≡ current j = sym (after_all-append j.base (take n j.entries) (drop n j.entries)) ∙ ap (after_all j.base) (take_and_drop n j.entries) in
    subst (Grown (state_at j k)) is (grown_all (after_all j.base (take n j.entries)) (drop n j.entries))

-- so rows of then keep the rules now
then_now : (j : Journal) (k : ℕ) (id : ℕ) (row : Stored) → IsJournal j → AreRows (state_at j k).tables (state_at j k).next (state_at j k).rows → finmap.get (state_at j k).rows id ≡ Some row → IsRow (current j).tables (current j).next id row
then_now j k id row h rows at =
    let g = grown_since j k in
    let less : (state_at j k).next ≤ (current j).next = g.next in
    subst (λ ts. IsRow ts (current j).next id row) (sym g.tables)
    ((AreRows-more_tables (state_at j k).tables g.more (current j).next (state_at j k).rows (AreRows-more (state_at j k).tables (state_at j k).next (current j).next (state_at j k).rows less rows)).each id row at)

raised : (tables : List Table) (n m id : ℕ) (row : Stored) → n ≤ m → IsRow tables n id row → IsRow tables m id row
raised tables n m id row le r = let given = r.given.1 in record { given = (r.given.0, omega arith); fits = r.fits; spelled = r.spelled }

pub seen_row : (p : Plain) (session id : ℕ) (row : Stored) → IsPlain p → finmap.get (seen p session) id ≡ Some row → IsRow (current p.journal).tables p.next_id id row
seen_row p session id row h at = by (open_at p.sessions session) refl at
  where
    by : (o : Option OpenTransaction) → open_at p.sessions session ≡ o → finmap.get (seen_by p.journal o) id ≡ Some row → IsRow (current p.journal).tables p.next_id id row
    by None e at = raised (current p.journal).tables (current p.journal).next p.next_id id row h.next ((IsState-current p.journal h.base h.journal).rows.each id row at)
    by (Some t) e at = of (tested (concerns id t.ops))
      where
        own : AreRows (current p.journal).tables p.next_id (with_ops (current p.journal).rows t.ops)
        own = subst (λ o. AreRows (current p.journal).tables p.next_id (with_ops (current p.journal).rows (own_ops o))) e (AreRows-own p session h)

        of : Tested (concerns id t.ops) → IsRow (current p.journal).tables p.next_id id row
        of (Passes c) =
            own.each id row
            (get-with_ops (current p.journal).rows t.ops id ∙ ops_at-same id t.ops _ (finmap.get (state_at p.journal t.snapshot).rows id) c
            ∙ sym (get-with_ops (state_at p.journal t.snapshot).rows t.ops id) ∙ at)
        of (Fails c) =
            raised (current p.journal).tables (current p.journal).next p.next_id id row h.next
            (then_now p.journal t.snapshot id row h.journal (IsState-current (prefix p.journal t.snapshot) h.base (IsJournal-prefix p.journal t.snapshot h.journal)).rows
            (sym (get-other (state_at p.journal t.snapshot).rows t.ops id c) ∙ at))
