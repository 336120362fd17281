-- What a session sees suits its table, whoever took it meanwhile.
use Rattle.std.proofs.Common.{ℕ, ◌-◌, ◌<◌, ◌≡◌, Bool, true, false, ◌&&◌, cond, List, [], ◌∷◌, ◌++◌, append_assoc, append-nil, take, drop, Option, None, Some, refl, sym, ap, ◌∙◌, subst, IsTrue, nat_eq}
use Rattle.std.specs.Option.{is_none}
use Rattle.std.specs.List.{list_all}
use Rattle.std.specs.Ordering.{nat_cmp}
use Rattle.std.specs.FinMap as finmap
use Rattle.ut_value.specs.declared.value.Value.{Value}
use Rattle.ut_value.specs.declared.entry.Entry.{Entry}
use Rattle.ut_value.specs.declared.entry.Entry.TheVariants as entries
use Rattle.ut_value.specs.declared.entry.Op.{Op}
use Rattle.ut_value.specs.declared.entry.Op.TheVariants as ops
use Rattle.ut_value.specs.Spelling.{is_op, is_u16, is_u32}
use Rattle.ut_plain.specs.declared.table.Table.{Table}
use Rattle.ut_plain.specs.declared.table.Stored.{Stored}
use Rattle.ut_plain.specs.declared.transaction.OpenTransaction.{OpenTransaction}
use Rattle.ut_plain.specs.Tables.{columns_at, fits_table}
use Rattle.ut_plain.specs.Rows.{Rows, can_apply, can_apply_all, with_op, op_at, ops_at}
use Rattle.ut_plain.specs.State.{State, after, IsState}
use Rattle.ut_plain.specs.Journal.{Journal, after_all, current, state_at, prefix, IsJournal}
use Rattle.ut_plain.specs.Plain.{Plain, open_at, seen, seen_by}
use Rattle.ut_plain.specs.Reached.{IsPlain}
use Rattle.ut_plain.proofs.BoolLemmas.{and_left, and_right, and_both}
use Rattle.ut_plain.proofs.ListLemmas.{take_and_drop}
use Rattle.ut_plain.proofs.JournalLaws.{after_all-append}
use Rattle.ut_plain.proofs.KeptLemmas.{IsJournal-prefix}
use Rattle.ut_plain.proofs.RowLaws.{get-with_ops}
use Rattle.ut_plain.proofs.TableLemmas.{fits_table-more}
use Rattle.ut_plain.proofs.StateLaws.{IsState-current}
use Rattle.ut_plain.proofs.MadeLemmas.{suits_table}
use Rattle.ut_stamps.specs.Stamps.{sees}
use Rattle.ut_stamps.specs.declared.place.Place.{Place}
use Rattle.ut_exact.specs.Exact.{shown_by}
use Rattle.ut_exact.specs.Places.{StagedRow, stamped_in}
use Rattle.ut_exact.specs.Scan.{stored_in}
use Rattle.ut_exact.proofs.OrderLemmas.{AllFound, all_found}
use Rattle.ut_store.specs.Held.{Held}
use Rattle.ut_store.specs.Stands.{StandsFor}
use Rattle.ut_store.specs.Reads.{looks_at, own_at, counts_for}
use Rattle.ut_store.specs.Hits.{Hits}
use Rattle.ut_store.proofs.IndexLemmas.{some_inside}
use Rattle.ut_store.proofs.ReadLemmas.{reads}
use Rattle.ut_store.proofs.HitLemmas.{holds}
use Rattle.ut_staged.specs.Tables.{place_at}

-- the tables of a state stay, and more may come behind
more_tables : (s : State) (es : List Entry) → (us : List Table) × ((after_all s es).tables ≡ s.tables ++ us)
more_tables s [] = ([], sym (append-nil s.tables))
more_tables s (entries.Create name columns ∷ es) =
    let rest = more_tables (after s (entries.Create name columns)) es in
    (record { name = name; columns = columns } ∷ rest.0, rest.1 ∙ append_assoc s.tables (record { name = name; columns = columns } ∷ []) rest.0)
more_tables s (entries.Txn os ∷ es) = more_tables (after s (entries.Txn os)) es
more_tables s (entries.Begun n table kind ∷ es) = more_tables (after s (entries.Begun n table kind)) es
more_tables s (entries.Ended n ∷ es) = more_tables (after s (entries.Ended n)) es

-- a row that suits its table
abbrev Suits : List Table → Stored → Type 0
Suits tables row = IsTrue (suits_table tables row.table row.values)

past_suits : (j : Journal) (k id : ℕ) (row : Stored) → IsState j.base → IsJournal j → finmap.get (state_at j k).rows id ≡ Some row → Suits (current j).tables row
past_suits j k id row base is at =
    let n : ℕ = k - j.base.length in
    let s : State = after_all j.base (take n j.entries) in
    let here = (IsState-current (prefix j k) base (IsJournal-prefix j k is)).rows.each id row at in
    let whole : take n j.entries ++ drop n j.entries ≡ j.entries = take_and_drop n j.entries in
    let now : after_all s (drop n j.entries) ≡ current j = sym (after_all-append j.base (take n j.entries) (drop n j.entries)) ∙ ap (after_all j.base) whole in
    let more = more_tables s (drop n j.entries) in
    let tables : s.tables ++ more.0 ≡ (current j).tables = sym more.1 ∙ ap (λ (x : State). x.tables) now in
    and_both _ _ (subst (λ ts. IsTrue (fits_table (columns_at ts row.table) row.values)) tables (fits_table-more s.tables more.0 row.table row.values here.fits)) here.spelled

-- behind operations that can be applied
op_suits : (tables : List Table) (rows : Rows) (id : ℕ) (op : Op) (was : Option Stored) → IsTrue (can_apply tables rows op) → IsTrue (is_op op) → ((r : Stored) → was ≡ Some r → Suits tables r) → (r : Stored) → op_at id op was ≡ Some r → Suits tables r
op_suits tables rows id (ops.Insert table other values) was can spelled h r is = by (nat_eq id other) is
  where
    new : Suits tables (record { table = table; values = values })
    new = and_both _ _ (and_left _ _ (and_left _ _ (and_left _ (is_none (finmap.get rows other)) can))) (and_right (is_u16 table && is_u32 other) _ spelled)

    by : (b : Bool) → cond b (Some (record { table = table; values = values })) was ≡ Some r → Suits tables r
    by true e = subst (λ x. Suits tables x) (some_inside (record { table = table; values = values }) r e) new
    by false e = h r e
op_suits tables rows id (ops.Delete table other) was can spelled h r is = by (nat_eq id other) is
  where
    by : (b : Bool) → cond b None was ≡ Some r → Suits tables r
    by true e = cc
    by false e = h r e

ops_suit : (tables : List Table) (rows : Rows) (id : ℕ) (os : List Op) (was : Option Stored) → IsTrue (can_apply_all tables rows os) → IsTrue (list_all is_op os) → ((r : Stored) → was ≡ Some r → Suits tables r) → (r : Stored) → ops_at id os was ≡ Some r → Suits tables r
ops_suit tables rows id [] was can spelled h r is = h r is
ops_suit tables rows id (op ∷ os) was can spelled h r is = ops_suit tables (with_op rows op) id os (op_at id op was) (and_right (can_apply tables rows op) _ can) (and_right (is_op op) _ spelled) (op_suits tables rows id op was (and_left _ _ can) (and_left (is_op op) _ spelled) h) r is

seen_suits : (p : Plain) (session id : ℕ) (row : Stored) → IsPlain p → finmap.get (seen p session) id ≡ Some row → Suits (current p.journal).tables row
seen_suits p session id row h is = by (open_at p.sessions session) refl is
  where
    by : (o : Option OpenTransaction) → open_at p.sessions session ≡ o → finmap.get (seen_by p.journal o) id ≡ Some row → Suits (current p.journal).tables row
    by None e at = let here = (IsState-current p.journal h.base h.journal).rows.each id row at in and_both _ _ here.fits here.spelled
    by (Some t) e at =
        let own = (h.running session t e).own in
        ops_suit (current p.journal).tables (current p.journal).rows id t.ops (finmap.get (state_at p.journal t.snapshot).rows id) own.apply own.spelled
        (λ r was. past_suits p.journal t.snapshot id r h.base h.journal was) row (sym (get-with_ops (state_at p.journal t.snapshot).rows t.ops id) ∙ at)

-- ---- what was found

-- the values in these places suit the table
abbrev pub AllSuit : Held → ℕ → List (ℕ × Place) → Type 0
AllSuit e n [] = Unit {0}
AllSuit e n (x ∷ xs) = IsTrue (suits_table e.rows.tables n (stored_in n (place_at e.rows.staged n x.1)).values) × AllSuit e n xs

pub all_suit : (e : Held) (p : Plain) (session n : ℕ) (test : List Value → Bool) (hits : List (ℕ × Place)) → session < 17 → StandsFor e p → Hits e session n test hits → AllSuit e n hits
all_suit e p session n test hits small s h = by hits (all_found hits h.scan.sorted)
  where
    one : (id : ℕ) (q : Place) → finmap.find nat_cmp id hits ≡ Some q → IsTrue (suits_table e.rows.tables n (stored_in n (place_at e.rows.staged n q)).values)
    one id q is =
        let f = holds e p session n test hits small s h id q is in
        let sound = h.scan.sound id q is in
        let same : f.0 ≡ sound.0 = some_inside f.0 sound.0 (sym f.1 ∙ sound.1) in
        let shows : shown_by (counts_for e session) (Some (stamped_in n f.0)) ≡ Some (record { table = n; values = f.0.values }) =
        ap (λ b. cond b (Some (record { table = n; values = f.0.values })) None) (ap (λ (r : StagedRow). sees e.rows.fates (looks_at e session) (own_at e session) r.stamp) same ∙ sound.3) in
        let seen_is : finmap.get (seen p session) id ≡ Some (record { table = n; values = f.0.values }) =
        finmap.get-entries (seen p session) id ∙ (reads e p session small s).shown id ∙ ap (shown_by (counts_for e session)) f.4 ∙ shows in
        let suits = seen_suits p session id (record { table = n; values = f.0.values }) s.plain seen_is in
        subst (λ ts. IsTrue (suits_table ts n (stored_in n (place_at e.rows.staged n q)).values)) (sym s.counts.tables)
        (subst (λ (o : Option StagedRow). IsTrue (suits_table (current p.journal).tables n (stored_in n o).values)) (sym f.1) suits)

    by : (some : List (ℕ × Place)) → AllFound hits some → AllSuit e n some
    by [] a = tt
    by (x ∷ xs) a = (one x.0 x.1 a.0, by xs a.1)
