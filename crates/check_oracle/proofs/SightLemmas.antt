-- What a session sees is worked out from the entries, and has no more rows than there are ids.
use Rattle.std.proofs.Common.{◌≡◌, ℕ, zero, suc, ◌+◌, ◌-◌, ◌<◌, ◌≤◌, max, not, nat_eq, List, [], ◌∷◌, length, take, Option, None, Some, sym, ap, ◌∙◌, subst, arith}
use Rattle.std.specs.Ordering.{nat_cmp}
use Rattle.std.specs.declared.cmp.Ordering.TheVariants.{Less, Equal, Greater}
use Rattle.std.specs.List.{sum_by}
use Rattle.std.specs.FinMap as finmap
use Rattle.std.specs.FinMap.Entries.{put, by_order}
use Rattle.std.proofs.lemmas.List.Sums.{sum_by-cons, sum_by-take-le}
use Rattle.ut_value.specs.declared.entry.Op.{Op}
use Rattle.ut_value.specs.declared.entry.Op.TheVariants as ops
use Rattle.ut_value.specs.declared.entry.Entry.{Entry}
use Rattle.ut_value.specs.declared.entry.Entry.TheVariants as entries
use Rattle.ut_plain.specs.declared.table.Stored.{Stored}
use Rattle.ut_plain.specs.declared.transaction.OpenTransaction.{OpenTransaction}
use Rattle.ut_plain.specs.Rows.{Rows, with_ops, op_inserts, inserts_of}
use Rattle.ut_plain.specs.State.{State, empty_state, after, entry_inserts}
use Rattle.ut_plain.specs.declared.stage.Progress.TheVariants as steps
use Rattle.ut_plain.specs.Capture.{Directory}
use Rattle.ut_plain.specs.Progress.{phase_of}
use Rattle.ut_plain.specs.Journal.{Journal, after_all, journal_len, current, state_at, load_of, empty_journal}
use Rattle.ut_plain.proofs.JournalLaws.{after_all-length}
use Rattle.ut_plain.specs.Stages.{Stages}
use Rattle.ut_plain.specs.Plain.{no_savepoint, Plain, Sessions, new_store, no_sessions, open_at, open_inserts, inserts_open, seen_by, seen}
use Rattle.ut_plain.specs.Reached.{IsPlain}
use Rattle.check_rows.specs.declared.known.Known.{Known}
use Rattle.check_rows.specs.Listed.{listed, listed_all}
use Rattle.check_rows.specs.Known.{IsKnown}
use Rattle.check_oracle.specs.Store.{IsSight}
use Rattle.check_rows.proofs.FilterLemmas.{length-filter_le}
use Rattle.check_rows.proofs.ListedLemmas.{entries-with_ops}

-- ---- a store that was just made

first_id : 1 ≡ max 1 (load_of empty_journal + 1)
first_id = omega (arith, finmap.len-empty nat_cmp Stored)

pub plain_new : (first es : List Entry) (sessions : Sessions) (limit captured : ℕ) (image : Directory) (stages : Stages) → first ≡ [] → es ≡ [] → sessions ≡ no_sessions → stages ≡ []
    → record { journal = record { base = after_all empty_state first; entries = es }; opening = 0; sessions = sessions; next_id = 1; rows_limit = limit; pending = None; phase = phase_of steps.Idle captured image; image_pages = no_savepoint.image_pages; root_pages = 0; stages = stages } ≡ new_store no_savepoint limit
plain_new first es sessions limit captured image stages f e s t = λ i. record (new_store no_savepoint limit) { journal = record { base = after_all empty_state (f i); entries = e i }; sessions = s i; next_id = first_id i; stages = t i }

-- the base has the length of its entries
pub base_len : (first : List Entry) → (after_all empty_state first).length ≡ length first
base_len first = omega (arith, after_all-length empty_state first)

-- what was worked out of the entries is the state of their journal
pub known_now : (first es fs gs : List Entry) (known : Known) → fs ≡ first → gs ≡ es → IsKnown known (after_all (after_all empty_state fs) gs) → IsKnown known (after_all (after_all empty_state first) es)
known_now first es fs gs known f g k = subst (λ (s : State). IsKnown known s) (λ i. after_all (after_all empty_state (f i)) (g i)) k

-- and so is what was worked out of those up to a place
pub known_at : (first es fs gs : List Entry) (count behind : ℕ) (known : Known) → behind ≡ count - length first → fs ≡ first → gs ≡ take behind es → IsKnown known (after_all (after_all empty_state fs) gs) → IsKnown known (state_at (record { base = after_all empty_state first; entries = es }) count)
known_at first es fs gs count behind known n f g k =
    let same : behind ≡ count - (after_all empty_state first).length = omega (arith, n, base_len first) in
    known_now first (take (count - (after_all empty_state first).length) es) fs gs known f (g ∙ ap (λ n. take n es) same) k

-- ---- how many rows there are

length-put_le : (id : ℕ) (v : Stored) (es : List (ℕ × Stored)) → length (put nat_cmp id v es) ≤ length es + 1
length-put_le id v [] = omega arith
length-put_le id v (e ∷ es) =
    let rest = length-put_le id v es in
    elim (nat_cmp id e.0) as (λ o. length (by_order o ((id, v) ∷ e ∷ es) ((e.0, v) ∷ es) (e ∷ put nat_cmp id v es)) ≤ length (e ∷ es) + 1) [ Less ↦ omega arith | Equal ↦ omega arith | Greater ↦ omega (arith, rest) ]

length-listed : (rows : List (ℕ × Stored)) (op : Op) → length (listed rows op) ≤ length rows + op_inserts op
length-listed rows (ops.Insert table id values) = length-put_le id (record { table = table; values = values }) rows
length-listed rows (ops.Delete table id) = let fewer = length-filter_le (λ e. not (nat_eq e.0 id)) rows in omega (arith, fewer)

length-listed_all : (rows : List (ℕ × Stored)) (os : List Op) → length (listed_all rows os) ≤ length rows + inserts_of os
length-listed_all rows [] = omega arith
length-listed_all rows (op ∷ os) = let one = length-listed rows op in let rest = length-listed_all (listed rows op) os in omega (arith, one, rest, sum_by-cons op_inserts op os)

count-with_ops : (rows : Rows) (os : List Op) → length (finmap.entries (with_ops rows os)) ≤ length (finmap.entries rows) + inserts_of os
count-with_ops rows os = let more = length-listed_all (finmap.entries rows) os in omega (arith, more, ap length (entries-with_ops rows os))

count-after : (s : State) (e : Entry) → length (finmap.entries (after s e).rows) ≤ length (finmap.entries s.rows) + entry_inserts e
count-after s (entries.Create name columns) = omega arith
count-after s (entries.Txn os) = count-with_ops s.rows os
count-after s (entries.Begun n table kind) = omega arith
count-after s (entries.Ended n) = omega arith

count-after_all : (s : State) (es : List Entry) → length (finmap.entries (after_all s es).rows) ≤ length (finmap.entries s.rows) + sum_by entry_inserts es
count-after_all s [] = omega arith
count-after_all s (e ∷ es) = let one = count-after s e in let rest = count-after_all (after s e) es in omega (arith, one, rest, sum_by-cons entry_inserts e es)

count-seen : (j : Journal) (o : Option OpenTransaction) → length (finmap.entries (seen_by j o)) ≤ load_of j + open_inserts o
count-seen j None = let all = count-after_all j.base j.entries in let base = finmap.len-entries j.base.rows in omega (arith, all, base)
count-seen j (Some t) =
    let part = count-after_all j.base (take (t.snapshot - j.base.length) j.entries) in
    let own = count-with_ops (after_all j.base (take (t.snapshot - j.base.length) j.entries)).rows t.ops in
    let base = finmap.len-entries j.base.rows in
    let fewer = sum_by-take-le entry_inserts j.entries (t.snapshot - j.base.length) in
    omega (arith, part, own, base, fewer)

open_inserts-le : (sessions : Sessions) (session : ℕ) → open_inserts (open_at sessions session) ≤ inserts_open sessions
open_inserts-le [] session = omega arith
open_inserts-le (x ∷ xs) zero = omega (arith, sum_by-cons open_inserts x xs)
open_inserts-le (x ∷ xs) (suc session) = let rest = open_inserts-le xs session in omega (arith, rest, sum_by-cons open_inserts x xs)

-- a session sees fewer rows than there are ids
pub few_seen : (p : Plain) (session : ℕ) → IsPlain p → length (finmap.entries (seen p session)) < 2147483649
few_seen p session h =
    let all = count-seen p.journal (open_at p.sessions session) in
    let own = open_inserts-le p.sessions session in
    let load = h.load in
    let last = h.last in
    omega (arith, all, own, load, last)

-- ---- what was worked out is what is seen

pub seen_rows : (j : Journal) (t : OpenTransaction) (rows : List (ℕ × Stored)) (known : Known) → IsKnown known (state_at j t.snapshot) → rows ≡ listed_all known.rows.items t.ops → rows ≡ finmap.entries (seen_by j (Some t))
seen_rows j t rows known k r = r ∙ ap (λ x. listed_all x t.ops) k.rows ∙ sym (entries-with_ops (state_at j t.snapshot).rows t.ops)

pub sight_is : (p : Plain) (session : ℕ) (now sight : Known) (o : Option OpenTransaction) → IsPlain p → open_at p.sessions session ≡ o → IsKnown now (current p.journal) → now.commits ≤ journal_len p.journal
    → now.merges ≤ journal_len p.journal → sight.tables.items ≡ now.tables.items → sight.commits ≡ now.commits → sight.merges ≡ now.merges → sight.rows.items ≡ finmap.entries (seen_by p.journal o) → IsSight sight p session
sight_is p session now sight o plain own k n m t c d r =
    let rows : sight.rows.items ≡ finmap.entries (seen p session) = r ∙ ap (λ o. finmap.entries (seen_by p.journal o)) (sym own) in
    record {
      tables = t ∙ k.tables;
      rows = rows;
      commits = c ∙ k.commits;
      merges = d ∙ k.merges;
      few = let few = few_seen p session plain in omega (arith, few, ap length rows);
      counted = let short = plain.short in omega (arith, short, n, c);
      merged = let short = plain.short in omega (arith, short, m, d);
    }
