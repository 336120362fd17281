-- A part of what a running store has written can be opened.
use Rattle.std.proofs.Common.{◌≡◌, ℕ, zero, suc, ◌+◌, ◌-◌, ◌<◌, ◌≤◌, Bool, true, false, ◌&&◌, cond, List, [], ◌∷◌, length, take, drop, refl, ◌∙◌, ap, arith, IsTrue}
use Rattle.std.specs.Cmp.{nat_cmp_total}
use Rattle.std.specs.List.{sum_by}
use Rattle.std.specs.FinMap as finmap
use Rattle.std.proofs.lemmas.List.{length-drop}
use Rattle.std.proofs.lemmas.List.Sums.{sum_by-cons, sum_by-take-le, sum_by-take-drop}
use Rattle.ut_value.specs.declared.entry.Op.{Op}
use Rattle.ut_value.specs.declared.entry.Op.TheVariants as ops
use Rattle.ut_value.specs.declared.entry.Entry.{Entry}
use Rattle.ut_value.specs.declared.entry.Entry.TheVariants as entries
use Rattle.ut_plain.specs.Rows.{Rows, with_op, with_ops, op_inserts, inserts_of}
use Rattle.ut_plain.specs.State.{State, after, can, entry_inserts}
use Rattle.ut_plain.specs.Journal.{Journal, journal_len, state_at, entries_after, after_all, can_all, prefix, since, part, load_of}
use Rattle.ut_plain.proofs.BoolLemmas.{and_left, and_right}
use Rattle.ut_plain.proofs.StateLaws.{IsState-current}
use Rattle.ut_plain.proofs.JournalLaws.{journal_len-prefix, length-current}
use Rattle.ut_plain.specs.Laws.{PartMayOpen}

both : (a b : Bool) → IsTrue a → IsTrue b → IsTrue (a && b)
both true b h k = k
both false b h k = h

can_take : (s : State) (es : List Entry) (n : ℕ) → IsTrue (can_all s es) → IsTrue (can_all s (take n es))
can_take s es zero h = refl
can_take s [] (suc n) h = h
can_take s (e ∷ es) (suc n) h = both (can s e) (can_all (after s e) (take n es)) (and_left (can s e) _ h) (can_take (after s e) es n (and_right (can s e) _ h))

can_drop : (s : State) (es : List Entry) (n : ℕ) → IsTrue (can_all s es) → IsTrue (can_all (after_all s (take n es)) (drop n es))
can_drop s es zero h = h
can_drop s [] (suc n) h = h
can_drop s (e ∷ es) (suc n) h = can_drop (after s e) es n (and_right (can s e) _ h)

-- ---- how many rows there are

at_most : (n m : ℕ) (b : Bool) → m ≡ cond b n (n + 1) → m ≤ n + 1
at_most n m true is = omega (arith, is)
at_most n m false is = omega (arith, is)

no_more : (n m : ℕ) (b : Bool) → m ≡ cond b (n - 1) n → m ≤ n
no_more n m true is = omega (arith, is)
no_more n m false is = omega (arith, is)

len_with_op : (rows : Rows) (op : Op) → finmap.len (with_op rows op) ≤ finmap.len rows + op_inserts op
len_with_op rows (ops.Insert table id values) = at_most (finmap.len rows) _ (finmap.contains_key rows id) (finmap.len-insert nat_cmp_total rows id (record { table = table; values = values }))
len_with_op rows (ops.Delete table id) = let few = no_more (finmap.len rows) _ (finmap.contains_key rows id) (finmap.len-remove nat_cmp_total rows id) in omega (arith, few)

len_with_ops : (rows : Rows) (os : List Op) → finmap.len (with_ops rows os) ≤ finmap.len rows + inserts_of os
len_with_ops rows [] = omega arith
len_with_ops rows (op ∷ os) = let one = len_with_op rows op in let rest = len_with_ops (with_op rows op) os in omega (arith, one, rest, sum_by-cons op_inserts op os)

len_after : (s : State) (e : Entry) → finmap.len (after s e).rows ≤ finmap.len s.rows + entry_inserts e
len_after s (entries.Create name columns) = omega arith
len_after s (entries.Txn os) = len_with_ops s.rows os
len_after s (entries.Begun n table kind) = omega arith
len_after s (entries.Ended n) = omega arith

len_after_all : (s : State) (es : List Entry) → finmap.len (after_all s es).rows ≤ finmap.len s.rows + sum_by entry_inserts es
len_after_all s [] = omega arith
len_after_all s (e ∷ es) = let one = len_after s e in let rest = len_after_all (after s e) es in omega (arith, one, rest, sum_by-cons entry_inserts e es)

-- the load of a part
load_part : (j : Journal) (b n : ℕ) → load_of (part j b n) ≤ load_of j
load_part j b n =
    let k : ℕ = b - j.base.length in
    let rows = len_after_all j.base (take k j.entries) in
    let few = sum_by-take-le entry_inserts (entries_after j b) (n - (state_at j b).length) in
    let all = sum_by-take-drop entry_inserts j.entries k in
    omega (arith, rows, few, all)

-- ---- how long a part is

pub state_at-length : (j : Journal) (n : ℕ) → j.base.length ≤ n → n ≤ journal_len j → (state_at j n).length ≡ n
state_at-length j n begins within = length-current (prefix j n) ∙ journal_len-prefix j n begins within

pub since-length : (j : Journal) (n : ℕ) → j.base.length ≤ n → n ≤ journal_len j → journal_len (since j n) ≡ journal_len j
since-length j n begins within = omega (arith, state_at-length j n begins within, length-drop (n - j.base.length) j.entries, begins, within)

pub may_open_part : PartMayOpen
may_open_part p d b n is begins within no_more captured tables places =
    let j : Journal = p.journal in
    let le : b ≤ journal_len j = omega (arith, within, no_more) in
    let k : ℕ = b - j.base.length in
    let long : journal_len (part j b n) ≡ n = journal_len-prefix (since j b) n (omega (arith, state_at-length j b begins le, within)) (omega (arith, since-length j b begins le, no_more)) in
    let short : journal_len j ≤ 1073741824 = is.short in
    let load : load_of j + _ < p.next_id = is.load in
    let last : p.next_id ≤ 2147483649 = is.last in
    record {
      base = IsState-current (prefix j b) is.base (can_take j.base j.entries k is.journal);
      journal = can_take (state_at j b) (entries_after j b) (n - (state_at j b).length) (can_drop j.base j.entries k is.journal);
      short = omega (arith, long, no_more, short);
      load = omega (arith, load_part j b n, load, last);
      staged = captured.staged ∙ ap length tables;
      places = places;
      mains = captured.mains;
      rest = captured.rest;
    }
