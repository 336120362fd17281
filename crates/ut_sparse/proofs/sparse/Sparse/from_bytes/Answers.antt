use Rattle.std.proofs.Common.{◌≡◌, ℕ, ◌-◌, ◌^◌, ◌<◌, ◌++◌, List, length, take, drop, ap, refl, sym, subst, ◌∙◌, arith}
use Rattle.std.proofs.Math.Nat.{div-eq_of_lt}
use Rattle.std.proofs.lemmas.List.{length-drop}
use Rattle.std.proofs.lemmas.Nat.{pow_pos}
use Rattle.ut_bits.specs.Bits.{AllBelow, packed_bytes}
use Rattle.ut_bits.specs.Words.{word_bytes}
use Rattle.ut_bits.proofs.BitLemmas.{AllBelow-from_places, take-rest, div-zero}
use Rattle.ut_bits.proofs.WordLemmas.{word_bytes-word_in}
use Rattle.ut_sparse.specs.Frequent.{most_frequent}
use Rattle.ut_sparse.specs.Sparse.{marks_of, others_of, merged, marked}
use Rattle.ut_sparse.proofs.SparseLemmas.{sparse-front, length-marks_of, AllBelow-marks_of, AllBelow-others_of, marked-marks_of, marked-le, length-merged, count_of-merged, sparse_bytes-merged, AllBelow-merged}
use Rattle.ut_sparse.proofs.ReadLemmas.{IsListRead, all-read, counted-as, marks-read, parts-read, sparse-by}
use Rattle.ut_sparse.proofs.sparse.Sparse.from_bytes.Goals as goal

pub returns-then-bytes-lt4-clause-none : goal.returns-then-bytes-lt4-clause-none
returns-then-bytes-lt4-clause-none c = λ codes rest rows below is.
    let front = sparse-front c.args.width codes rest c.args.bytes.now c.requires.width below is in
    omega (arith, front.0, c.if-bytes-lt4.true)

pub returns-then-from-width-ne0-clause-none : goal.returns-then-from-width-ne0-clause-none
returns-then-from-width-ne0-clause-none c = λ codes rest rows below is.
    let front = sparse-front c.args.width codes rest c.args.bytes.now c.requires.width below is in
    c.if-from-width-ne0.true (div-eq_of_lt (subst (λ (n : ℕ). n < 2 ^ c.args.width) (sym (c.from.ensures ∙ c.read_word-left_out.ensures ∙ front.1)) front.2))

pub returns-in_default-clause-none : goal.returns-in_default-clause-none
returns-in_default-clause-none c = λ codes rest rows below is.
    let front = sparse-front c.args.width codes rest c.args.bytes.now c.requires.width below is in
    let behind = take-rest 4 c.args.bytes.now in
    let none = rw c.in_default.is at c.in_ok-marks.ensures.none in
    none (marks_of (most_frequent codes) codes) (packed_bytes c.args.width (others_of (most_frequent codes) codes) ++ rest) (length-marks_of (most_frequent codes) codes ∙ rows) (AllBelow-marks_of (most_frequent codes) codes) (behind ∙ front.3)

pub ranks_of-requires-clause-width : goal.ranks_of-requires-clause-width
ranks_of-requires-clause-width c =
    (rw c.in-Some.is at c.in_ok-marks.ensures.read).width

pub ranks_of-requires-clause-bits : goal.ranks_of-requires-clause-bits
ranks_of-requires-clause-bits c =
    (rw c.in-Some.is at c.in_ok-marks.ensures.read).below

pub from_bytes-requires-2-clause-rows : goal.from_bytes-requires-2-clause-rows
from_bytes-requires-2-clause-rows c =
    let size = (rw c.in-Some.is at c.in_ok-marks.ensures.read).rows in
    let bits = (rw c.in-Some.is at c.in_ok-marks.ensures.read).below in
    omega (arith, c.marked_rows-marked.ensures, marked-le c.in-Some.marks.codes bits, size, c.requires.rows)

pub returns-in_default-2-clause-none : goal.returns-in_default-2-clause-none
returns-in_default-2-clause-none c = λ codes rest rows below is.
    let behind = take-rest 4 c.args.bytes.now in
    let size = (rw c.in-Some.is at c.in_ok-marks.ensures.read).rows in
    let bits = (rw c.in-Some.is at c.in_ok-marks.ensures.read).below in
    let within = (rw c.in-Some.is at c.in_ok-marks.ensures.read).within in
    let spelled = rw c.in-Some.is at c.in_ok-marks.ensures.spelled in
    let read = marks-read c.args.width codes rest c.args.bytes.now c.in-Some.marks.codes _ c.in-Some.marks_len c.requires.width below is behind (size ∙ sym rows) bits within spelled in
    let none = rw c.in_default-2.is at c.in_ok-others.ensures.none in
    none (others_of (most_frequent codes) codes) rest (sym (marked-marks_of (most_frequent codes) codes) ∙ ap (λ l. marked l) (sym read.0) ∙ sym c.marked_rows-marked.ensures) (AllBelow-others_of (2 ^ c.args.width) (most_frequent codes) codes below) read.1

pub merged_codes-requires-clause-few : goal.merged_codes-requires-clause-few
merged_codes-requires-clause-few c =
    let size = (rw c.in-Some.is at c.in_ok-marks.ensures.read).rows in
    omega (arith, size, c.requires.rows)

pub merged_codes-requires-clause-width : goal.merged_codes-requires-clause-width
merged_codes-requires-clause-width c = (rw c.in-Some.is at c.in_ok-marks.ensures.read).width

pub merged_codes-requires-clause-paired : goal.merged_codes-requires-clause-paired
merged_codes-requires-clause-paired c =
    let size2 = (rw c.in-Some-2.is at c.in_ok-others.ensures.read).rows in
    let count = c.marked_rows-marked.ensures in
    sym (size2 ∙ count)

pub most_frequent-requires : goal.most_frequent-requires
most_frequent-requires c =
    let size = (rw c.in-Some.is at c.in_ok-marks.ensures.read).rows in
    let listed : c.as_slice-2.result.now ≡ merged c.read_word-left_out.result c.in-Some.marks.codes c.in-Some-2.others.codes = c.as_slice-2.ensures.value ∙ c.in_ok-codes.ensures in
    record { count = omega (arith, ap (λ l. length l) listed, length-merged c.read_word-left_out.result c.in-Some.marks.codes c.in-Some-2.others.codes, size, c.requires.rows) }

pub returns-then-top-left_out-clause-none : goal.returns-then-top-left_out-clause-none
returns-then-top-left_out-clause-none c = λ codes rest rows below is.
    let marks : IsListRead 1 c.args.rows c.in-Some.marks_len _ c.in-Some.marks.codes = record { rows = (rw c.in-Some.is at c.in_ok-marks.ensures.read).rows; below = (rw c.in-Some.is at c.in_ok-marks.ensures.read).below; within = (rw c.in-Some.is at c.in_ok-marks.ensures.read).within; spelled = rw c.in-Some.is at c.in_ok-marks.ensures.spelled } in
    let others : IsListRead c.args.width (marked c.in-Some.marks.codes) c.in-Some-2.others_len _ c.in-Some-2.others.codes = record { rows = (rw c.in-Some-2.is at c.in_ok-others.ensures.read).rows ∙ c.marked_rows-marked.ensures; below = (rw c.in-Some-2.is at c.in_ok-others.ensures.read).below; within = (rw c.in-Some-2.is at c.in_ok-others.ensures.read).within; spelled = rw c.in-Some-2.is at c.in_ok-others.ensures.spelled } in
    let read = all-read c.args.width c.read_word-left_out.result codes rest c.args.bytes.now c.in-Some.marks.codes c.in-Some-2.others.codes _ _ c.args.rows c.in-Some.marks_len c.in-Some-2.others_len c.requires.width below is rows c.read_word-left_out.ensures (take-rest 4 c.args.bytes.now) refl marks others in
    c.if-top-left_out.true (c.in_ok-top.ensures.code ∙ ap (λ l. most_frequent l) (c.as_slice-2.ensures.value ∙ c.in_ok-codes.ensures ∙ read.whole) ∙ sym read.word)

pub overflow_sub-rows : goal.overflow_sub-rows
overflow_sub-rows c =
    let size = (rw c.in-Some.is at c.in_ok-marks.ensures.read).rows in
    let bits = (rw c.in-Some.is at c.in_ok-marks.ensures.read).below in
    omega (arith, c.marked_rows-marked.ensures, marked-le c.in-Some.marks.codes bits, size)

pub returns-then-top-rows-clause-none : goal.returns-then-top-rows-clause-none
returns-then-top-rows-clause-none c = λ codes rest rows below is.
    let marks : IsListRead 1 c.args.rows c.in-Some.marks_len _ c.in-Some.marks.codes = record { rows = (rw c.in-Some.is at c.in_ok-marks.ensures.read).rows; below = (rw c.in-Some.is at c.in_ok-marks.ensures.read).below; within = (rw c.in-Some.is at c.in_ok-marks.ensures.read).within; spelled = rw c.in-Some.is at c.in_ok-marks.ensures.spelled } in
    let others : IsListRead c.args.width (marked c.in-Some.marks.codes) c.in-Some-2.others_len _ c.in-Some-2.others.codes = record { rows = (rw c.in-Some-2.is at c.in_ok-others.ensures.read).rows ∙ c.marked_rows-marked.ensures; below = (rw c.in-Some-2.is at c.in_ok-others.ensures.read).below; within = (rw c.in-Some-2.is at c.in_ok-others.ensures.read).within; spelled = rw c.in-Some-2.is at c.in_ok-others.ensures.spelled } in
    let read = all-read c.args.width c.read_word-left_out.result codes rest c.args.bytes.now c.in-Some.marks.codes c.in-Some-2.others.codes _ _ c.args.rows c.in-Some.marks_len c.in-Some-2.others_len c.requires.width below is rows c.read_word-left_out.ensures (take-rest 4 c.args.bytes.now) refl marks others in
    let left = c.read_word-left_out.result in
    let all = count_of-merged left c.in-Some.marks.codes c.in-Some-2.others.codes marks.below (sym others.rows) in
    let top = counted-as left c.in_ok-top.top.code c.in_ok-top.top.count (merged left c.in-Some.marks.codes c.in-Some-2.others.codes) c.as_slice-2.result.now (c.as_slice-2.ensures.value ∙ c.in_ok-codes.ensures) c.if-top-left_out.false c.in_ok-top.ensures.count in
    c.if-top-rows.true (omega (arith, all, read.none, top, marks.rows, c.marked_rows-marked.ensures))

pub invariant_of-sparse : goal.invariant_of-sparse
invariant_of-sparse c =
    let size = (rw c.in-Some.is at c.in_ok-marks.ensures.read).rows in
    let bits = (rw c.in-Some.is at c.in_ok-marks.ensures.read).below in
    let paired = sym ((rw c.in-Some-2.is at c.in_ok-others.ensures.read).rows ∙ c.marked_rows-marked.ensures) in
    let left = c.read_word-left_out.result in
    let sparse = sparse-by left c.in_ok-top.top.code c.in_ok-top.top.count c.args.rows c.in-Some.marks.codes c.in-Some-2.others.codes c.as_slice-2.result.now (c.as_slice-2.ensures.value ∙ c.in_ok-codes.ensures) bits paired size c.if-top-left_out.false c.in_ok-top.ensures.count c.in_ok-top.ensures.most (omega (arith, c.if-top-rows.false, c.marked_rows-marked.ensures)) in
    ((rw c.in-Some.is at c.in_ok-marks.ensures.read).width, omega (arith, size, c.requires.rows), sparse.0, c.in_ok-ranks.ensures, sparse.1)

pub returns-clause-read : goal.returns-clause-read
returns-clause-read c =
    let marks = rw c.in-Some.is at c.in_ok-marks.ensures.read in
    let others = rw c.in-Some-2.is at c.in_ok-others.ensures.read in
    let count = c.marked_rows-marked.ensures in
    let small : c.read_word-left_out.result < 2 ^ c.args.width = subst (λ (n : ℕ). n < 2 ^ c.args.width) c.from.ensures (div-zero c.from.result (2 ^ c.args.width) (pow_pos c.args.width) c.if-from-width-ne0.false) in
    let behind = take-rest 4 c.args.bytes.now in
    let behind2 = take-rest c.in-Some.marks_len (take (length c.args.bytes.now - 4) (drop 4 c.args.bytes.now)) in
    let size = ap (λ (l : List ℕ). length l) behind in
    let size2 = ap (λ (l : List ℕ). length l) behind2 in
    record {
      within = omega (arith, marks.within, others.within, size, size2, length-drop 4 c.args.bytes.now, length-drop c.in-Some.marks_len (take (length c.args.bytes.now - 4) (drop 4 c.args.bytes.now)), c.if-bytes-lt4.false);
      width = others.width;
      rows = length-merged c.read_word-left_out.result c.in-Some.marks.codes _ ∙ marks.rows;
      below = AllBelow-merged (2 ^ c.args.width) c.read_word-left_out.result c.in-Some.marks.codes c.in-Some-2.others.codes marks.below (sym (others.rows ∙ count)) small others.below;
    }

pub returns-clause-spelled : goal.returns-clause-spelled
returns-clause-spelled c =
    let behind = take-rest 4 c.args.bytes.now in
    let size = (rw c.in-Some.is at c.in_ok-marks.ensures.read).rows in
    let bits = (rw c.in-Some.is at c.in_ok-marks.ensures.read).below in
    let paired = sym ((rw c.in-Some-2.is at c.in_ok-others.ensures.read).rows ∙ c.marked_rows-marked.ensures) in
    let left = c.read_word-left_out.result in
    let sparse = sparse-by left c.in_ok-top.top.code c.in_ok-top.top.count c.args.rows c.in-Some.marks.codes c.in-Some-2.others.codes c.as_slice-2.result.now (c.as_slice-2.ensures.value ∙ c.in_ok-codes.ensures) bits paired size c.if-top-left_out.false c.in_ok-top.ensures.count c.in_ok-top.ensures.most (omega (arith, c.if-top-rows.false, c.marked_rows-marked.ensures)) in
    let spelled = rw c.in-Some.is at c.in_ok-marks.ensures.spelled in
    let spelled2 = rw c.in-Some-2.is at c.in_ok-others.ensures.spelled in
    let bytes : AllBelow 256 c.args.bytes.now = AllBelow-from_places 256 c.args.bytes.now (λ i. omega (arith, c.type_inv.bytes i)) in
    let behind2 = take-rest c.in-Some.marks_len (take (length c.args.bytes.now - 4) (drop 4 c.args.bytes.now)) in
    parts-read c.in-Some.marks_len c.in-Some-2.others_len c.args.bytes.now (word_bytes left) (packed_bytes 1 c.in-Some.marks.codes) (packed_bytes c.args.width c.in-Some-2.others.codes)
    (sym (word_bytes-word_in c.args.bytes.now bytes (omega (arith, c.if-bytes-lt4.false))) ∙ ap (λ (n : ℕ). word_bytes n) (sym c.read_word-left_out.ensures))
    (ap (λ (l : List ℕ). take c.in-Some.marks_len l) (sym behind) ∙ spelled)
    (ap (λ (l : List ℕ). take c.in-Some-2.others_len (drop c.in-Some.marks_len l)) (sym behind) ∙ ap (λ (l : List ℕ). take c.in-Some-2.others_len l) (sym behind2) ∙ spelled2)
    ∙ sparse_bytes-merged c.args.width left c.in-Some.marks.codes c.in-Some-2.others.codes sparse.0 sparse.1
