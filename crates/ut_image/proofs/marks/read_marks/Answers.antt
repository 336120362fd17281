use Rattle.std.proofs.Common.{◌≡◌, ◌++◌, ◌∙◌, Bool, List, length, sym, ap, subst, arith, true≢false}
use Rattle.ut_image.specs.Bytes.{mark_bytes, marks_len}
use Rattle.ut_image.proofs.MarkLemmas.{AreFrom, marks_count, marks_read, no_marks, other_marks, parted}
use Rattle.ut_image.proofs.marks.read_marks.Goals as goal

pub returns-then-bytes-len-clause-none : goal.returns-then-bytes-len-clause-none
returns-then-bytes-len-clause-none c = no_marks c.args.count c.args.bytes.now (omega (arith, c.if-bytes-len.true, c.marks_len-len.ensures))

pub are_spelled-requires : goal.are_spelled-requires
are_spelled-requires c =
    let h : AreFrom c.args.count c.args.bytes.now c.split_at.result.0.now c.split_at.result.1.now c.deref.result.now = record {
      parts = parted c.marks_len-len.result c.args.bytes.now c.split_at.result.0.now c.split_at.result.1.now c.split_at.ensures.front c.split_at.ensures.back;
      long = c.split_at.ensures.front_len ∙ c.marks_len-len.ensures;
      is = c.deref.ensures.value ∙ c.in_ok-marks.ensures;
    } in
    h.long ∙ ap marks_len (sym (marks_count c.args.count c.args.bytes.now c.split_at.result.0.now c.split_at.result.1.now c.deref.result.now h))

pub returns-then-not-are_spelled-clause-none : goal.returns-then-not-are_spelled-clause-none
returns-then-not-are_spelled-clause-none c =
    let h : AreFrom c.args.count c.args.bytes.now c.split_at.result.0.now c.split_at.result.1.now c.deref.result.now = record {
      parts = parted c.marks_len-len.result c.args.bytes.now c.split_at.result.0.now c.split_at.result.1.now c.split_at.ensures.front c.split_at.ensures.back;
      long = c.split_at.ensures.front_len ∙ c.marks_len-len.ensures;
      is = c.deref.ensures.value ∙ c.in_ok-marks.ensures;
    } in
    other_marks c.args.count c.args.bytes.now c.split_at.result.0.now c.split_at.result.1.now c.deref.result.now h (λ same. true≢false (sym (c.are_spelled.ensures.1 same) ∙ c.if-not-are_spelled.true))

pub returns-clause-found : goal.returns-clause-found
returns-clause-found c =
    let h : AreFrom c.args.count c.args.bytes.now c.split_at.result.0.now c.split_at.result.1.now c.deref.result.now = record {
      parts = parted c.marks_len-len.result c.args.bytes.now c.split_at.result.0.now c.split_at.result.1.now c.split_at.ensures.front c.split_at.ensures.back;
      long = c.split_at.ensures.front_len ∙ c.marks_len-len.ensures;
      is = c.deref.ensures.value ∙ c.in_ok-marks.ensures;
    } in
    let read = marks_read c.args.count c.args.bytes.now c.split_at.result.0.now c.split_at.result.1.now c.deref.result.now h (c.are_spelled.ensures.0 c.if-not-are_spelled.false) in
    let same = c.deref.ensures.value ∙ sym c.from_vec.ensures in
    subst (λ (marks : List Bool). (length marks ≡ c.args.count) × (c.args.bytes.now ≡ mark_bytes marks ++ c.split_at.result.1.now)) same read
