use Rattle.std.proofs.Common.{◌<◌, sym, ◌∙◌, ap, arith, get_or, length, refl, true≢false}
use Rattle.ut_image.specs.Bytes.{marks_len}
use Rattle.ut_image.proofs.MarkLemmas.{byte-of, all_bytes}
use Rattle.ut_image.proofs.marks.are_spelled.Goals as goal

pub returns-then-byte_at-byte : goal.returns-then-byte_at-byte
returns-then-byte_at-byte c =
    let within : c.loop-k.k < marks_len (length c.args.marks.now) = omega (arith, c.loop-k-test.true, c.requires) in (
      λ is. absurd (true≢false (sym is)),
      λ same. absurd (c.if-byte_at-byte.true (c.byte_at.ensures ∙ sym (byte-of c.args.marks.now c.loop-k.k within) ∙ sym (ap (λ bytes. get_or bytes c.loop-k.k 0) same))),
    )

pub returns : goal.returns
returns c =
    (λ is. all_bytes c.args.marks.now c.args.bytes.now c.requires (λ k h. c.loop-k.invariant k (omega (arith, h))), λ same. refl)
