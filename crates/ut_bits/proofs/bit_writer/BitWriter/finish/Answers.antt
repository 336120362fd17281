use Rattle.std.proofs.Common.{◌≡◌, ◌+◌, ◌/◌, ◌++◌, arith, ap, sym, ◌∙◌, take}
use Rattle.ut_bits.specs.Bits.{bytes_of}
use Rattle.ut_bits.proofs.BitLemmas.{bytes_of-writer, take-to_le_bytes_8}
use Rattle.ut_bits.proofs.bit_writer.BitWriter.finish.Goals as goal

pub returns : goal.returns
returns c =
    let tail : take ((c.self.inside.bits + 7) / 8) c.to_le_bytes-rest.result ≡ bytes_of ((c.self.inside.bits + 7) / 8) c.self.inside.word =
    ap (λ l. take ((c.self.inside.bits + 7) / 8) l) c.to_le_bytes-rest.ensures ∙ take-to_le_bytes_8 ((c.self.inside.bits + 7) / 8) c.self.inside.word (omega (arith, c.self.invariant.0)) in
    rw (← c.self.view_is)
    (c.in_ok-extend_from_slice.ensures.items ∙ ap (λ l. c.self.inside.bytes.items ++ l) tail
    ∙ sym (bytes_of-writer c.self.inside.bytes.items c.self.inside.bits c.self.inside.word c.self.invariant.2))
