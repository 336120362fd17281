use Rattle.std.proofs.Common.{◌≡◌, ◌*◌, ◌-◌, ◌++◌, ℕ, ap, ◌∙◌, arith, take}
use Rattle.ut_bits.proofs.BitLemmas.{packed_bytes-fields}
use Rattle.ut_bits.specs.Bits.{byte_count}
use Rattle.ut_bits.proofs.bit_list.BitList.bytes_of.Goals as goal

pub returns-clause-ok : goal.returns-clause-ok
returns-clause-ok c =
    rw (← c.self.view_is, packed_bytes-fields c.self.inside.width c.self.inside.len c.self.inside.bytes.items c.self.invariant.4 (omega (arith, c.self.invariant.2)) c.self.invariant.3)
    (c.in_ok-extend_from_slice.ensures.items ∙ ap (λ l. c.args.out.now.items ++ l) (let n : c.len.result - 8 ≡ byte_count (c.self.inside.len * c.self.inside.width) = omega (arith, c.self.invariant.2) in ap (λ (k : ℕ). take k c.deref.result.now) n ∙ ap (λ l. take (byte_count (c.self.inside.len * c.self.inside.width)) l) c.deref.ensures.value))
