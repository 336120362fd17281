use Rattle.std.proofs.Common.{◌*◌, ◌/◌, ◌<◌, ◌≤◌, ℕ, sym, ap, subst, ◌∙◌, length, arith}
use Rattle.ut_bits.proofs.BitLemmas.{length-fields, get_or-fields, field_within}
use Rattle.ut_bits.specs.Bits.{number_of, byte_count}
use Rattle.ut_bits.proofs.bit_list.BitList.get.Goals as goal

pub field_at-requires-clause-within : goal.field_at-requires-clause-within
field_at-requires-clause-within c =
    let below : c.args.i < c.self.inside.len = subst (λ (k : ℕ). c.args.i < k) (ap (λ v. length v.codes) (sym c.self.view_is) ∙ length-fields c.self.inside.width c.self.inside.len (number_of c.self.inside.bytes.items)) c.requires in
    let within : c.from.result * c.from-2.result / 8 ≤ byte_count (c.self.inside.len * c.self.inside.width) = rw (c.from.ensures, c.from-2.ensures) (field_within c.args.i c.self.inside.len c.self.inside.width below) in
    rw c.as_slice.ensures.len (omega (arith, within, c.self.invariant.2))

pub returns : goal.returns
returns c =
    let below : c.args.i < c.self.inside.len = subst (λ (k : ℕ). c.args.i < k) (ap (λ v. length v.codes) (sym c.self.view_is) ∙ length-fields c.self.inside.width c.self.inside.len (number_of c.self.inside.bytes.items)) c.requires in
    rw (← c.self.view_is, get_or-fields c.self.inside.width c.self.inside.len (number_of c.self.inside.bytes.items) c.args.i below)
    (c.field_at.ensures ∙ cc)
