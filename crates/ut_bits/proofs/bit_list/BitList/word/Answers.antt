use Rattle.std.proofs.Common.{◌≡◌, ℕ, ◌*◌, ◌/◌, ◌%◌, ◌^◌, ◌≤◌, length, arith, ap, sym, subst, ◌∙◌}
use Rattle.ut_bits.specs.Bits.{number_of, fields}
use Rattle.ut_bits.proofs.BitLemmas.{length-fields, joined-fields}
use Rattle.ut_bits.proofs.bit_list.BitList.word.Goals as goal

pub word_at-requires : goal.word_at-requires
word_at-requires c =
    let seen : 64 * c.args.k ≤ length (fields c.self.inside.width c.self.inside.len (number_of c.self.inside.bytes.items)) * c.self.inside.width =
    subst (λ v. 64 * c.args.k ≤ length v.codes * v.width) (sym c.self.view_is) c.requires in
    let within : 64 * c.args.k ≤ c.self.inside.len * c.self.inside.width =
    subst (λ (n : ℕ). 64 * c.args.k ≤ n * c.self.inside.width) (length-fields c.self.inside.width c.self.inside.len (number_of c.self.inside.bytes.items)) seen in
    omega (arith, c.self.invariant.2, c.as_slice.ensures.len, within)

pub returns : goal.returns
returns c =
    let place : 8 * (8 * c.args.k) ≡ 64 * c.args.k = omega arith in
    rw (← c.self.view_is, joined-fields c.self.inside.width c.self.inside.len (number_of c.self.inside.bytes.items) c.self.invariant.3)
    (c.word_at.ensures ∙ ap (λ l. number_of l / 2 ^ (8 * (8 * c.args.k)) % 2 ^ 64) c.as_slice.ensures.value ∙ ap (λ (k : ℕ). number_of c.self.inside.bytes.items / 2 ^ k % 2 ^ 64) place)
