use Rattle.std.proofs.Common.{◌-◌, ◌∷◌, [], ℕ, ap, ◌∙◌, arith}
use Rattle.std.specs.Int.{from_bool}
use Rattle.ut_bits.specs.Places.{is_in}
use Rattle.ut_packed.proofs.WordLemmas.{answer-one, answers-more, answers-room, answers-none}
use Rattle.ut_packed.proofs.masks.bits_in_either.Goals as goal

pub loop-at-init : goal.loop-at-init
loop-at-init c = answers-none (is_in (c.args.low ∷ c.args.high ∷ [])) c.args.start c.args.end c.args.list.now.codes c.requires.order

pub loop-at-preserved : goal.loop-at-preserved
loop-at-preserved c =
    answers-more (is_in (c.args.low ∷ c.args.high ∷ [])) c.args.start c.loop-at.at c.args.end c.loop-at.bits c.from.result c.args.list.now.codes (omega arith) c.loop-at.invariant c.requires.within
    (c.from.ensures ∙ ap from_bool (c.is_in_either.ensures ∙ ap (λ (n : ℕ). is_in (c.args.low ∷ c.args.high ∷ []) n) c.get.ensures))

pub overflow_add-bits : goal.overflow_add-bits
overflow_add-bits c = omega (arith, answers-room (is_in (c.args.low ∷ c.args.high ∷ [])) c.loop-at.at c.args.end c.loop-at.bits c.args.list.now.codes (omega (arith, c.requires.few)) c.loop-at.invariant.bits)

pub overflow_add-bits-in-loop-at : goal.overflow_add-bits-in-loop-at
overflow_add-bits-in-loop-at c =
    omega (arith, answers-room (is_in (c.args.low ∷ c.args.high ∷ [])) c.loop-at.at c.args.end c.loop-at.bits c.args.list.now.codes (omega (arith, c.requires.few)) c.loop-at.invariant.bits, answer-one c.is_in_either.result c.from.result c.from.ensures)
