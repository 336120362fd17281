use Rattle.std.proofs.Common.{◌++◌, ◌∙◌, ◌*◌, ◌%◌, ◌^◌, ap, arith, bit_or, ℕ}
use Rattle.std.specs.Int.{to_le_bytes, w64}
use Rattle.ut_bits.proofs.WordLemmas.{to_le_bytes-words}
use Rattle.ut_bits.proofs.words.append_words.Goals as goal

pub returns-clause-ok : goal.returns-clause-ok
returns-clause-ok c =
    let low = c.from-2.ensures in
    let high = c.from.ensures in
    c.in_ok-extend_from_slice.ensures.items
    ∙ ap (λ l. c.args.out.now.items ++ l) (c.to_le_bytes.ensures ∙ ap (λ (x : ℕ). to_le_bytes w64 (bit_or (x * 2 ^ 32 % 2 ^ 64) c.from-2.result)) high ∙ ap (λ (x : ℕ). to_le_bytes w64 (bit_or (c.args.second * 2 ^ 32 % 2 ^ 64) x)) low ∙ to_le_bytes-words c.args.first c.args.second (omega arith) (omega arith))
