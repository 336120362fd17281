use Rattle.std.proofs.Common.{◌++◌, ◌∙◌, ap}
use Rattle.ut_bits.proofs.WordLemmas.{to_le_bytes-word}
use Rattle.ut_bits.proofs.words.append_word.Goals as goal

pub returns-clause-ok : goal.returns-clause-ok
returns-clause-ok c = c.in_ok-extend_from_slice.ensures.items ∙ ap (λ l. c.args.out.now.items ++ l) (c.to_le_bytes.ensures ∙ to_le_bytes-word c.args.word)
