use Rattle.std.proofs.Common.{◌∙◌, [], length, refl}
use Rattle.std.proofs.lemmas.List.{get_or_read_under}
use Rattle.ut_unsorted.proofs.rising.number_at.Goals as goal

pub returns-clause-number : goal.returns-clause-number
returns-clause-number g c =
    c.number.ensures ∙ get_or_read_under c.args.words.now c.args.i (length c.args.words.now) c.index-words-i.result [] c.index-words-i.is c.requires refl
