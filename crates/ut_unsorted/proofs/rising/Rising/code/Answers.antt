use Rattle.std.proofs.Common.{◌∙◌, ap, position}
use Rattle.ut_unsorted.specs.FirstSeen.{key_eq}
use Rattle.ut_unsorted.proofs.RisingLemmas.{words-other}
use Rattle.ut_unsorted.proofs.rising.Rising.code.Goals as goal

pub returns-then-key-ne8 : goal.returns-then-key-ne8
returns-then-key-ne8 c = words-other c.self.inside.words.items c.args.key.now c.self.invariant.1 c.if-key-ne8.true ∙ ap (position (key_eq c.args.key.now)) c.self.view_is
