use Rattle.std.proofs.Common.{sym, ap, ◌∙◌, length, subst}
use Rattle.ut_key.specs.Keys.{AreShort}
use Rattle.ut_key.proofs.ArenaLemmas.{length-keys_from, AreShort-keys_from}
use Rattle.ut_key.proofs.key_list.KeyList.len.Goals as goal

pub returns-clause-len : goal.returns-clause-len
returns-clause-len c = ap (λ l. length l) c.as_slice.ensures.value ∙ sym (length-keys_from 0 c.self.inside.ends.items c.self.inside.bytes.items) ∙ ap (λ l. length l) c.self.view_is

pub returns-clause-short : goal.returns-clause-short
returns-clause-short c = subst (λ l. AreShort l) c.self.view_is (AreShort-keys_from 0 c.self.inside.ends.items c.self.inside.bytes.items c.self.invariant)
