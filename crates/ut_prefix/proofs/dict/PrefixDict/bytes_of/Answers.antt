use Rattle.std.proofs.Common.{◌+◌, ◌/◌, length, ◌∙◌, sym, ap}
use Rattle.ut_prefix.specs.Spelling.{blocks_bytes}
use Rattle.ut_prefix.proofs.LayoutLemmas.{length-keys_of}
use Rattle.ut_prefix.proofs.SpellingLemmas.{dict_bytes-written}
use Rattle.ut_prefix.proofs.dict.PrefixDict.bytes_of.Goals as goal

pub returns-in-Ok-clause-ok : goal.returns-in-Ok-clause-ok
returns-in-Ok-clause-ok c =
    dict_bytes-written c.args.self.now c.self.inside.len c.args.out.now.items c.to_le_bytes.result c.as_slice.result.now _ _ c.to_le_bytes.ensures c.in_ok-extend_from_slice.ensures.items c.in-Ok.ensures.items
    (sym (length-keys_of c.self.inside.starts.items c.self.inside.len c.self.inside.bytes.items c.self.invariant.laid.count) ∙ ap (λ l. length l) c.self.view_is)
    (c.as_slice.ensures.value ∙ c.self.invariant.laid.spelled ∙ ap (λ l. blocks_bytes ((c.self.inside.len + 15) / 16) l) c.self.view_is)
