use Rattle.std.proofs.Common.{length, sym, ap, ◌∙◌, arith}
use Rattle.ut_key.proofs.ArenaLemmas.{length-keys_from}
use Rattle.ut_key.proofs.key_list.KeyList.key.Goals as goal

pub part-requires-clause-index : goal.part-requires-clause-index
part-requires-clause-index c =
    let size = ap (λ l. length l) (sym c.self.view_is) ∙ length-keys_from 0 c.self.inside.ends.items c.self.inside.bytes.items in
    rw c.as_slice-2.ensures.value (omega (arith, size, c.requires))
