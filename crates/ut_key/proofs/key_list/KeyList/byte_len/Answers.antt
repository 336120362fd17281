use Rattle.std.proofs.Common.{◌≡◌, ◌-◌, sym, ap, ◌∙◌, length, sum_by, arith}
use Rattle.ut_key.proofs.ArenaLemmas.{bytes-keys_from}
use Rattle.ut_key.proofs.key_list.KeyList.byte_len.Goals as goal

pub returns : goal.returns
returns c =
    let all = bytes-keys_from 0 c.self.inside.ends.items c.self.inside.bytes.items c.self.invariant in
    let size : length c.self.inside.bytes.items - 0 ≡ length c.self.inside.bytes.items = omega arith in
    ap (λ l. length l) c.as_slice.ensures.value ∙ sym (all ∙ size) ∙ ap (λ l. sum_by (λ key. length key) l) c.self.view_is
