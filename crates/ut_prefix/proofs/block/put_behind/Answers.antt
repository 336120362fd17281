use Rattle.std.proofs.Common.{◌∙◌, ◌+◌, List, ℕ, take, ap}
use Rattle.std.proofs.lemmas.List.{append-nil}
use Rattle.ut_prefix.proofs.BlockLemmas.{take-behind}
use Rattle.ut_prefix.proofs.block.put_behind.Goals as goal

pub returns-then-shared : goal.returns-then-shared
returns-then-shared c =
    let shared = c.args.shared in
    let count = c.args.count in
    c.splice-then-shared.ensures ∙ append-nil (take (shared + count) c.splice.new.self) ∙ ap (λ (l : List ℕ). take (shared + count) l) c.splice.ensures
    ∙ take-behind shared count 8 c.args.key.now c.args.bytes.now c.requires.shared c.if-count-le-AT_ONCE.true
