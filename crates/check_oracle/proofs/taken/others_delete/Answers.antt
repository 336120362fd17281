use Rattle.std.proofs.Common.{◌≡◌, ◌+◌, take, drop, arith}
use Rattle.std.proofs.lemmas.Grind.{common_steps}
use Rattle.std.specs.List.{list_any}
use Rattle.ut_plain.specs.Plain.{open_deletes}
use Rattle.check_oracle.proofs.TakenLemmas.{before_deletes, none_before}
use Rattle.check_oracle.proofs.taken.others_delete.Goals as goal

pub returns-then-before : goal.returns-then-before
returns-then-before c =
    let before : c.any_deletes-before.result ≡ list_any (open_deletes c.args.id) (take c.args.session c.args.sessions.now) = grind (arith, common_steps, c.any_deletes-before.ensures) in
    let behind : c.any_deletes-behind.result ≡ list_any (open_deletes c.args.id) (drop (c.args.session + 1) c.args.sessions.now) = grind (arith, common_steps, c.any_deletes-behind.ensures) in
    before_deletes c.args.id c.args.sessions.now c.args.session _ c.any_deletes-behind.result c.requires before behind c.if-before.true

pub returns-else-before : goal.returns-else-before
returns-else-before c =
    let before : c.any_deletes-before.result ≡ list_any (open_deletes c.args.id) (take c.args.session c.args.sessions.now) = grind (arith, common_steps, c.any_deletes-before.ensures) in
    let behind : c.any_deletes-behind.result ≡ list_any (open_deletes c.args.id) (drop (c.args.session + 1) c.args.sessions.now) = grind (arith, common_steps, c.any_deletes-behind.ensures) in
    none_before c.args.id c.args.sessions.now c.args.session c.any_deletes-before.result _ c.requires before behind c.if-before.false
