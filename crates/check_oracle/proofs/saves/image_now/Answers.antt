use Rattle.std.proofs.Common.{◌≡◌, ap, length, arith}
use Rattle.std.proofs.lemmas.Grind.{common_steps}
use Rattle.ut_plain.specs.Journal.{current}
use Rattle.check_stages.specs.There.{AreThere}
use Rattle.check_oracle.specs.Store.{plain_of}
use Rattle.check_oracle.proofs.SightLemmas.{base_len, known_now}
use Rattle.check_oracle.proofs.NeededLemmas.{ids_of, there_now}
use Rattle.check_oracle.proofs.SaveLemmas.{image_is}
use Rattle.check_oracle.proofs.saves.image_now.Goals as goal

pub state_after-requires : goal.state_after-requires
state_after-requires c = let short = c.requires.short in omega (arith, short, base_len c.args.held.now.first.items, ap length c.as_slice.ensures.value, ap length c.as_slice-2.ensures.value)

pub returns-clause-image : goal.returns-clause-image
returns-clause-image c =
    let s = current (plain_of c.args.held.now).journal in
    let known = known_now c.args.held.now.first.items c.args.held.now.entries.items _ _ c.in_ok-now.now c.as_slice.ensures.value c.as_slice-2.ensures.value c.in_ok-now.ensures.state in
    let added : c.as_slice-4.result.now ≡ ids_of c.in_ok-now.now.rows.items = grind (arith, common_steps) in
    let there : AreThere c.as_slice-4.result.now s.rows = there_now s c.in_ok-now.now.rows.items c.as_slice-4.result.now known.rows added in
    image_is s c.in_ok-now.now.tables.items _ _ _ c.args.held.now.stages.items known.tables c.from_vec.ensures c.as_slice-5.ensures.value (c.in_ok-stages.ensures s there)
