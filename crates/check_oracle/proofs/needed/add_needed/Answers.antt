use Rattle.std.proofs.Common.{◌≡◌, ◌++◌, [], arith}
use Rattle.std.proofs.lemmas.Grind.{common_steps}
use Rattle.check_rows.specs.Listed.{listed_all}
use Rattle.check_oracle.specs.Store.{plain_of}
use Rattle.check_oracle.proofs.NeededLemmas.{ids_of, needed-more}
use Rattle.check_oracle.proofs.needed.add_needed.Goals as goal

pub returns : goal.returns
returns c =
    let own : c.apply_all.new.rows.items ≡ listed_all [] c.args.own.now.ops = grind (arith, common_steps) in
    let added : c.add_ids-2.new.ids.items ≡ (c.args.ids.now.items ++ ids_of c.in_ok-then.then.rows.items) ++ ids_of c.apply_all.new.rows.items = grind (arith, common_steps) in
    needed-more (plain_of c.args.held.now).journal c.args.own.now c.args.ids.now.items c.add_ids-2.new.ids.items c.in_ok-then.then.rows.items c.apply_all.new.rows.items c.in_ok-then.ensures.rows own added
