use Rattle.std.proofs.Common.{ap, ◌∙◌}
use Rattle.check_rows.specs.Listed.{listed_all}
use Rattle.check_oracle.specs.Store.{plain_of}
use Rattle.check_oracle.proofs.SightLemmas.{seen_rows}
use Rattle.check_oracle.proofs.sight.seen_inside.Goals as goal

pub returns-clause-rows : goal.returns-clause-rows
returns-clause-rows c = seen_rows (plain_of c.args.held.now).journal c.args.own.now _ c.in_ok-then.then c.in_ok-then.ensures (c.in_ok-apply_all.ensures ∙ ap (listed_all c.in_ok-then.then.rows.items) c.as_slice.ensures)
