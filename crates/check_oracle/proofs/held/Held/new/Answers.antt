use Rattle.std.proofs.Common.{[]}
use Rattle.check_oracle.proofs.SightLemmas.{plain_new}
use Rattle.check_oracle.proofs.held.Held.new.Goals as goal

pub returns : goal.returns
returns c = plain_new _ _ _ c.args.rows_limit 0 (record { tables = []; stages = [] }) _ c.new.ensures.items c.new-2.ensures.items c.in_ok-sessions.ensures c.new-4.ensures.items
