use Rattle.check_oracle.specs.Store.{plain_of}
use Rattle.check_oracle.proofs.HeldLemmas.{entry_added}
use Rattle.check_oracle.proofs.held.Held.with_entry.Goals as goal

pub returns : goal.returns
returns c = entry_added (plain_of c.in_ok-next.next) (plain_of c.args.self.now) c.push.new.self.items c.args.entry c.in_ok-next.ensures c.in_ok-push.ensures.items
