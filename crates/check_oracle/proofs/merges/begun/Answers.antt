use Rattle.std.proofs.Common.{ap, ◌+◌, length, arith}
use Rattle.ut_plain.specs.Plain.{Plain}
use Rattle.check_oracle.specs.Store.{plain_of}
use Rattle.check_oracle.proofs.HeldLemmas.{merge_begins}
use Rattle.check_oracle.proofs.merges.begun.Goals as goal

pub set_stages-requires : goal.set_stages-requires
set_stages-requires c = omega (arith, c.requires.there, ap (λ (p : Plain). length p.stages) c.in_ok-next.ensures)

pub returns : goal.returns
returns c = merge_begins (plain_of c.args.held.now) (plain_of c.in_ok-next.next) _ c.args.place c.args.kind c.in_ok-stages.stages c.set_stages.new.stages.items c.in_ok-next.ensures (ap (λ n. n + 1) c.requires.merges) c.in_ok-stages.ensures c.set_stages.ensures
