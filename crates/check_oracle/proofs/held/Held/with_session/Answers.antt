use Rattle.std.proofs.Common.{ap, length, arith}
use Rattle.ut_plain.specs.Plain.{Plain}
use Rattle.check_oracle.specs.Store.{plain_of}
use Rattle.check_oracle.proofs.HeldLemmas.{session_changed}
use Rattle.check_oracle.proofs.held.Held.with_session.Goals as goal

pub set_session-requires : goal.set_session-requires
set_session-requires c = omega (arith, c.requires, ap (λ (p : Plain). length p.sessions) c.in_ok-next.ensures)

pub returns : goal.returns
returns c = session_changed (plain_of c.in_ok-next.next) (plain_of c.args.self.now) c.set_session.new.sessions.items c.args.session c.args.transaction c.in_ok-next.ensures c.set_session.ensures
