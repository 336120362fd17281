use Rattle.std.proofs.Common.{arith}
use Rattle.check_oracle.proofs.SightLemmas.{base_len}
use Rattle.check_oracle.proofs.held.Held.journal_len.Goals as goal

pub returns : goal.returns
returns c = omega (arith, base_len c.args.self.now.first.items, c.len.ensures, c.len-2.ensures)
