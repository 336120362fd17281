use Rattle.std.proofs.Common.{◌<◌, length, arith}
use Rattle.check_oracle.specs.Store.{plain_of}
use Rattle.check_oracle.proofs.HeldLemmas.{commits_nothing, commits_some}
use Rattle.check_oracle.proofs.session.committed_by.Goals as goal

pub returns-then-len-eq0 : goal.returns-then-len-eq0
returns-then-len-eq0 c = commits_nothing (plain_of c.args.held.now) (plain_of c.in_ok-held.held) c.args.session c.args.ops.now (omega (arith, c.len.ensures, c.if-len-eq0.true)) c.in_ok-held.ensures

pub returns : goal.returns
returns c =
    let some : 0 < length c.args.ops.now = omega (arith, c.len.ensures, c.if-len-eq0.false) in
    commits_some (plain_of c.args.held.now) (plain_of c.in_ok-next.next) (plain_of c.in_ok-held-2.held) c.args.session c.args.commits c.args.ops.now _ some c.in_ok-next.ensures c.in_ok-ops.ensures c.in_ok-held-2.ensures c.requires.commits
