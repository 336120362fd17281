use Rattle.std.proofs.Common.{◌≡◌, ◌-◌, Some, sym, ap, ◌∙◌, arith}
use Rattle.ut_plain.specs.Plain.{looks_at, open_at}
use Rattle.check_oracle.specs.Store.{plain_of}
use Rattle.check_oracle.proofs.SightLemmas.{base_len}
use Rattle.check_oracle.proofs.taken.looks_at.Goals as goal

pub returns-in-Some : goal.returns-in-Some
returns-in-Some c =
    let j = (plain_of c.args.held.now).journal in
    let is : open_at c.args.held.now.sessions.items c.args.session ≡ Some c.in-Some.own = sym c.own.ensures ∙ c.in-Some.is in
    let behind : c.saturating_sub.result ≡ c.in-Some.own.snapshot - j.base.length = omega (arith, c.saturating_sub.ensures, c.len-in-Some.ensures, base_len c.args.held.now.first.items) in
    behind ∙ ap (λ o. looks_at j o - j.base.length) (sym is)
