use Rattle.std.proofs.Common.{◌∙◌, Some, false, ap}
use Rattle.std.proofs.lemmas.Bool.{not-true}
use Rattle.ut_scan.proofs.parts.PartProbe.is_hidden.Goals as goal

pub returns-in-Some : goal.returns-in-Some
returns-in-Some c = λ h. c.args.self.now.sight false (c.in-Some.is ∙ ap Some (not-true c.in-Some.seen h))
