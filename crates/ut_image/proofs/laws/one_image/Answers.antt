use Rattle.ut_image.proofs.OneLemmas.{image-once}
use Rattle.ut_image.proofs.laws.one_image.Goals as goal

pub returns : goal.returns
returns c = image-once
