use Rattle.ut_followed.proofs.FollowLemmas.{followed-plain, followed-grows, followed-prefix}
use Rattle.ut_followed.proofs.laws.follow_laws.Goals as goal

pub returns : goal.returns
returns c = record { plain = followed-plain; grows = followed-grows; prefix = followed-prefix }
