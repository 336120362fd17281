use Rattle.std.proofs.Common.{length}
use Rattle.ut_image.proofs.image.+drawn_differ.Given as goal

abbrev pub decreases-drawn_differ : goal.decreases-drawn_differ
decreases-drawn_differ l = length l.tables.now
