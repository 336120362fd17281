use Rattle.ut_reading.proofs.StoreLemmas.{one_store, one_image_each, image_is_base, one_base, image_may_open}
use Rattle.ut_reading.proofs.RestoredLemmas.{prefix_is_restored}
use Rattle.ut_reading.proofs.laws.reading_laws.Goals as goal

pub returns : goal.returns
returns c = record { store = one_store; image = one_image_each; base = image_is_base; one = one_base; opens = image_may_open; restores = prefix_is_restored }
