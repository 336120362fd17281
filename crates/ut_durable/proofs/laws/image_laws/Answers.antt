use Rattle.ut_durable.proofs.BeginLemmas.{captured_image}
use Rattle.ut_durable.proofs.CaptureLemmas.{captured_is_directory}
use Rattle.ut_durable.proofs.PlanLemmas.{chains_are_plan, free_pages_ascend}
use Rattle.ut_durable.proofs.laws.image_laws.Goals as goal

pub returns : goal.returns
returns c = record { directory = captured_is_directory; captured = captured_image; planned = chains_are_plan; free = free_pages_ascend }
