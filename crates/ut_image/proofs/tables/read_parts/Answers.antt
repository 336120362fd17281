use Rattle.ut_image.proofs.OneLemmas.{one_part}
use Rattle.ut_image.proofs.tables.read_parts.Goals as goal

pub read_list-requires : goal.read_list-requires
read_list-requires c = one_part
