use Rattle.ut_image.proofs.OneLemmas.{one_row}
use Rattle.ut_image.proofs.fields.read_rows.Goals as goal

pub read_list-requires : goal.read_list-requires
read_list-requires c = one_row _
