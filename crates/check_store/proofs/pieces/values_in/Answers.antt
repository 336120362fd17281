use Rattle.ut_value.proofs.OneSpelling.{one_value}
use Rattle.check_store.proofs.pieces.values_in.Goals as goal

pub read_list-requires : goal.read_list-requires
read_list-requires c = one_value
