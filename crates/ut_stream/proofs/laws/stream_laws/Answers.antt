use Rattle.ut_stream.proofs.StreamLemmas.{one_stream, in_pieces}
use Rattle.ut_stream.proofs.laws.stream_laws.Goals as goal

pub returns : goal.returns
returns c = record { one = one_stream; pieces = in_pieces }
