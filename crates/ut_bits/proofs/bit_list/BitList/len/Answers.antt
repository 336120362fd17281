use Rattle.std.proofs.Common.{sym}
use Rattle.ut_bits.proofs.BitLemmas.{length-fields}
use Rattle.ut_bits.specs.Bits.{number_of}
use Rattle.ut_bits.proofs.bit_list.BitList.len.Goals as goal

pub returns-clause-len : goal.returns-clause-len
returns-clause-len c = rw (← c.self.view_is) (sym (length-fields c.self.inside.width c.self.inside.len (number_of c.self.inside.bytes.items)))
