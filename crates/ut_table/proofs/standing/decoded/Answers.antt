use Rattle.std.proofs.Common.{◌∙◌, ap, sym, arith}
use Rattle.std.proofs.lemmas.Int.{ints, to_z-of_z}
use Rattle.ut_value.specs.declared.value.Value.TheVariants as values
use Rattle.ut_table.proofs.DecodedLemmas.{number-decoded, text-key, text-decoded}
use Rattle.ut_table.proofs.standing.decoded.Goals as goal

pub from_slice-requires : goal.from_slice-requires
from_slice-requires c = text-key c.args.kind c.args.key.now c.in-Text.is c.requires

pub returns-in-Int : goal.returns-in-Int
returns-in-Int c =
    ap values.Int (sym (sym c.unwrap_or.ensures ∙ grind (arith, ints, to_z-of_z)))
    ∙ number-decoded c.args.kind c.args.key.now c.int_of.result c.in-Int.is c.requires c.int_of.ensures.found c.int_of.ensures.none

pub returns-in_ok-from_slice-in-Text : goal.returns-in_ok-from_slice-in-Text
returns-in_ok-from_slice-in-Text c = text-decoded c.args.kind c.args.key.now _ c.in-Text.is c.in_ok-from_slice-in-Text.ensures.text
