-- What the definition says of words that are written out.
use Rattle.std.proofs.Common.{◌≡◌, List, [], ◌∷◌, refl, Some}
use Rattle.std.specs.Prelude.{codes}
use Rattle.std.specs.Borrow.{Bor}
use Rattle.clap.specs.Words.{Text, Kinds, fault_of, one_of, matches_of}
use Rattle.clap.specs.declared.error.kind.ErrorKind.TheVariants as kind
use Rattle.clap.proofs.OnLiterals.{clap_on_literals}
use Rattle.ut_words.specs.Command.{definition}

abbrev modes : Bor (List (Bor Text))
modes = record { ref_ptr = (0, 0); now = record { ref_ptr = (0, 0); now = codes "run" } ∷ record { ref_ptr = (0, 0); now = codes "crowd" } ∷ record { ref_ptr = (0, 0); now = codes "bench" } ∷ [] }

abbrev faults : List Text → Kinds
faults words = fault_of (definition modes) (codes "ut_app" ∷ words)
