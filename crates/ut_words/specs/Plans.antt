-- What words say under the definition of the command.
use Rattle.std.specs.Prelude.{ℕ, ◌≡◌, ◌≤◌, ◌<◌, Bool, false, List, [], length, codes, Option, None, Some}
use Rattle.std.specs.Str.{bytes_eq}
use Rattle.std.specs.Str.Parse.{digits_value, without_leading_plus}
use Rattle.std.specs.Borrow.{Bor}
use Rattle.clap.specs.Words.{Row, Text, matches_of, fault_of, first_of, one_of}
use Rattle.ut_words.specs.Command.{AreModes, definition}
use Rattle.ut_words.specs.declared.plan.Mode.{Mode}
use Rattle.ut_words.specs.declared.plan.Mode.TheVariants.{Run, Crowd, Bench}
use Rattle.ut_words.specs.declared.plan.Plan.{Plan}

-- the word for a mode
abbrev pub mode_text : Mode → Text
mode_text Run = codes "run"
mode_text Crowd = codes "crowd"
mode_text Bench = codes "bench"

-- whether what was found of a flag is true
abbrev pub says_true : Option Text → Bool
says_true None = false
says_true (Some text) = bytes_eq text (codes "true")

-- a number that the words say, or its default, within its range
pub record Says (matches : List Row) (name : Text) (n least most : ℕ) : Type 0 where
  pub text : Text
  pub is : one_of name matches ≡ Some text
  pub value : n ≡ digits_value 10 (without_leading_plus text)
  pub low : least ≤ n
  pub high : n ≤ most

-- the plan has what was found
pub record IsPlan (matches : List Row) (plan : Plan) : Type 0 where
  pub mode : first_of (codes "MODE") matches ≡ Some (mode_text plan.mode)
  pub fresh : plan.fresh ≡ says_true (first_of (codes "new") matches)
  pub rows : Says matches (codes "rows") plan.rows 1 2147483648
  pub lines : Says matches (codes "lines") plan.lines 1 1048576
  pub l1 : Says matches (codes "l1") plan.l1 1 1048576
  pub pieces : Says matches (codes "pieces") plan.pieces 1 64
  pub seed : Says matches (codes "seed") plan.seed 0 2147483648
  pub size : Says matches (codes "size") plan.size 1 500

-- each number is one that its option takes
pub record IsInRange (plan : Plan) : Type 0 where
  pub rows : (1 ≤ plan.rows) × (plan.rows ≤ 2147483648)
  pub lines : (1 ≤ plan.lines) × (plan.lines ≤ 1048576)
  pub l1 : (1 ≤ plan.l1) × (plan.l1 ≤ 1048576)
  pub pieces : (1 ≤ plan.pieces) × (plan.pieces ≤ 64)
  pub seed : plan.seed ≤ 2147483648
  pub size : (1 ≤ plan.size) × (plan.size ≤ 500)

-- The definition finds no fault in the words, and this is the plan that they say.
pub record Takes (words : List Text) (plan : Plan) : Type 0 where
  pub modes : Bor (List (Bor Text))
  pub names : AreModes modes
  pub faultless : fault_of (definition modes) words ≡ []
  pub says : IsPlan (matches_of (definition modes) words) plan

-- The definition finds a fault in the words.
pub record Refuses (words : List Text) : Type 0 where
  pub modes : Bor (List (Bor Text))
  pub names : AreModes modes
  pub faulty : 0 < length (fault_of (definition modes) words)
