-- How what was found of the words is read.
use Rattle.std.specs.Prelude.{ℕ, ◌≡◌, pos, if◌then◌else◌, codes, Option, None, Some}
use Rattle.std.specs.Str.{bytes_eq}
use Rattle.std.specs.Str.Parse.{digits_value, without_leading_plus}
use Rattle.clap.specs.Words.{Text, one_text, without_minus, IsSignedIn}
use Rattle.clap.specs.declared.error.kind.ErrorKind.{ErrorKind}
use Rattle.clap.specs.declared.error.kind.ErrorKind.TheVariants.{OutOfMemory}
use Rattle.clap.specs.declared.parser.matches.Found.{Found}
use Rattle.ut_words.specs.declared.plan.Mode.{Mode}
use Rattle.ut_words.specs.declared.plan.Mode.TheVariants.{Run, Crowd, Bench}
use Rattle.ut_words.specs.declared.plan.WordsError.{WordsError}
use Rattle.ut_words.specs.declared.plan.WordsError.TheVariants.{Usage, Memory}

-- want of memory, or words that aren't taken
abbrev pub cause_of : ErrorKind → WordsError
cause_of OutOfMemory = Memory
cause_of _ = Usage

-- the mode that a word names
abbrev pub mode_by : Text → Mode
mode_by text = if bytes_eq text (codes "crowd") then Crowd else if bytes_eq text (codes "bench") then Bench else Run

-- the mode that was found
abbrev pub mode_of : Option Text → Mode
mode_of None = Run
mode_of (Some text) = mode_by text

-- what was found of a name is a number in a range
pub record HasNumber (f : Found) (name : Text) (least most : ℕ) : Type 0 where
  pub text : Text
  pub is : one_text f name ≡ Some (without_minus text)
  pub within : IsSignedIn (pos least) (pos most) text

-- what was found of a name is this number
pub record IsNumber (f : Found) (name : Text) (n : ℕ) : Type 0 where
  pub text : Text
  pub is : one_text f name ≡ Some text
  pub value : n ≡ digits_value 10 (without_leading_plus text)
