-- The lines of an input: those that were answered, and those behind them.
use Rattle.std.specs.Prelude.{ℕ, ◌≡◌, ◌≤◌, ◌⊎◌, Bool, true, false, ◌&&◌, ◌||◌, not, nat_le, nat_lt, List, [], ◌∷◌, ◌++◌, length, Option, None, Some}
use Rattle.ut_script.specs.Lines.{lines_of, ended_lines, is_long, has_line}
use Rattle.ut_run.specs.declared.report.Status.{Status}
use Rattle.ut_run.specs.declared.report.Status.TheVariants.{Done, TooLong}

-- whether each line has at most 65,536 bytes
abbrev pub all_fit : List (List ℕ) → Bool
all_fit [] = true
all_fit (line ∷ lines) = nat_le (length line) 65536 && all_fit lines

-- the input has more lines than the limit, or a line over 65,536 bytes
abbrev pub is_too_long : ℕ → List ℕ → Bool
is_too_long limit input = nat_lt limit (length (lines_of input)) || not (all_fit (lines_of input))

-- TooLong comes only where the input is past the limits, and Done only where it isn't
abbrev pub FitsInput : ℕ → Status → Option (List ℕ) → Type 0
FitsInput limit Done (Some input) = is_too_long limit input ≡ false
FitsInput limit TooLong (Some input) = is_too_long limit input ≡ true
FitsInput limit _ source = Unit {0}

-- behind so many lines comes one too many, or one that is too long
abbrev pub IsPast : ℕ → ℕ → List (List ℕ) → Type 0
IsPast limit count rest = ((count ≡ limit) × (has_line rest ≡ true)) ⊎ (is_long rest ≡ true)

-- what a status says of the lines behind those that were answered, and of what the source has left
abbrev pub EndsBy : ℕ → Status → ℕ → List (List ℕ) → Option (List ℕ) → Type 0
EndsBy limit Done count rest left = (rest ≡ []) × (left ≡ Some [])
EndsBy limit TooLong count rest left = IsPast limit count rest
EndsBy limit _ count rest left = Unit {0}

-- the lines that were answered are the first ones of the input
pub record IsFront (limit : ℕ) (input : List ℕ) (left : Option (List ℕ)) (status : Status) (script : List (List ℕ)) : Type 0 where
  pub rest : List (List ℕ)
  pub parts : lines_of input ≡ script ++ rest
  pub ends : EndsBy limit status (length script) rest left

-- of a source that tells its bytes
abbrev pub ReadsInput : ℕ → Option (List ℕ) → Option (List ℕ) → Status → List (List ℕ) → Type 0
ReadsInput limit None left status script = Unit {0}
ReadsInput limit (Some input) left status script = IsFront limit input left status script

-- how far the reading is: these lines were read, whose bytes stand in front, and the others are held or left
pub record ReadSoFar (input : List ℕ) (script : List (List ℕ)) (held : List ℕ) (left : Option (List ℕ)) : Type 0 where
  pub after : List ℕ
  pub is_left : left ≡ Some after
  pub parts : lines_of input ≡ script ++ lines_of (held ++ after)
  pub front : List ℕ
  pub input_is : input ≡ front ++ (held ++ after)
  pub ended : ended_lines front ≤ length script

-- how far the reading is, where the source tells its bytes
abbrev pub IsReading : Option (List ℕ) → List (List ℕ) → List ℕ → Option (List ℕ) → Type 0
IsReading None script held left = Unit {0}
IsReading (Some input) script held left = ReadSoFar input script held left
