-- The lines of an input, and what one call takes of them.
use Rattle.std.specs.Prelude.{ℕ, suc, ◌+◌, ◌≡◌, ◌≤◌, Bool, true, false, nat_eq, nat_le, nat_lt, ◌&&◌, ◌||◌, if◌then◌else◌, List, [], ◌∷◌, ◌++◌, length, Option, None, Some, Result, Ok, Err, MatchResult, OnOk, IsErrOf}
use Rattle.std.specs.Bool.{MatchBool}
use Rattle.std.specs.List.{AllByRecursion}
use Rattle.ut_outside.specs.declared.ask.Ask.{Ask}
use Rattle.ut_outside.specs.Faults.{Rose}
use Rattle.ut_script.specs.declared.lines.LineError.{LineError}
use Rattle.ut_script.specs.declared.lines.LineError.TheVariants.{Read, TooLong}

-- a byte in front of the first line
abbrev pub onto_line : ℕ → List (List ℕ) → List (List ℕ)
onto_line b [] = (b ∷ []) ∷ []
onto_line b (line ∷ lines) = (b ∷ line) ∷ lines

-- a line ends at a line feed, or at the end of the input where it has a byte
abbrev pub lines_of : List ℕ → List (List ℕ)
lines_of [] = []
lines_of (b ∷ bytes) = if nat_eq b 10 then [] ∷ lines_of bytes else onto_line b (lines_of bytes)

-- whether bytes are part of one line
abbrev pub has_no_feed : List ℕ → Bool
has_no_feed [] = true
has_no_feed (b ∷ bytes) = if nat_eq b 10 then false else has_no_feed bytes

-- how many lines end in these bytes
abbrev pub ended_lines : List ℕ → ℕ
ended_lines [] = 0
ended_lines (b ∷ bytes) = if nat_eq b 10 then suc (ended_lines bytes) else ended_lines bytes

-- where a reader of lines stands
pub record Reading : Type 0 where
  -- the bytes that were taken and not handed out
  pub held : List ℕ
  -- the line that was handed out last
  pub line : List ℕ
  -- how many lines were handed out, and how many may be
  pub number : ℕ
  pub limit : ℕ
  -- the error that each further call answers
  pub failed : Option LineError

-- whether the first line has too many bytes
abbrev pub is_long : List (List ℕ) → Bool
is_long [] = false
is_long (line ∷ lines) = nat_lt 65536 (length line)

-- whether there is a line
abbrev pub has_line : List (List ℕ) → Bool
has_line [] = false
has_line (line ∷ lines) = true

-- whether the next line is too long, or one too many
abbrev pub is_past : Reading → List (List ℕ) → Bool
is_past r lines = (nat_le r.limit r.number && has_line lines) || is_long lines

-- the next line was handed out
pub record HandsOut (old : Reading) (before : List ℕ) (new : Reading) (after : List ℕ) : Type 0 where
  pub within : is_past old (lines_of (old.held ++ before)) ≡ false
  pub line : lines_of (old.held ++ before) ≡ new.line ∷ lines_of (new.held ++ after)

-- the input was read to its end
pub record Ends (old : Reading) (before : List ℕ) (after : List ℕ) : Type 0 where
  pub none : lines_of (old.held ++ before) ≡ []
  pub end : after ≡ []

-- why there is no line
abbrev pub FailsLine : LineError → Reading → List ℕ → Type 0
FailsLine Read old before = Unit {0}
FailsLine TooLong old before = is_past old (lines_of (old.held ++ before)) ≡ true

-- the next line of an input that is told, its end, or why there is no line
pub record TakesLine
    (old : Reading) (before : List ℕ) (result : Result Bool LineError) (new : Reading)
    (left : Option (List ℕ)) : Type 0 where
  pub after : List ℕ
  pub is_left : left ≡ Some after
  pub taken : MatchResult result
      (λ more. MatchBool more (HandsOut old before new after) (Ends old before after))
      (λ e. FailsLine e old before)

-- the same of any source, where no call has failed
abbrev pub NextLine : Reading → Option (List ℕ) → Result Bool LineError → Reading → Option (List ℕ) → Type 0
NextLine old None result new left = Unit {0}
NextLine old (Some before) result new left = TakesLine old before result new left

-- whether a line was handed out
abbrev pub hands_out : Result Bool LineError → Bool
hands_out (Ok more) = more
hands_out (Err e) = false

-- the error, if any
abbrev pub error_of : Result Bool LineError → Option LineError
error_of (Ok more) = None
error_of (Err e) = Some e

-- one line more was handed out
abbrev pub counted : Reading → Reading
counted r = record r { number = r.number + 1 }

-- what holds whatever the source tells
pub record Counts (old : Reading) (result : Result Bool LineError) (new : Reading) : Type 0 where
  pub limit : new.limit ≡ old.limit
  pub number : new.number ≡ (if hands_out result then old.number + 1 else old.number)
  pub few : new.number ≤ new.limit
  pub short : length new.line ≤ 65536
  pub failed : new.failed ≡ error_of result

-- after an error nothing is read, and the answer is the same
abbrev pub StaysFailed : Option LineError → Reading → Result Bool LineError → Reading → Type 0
StaysFailed None old result new = Unit {0}
StaysFailed (Some e) old result new = (result ≡ Err e) × (new ≡ old)

-- The count of faults doesn't fall, and a fault is answered only where it rose, or again. It stays where there is a line, and
-- at the end of the input.
pub record MayFail (old : Reading) (before now : ℕ) (result : Result Bool LineError) : Type 0 where
  pub later : before ≤ now
  pub read : IsErrOf result Read → old.failed ≡ None → Rose before now
  pub still : OnOk result (now ≡ before)

-- ---- when a source is asked

-- a call that asks for more: no line ends in what is held and was taken before it
pub record IsNeeded (old : Reading) (before taken : List ℕ) (ask : Ask) : Type 0 where
  pub took : List ℕ
  pub after : List ℕ
  pub parts : before ≡ took ++ after
  pub left : ask.left ≡ length after
  pub at_sink : ask.taken ≡ length taken
  pub no_line : has_no_feed (old.held ++ took) ≡ true

-- the calls that ask for more
pub record AsksMore (old : Reading) (before taken : List ℕ) (asks : List Ask) (now : Option (List Ask)) : Type 0 where
  pub more : List Ask
  pub is : now ≡ Some (asks ++ more)
  pub needed : AllByRecursion (IsNeeded old before taken) more

-- of a source that tells them, and of a sink that tells its bytes
abbrev pub AsksFew : Reading → Option (List ℕ) → Option (List ℕ) → Option (List Ask) → Option (List Ask) → Type 0
AsksFew old (Some before) (Some taken) (Some asks) now = AsksMore old before taken asks now
AsksFew old _ _ _ now = Unit {0}

-- the bytes of the line that was handed out, with its end, stood in front of those that are held and left now
pub record StepsOver (old : Reading) (before : List ℕ) (new : Reading) (left : Option (List ℕ)) : Type 0 where
  pub piece : List ℕ
  pub after : List ℕ
  pub is_left : left ≡ Some after
  pub parts : old.held ++ before ≡ piece ++ (new.held ++ after)
  pub one : ended_lines piece ≤ 1

-- the same where the source tells its bytes
abbrev pub StepsLine : Reading → Option (List ℕ) → Reading → Option (List ℕ) → Type 0
StepsLine old None new left = Unit {0}
StepsLine old (Some before) new left = StepsOver old before new left
