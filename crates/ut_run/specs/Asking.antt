-- When the source is asked for more: by then the replies to all lines that ended in what it gave stand in the sink.
use Rattle.std.specs.Prelude.{ℕ, ◌≡◌, ◌≤◌, ◌+◌, List, [], ◌∷◌, ◌++◌, length, take, flat_map, Option, Some}
use Rattle.std.specs.List.{AllByRecursion}
use Rattle.ut_outside.specs.declared.ask.Ask.{Ask}
use Rattle.ut_plain.specs.declared.statement.Parsed.{Parsed}
use Rattle.ut_plain.specs.declared.statement.Parsed.TheVariants.{Comment}
use Rattle.ut_plain.specs.Transcript.{Answer}
use Rattle.ut_script.specs.Lines.{ended_lines}
use Rattle.ut_run.specs.Writing.{answer_text}

-- the text of the reply to each line; a comment has none
abbrev pub replies_of : List Parsed → List Answer → List (List ℕ)
replies_of [] answers = []
replies_of (Comment ∷ lines) answers = [] ∷ replies_of lines answers
replies_of (line ∷ lines) [] = [] ∷ replies_of lines []
replies_of (line ∷ lines) (a ∷ answers) = answer_text a ∷ replies_of lines answers

-- one behind the other
abbrev pub joined : List (List ℕ) → List ℕ
joined texts = flat_map (λ (text : List ℕ). text) texts

-- A call that asked for more: the lines that had ended by then were answered,
-- and the sink, which had these bytes before the run, had taken the replies to them.
pub record IsInTime (input before : List ℕ) (replies : List (List ℕ)) (ask : Ask) : Type 0 where
  pub given : List ℕ
  pub after : List ℕ
  pub parts : input ≡ given ++ after
  pub left : ask.left ≡ length after
  pub answered : ended_lines given ≤ length replies
  pub written : length before + length (joined (take (ended_lines given) replies)) ≤ ask.taken

-- the calls of a run
pub record AskedInTime (input before : List ℕ) (asks : List Ask) (replies : List (List ℕ)) (now : Option (List Ask)) : Type 0 where
  pub more : List Ask
  pub is : now ≡ Some (asks ++ more)
  pub each : AllByRecursion (IsInTime input before replies) more

-- of a source that tells them and its bytes, and of a sink that tells its bytes
abbrev pub AsksInTime : Option (List ℕ) → Option (List ℕ) → Option (List Ask) → List (List ℕ) → Option (List Ask) → Type 0
AsksInTime (Some input) (Some before) (Some asks) replies now = AskedInTime input before asks replies now
AsksInTime _ _ _ replies now = Unit {0}
