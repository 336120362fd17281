-- What the steps of a reader of lines do.
use Rattle.std.specs.Prelude.{ℕ, ◌+◌, ◌≡◌, ◌<◌, ◌≤◌, if◌then◌else◌, Bool, true, List, [], ◌∷◌, ◌++◌, length, take, drop, Option, None, Some, Result, Ok, Err, MatchResult}
use Rattle.std.specs.Bool.{MatchBool}
use Rattle.ut_script.specs.declared.lines.LineError.{LineError}
use Rattle.ut_script.specs.Lines.{Reading, has_no_feed, hands_out}

-- where the first line feed stands
abbrev pub IsLineEnd : List ℕ → Option ℕ → Type 0
IsLineEnd bytes None = has_no_feed bytes ≡ true
IsLineEnd bytes (Some n) = (n < length bytes) × (has_no_feed (take n bytes) ≡ true) × (drop n bytes ≡ 10 ∷ drop (n + 1) bytes)

-- a reader of which only the bytes and the line change
pub record SameCounts (old new : Reading) : Type 0 where
  pub number : new.number ≡ old.number
  pub limit : new.limit ≡ old.limit
  pub failed : new.failed ≡ old.failed

-- what a call that reads leaves of the counts: one line more where it handed one out
pub record CountsLine (old : Reading) (result : Result Bool LineError) (new : Reading) : Type 0 where
  pub limit : new.limit ≡ old.limit
  pub number : new.number ≡ (if hands_out result then old.number + 1 else old.number)
  pub short : length new.line ≤ 65536
  pub failed : new.failed ≡ old.failed

-- the line ended at a line feed
pub record EndsLine (old new : Reading) : Type 0 where
  pub piece : List ℕ
  pub no_feed : has_no_feed piece ≡ true
  pub parts : old.held ≡ piece ++ 10 ∷ new.held
  pub line : new.line ≡ old.line ++ piece

-- all that was held joined the line
pub record JoinsLine (old new : Reading) : Type 0 where
  pub no_feed : has_no_feed old.held ≡ true
  pub held : new.held ≡ []
  pub line : new.line ≡ old.line ++ old.held

-- the line is too long
pub record BreaksLine (old : Reading) : Type 0 where
  pub piece : List ℕ
  pub rest : List ℕ
  pub no_feed : has_no_feed piece ≡ true
  pub parts : old.held ≡ piece ++ rest
  pub long : 65536 < length old.line + length piece

-- what was held moved to the line, up to a line feed
abbrev pub TakesPiece : {E : Type 0} → Reading → Result Bool E → Reading → Type 0
TakesPiece old (Ok ended) new = MatchBool ended (EndsLine old new) (JoinsLine old new)
TakesPiece old (Err e) new = BreaksLine old

-- Bytes are held now, where the input has any: those that were held, and then those that the source had left.
pub record FillsFrom
    {E : Type 0} (old : Reading) (before : List ℕ) (result : Result Bool E) (new : Reading)
    (left : Option (List ℕ)) : Type 0 where
  pub after : List ℕ
  pub is_left : left ≡ Some after
  pub same : old.held ++ before ≡ new.held ++ after
  pub took : List ℕ
  pub taken : before ≡ took ++ after
  pub held : new.held ≡ old.held ++ took
  pub none : MatchResult result (λ some. MatchBool some (Unit {0}) ((old.held ++ before ≡ []) × (after ≡ []))) (λ _. Unit {0})

-- the same where the source tells its bytes
abbrev pub Fills : {E : Type 0} → Reading → Option (List ℕ) → Result Bool E → Reading → Option (List ℕ) → Type 0
Fills old None result new left = Unit {0}
Fills old (Some before) result new left = FillsFrom old before result new left

-- what was read of a line so far, and what is left
pub record PartOfLine (old : Reading) (before : List ℕ) (now : Reading) (left : Option (List ℕ)) : Type 0 where
  pub after : List ℕ
  pub is_left : left ≡ Some after
  pub parts : old.held ++ before ≡ now.line ++ (now.held ++ after)
  pub took : List ℕ
  pub taken : before ≡ took ++ after
  pub read : old.held ++ took ≡ now.line ++ now.held
  pub no_feed : has_no_feed now.line ≡ true

-- the same where the source tells its bytes
abbrev pub ReadsLine : Reading → Option (List ℕ) → Reading → Option (List ℕ) → Type 0
ReadsLine old None now left = Unit {0}
ReadsLine old (Some before) now left = PartOfLine old before now left
