-- What a question with its names resolved is answered.
use Rattle.std.specs.Prelude.{ℕ, ◌≤◌, ◌≡◌, ◌^◌, true, List, length, Option}
use Rattle.ut_value.specs.declared.value.Value.{Value}
use Rattle.ut_plain.specs.declared.table.Table.{Table}
use Rattle.ut_plain.specs.declared.table.Stored.{Stored}
use Rattle.ut_plain.specs.declared.statement.Pred.{Pred}
use Rattle.ut_plain.specs.declared.statement.Query.{Query}
use Rattle.ut_plain.specs.declared.reply.Reply.{Reply}
use Rattle.ut_plain.specs.declared.reply.Reply.TheVariants as replies
use Rattle.ut_plain.specs.Condition as condition
use Rattle.ut_plain.specs.Names.{query_known}
use Rattle.ut_plain.specs.Kinds.{query_fits}
use Rattle.ut_plain.specs.Query.{told}
use Rattle.ut_plain.specs.Tables.{columns_in}
use Rattle.ut_scan.specs.declared.place.Found.{Found}
use Rattle.ut_staged.specs.Staged.{Staged}
use Rattle.ut_table.specs.Finds.{rows_at}
use Rattle.ut_table.specs.Tallied.{IsTally}
use Rattle.ut_ops.specs.Fit.{Fit}
use Rattle.ut_names.specs.declared.resolved.End.{End}
use Rattle.ut_names.specs.declared.resolved.End.TheVariants.{Least, Greatest}
use Rattle.ut_names.specs.declared.resolved.Question.{Question}
use Rattle.ut_names.specs.declared.resolved.Selection.{Selection}
use Rattle.ut_names.specs.Resolved.{IsSelection, Resolves}
use Rattle.ut_look.specs.Look.{Sight}
use Rattle.ut_query.specs.Look.{Sees}

-- The question names what is there, and the reply is what it means on the rows that are seen, whichever these are.
pub record IsAnswer (l : Sight) (query : Query) (reply : Reply) : Type 0 where
  pub known : query_known l.tables query ≡ true
  pub fits : query_fits l.tables query ≡ true
  pub told : (rows : List (ℕ × Stored)) → Sees l rows → reply ≡ told l.tables rows query

-- some question resolves to this one
pub record IsAsked (tables : List Table) (question : Question) : Type 0 where
  pub query : Query
  pub resolves : Resolves tables query question

-- the reply is that of each question that resolves to this one
pub record Tells (l : Sight) (question : Question) (reply : Reply) : Type 0 where
  pub each : (query : Query) (rows : List (ℕ × Stored)) → Resolves l.tables query question → Sees l rows → reply ≡ told l.tables rows query

-- how the value at an end of the order is told
abbrev pub extreme_reply : End → Option Value → Reply
extreme_reply Least value = replies.Min value
extreme_reply Greatest value = replies.Max value

-- some rows are asked for by this selection
pub record IsSelected (tables : List Table) (rows : Selection) : Type 0 where
  pub name : List ℕ
  pub asked : List Pred
  pub is : IsSelection tables name asked rows

-- What was found are the rows of a selection, there and of the right kinds.
pub record Shows (l : Sight) (rows : Selection) (s : Staged) (hits : List Found) : Type 0 where
  pub found : (name : List ℕ) (asked : List Pred) (seen : List (ℕ × Stored)) → IsSelection l.tables name asked rows
      → Sees l seen → condition.found l.tables seen name asked ≡ rows_at rows.table s hits
  pub columns : (name : List ℕ) (asked : List Pred) → IsSelection l.tables name asked rows → columns_in l.tables name ≡ s.columns
  pub fit : Fit s hits
  pub few : length hits ≤ 2 ^ 31

-- so many rows of a selection are seen
pub record ShowsCount (l : Sight) (rows : Selection) (count : ℕ) : Type 0 where
  pub found : (name : List ℕ) (asked : List Pred) (seen : List (ℕ × Stored)) → IsSelection l.tables name asked rows
      → Sees l seen → count ≡ length (condition.found l.tables seen name asked)
  pub few : count ≤ 2 ^ 31

-- The rows of a selection by the codes of a column: those that are in main are counted, the rest is listed.
pub record ShowsTally (l : Sight) (rows : Selection) (s : Staged) (column : ℕ) (counts : List ℕ) (rest : List Found) : Type 0 where
  pub tally : (name : List ℕ) (asked : List Pred) (seen : List (ℕ × Stored)) → IsSelection l.tables name asked rows → Sees l seen
      → (found : List Found) × (condition.found l.tables seen name asked ≡ rows_at rows.table s found)
      × Fit s found × IsTally s column found counts rest
  pub columns : (name : List ℕ) (asked : List Pred) → IsSelection l.tables name asked rows → columns_in l.tables name ≡ s.columns
  pub fit : Fit s rest
  pub few : length rest ≤ 2 ^ 31
