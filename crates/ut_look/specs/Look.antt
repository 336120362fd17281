-- What a question looks at, as lists.
use Rattle.std.specs.Prelude.{ℕ, List, map, Option}
use Rattle.ut_plain.specs.declared.table.Table.{Table}
use Rattle.ut_stamps.specs.declared.fates.Fate.{Fate}
use Rattle.ut_staged.specs.Staged.{Staged}
use Rattle.ut_table.specs.Contents.{TableValue}
use Rattle.ut_look.specs.declared.look.Look.{Look}

-- the tables with their stages, what became of each transaction, the length of the journal that counts, and an own transaction
pub record Sight : Type 0 where
  pub tables : List Table
  pub staged : List Staged
  pub fates : List Fate
  pub snapshot : ℕ
  pub own : Option ℕ

-- what a look in memory shows
abbrev pub sight : Look → Sight
sight look = record {
  tables = look.tables.now;
  staged = map (λ (t : TableValue). t.stages) look.stages.now;
  fates = look.snapshot.fates.now;
  snapshot = look.snapshot.at;
  own = look.snapshot.own;
}
