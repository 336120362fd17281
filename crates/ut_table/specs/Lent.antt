-- The stages that a table lends.
use Rattle.std.specs.Prelude.{◌≡◌}
use Rattle.std.specs.Option.{option_map}
use Rattle.ut_scan.specs.declared.stages.Stages.{Stages}
use Rattle.ut_staged.specs.Staged.{Staged}
use Rattle.ut_table.specs.Contents.{Contents, PendingValue, staged}
use Rattle.ut_table.specs.Kept.{IsTable}

-- these hold the rows of a table with their stamps
pub record AreLent (s : Staged) (stages : Stages) : Type 0 where
  pub table : Contents
  pub kept : IsTable table
  pub view : staged table ≡ s
  pub l1 : stages.l1.now.items ≡ table.l1
  pub l2 : stages.l2.now ≡ table.l2
  pub closed : option_map (λ l. l.now) stages.closed ≡ option_map (λ (p : PendingValue). p.closed) table.pending
  pub main : stages.main.now ≡ table.main
  pub stamps : stages.stamps.now ≡ table.stamps
