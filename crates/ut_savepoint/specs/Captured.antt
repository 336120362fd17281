-- What is captured of a store in memory, as a directory.
use Rattle.std.specs.Prelude.{ℕ, ◌≡◌, List, [], ◌∷◌, ◌++◌, length, map}
use Rattle.std.specs.Arc.{arc_value}
use Rattle.ut_image.specs.Bytes.{rows_bytes}
use Rattle.ut_plain.specs.declared.table.Table.{Table}
use Rattle.ut_plain.specs.declared.stage.Placed.{Placed}
use Rattle.ut_plain.specs.declared.stage.TableStages.{TableStages}
use Rattle.ut_plain.specs.Stages.{Stages}
use Rattle.ut_plain.specs.Capture.{Directory}
use Rattle.ut_durable.specs.Bytes.{row_in, part_behind, live_marks}
use Rattle.ut_savepoint.specs.declared.captured.CapturedPart.{CapturedPart}
use Rattle.ut_savepoint.specs.declared.captured.CapturedTable.{CapturedTable}

-- a part behind earlier ones, and which of its rows are live
pub record CapturesPart (width : ℕ) (earlier : List (List Placed)) (c : CapturedPart) (part : List Placed) : Type 0 where
  pub same : arc_value c.part ≡ part_behind width earlier part
  pub live : c.live ≡ live_marks part

-- parts, each behind those before it
abbrev pub CaptureParts : ℕ → (earlier : List (List Placed)) → List CapturedPart → List (List Placed) → Type 0
CaptureParts width earlier [] [] = Unit {0}
CaptureParts width earlier [] (part ∷ parts) = ⊥
CaptureParts width earlier (c ∷ cs) [] = ⊥
CaptureParts width earlier (c ∷ cs) (part ∷ parts) = CapturesPart width earlier c part × CaptureParts width (earlier ++ part ∷ []) cs parts

-- a table: its parts, and the rows of its deltas as a directory spells them
pub record CapturesTable (c : CapturedTable) (t : Table) (s : TableStages) : Type 0 where
  pub table : c.table ≡ t
  pub parts : CaptureParts (length t.columns) [] c.parts.items s.parts
  pub deltas : c.deltas.items ≡ rows_bytes (map row_in s.l2) ++ rows_bytes (map row_in s.l1)

-- tables, in order
abbrev pub CaptureTables : List CapturedTable → List Table → Stages → Type 0
CaptureTables [] [] [] = Unit {0}
CaptureTables [] [] (s ∷ ss) = ⊥
CaptureTables [] (t ∷ ts) ss = ⊥
CaptureTables (c ∷ cs) [] ss = ⊥
CaptureTables (c ∷ cs) (t ∷ ts) [] = ⊥
CaptureTables (c ∷ cs) (t ∷ ts) (s ∷ ss) = CapturesTable c t s × CaptureTables cs ts ss

-- the tables are captured as this directory
abbrev pub Captures : List CapturedTable → Directory → Type 0
Captures tables d = CaptureTables tables d.tables d.stages
