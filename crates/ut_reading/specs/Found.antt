-- What the steps of a reading have found.
use Rattle.std.specs.Prelude.{◌≡◌, ◌≤◌, ◌+◌, List, ◌++◌, length}
use Rattle.std.specs.List.{AllByRecursion, AllZip}
use Rattle.ut_outside.specs.Disk.{View, IsTold}
use Rattle.ut_value.specs.declared.value.Column.{Column}
use Rattle.ut_main.specs.Parts.{PartValue, MainValue, rows_in}
use Rattle.ut_image.specs.declared.drawn.PartRef.{PartRef}
use Rattle.ut_image.specs.declared.drawn.Drawn.{Drawn}
use Rattle.ut_durable.specs.Bytes.{pages_for}
use Rattle.ut_reading.specs.declared.parts.Reader.{Reader}
use Rattle.ut_reading.specs.Standing.{part_pages, all_part_pages, part_of, IsAnywhere, PartFits, MainFits, StandsPart, StandsMain, live_in, live_in_parts, live_in_mains, ReachMore}

-- a table whose parts may be read: there are few, each with a mark for each row
pub record MayRead (t : Drawn) : Type 0 where
  pub columns : length t.table.columns ≤ 64
  pub parts : length t.parts ≤ 8
  pub marks : AllByRecursion (λ (ref : PartRef). length ref.live ≡ ref.rows) t.parts

-- The pages of the selected slot that were reached before are among those that are now.
pub record Reaches (old new : Reader) (v : View) : Type 0 where
  pub slot : new.pages.slot ≡ old.pages.slot
  pub more : IsTold v → ReachMore v.seen.pages old.pages.reached new.pages.reached

-- a part was read behind main
pub record FoundPart
    (columns : List Column) (main : MainValue) (ref : PartRef) (read : PartValue) (old new : Reader)
    (v : View) : Type 0 where
  pub reaches : Reaches old new v
  pub stands : IsTold v → StandsPart columns main ref read.rows new.pages.reached v.seen.pages
  pub count : IsTold v → length new.pages.reached ≡ length old.pages.reached + pages_for ref.length
  -- whatever the disk tells
  pub fits : PartFits IsAnywhere columns main ref read.rows
  pub behind : read ≡ part_of main read.rows
  pub few : rows_in main + length read.rows ≤ 2147483647
  pub live : new.live.items ≡ old.live.items ++ live_in ref read.rows

-- the parts of a table
pub record FoundMain (t : Drawn) (main : MainValue) (old new : Reader) (v : View) : Type 0 where
  pub reaches : Reaches old new v
  pub stands : IsTold v → StandsMain new.pages.reached v.seen.pages t main
  pub count : IsTold v → length new.pages.reached ≡ length old.pages.reached + part_pages t.parts
  pub fits : MainFits IsAnywhere t main
  pub live : new.live.items ≡ old.live.items ++ live_in_parts t.parts main.parts

-- the parts of each table
pub record FoundMains (tables : List Drawn) (mains : List MainValue) (old new : Reader) (v : View) : Type 0 where
  pub reaches : Reaches old new v
  pub stands : IsTold v → AllZip (StandsMain new.pages.reached v.seen.pages) tables mains
  pub count : IsTold v → length new.pages.reached ≡ length old.pages.reached + all_part_pages tables
  pub fits : AllZip (MainFits IsAnywhere) tables mains
  pub live : new.live.items ≡ old.live.items ++ live_in_mains tables mains
