-- A law of parts.
use Rattle.std.specs.Prelude.{◌≡◌, List, length}
use Rattle.ut_value.specs.declared.value.Column.{Column}
use Rattle.ut_main.specs.Parts.{PartValue, MainValue}
use Rattle.ut_main.specs.Spelling.{part_bytes, MayStand}

-- parts that may stand behind the same main and have the same bytes are the same
abbrev pub OnePartEach : Type 0
OnePartEach =
    (columns : List Column) (main : MainValue) (a b : PartValue) → length columns ≡ main.width → MayStand columns main a
    → MayStand columns main b → part_bytes a ≡ part_bytes b → a ≡ b
