-- What a line of the script says, how many draws it makes, and what a call does that puts one.
use Rattle.std.specs.Prelude.{ℕ, ◌≡◌, ◌+◌, ◌-◌, ◌*◌, ◌^◌, ◌<◌, ◌≤◌, Bool, true, false, min, List, [], ◌∷◌, ◌++◌, Option, Some, None, length}
use Rattle.std.specs.List.{slice_get}
use Rattle.ut_gen.specs.declared.plan.Line.{Line}
use Rattle.ut_gen.specs.declared.plan.Line.TheVariants.{Fixed, Bulk, Insert, Update}
use Rattle.ut_gen.specs.Draws.{advanced}
use Rattle.ut_gen.specs.Rows.{bulk_line, insert_line, update_line}
use Rattle.ut_gen.specs.Script.{script}

-- the text of a line, at the state before it
abbrev pub line_text : ℕ → Line → List ℕ
line_text x (Fixed text) = text.now
line_text x (Bulk r) = bulk_line x r
line_text x (Insert r) = insert_line x r
line_text x (Update rows) = update_line x rows

-- how many draws a line makes
abbrev pub draws_of : Line → ℕ
draws_of (Fixed text) = 0
draws_of (Bulk r) = 1200
draws_of (Insert r) = 6
draws_of (Update rows) = 2

-- how many draws the lines before line i make
abbrev pub drawn : ℕ → ℕ → ℕ
drawn size i =
    1200 * min (i - 3) size + 6 * min (i - (9 + size)) (10 * size)
    + 6 * min (i - (10 + 11 * size)) (10 * size) + 2 * min (i - (12 + 21 * size)) (3 * size)

-- its numbers of rows are below 2 ^ 31, and a fixed text is short
abbrev pub IsShort : Line → Type 0
IsShort (Fixed text) = length text.now ≤ 100
IsShort (Bulk r) = r < 2 ^ 31
IsShort (Insert r) = r < 2 ^ 31
IsShort (Update rows) = (0 < rows) × (rows < 2 ^ 31)

-- at most so many bytes has its text
abbrev pub line_room : Line → ℕ
line_room (Bulk r) = 16384
line_room _ = 100

-- line i of a script of that size is this one, whatever the seed, or there is none
abbrev pub IsLineAt : ℕ → ℕ → Option Line → Type 0
IsLineAt size i None = (seed : ℕ) → slice_get (script seed size) i ≡ None
IsLineAt size i (Some line) = (seed : ℕ) → slice_get (script seed size) i ≡ Some (line_text (advanced seed (drawn size i)) line)

-- a line was put at the end and the answer is yes, or there was none and the answer is no
abbrev pub PutsLine : Option (List ℕ) → Bool → List ℕ → List ℕ → Type 0
PutsLine (Some line) found before after = (found ≡ true) × (after ≡ before ++ line)
PutsLine None found before after = (found ≡ false) × (after ≡ before)

-- the first of the lines that are left was put at the end and is left no more, or none was left
abbrev pub TakesLine : List (List ℕ) → List (List ℕ) → Bool → List ℕ → List ℕ → Type 0
TakesLine (line ∷ lines) left found before after = (found ≡ true) × (left ≡ lines) × (after ≡ before ++ line)
TakesLine [] left found before after = (found ≡ false) × (left ≡ []) × (after ≡ before)
