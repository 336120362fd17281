-- What the spellings of entries have in common.
use Rattle.std.specs.Prelude.{◌≡◌, ℕ, ◌≤◌, IsTrue, List, ◌++◌, length}
use Rattle.ut_value.specs.declared.entry.Entry.{Entry}
use Rattle.ut_value.specs.Spelling.{spelling, has_spelling}

-- an entry has one spelling, and no entry's spelling begins another's
abbrev pub OneSpelling : Type 0
OneSpelling =
    (a b : Entry) (x y : List ℕ) → IsTrue (has_spelling a) → IsTrue (has_spelling b) → spelling a ++ x ≡ spelling b ++ y
    → (a ≡ b) × (x ≡ y)

-- a spelling has a byte
abbrev pub SpellingsHaveBytes : Type 0
SpellingsHaveBytes = (entry : Entry) → 1 ≤ length (spelling entry)
