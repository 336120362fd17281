-- The keys that a dictionary holds, in each of its forms.
use Rattle.std.specs.Prelude.{ℕ, List}
use Rattle.ut_unsorted.specs.declared.held.Held.{Held}
use Rattle.ut_unsorted.specs.declared.held.Held.TheVariants.{Rising, Words, Texts}

-- in first-seen order
abbrev pub held_keys : Held → List (List ℕ)
held_keys (Rising words) = words
held_keys (Words words) = words.keys
held_keys (Texts texts) = texts.keys
