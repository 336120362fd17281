-- What the elements of a sort hold: the key of a code.
use Rattle.std.specs.Prelude.{◌≡◌, ℕ, ◌^◌, ◌<◌, List, [], get_or}
use Rattle.std.specs.Int.{to_be_bytes, w64}
use Rattle.ut_unsorted.specs.declared.order.CodedWord.{CodedWord}

-- the number spells the word of the code
pub record IsCoded (words : List (List ℕ)) (word : CodedWord) : Type 0 where
  pub spelled : to_be_bytes w64 word.number ≡ get_or words word.code []
  pub small : word.number < 2 ^ 64
