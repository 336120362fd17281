-- The words of a line.
use Rattle.std.specs.Prelude.{ℕ, suc, ◌≡◌, Bool, true, false, not, ◌&&◌, nat_eq, if◌then◌else◌, List, [], ◌∷◌, filter, Option, Some, option_and_then}
use Rattle.std.specs.Option.{option_map}

-- a space parts words where no quote is open
abbrev pub parts_words : Bool → ℕ → Bool
parts_words inside b = nat_eq b 32 && not inside

-- whether a quote is open behind a byte: the two quotes of a doubled one close and open it again
abbrev pub inside_after : Bool → ℕ → Bool
inside_after inside b = if nat_eq b 39 then not inside else inside

-- a byte in front of the first piece
abbrev pub onto_piece : ℕ → List (List ℕ) → List (List ℕ)
onto_piece b [] = (b ∷ []) ∷ []
onto_piece b (piece ∷ pieces) = (b ∷ piece) ∷ pieces

-- what stands between the spaces that part words, from a place inside or outside of quotes on
abbrev pub pieces_of : Bool → List ℕ → List (List ℕ)
pieces_of inside [] = [] ∷ []
pieces_of inside (b ∷ bytes) =
    if parts_words inside b then [] ∷ pieces_of false bytes else onto_piece b (pieces_of (inside_after inside b) bytes)

-- whether a piece is a word: two spaces in a row have none between them
abbrev pub has_bytes : List ℕ → Bool
has_bytes [] = false
has_bytes (b ∷ bytes) = true

-- the words of a line
abbrev pub words_of : List ℕ → List (List ℕ)
words_of bytes = filter has_bytes (pieces_of false bytes)

-- how long the piece at the front is
abbrev pub piece_len : Bool → List ℕ → ℕ
piece_len inside [] = 0
piece_len inside (b ∷ bytes) = if parts_words inside b then 0 else suc (piece_len (inside_after inside b) bytes)

-- no space stands at the front
abbrev pub BeginsWord : List ℕ → Type 0
BeginsWord [] = Unit {0}
BeginsWord (b ∷ bytes) = nat_eq b 32 ≡ false

-- what each of the words says, where each of them says something
abbrev pub all_of : {A : Type 0} → (List ℕ → Option A) → List (List ℕ) → Option (List A)
all_of read [] = Some []
all_of read (word ∷ words) = option_and_then (λ x. option_map (λ xs. x ∷ xs) (all_of read words)) (read word)
