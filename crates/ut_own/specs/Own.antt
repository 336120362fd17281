-- The own dictionary of a column of a part, and what its codes stand for.
use Rattle.std.specs.Prelude.{◌≡◌, ◌⊎◌, ℕ, Bool, true, false, not, List, [], ◌∷◌, filter, map, get_or, Option, None}
use Rattle.std.specs.declared.cmp.Ordering.{Ordering}
use Rattle.std.specs.declared.cmp.Ordering.TheVariants.{Less, Equal, Greater}
use Rattle.std.specs.List.{list_any}
use Rattle.std.specs.Ordering.{is_eq}
use Rattle.std.specs.Option.{unwrap_or}
use Rattle.ut_key.specs.Keys.{key_cmp}

-- keys with one more, by how it compares with the first: in front of it, left out, or among the others
abbrev pub placed : Ordering → List ℕ → List ℕ → List (List ℕ) → List (List ℕ) → List (List ℕ)
placed Less key first rest inserted = key ∷ first ∷ rest
placed Equal key first rest inserted = first ∷ rest
placed Greater key first rest inserted = first ∷ inserted

-- a key at its place among ascending keys, unless it is there
abbrev pub insert_key : List ℕ → List (List ℕ) → List (List ℕ)
insert_key key [] = key ∷ []
insert_key key (first ∷ rest) = placed (key_cmp key first) key first rest (insert_key key rest)

-- the keys of both, each once; ascending where the others are
abbrev pub union : List (List ℕ) → List (List ℕ) → List (List ℕ)
union [] others = others
union (key ∷ keys) others = insert_key key (union keys others)

-- the keys whose flag is set
abbrev pub used : List (List ℕ) → List Bool → List (List ℕ)
used [] flags = []
used (key ∷ keys) [] = []
used (key ∷ keys) (true ∷ flags) = key ∷ used keys flags
used (key ∷ keys) (false ∷ flags) = used keys flags

-- whether a key stands among these
abbrev pub holds : List (List ℕ) → List ℕ → Bool
holds keys key = list_any (λ k. is_eq (key_cmp key k)) keys

-- the cells whose key no earlier dictionary holds
abbrev pub news : List (List ℕ) → List (List ℕ) → List (List ℕ)
news earlier cells = filter (λ key. not (holds earlier key)) cells

-- the own dictionary of a column behind the earlier dictionaries, which are laid end to end
abbrev pub own_dict : List (List ℕ) → List (List ℕ) → List (List ℕ)
own_dict earlier cells = union (news earlier cells) []

-- what codes stand for
abbrev pub cells_of : List (List ℕ) → List ℕ → List (List ℕ)
cells_of keys codes = map (λ c. get_or keys c []) codes

-- codes by a map of the old ones to new ones
abbrev pub recoded : List (Option ℕ) → List ℕ → List ℕ
recoded entries codes = map (λ c. unwrap_or (get_or entries c None) 0) codes

-- a key is one of these
abbrev pub In : List ℕ → List (List ℕ) → Type 0
In key [] = ⊥
In key (first ∷ rest) = (key ≡ first) ⊎ In key rest

-- a key is below each of these
abbrev pub Below : List ℕ → List (List ℕ) → Type 0
Below key [] = Unit {0}
Below key (first ∷ rest) = (key_cmp key first ≡ Less) × Below key rest

-- each key is below those behind it
abbrev pub Ascends : List (List ℕ) → Type 0
Ascends [] = Unit {0}
Ascends (key ∷ keys) = Below key keys × Ascends keys

-- each of the first keys is below each of the others
abbrev pub AreBelow : List (List ℕ) → List (List ℕ) → Type 0
AreBelow [] others = Unit {0}
AreBelow (key ∷ keys) others = Below key others × AreBelow keys others
