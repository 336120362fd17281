-- What stands at the front of bytes.
use Rattle.std.specs.Prelude.{◌≡◌, ℕ, Bool, IsTrue, List, ◌++◌}

-- the bytes begin with the spelling of x, which keeps its rule, and the rest stands behind it
abbrev pub Begins : {X : Type 0} → (X → List ℕ) → (X → Bool) → List ℕ → X → List ℕ → Type 0
Begins spelling keeps bytes x rest = IsTrue (keeps x) × (bytes ≡ spelling x ++ rest)

-- the bytes begin with no spelling
abbrev pub BeginsNone : {X : Type 0} → (X → List ℕ) → (X → Bool) → List ℕ → Type 0
BeginsNone {X} spelling keeps bytes = (x : X) (rest : List ℕ) → Begins spelling keeps bytes x rest → ⊥

-- bytes begin with one spelling at most
abbrev pub BeginsOnce : {X : Type 0} → (X → List ℕ) → (X → Bool) → Type 0
BeginsOnce {X} spelling keeps =
    (a b : X) (x y bytes : List ℕ) → Begins spelling keeps bytes a x → Begins spelling keeps bytes b y
    → (a ≡ b) × (x ≡ y)
