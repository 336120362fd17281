-- A list of keys, held as all their bytes and the place behind each.
use Rattle.std.specs.Prelude.{◌≡◌, ℕ, zero, suc, ◌+◌, ◌-◌, ◌≤◌, List, [], ◌∷◌, take, drop, get_or}

-- the keys that end at these places, the first of which begins at start
abbrev pub keys_from : ℕ → List ℕ → List ℕ → List (List ℕ)
keys_from start [] bytes = []
keys_from start (end ∷ ends) bytes = take (end - start) (drop start bytes) ∷ keys_from end ends bytes

-- where key i begins
abbrev pub start_at : ℕ → List ℕ → ℕ → ℕ
start_at start ends zero = start
start_at start ends (suc i) = get_or ends i 0

-- each end is behind the one before it, by at most 255, and the last is the number of bytes
abbrev pub AreEnds : ℕ → List ℕ → ℕ → Type 0
AreEnds start [] size = start ≡ size
AreEnds start (end ∷ ends) size = (start ≤ end) × (end ≤ start + 255) × AreEnds end ends size
