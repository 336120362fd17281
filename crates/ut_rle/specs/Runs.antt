-- Runs: equal codes that stand side by side, told by the code and how often it stands there.
use Rattle.std.specs.Prelude.{◌≡◌, ℕ, zero, suc, ◌+◌, ◌<◌, ◌==◌, Bool, false, if◌then◌else◌, List, [], ◌∷◌, ◌++◌, length, drop}
use Rattle.ut_bits.specs.Words.{word_bytes, word_in}

-- n times the code c
abbrev pub copies : ℕ → ℕ → List ℕ
copies zero c = []
copies (suc n) c = c ∷ copies n c

-- the codes that runs stand for
abbrev pub expanded : List (ℕ × ℕ) → List ℕ
expanded [] = []
expanded (r ∷ rs) = copies r.1 r.0 ++ expanded rs

-- runs with a code in front: it lengthens the first run, or is a run of its own
abbrev pub with_code : ℕ → List (ℕ × ℕ) → List (ℕ × ℕ)
with_code c [] = (c, 1) ∷ []
with_code c (r ∷ rs) = if r.0 == c then (c, r.1 + 1) ∷ rs else (c, 1) ∷ r ∷ rs

-- the runs of codes: neighbours differ in code, and none is empty
abbrev pub runs_of : List ℕ → List (ℕ × ℕ)
runs_of [] = []
runs_of (c ∷ cs) = with_code c (runs_of cs)

-- the bytes of runs one by one: the code, then the length, 32 bits each
abbrev pub entries_of : List (ℕ × ℕ) → List ℕ
entries_of [] = []
entries_of (r ∷ rs) = (word_bytes r.0 ++ word_bytes r.1) ++ entries_of rs

-- the bytes of codes as runs: the number of runs in 32 bits, then the runs
abbrev pub run_bytes : List ℕ → List ℕ
run_bytes codes = word_bytes (length (runs_of codes)) ++ entries_of (runs_of codes)

-- whether the first run is of code c
abbrev pub is_first_code : List (ℕ × ℕ) → ℕ → Bool
is_first_code [] c = false
is_first_code (r ∷ rs) c = r.0 == c

-- whether the last run is of code c
abbrev pub is_last_code : List (ℕ × ℕ) → ℕ → Bool
is_last_code [] c = false
is_last_code (r ∷ []) c = r.0 == c
is_last_code (r ∷ s ∷ rs) c = is_last_code (s ∷ rs) c

-- neighbours differ in code, no run is empty, and each code is below the limit
abbrev pub AreRuns : ℕ → List (ℕ × ℕ) → Type 0
AreRuns limit [] = Unit {0}
AreRuns limit (r ∷ rs) = (r.0 < limit) × (0 < r.1) × (is_first_code rs r.0 ≡ false) × AreRuns limit rs

-- the first n entries that bytes spell: code and length, 32 bits each
abbrev pub entries_in : ℕ → List ℕ → List (ℕ × ℕ)
entries_in zero bytes = []
entries_in (suc n) bytes = (word_in bytes, word_in (drop 4 bytes)) ∷ entries_in n (drop 8 bytes)

-- how many codes the runs stand for
abbrev pub rows_of : List (ℕ × ℕ) → ℕ
rows_of [] = 0
rows_of (r ∷ rs) = r.1 + rows_of rs
