-- The width of codes, and the sizes of the forms in bits.
use Rattle.std.specs.Prelude.{ℕ, zero, suc, ◌+◌, ◌-◌, ◌*◌, ◌^◌, ◌≤◌, nat_le, if◌then◌else◌, List, length}
use Rattle.ut_rle.specs.Runs.{runs_of}
use Rattle.ut_sparse.specs.Frequent.{count_of, most_frequent}

-- the first of the widths from w on, at most so many, that holds n codes
abbrev pub width_from : ℕ → ℕ → ℕ → ℕ
width_from zero w n = w
width_from (suc more) w n = if nat_le n (2 ^ w) then w else width_from more (w + 1) n

-- the least width that holds n codes: the least w with n at most 2 ^ w
unfoldable pub code_width : ℕ → ℕ
code_width n = width_from n 0 n

-- this width holds n codes, and no smaller one does
abbrev pub IsWidth : ℕ → ℕ → Type 0
IsWidth n w = (n ≤ 2 ^ w) × ((v : ℕ) → n ≤ 2 ^ v → w ≤ v)

-- each code at the width
abbrev pub packed_size : List ℕ → ℕ → ℕ
packed_size codes reach = length codes * code_width reach

-- a code and a length of 32 bits for each run
abbrev pub run_size : List ℕ → ℕ
run_size codes = 64 * length (runs_of codes)

-- a mark for each row, and the width for each that isn't the most frequent code
abbrev pub sparse_size : List ℕ → ℕ → ℕ
sparse_size codes reach = length codes + (length codes - count_of (most_frequent codes) codes) * code_width reach
