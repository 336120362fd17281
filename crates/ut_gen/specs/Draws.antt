-- The numbers that the generator draws, by a linear congruence.
use Rattle.std.specs.Prelude.{ℕ, zero, suc, ◌+◌, ◌*◌, ◌/◌, ◌%◌, ◌^◌, ◌<◌, ◌≡◌}

-- the state behind one draw
unfoldable pub stepped : ℕ → ℕ
stepped x = (x * 6364136223846793005 + 1442695040888963407) % 2 ^ 64

-- the state behind so many draws
unfoldable pub advanced : ℕ → ℕ → ℕ
advanced x zero = x
advanced x (suc n) = stepped (advanced x n)

-- what the draw number n gives, from 0: the high 31 bits of the state behind it
abbrev pub draw : ℕ → ℕ → ℕ
draw x n = advanced x (suc n) / 2 ^ 33

-- the map of x to x * factor + term, modulo 2 ^ 64, is that of so many draws
abbrev pub IsJump : ℕ → ℕ → ℕ → Type 0
IsJump n factor term = (x : ℕ) → x < 2 ^ 64 → (x * factor + term) % 2 ^ 64 ≡ advanced x n
