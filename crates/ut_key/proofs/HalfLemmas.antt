-- What a search by halves may still cost.
use Rattle.std.proofs.Common.{◌≡◌, ◌+◌, ◌/◌, ◌^◌, ◌<◌, ◌≤◌, ℕ, zero, suc, arith}
use Rattle.std.proofs.Math.Nat.{pow-suc}

-- half of what is left
halved : (size half left before now digits : ℕ) → 0 < size → half ≤ size / 2 → size < 2 ^ left → now + left ≤ before + digits
    → (next : ℕ) × (half < 2 ^ next) × (now + 1 + next ≤ before + digits)
halved size half zero before now digits pos le lt cost = absurd (omega arith)
halved size half (suc left) before now digits pos le lt cost = (left, omega (arith, pow-suc 2 left), omega arith)

-- one step more on at most half of what was left
pub halves : (size half before now after digits : ℕ) → 0 < size → half ≤ size / 2 → after ≡ now + 1 → (left : ℕ) × (size < 2 ^ left) × (now + left ≤ before + digits)
    → (next : ℕ) × (half < 2 ^ next) × (after + next ≤ before + digits)
halves size half before now after digits pos le e h =
    let n = halved size half h.0 before now digits pos le h.1 h.2 in (n.0, n.1, omega (arith, n.2))
