-- The least and the greatest of values: one of them that no other beats.
use Rattle.std.specs.Prelude.{◌≡◌, Bool, false, All, Contains, List, [], IfNone, IfSome, Some}
use Rattle.std.specs.declared.cmp.Ordering.{Ordering}
use Rattle.ut_value.specs.declared.value.Value.{Value}
use Rattle.ut_value.specs.KeyOrder.{value_cmp}
use Rattle.ut_plain.specs.Query.{best}

-- it is one of the values, and none of them beats it
pub record IsBest (beats : Ordering → Bool) (vs : List Value) (v : Value) : Type 0 where
  pub there : Contains vs v
  pub unbeaten : All (λ w. beats (value_cmp w v) ≡ false) vs

-- that is what is told of values, and nothing is told only where there is none
abbrev pub TellsBest : (Ordering → Bool) → Type 0
TellsBest beats = (vs : List Value) → IfSome (best beats vs) (IsBest beats vs) × IfNone (best beats vs) (vs ≡ [])

-- no two values are the best
abbrev pub IsOnlyBest : (Ordering → Bool) → Type 0
IsOnlyBest beats = (vs : List Value) (v : Value) → IsBest beats vs v → best beats vs ≡ Some v
