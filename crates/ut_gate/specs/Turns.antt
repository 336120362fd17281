-- What an act keeps of a value's book and of its job.
use Rattle.std.specs.Prelude.{◌≡◌, List, [], ◌∷◌, ◌++◌, ◌⊎◌, Option, Some, None}

-- the book stays, or gets one entry
abbrev pub AddsOne : {X : Type 0} → List X → List X → Type 0
AddsOne {X} before after = (after ≡ before) ⊎ ((x : X) × (after ≡ before ++ x ∷ []))

-- a job in a slip is the value's
abbrev pub MeetsJob : {J : Type 0} → Option J → Option J → Type 0
MeetsJob value None = Unit {0}
MeetsJob value (Some j) = value ≡ Some j

-- the slip's job afterwards: the value's, but none where the value's is held by another slip
abbrev pub slip_after : {J : Type 0} → Option J → Option J → Option J → Option J
slip_after None after slip = after
slip_after (Some k) after None = None
slip_after (Some k) after (Some j) = after

-- the value's job may change where it is in the slip or there is none; else it stays
abbrev pub MayChange : {J : Type 0} → Option J → Option J → Option J → Type 0
MayChange None after slip = Unit {0}
MayChange (Some k) after None = after ≡ Some k
MayChange (Some k) after (Some j) = Unit {0}

-- after an act the value's job is in the slip, but one that another slip holds stays there
abbrev pub KeepsJob : {J : Type 0} → Option J → Option J → Option J → Option J → Type 0
KeepsJob before after slip slip' =
    MayChange before after slip × (slip' ≡ slip_after before after slip)
