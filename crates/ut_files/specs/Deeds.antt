-- What was done in a folder: the deeds in order, what they say, and what a call adds to them.
use Rattle.std.specs.Prelude.{◌≡◌, ◌≢◌, ◌⊎◌, ℕ, ◌+◌, ◌-◌, ◌^◌, min, Bool, true, false, List, [], ◌∷◌, ◌++◌, All, Option, None, Some, Result, MatchResult}
use Rattle.ut_outside.specs.declared.disk.Which.{Which}
use Rattle.ut_outside.specs.declared.disk.Which.TheVariants.{Pages}
use Rattle.ut_files.specs.declared.folder.Deed.{Deed}
use Rattle.ut_files.specs.declared.folder.Deed.TheVariants as deeds

-- what was done, in order, and all the bytes that were read and written by it, in order
pub record Done : Type 0 where
  pub deeds : List Deed
  pub bytes : List ℕ
  -- how many calls failed: the count stays at the greatest u64
  pub failures : ℕ

-- these deeds behind those from before, and the bytes that they moved; no call failed
abbrev pub behind : Done → List Deed → List ℕ → Done
behind old more bytes = record { deeds = old.deeds ++ more; bytes = old.bytes ++ bytes; failures = old.failures }

-- a call failed, which may have done any part of its work
abbrev pub failed : Option Done → Option Done
failed None = None
failed (Some old) = Some (record { deeds = old.deeds; bytes = old.bytes; failures = min (old.failures + 1) (2 ^ 64 - 1) })

-- this was done, where the folder tells, and these bytes were moved
abbrev pub Adds : Deed → List ℕ → Option Done → Option Done → Type 0
Adds deed bytes None new = new ≡ None
Adds deed bytes (Some old) new = new ≡ Some (behind old (deed ∷ []) bytes)

-- a call that answers Ok adds its deed and the bytes that it moved, and one that fails is counted
abbrev pub Notes : {T E : Type 0} → Option Done → Option Done → Result T E → (T → Deed) → (T → List ℕ) → Type 0
Notes old new result deed bytes = MatchResult result (λ x. Adds (deed x) (bytes x) old new) (λ _. new ≡ failed old)

-- ---- what was done before

-- this was done, and since then nothing but what is allowed
pub record Since (Allowed : Deed → Type 0) (deed : Deed) (all : List Deed) : Type 0 where
  pub before : List Deed
  pub after : List Deed
  pub order : all ≡ before ++ deed ∷ after
  pub allowed : All Allowed after

-- any deed
abbrev pub Any : Deed → Type 0
Any _ = Unit {0}

-- the standard streams were filled
abbrev pub AreFilled : Option Done → Type 0
AreFilled None = Unit {0}
AreFilled (Some done) = Since Any deeds.Filled done.deeds

-- neither makes this file nor opens it
abbrev pub KeepsName : Which → Deed → Type 0
KeepsName file (deeds.Opened other) = other ≢ file
KeepsName file (deeds.Made other) = other ≢ file
KeepsName file _ = Unit {0}

-- since this file was made or opened, the names of the files were made durable
abbrev pub IsNamed : Which → Option Done → Type 0
IsNamed file None = Unit {0}
IsNamed file (Some done) = Since (KeepsName file) deeds.Named done.deeds

-- since the page file was made or opened it was locked: no other process has the store
abbrev pub IsHeld : Option Done → Type 0
IsHeld None = Unit {0}
IsHeld (Some done) = Since (KeepsName Pages) deeds.Locked done.deeds

-- this file wasn't there when it was looked for, and it wasn't made since
abbrev pub IsMissing : Which → Option Done → Type 0
IsMissing file None = Unit {0}
IsMissing file (Some done) = Since (KeepsName file) (deeds.Missing file) done.deeds

-- ---- what a call of the disk does

-- what an open comes to
abbrev pub opening : Which → Bool → Deed
opening file true = deeds.Opened file
opening file false = deeds.Missing file

-- what comes before a file's first use: it changes no file
abbrev pub IsOpening : Deed → Type 0
IsOpening deeds.Filled = Unit {0}
IsOpening (deeds.Missing _) = Unit {0}
IsOpening (deeds.Opened _) = Unit {0}
IsOpening deeds.Locked = Unit {0}
IsOpening deeds.Named = Unit {0}
IsOpening _ = ⊥

-- what comes before the first change of a file: it is opened or made, and so is the page file
abbrev pub IsMaking : Which → Deed → Type 0
IsMaking file (deeds.Made other) = (other ≡ file) ⊎ (other ≡ Pages)
IsMaking file deed = IsOpening deed

-- nothing but what is allowed was done between, no byte was moved, and no call failed
abbrev pub Grows : (Deed → Type 0) → Option Done → Option Done → Type 0
Grows Allowed None new = new ≡ None
Grows Allowed (Some old) new = (more : List Deed) × All Allowed more × (new ≡ Some (behind old more []))

-- after what is allowed this was done, with these bytes, and nothing behind it; no call failed
abbrev pub Ends : (Deed → Type 0) → Deed → List ℕ → Option Done → Option Done → Type 0
Ends Allowed deed bytes None new = new ≡ None
Ends Allowed deed bytes (Some old) new = (more : List Deed) × All Allowed more × (new ≡ Some (behind old (more ++ deed ∷ []) bytes))

-- A call did this to the file, whose name is durable, after what is allowed. Or the file isn't there, and the call is done with that.
pub data Does (file : Which) (Allowed : Deed → Type 0) (deed : Deed) (bytes : List ℕ) (Idle : Type 0) (old new : Option Done) : Type 0 where
  There : IsNamed file new → Ends Allowed deed bytes old new → Does file Allowed deed bytes Idle old new
  Absent : Idle → IsMissing file new → Grows IsOpening old new → Does file Allowed deed bytes Idle old new
