-- How the members of a crew come back: each behind turns of its own, the last of which said that it is over.
use Rattle.std.specs.Prelude.{◌≡◌, ◌⊎◌, ℕ, zero, suc, List, Option, Some, None, All}
use mathlib.Core.List.{IsPrefix}
use Rattle.ut_gate.specs.declared.held.Slip.{Slip}
use Rattle.ut_gate.specs.Passes.{Carried, Turn, slip_of}
use Rattle.ut_crew.specs.declared.role.Kept.{Kept}
use Rattle.ut_crew.specs.declared.role.Kept.TheVariants as kept
use Rattle.ut_crew.specs.declared.role.Role.{Role}
use Rattle.ut_crew.specs.declared.role.Role.TheVariants.{Session, Merger, Saver}
use Rattle.ut_crew.specs.declared.role.Went.{Went}
use Rattle.ut_crew.specs.declared.role.Went.TheVariants as went

module _ {X J A W : Type 0} (turn : A → A → Carried X J → Carried X J → W → Type 0) (over : W) where
  -- so many turns of the act a, behind none of which it was over: it is b then, and its pass is q
  abbrev pub GoesOn : ℕ → A → A → Carried X J → Type 0
  GoesOn zero a b q = b ≡ a
  GoesOn (suc n) a b q = (c : A) × (p : Carried X J) × (w : W) × GoesOn n a c p × turn c b p q w × (w ≡ over → ⊥)

  -- the pass comes back as q, behind turns of the act a, and the answer of the last of them is one that lets it go
  pub record Leaves (last : W → Type 0) (a : A) (q : Carried X J) : Type 0 where
    pub turns : ℕ
    pub before : A
    pub after : A
    pub pass : Carried X J
    pub answer : W
    pub goes : GoesOn turns a before pass
    pub ends : turn before after pass q answer
    pub lets_go : last answer

-- a session leaves behind an act that was over
abbrev pub IsOver : Went → Type 0
IsOver answer = answer ≡ went.Over

-- a keeper leaves behind an act that was over, or that was idle
abbrev pub IsLast : Kept → Type 0
IsLast answer = (answer ≡ kept.Over) ⊎ (answer ≡ kept.Idle)

-- the job in a merger's slip could not be built
abbrev pub IsStuck : {X J M : Type 0} → (unbuilt : M → J → Type 0) → M → Carried X J → Type 0
IsStuck {X} {J} unbuilt m q = (j : J) × (q.job ≡ Some j) × unbuilt m j

module _ {X J S : Type 0} (book : S → List X) (job : S → Option J) (good : S → Type 0) where
  -- what an act says of a turn of it: itself, the value and the slip, each before and after, and the answer
  abbrev pub Says : Type 0 → Type 0 → Type 1
  Says A W = A → A → S → S → Slip J → Slip J → W → Type 0

  -- a turn of the act a by the pass p: the act is b then, the pass is q, and this was the answer
  abbrev pub Acts : {A W : Type 0} → Says A W → A → A → Carried X J → Carried X J → W → Type 0
  Acts relates a b p q w = Turn book job good (λ x y. relates a b x y (slip_of p) (slip_of q) w) p q

  -- a merger's turn: its own act's where its slip has no job, and else the turn of an act that may end the job
  abbrev pub Merges : {M N : Type 0} → Says M Kept → (asks : N → Slip J → Type 0) → Says N Kept → M → M → Carried X J → Carried X J → Kept → Type 0
  Merges {M} {N} merger asks ends m m' p q w =
      ((p.job ≡ None) × Acts merger m m' p q w)
      ⊎ ((m' ≡ m) × (e : N) × (e' : N) × (j : J) × (p.job ≡ Some j) × asks e (slip_of p) × Acts ends e e' p q w)

  -- a session left, behind an act of its own that was over
  abbrev pub SessionLeft : {A : Type 0} → Says A Went → A → Carried X J → Type 0
  SessionLeft session = Leaves (Acts session) went.Over IsOver

  -- a saver left
  abbrev pub SaverLeft : {K : Type 0} → Says K Kept → K → Carried X J → Type 0
  SaverLeft saver = Leaves (Acts saver) kept.Over IsLast

  module _ {M N : Type 0} (merger : Says M Kept) (asks : N → Slip J → Type 0) (ends : Says N Kept) (unbuilt : M → J → Type 0) where
    -- a merger left, since the job in its slip could not be built
    pub record LeavesStuck (m : M) (q : Carried X J) : Type 0 where
      pub turns : ℕ
      pub after : M
      pub goes : GoesOn (Merges merger asks ends) kept.Over turns m after q
      pub stuck : IsStuck unbuilt after q

    -- a merger left: what was built of a job had its turn
    abbrev pub MergerLeft : M → Carried X J → Type 0
    MergerLeft m q = Leaves (Merges merger asks ends) kept.Over IsLast m q ⊎ LeavesStuck m q

    module _ {A K : Type 0} (session : Says A Went) (saver : Says K Kept) where
      -- who had this part left
      abbrev pub HasLeft : Role A M K → Carried X J → Type 0
      HasLeft (Session a) q = SessionLeft session a q
      HasLeft (Merger m) q = MergerLeft m q
      HasLeft (Saver k) q = SaverLeft saver k q

      -- a pass came back so, and all that it saw is in the book of this value
      abbrev pub IsBack : (Carried X J → Type 0) → S → Type 0
      IsBack left value = (q : Carried X J) × left q × IsPrefix q.seen (book value)

      -- all members left, and the value has what they did
      abbrev pub AllLeft : List A → M → K → S → Type 0
      AllLeft sessions m k value =
          All (λ a. IsBack (SessionLeft session a) value) sessions
          × IsBack (MergerLeft m) value
          × IsBack (SaverLeft saver k) value
