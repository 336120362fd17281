-- How the calls that a call of the disk makes go on.
use Rattle.std.proofs.Common.{◌≡◌, inl, inr, ℕ, Bool, true, false, List, [], Option, Result, Ok, Err, refl, ◌∙◌, subst, sym}
use Rattle.std.specs.Prelude.{⊤, OnOk, IfOk}
use Rattle.std.specs.Bool.{MatchBool}
use Rattle.std.proofs.lemmas.Bool.{false≢true}
use Rattle.ut_outside.specs.declared.disk.Which.{Which}
use Rattle.ut_outside.specs.declared.disk.Which.TheVariants.{Pages}
use Rattle.ut_files.specs.declared.folder.Deed.{Deed}
use Rattle.ut_files.specs.declared.folder.Deed.TheVariants as deeds
use Rattle.ut_files.specs.Deeds.{Done, Adds, Notes, KeepsName, IsMissing, IsNamed, IsOpening, IsMaking, Grows, Ends, Does, opening}
use Rattle.ut_files.proofs.DeedLemmas.{named_kept, grows_on, grows_one, grows_weaker, ends_by}

-- ---- what is opened

opening_opens : (file : Which) (found : Bool) → IsOpening (opening file found)
opening_opens file true = tt
opening_opens file false = tt

-- what is allowed, and then an open
pub opens_by : (a b within c : Option Done) (file : Which) (found : Bool) → Grows IsOpening a b → within ≡ b → Adds (opening file found) [] within c → Grows IsOpening a c
opens_by a b within c file found grows same adds =
    grows_on IsOpening a b c grows (grows_one IsOpening b c (opening file found) (subst (λ d. Adds (opening file found) [] d c) same adds) (opening_opens file found))

pub opens_more : (a b c : Option Done) → Grows IsOpening a b → Grows IsOpening b c → Grows IsOpening a c
opens_more a b c first second = grows_on IsOpening a b c first second

-- ---- what is made

making : (file : Which) (deed : Deed) → IsOpening deed → IsMaking file deed
making file (deeds.Made other) opens = absurd opens
making file deeds.Filled opens = opens
making file (deeds.Missing other) opens = opens
making file (deeds.Opened other) opens = opens
making file deeds.Locked opens = opens
making file deeds.Named opens = opens
making file (deeds.Sized other len) opens = opens
making file (deeds.Read other at count) opens = opens
making file (deeds.Wrote other at count) opens = opens
making file (deeds.Cut other len) opens = opens
making file (deeds.Synced other) opens = opens

making_too : (file : Which) (deed : Deed) → IsMaking Pages deed → IsMaking file deed
making_too file (deeds.Made other) (inl is) = inr is
making_too file (deeds.Made other) (inr is) = inr is
making_too file deeds.Filled makes = makes
making_too file (deeds.Missing other) makes = makes
making_too file (deeds.Opened other) makes = makes
making_too file deeds.Locked makes = makes
making_too file deeds.Named makes = makes
making_too file (deeds.Sized other len) makes = makes
making_too file (deeds.Read other at count) makes = makes
making_too file (deeds.Wrote other at count) makes = makes
making_too file (deeds.Cut other len) makes = makes
making_too file (deeds.Synced other) makes = makes

-- what is opened, and then what is made
pub makes_after : (file : Which) (a b c : Option Done) → Grows IsOpening a b → Grows (IsMaking file) b c → Grows (IsMaking file) a c
makes_after file a b c opens makes = grows_on (IsMaking file) a b c (grows_weaker IsOpening (IsMaking file) a b (making file) opens) makes

pub makes_more : (file : Which) (a b c : Option Done) → Grows (IsMaking file) a b → Grows IsOpening b c → Grows (IsMaking file) a c
makes_more file a b c makes opens = grows_on (IsMaking file) a b c makes (grows_weaker IsOpening (IsMaking file) b c (making file) opens)

-- the page file is made for the sake of another
pub makes_pages : (file : Which) (a b : Option Done) → Grows (IsMaking Pages) a b → Grows (IsMaking file) a b
makes_pages file a b makes = grows_weaker (IsMaking Pages) (IsMaking file) a b (making_too file) makes

-- the store is taken, and the file looked for
pub makes_open : (file : Which) (a b within c : Option Done) (found : Bool) → Grows (IsMaking Pages) a b → within ≡ b → Adds (opening file found) [] within c → Grows (IsMaking file) a c
makes_open file a b within c found makes same adds =
    makes_more file a b c (makes_pages file a b makes) (grows_one IsOpening b c (opening file found) (subst (λ d. Adds (opening file found) [] d c) same adds) (opening_opens file found))

-- and then it is made
pub makes_file : (file : Which) (a b c : Option Done) → Grows (IsMaking file) a b → Adds (deeds.Made file) [] b c → Grows (IsMaking file) a c
makes_file file a b c makes adds = grows_on (IsMaking file) a b c makes (grows_one (IsMaking file) b c (deeds.Made file) adds (inl refl))

-- a call that answers as another one did goes on from what that one leaves
pub then_ok : {T E X Y : Type 0} (result : Result T E) → (X → Y) → OnOk result X → OnOk result Y
then_ok (Ok x) implies fact = implies fact
then_ok (Err e) implies fact = tt

-- ---- the call itself, on an open file

pub does_last : {T E : Type 0} (file : Which) (P : Deed → Type 0) (a b within c : Option Done) (result : Result T E) (deed : T → Deed) (bytes : T → List ℕ) (Idle : T → Type 0)
    → Grows P a b → IsNamed file within → within ≡ b → Notes within c result deed bytes → ((x : T) → KeepsName file (deed x))
    → IfOk result (λ x. Does file P (deed x) (bytes x) (Idle x) a c)
does_last file P a b within c (Ok x) deed bytes Idle grows named same adds keeps =
    Does.There (named_kept file within c (deed x) (bytes x) adds (keeps x) named) (ends_by P a b c (deed x) (bytes x) grows (subst (λ d. Adds (deed x) (bytes x) d c) same adds))
does_last file P a b within c (Err e) deed bytes Idle grows named same notes keeps = tt

pub did_last : {E : Type 0} (file : Which) (P : Deed → Type 0) (a b within c : Option Done) (result : Result (Unit {0}) E) (deed : Deed) (bytes : List ℕ) (Idle : Type 0)
    → Grows P a b → IsNamed file within → within ≡ b → Notes within c result (λ _. deed) (λ _. bytes) → KeepsName file deed
    → OnOk result (Does file P deed bytes Idle a c)
did_last file P a b within c (Ok x) deed bytes Idle grows named same adds keeps =
    Does.There (named_kept file within c deed bytes adds keeps named) (ends_by P a b c deed bytes grows (subst (λ d. Adds deed bytes d c) same adds))
did_last file P a b within c (Err e) deed bytes Idle grows named same notes keeps = tt

pub found_named : (X Y : Type 0) (found : Bool) → found ≡ true → MatchBool found X Y → X
found_named X Y true is match = match
found_named X Y false is match = absurd (false≢true is)
