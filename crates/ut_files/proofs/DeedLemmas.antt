-- What calls add to what was done, one after the other.
use Rattle.std.proofs.Common.{◌≡◌, ℕ, List, [], ◌∷◌, ◌++◌, Option, None, Some, refl, ◌∙◌, ap, subst, sym, append_assoc}
use Rattle.std.specs.List.{All}
use Rattle.std.proofs.lemmas.List.{append-nil}
use Rattle.std.proofs.lemmas.List.Elements.{All-nil, All-append, All-push}
use Rattle.ut_outside.specs.declared.disk.Which.{Which}
use Rattle.ut_outside.specs.declared.disk.Which.TheVariants.{Pages}
use Rattle.ut_files.specs.declared.folder.Deed.{Deed}
use Rattle.ut_files.specs.declared.folder.Deed.TheVariants as deeds
use Rattle.ut_files.specs.Deeds.{Done, behind, Adds, Since, Any, AreFilled, IsHeld, IsMissing, KeepsName, IsNamed, Grows, Ends}

-- ---- joining

behind_behind : (o : Done) (first second : List Deed) (xs ys : List ℕ) → behind (behind o first xs) second ys ≡ behind o (first ++ second) (xs ++ ys)
behind_behind o first second xs ys = rw (append_assoc o.deeds first second, append_assoc o.bytes xs ys) refl

all_one : (P : Deed → Type 0) (deed : Deed) → P deed → All P (deed ∷ [])
all_one P deed p = All-push P [] deed (All-nil P) p

-- ---- what was done stays done

since_more : (P : Deed → Type 0) (deed : Deed) (all more : List Deed) → Since P deed all → All P more → Since P deed (all ++ more)
since_more P deed all more since each = record {
  before = since.before;
  after = since.after ++ more;
  order = ap (λ ds. ds ++ more) since.order ∙ append_assoc since.before (deed ∷ since.after) more;
  allowed = All-append P since.after more since.allowed each;
}

since_one : (P : Deed → Type 0) (deed : Deed) (all : List Deed) (next : Deed) → Since P deed all → P next → Since P deed (all ++ next ∷ [])
since_one P deed all next since allowed = since_more P deed all (next ∷ []) since (all_one P next allowed)

since_last : (P : Deed → Type 0) (deed : Deed) (all : List Deed) → Since P deed (all ++ deed ∷ [])
since_last P deed all = record { before = all; after = []; order = refl; allowed = All-nil P }

-- ---- one call more

pub named_kept : (file : Which) (a b : Option Done) (deed : Deed) (bytes : List ℕ) → Adds deed bytes a b → KeepsName file deed → IsNamed file a → IsNamed file b
named_kept file None b deed bytes adds keeps named = subst (IsNamed file) (sym adds) tt
named_kept file (Some o) b deed bytes adds keeps named = subst (IsNamed file) (sym adds) (since_one (KeepsName file) deeds.Named o.deeds deed named keeps)

pub named_now : (file : Which) (a b : Option Done) → Adds deeds.Named [] a b → IsNamed file b
named_now file None b adds = subst (IsNamed file) (sym adds) tt
named_now file (Some o) b adds = subst (IsNamed file) (sym adds) (since_last (KeepsName file) deeds.Named o.deeds)

pub filled_now : (a b : Option Done) → Adds deeds.Filled [] a b → AreFilled b
filled_now None b adds = subst AreFilled (sym adds) tt
filled_now (Some o) b adds = subst AreFilled (sym adds) (since_last Any deeds.Filled o.deeds)

pub filled_kept : (a b : Option Done) (deed : Deed) (bytes : List ℕ) → Adds deed bytes a b → AreFilled a → AreFilled b
filled_kept None b deed bytes adds filled = subst AreFilled (sym adds) tt
filled_kept (Some o) b deed bytes adds filled = subst AreFilled (sym adds) (since_one Any deeds.Filled o.deeds deed filled tt)

pub held_now : (a b : Option Done) → Adds deeds.Locked [] a b → IsHeld b
held_now None b adds = subst IsHeld (sym adds) tt
held_now (Some o) b adds = subst IsHeld (sym adds) (since_last (KeepsName Pages) deeds.Locked o.deeds)

pub held_kept : (a b : Option Done) (deed : Deed) (bytes : List ℕ) → Adds deed bytes a b → KeepsName Pages deed → IsHeld a → IsHeld b
held_kept None b deed bytes adds keeps held = subst IsHeld (sym adds) tt
held_kept (Some o) b deed bytes adds keeps held = subst IsHeld (sym adds) (since_one (KeepsName Pages) deeds.Locked o.deeds deed held keeps)

pub missing_now : (file : Which) (a b : Option Done) → Adds (deeds.Missing file) [] a b → IsMissing file b
missing_now file None b adds = subst (IsMissing file) (sym adds) tt
missing_now file (Some o) b adds = subst (IsMissing file) (sym adds) (since_last (KeepsName file) (deeds.Missing file) o.deeds)

pub missing_kept : (file : Which) (a b : Option Done) (deed : Deed) (bytes : List ℕ) → Adds deed bytes a b → KeepsName file deed → IsMissing file a → IsMissing file b
missing_kept file None b deed bytes adds keeps missing = subst (IsMissing file) (sym adds) tt
missing_kept file (Some o) b deed bytes adds keeps missing = subst (IsMissing file) (sym adds) (since_one (KeepsName file) (deeds.Missing file) o.deeds deed missing keeps)

-- ---- how a run of calls goes on

-- what is allowed, and then what is allowed
pub grows_on : (P : Deed → Type 0) (a b c : Option Done) → Grows P a b → Grows P b c → Grows P a c
grows_on P None b c first second = subst (λ m. Grows P m c) first second
grows_on P (Some o) b c first second =
    let later : Grows P (Some (behind o first.0 [])) c = subst (λ m. Grows P m c) first.2 second in
    (first.0 ++ later.0, All-append P first.0 later.0 first.1 later.1, later.2 ∙ ap Some (behind_behind o first.0 later.0 [] []))

-- one call that is allowed
pub grows_one : (P : Deed → Type 0) (a b : Option Done) (deed : Deed) → Adds deed [] a b → P deed → Grows P a b
grows_one P None b deed adds allowed = adds
grows_one P (Some o) b deed adds allowed = (deed ∷ [], all_one P deed allowed, adds)

pub grows_weaker : (P Q : Deed → Type 0) (a b : Option Done) → ((d : Deed) → P d → Q d) → Grows P a b → Grows Q a b
grows_weaker P Q None b implies grows = grows
grows_weaker P Q (Some o) b implies grows = (grows.0, (λ k d lt. implies _ (grows.1 k d lt)), grows.2)

-- what is allowed, and one call behind it
pub ends_by : (P : Deed → Type 0) (a b c : Option Done) (deed : Deed) (bytes : List ℕ) → Grows P a b → Adds deed bytes b c → Ends P deed bytes a c
ends_by P None b c deed bytes grows adds = subst (λ m. Adds deed bytes m c) grows adds
ends_by P (Some o) b c deed bytes grows adds =
    let last : Adds deed bytes (Some (behind o grows.0 [])) c = subst (λ m. Adds deed bytes m c) grows.2 adds in
    (grows.0, grows.1, last ∙ ap Some (behind_behind o grows.0 (deed ∷ []) [] bytes))
