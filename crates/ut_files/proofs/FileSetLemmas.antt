-- Which files a set has.
use Rattle.std.proofs.Common.{◌≡◌, ◌≢◌, ◌⊎◌, inl, inr, true, false, refl, ◌∙◌, subst, sym}
use Rattle.std.proofs.lemmas.Bool.{false≢true}
use Rattle.ut_outside.specs.declared.disk.Which.{Which}
use Rattle.ut_outside.specs.declared.disk.Which.TheVariants.{Redo, Pages, Redo2}
use Rattle.ut_files.specs.declared.file_set.FileSet.{FileSet}
use Rattle.ut_files.specs.FileSets.{is_in, with_file}

-- the file isn't the other where only that one is in the set
pub differs : (set : FileSet) (file other : Which) → is_in file set ≡ false → is_in other set ≡ true → file ≢ other
differs set file other out within same = false≢true (sym out ∙ subst (λ f. is_in f set ≡ true) (sym same) within)

pub added : (file : Which) (set : FileSet) → is_in file (with_file file set) ≡ true
added Redo set = refl
added Pages set = refl
added Redo2 set = refl

pub is_pages_kept : (file : Which) (set : FileSet) → file ≢ Pages → is_in Pages (with_file file set) ≡ is_in Pages set
is_pages_kept Redo set other = refl
is_pages_kept Pages set other = absurd (other refl)
is_pages_kept Redo2 set other = refl
