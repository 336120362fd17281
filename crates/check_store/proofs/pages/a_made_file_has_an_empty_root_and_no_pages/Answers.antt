use Rattle.std.proofs.Common.{refl, sym, subst}
use Rattle.ut_pages.specs.Layout.{IsMade}
use Rattle.ut_pages.proofs.MadeLemmas.{made_is}
use Rattle.check_store.proofs.pages.a_made_file_has_an_empty_root_and_no_pages.Goals as goal

pub read-requires : goal.read-requires
read-requires g c = record { made = λ told. subst IsMade (sym (c.in_ok-make.ensures.seen refl).0) made_is }
