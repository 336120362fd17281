-- One table of all that are looked at.
use Rattle.std.proofs.Common.{sym, ◌∙◌}
use Rattle.std.specs.Prelude.{ℕ, ◌≡◌, Bool, List, Option, Some, slice_get}
use Rattle.ut_value.specs.declared.value.Value.{Value}
use Rattle.ut_stamps.specs.declared.fates.Fate.{Fate}
use Rattle.ut_stamps.specs.declared.place.Place.{Place}
use Rattle.ut_exact.specs.Scan.{IsScan}
use Rattle.ut_staged.specs.Staged.{Staged, row_at}
use Rattle.ut_staged.specs.Tables.{place_at}
use Rattle.ut_staged.proofs.TableLemmas.{here}

-- a scan of one table, as one of all
pub scan_of : (staged : List Staged) (place : ℕ) (s : Staged) (fates : List Fate) (snapshot : ℕ) (own : Option ℕ) (test : List Value → Bool) (hits : List (ℕ × Place)) → slice_get staged place ≡ Some s
    → IsScan (λ n p. row_at s p) 0 fates snapshot own test hits → IsScan (place_at staged) place fates snapshot own test hits
scan_of staged place s fates snapshot own test hits is h = record {
  sorted = h.sorted;
  sound = λ id p at. let x = h.sound id p at in (x.0, here staged place s p is ∙ x.1, x.2, x.3, x.4);
  complete = λ p row at. h.complete p row (sym (here staged place s p is) ∙ at);
}
