-- How many different keys a column has: as many as its own dictionary, where no dictionary stays.
use Rattle.std.proofs.Common.{◌≡◌, ℕ, List, [], length, refl}
use Rattle.ut_own.specs.Own.{own_dict}
use Rattle.ut_own.proofs.CountLemmas.{count-own}
use Rattle.ut_plain.specs.Merges.{distinct}

pub distinct-own : (cells : List (List ℕ)) → distinct cells ≡ length (own_dict [] cells)
distinct-own cells = count-own distinct refl (λ key keys. refl) cells
