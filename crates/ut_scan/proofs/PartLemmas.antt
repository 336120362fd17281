-- Parts whose stamps agree.
use Rattle.std.proofs.Common.{◌≡◌, ℕ, Bool, true, false, ◌&&◌, List, [], length, map, refl, ◌∙◌, ap, arith}
use Rattle.ut_stamps.specs.declared.place.Place.TheVariants.{Main}
use Rattle.ut_stamps.specs.declared.visibility.Stamp.{Stamp}
use Rattle.ut_main.specs.Parts.{PartValue}
use Rattle.ut_scan.specs.declared.coded.CodedPred.{CodedPred}
use Rattle.ut_stamps.specs.declared.visibility.Snapshot.{Snapshot}
use Rattle.ut_scan.specs.Coded.{held_places, is_held, seen_at}
use Rattle.ut_scan.specs.Finds.{found_at}
use Rattle.ut_scan.specs.Probes.{is_seen, AreSeenAs}
use Rattle.ut_scan.proofs.RangeLemmas.{filter-both, filter-none}

pub both-false : (b c : Bool) → c ≡ false → (b && c) ≡ false
both-false true c e = e
both-false false c e = refl

-- nobody is found where no row is seen
pub none-seen : (v : Snapshot) (number : ℕ) (part : PartValue) (coded : List CodedPred) (stamps : List Stamp) → length stamps ≡ length part.rows → AreSeenAs v stamps false
    → seen_at v number part.rows stamps (held_places coded part) ≡ []
none-seen v number part coded stamps count none =
    ap (map (found_at (Main number) part.rows)) (
    filter-both (is_held coded part) (is_seen v stamps) (λ i. is_held coded part i && is_seen v stamps i) 0 (length part.rows) (λ i low high. refl)
    ∙ filter-none (λ i. is_held coded part i && is_seen v stamps i) 0 (length part.rows) (λ i low high. both-false (is_held coded part i) (is_seen v stamps i) (none i (omega (arith, high, count)))))
