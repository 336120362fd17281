-- The places of a merge's old rows.
use Rattle.ut_stamps.specs.declared.place.Place.{Place}
use Rattle.ut_stamps.specs.declared.place.Place.TheVariants as places
use Rattle.ut_merge.specs.declared.old.Old.{Old}
use Rattle.ut_merge.specs.declared.old.Old.TheVariants.{Part, Closed}

-- where a row of a new part stood
abbrev pub place_of_old : Old → Place
place_of_old (Part p i) = places.Main p i
place_of_old (Closed i) = places.Closed i
