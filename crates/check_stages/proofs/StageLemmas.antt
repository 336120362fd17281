-- Rows that enter their stages one after the other.
use Rattle.std.proofs.Common.{◌≡◌, List, [], ◌∷◌, ◌++◌, Bool, refl}
use Rattle.ut_value.specs.declared.entry.Op.{Op}
use Rattle.ut_value.specs.declared.entry.Op.TheVariants as ops
use Rattle.ut_plain.specs.Stages.{Stages, with_stages, with_inserts, entered, placed}

pub with_inserts-append : (bulk : Bool) (stages : Stages) (os ps : List Op) → with_inserts bulk stages (os ++ ps) ≡ with_inserts bulk (with_inserts bulk stages os) ps
with_inserts-append bulk stages [] ps = refl
with_inserts-append bulk stages (ops.Insert table id values ∷ os) ps = with_inserts-append bulk (with_stages (entered bulk (placed id values)) table stages) os ps
with_inserts-append bulk stages (ops.Delete table id ∷ os) ps = with_inserts-append bulk stages os ps
