-- Entries that are replayed one after the other.
use Rattle.std.proofs.Common.{◌≡◌, List, [], ◌∷◌, ◌++◌, false, refl}
use Rattle.ut_value.specs.declared.entry.Op.{Op}
use Rattle.ut_value.specs.declared.entry.Op.TheVariants as ops
use Rattle.ut_value.specs.declared.entry.Entry.{Entry}
use Rattle.ut_plain.specs.Stages.{Stages, with_stages, entered, placed}
use Rattle.ut_plain.specs.Restart.{with_dead, replayed_ops, replayed_entry, replayed}

pub replayed_ops-append : (stages : Stages) (os ps : List Op) → replayed_ops stages (os ++ ps) ≡ replayed_ops (replayed_ops stages os) ps
replayed_ops-append stages [] ps = refl
replayed_ops-append stages (ops.Insert table id values ∷ os) ps = replayed_ops-append (with_stages (entered false (placed id values)) table stages) os ps
replayed_ops-append stages (ops.Delete table id ∷ os) ps = replayed_ops-append (with_stages (with_dead id) table stages) os ps

pub replayed-append : (stages : Stages) (es : List Entry) (e : Entry) → replayed stages (es ++ e ∷ []) ≡ replayed_entry (replayed stages es) e
replayed-append stages [] e = refl
replayed-append stages (x ∷ es) e = replayed-append (replayed_entry stages x) es e
