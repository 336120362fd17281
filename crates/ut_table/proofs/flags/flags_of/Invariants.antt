use Rattle.std.proofs.Common.{◌≡◌, ◌++◌, ◌∷◌, [], map, take}
use Rattle.ut_table.specs.Flags.{flags_behind}
use Rattle.ut_table.proofs.flags.flags_of.Given as goal

abbrev pub invariant-loop-p : goal.invariant-loop-p
invariant-loop-p l = map (λ list. list.items) l.lists.items ≡ take l.p (flags_behind l.fates l.snapshots l.stay (l.stamps.parts ++ l.stamps.l2.items ∷ []))
