use Rattle.std.proofs.Common.{◌≡◌, ◌<◌, List, [], ◌∷◌, ◌++◌, length, sym, ◌∙◌, ap, subst, arith}
use Rattle.std.proofs.lemmas.Bool.Decides.{nat_tests}
use Rattle.std.specs.List.{AllByRecursion}
use Rattle.ut_value.specs.declared.entry.Entry.{Entry}
use Rattle.ut_redo.specs.Frames.{payload_of, IsEntry}
use Rattle.ut_redo.proofs.FrameLemmas.{payload_push, each_push, stuck_entry, entry_front}
use Rattle.ut_stream.proofs.payload.entries_in.Goals as goal

pub returns-in_default-clause-none : goal.returns-in_default-clause-none
returns-in_default-clause-none c items spells =
    let inv = c.loop-rest.invariant in
    let none = rw c.in_default.is at c.in_ok-entry.ensures.none in
    let rest = c.loop-rest.rest.now in
    let some : 0 < length rest = grind (arith, nat_tests) in
    stuck_entry c.loop-rest.entries.items items c.args.payload.now rest inv.0 spells inv.1 some none

pub loop-rest-preserved : goal.loop-rest-preserved
loop-rest-preserved c =
    let inv = c.loop-rest.invariant in
    let found = rw c.in-Some.is at c.in_ok-entry.ensures.found in
    let e = c.in-Some.entry in
    let done : List Entry = c.loop-rest.entries.items in
    let front = entry_front e c.in-Some.n c.loop-rest.rest.now c.split_at.result.1.now found.1.1 c.split_at.ensures.back in
    let out : c.push.new.self.items ≡ done ++ e ∷ [] = c.in_ok-push.ensures.items in (
      subst (AllByRecursion IsEntry) (sym out) (each_push done e inv.0 found.1.0),
      payload_push done e c.args.payload.now c.loop-rest.rest.now c.split_at.result.1.now inv.1 front ∙ ap (λ (l : List Entry). payload_of l ++ c.split_at.result.1.now) (sym out),
    )
