use Rattle.std.proofs.Common.{◌∙◌, ◌++◌, ◌∷◌, [], false, nat_lt, map, ap, arith}
use Rattle.std.proofs.lemmas.List.{map-append}
use Rattle.ut_table.proofs.FlagLemmas.{flag, flags-next, flags-last}
use Rattle.ut_table.proofs.flags.flags_of.Goals as goal

pub loop-p-preserved : goal.loop-p-preserved
loop-p-preserved c =
    let stamps = c.args.stamps.now in
    let p = c.loop-p.p in
    ap (map (λ list. list.items)) c.in_ok-push.ensures.items
    ∙ map-append (λ list. list.items) c.loop-p.lists.items (c.in_ok-flags.flags ∷ [])
    ∙ ap (λ l. l ++ c.in_ok-flags.flags.items ∷ []) c.loop-p.invariant
    ∙ flags-next c.args.fates.now c.args.snapshots.now c.args.stay p c.args.stamps.now.parts c.args.stamps.now.l2.items c.in_ok-flags.flags.items (omega (arith, c.loop-p-test.true, c.parts-parts.ensures.count))
    (c.in_ok-flags.ensures ∙ ap (map (flag c.args.fates.now c.args.snapshots.now (nat_lt p c.args.stay))) c.part.ensures)

pub returns : goal.returns
returns c =
    ap (map (λ list. list.items)) c.in_ok-push-2.ensures.items
    ∙ map-append (λ list. list.items) c.loop-p.lists.items (c.in_ok-flags-2.flags ∷ [])
    ∙ ap (λ l. l ++ c.in_ok-flags-2.flags.items ∷ []) c.loop-p.invariant
    ∙ flags-last c.args.fates.now c.args.snapshots.now c.args.stay c.loop-p.p c.args.stamps.now.parts c.args.stamps.now.l2.items c.in_ok-flags-2.flags.items
    (omega (arith, c.loop-p-test.false, c.loop-p.auto.p-end, c.parts-parts.ensures.count)) c.requires
    (c.in_ok-flags-2.ensures ∙ ap (map (flag c.args.fates.now c.args.snapshots.now false)) c.l2.ensures)
