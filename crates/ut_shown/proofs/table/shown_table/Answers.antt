use Rattle.std.proofs.Common.{length, map, ◌∙◌, ap, arith}
use Rattle.ut_staged.specs.Staged.{Staged}
use Rattle.ut_shown.specs.Shown.{eyes, shown_part}
use Rattle.ut_shown.proofs.FilledLemmas.{narrow, few-in, main-holds, main-made, first-room, first-columns, second-room, second-columns, third-room, third-columns, shown-is}
use Rattle.ut_shown.proofs.table.shown_table.Goals as goal

pub new-requires : goal.new-requires
new-requires c = let few = narrow c.stages-lent.ensures (eyes c.args.snapshot.fates.now c.args.snapshot.at c.args.snapshot.own) in omega (arith, few, ap length c.requires)

pub load_parts-requires-clause-holds : goal.load_parts-requires-clause-holds
load_parts-requires-clause-holds c =
    let l = eyes c.args.snapshot.fates.now c.args.snapshot.at c.args.snapshot.own in (
      map (shown_part l) c.args.table.now.stages.parts,
      main-holds c.stages-lent.ensures l c.in_ok-shown.shown.stages.columns c.parts.result c.in_ok-main.main c.in_ok-stamps.stamps.items
          (ap (λ (x : Staged). x.columns) c.in_ok-shown.ensures ∙ c.requires) c.parts.ensures.count c.parts.ensures.few c.in_ok-main.ensures c.in_ok-stamps.ensures,
    )

pub push_seen-requires-clause-columns : goal.push_seen-requires-clause-columns
push_seen-requires-clause-columns c =
    let l = eyes c.args.snapshot.fates.now c.args.snapshot.at c.args.snapshot.own in
    let s = c.args.table.now.stages in
    let holds = main-holds c.stages-lent.ensures l c.in_ok-shown.shown.stages.columns c.parts.result c.in_ok-main.main c.in_ok-stamps.stamps.items
    (ap (λ (x : Staged). x.columns) c.in_ok-shown.ensures ∙ c.requires) c.parts.ensures.count c.parts.ensures.few c.in_ok-main.ensures c.in_ok-stamps.ensures in
    let all = few-in c.stages-lent.ensures l in
    let first = main-made l s c.args.columns c.in_ok-shown.shown.stages c.load_parts.new.self.stages c.requires c.in_ok-shown.ensures (c.load_parts.ensures (map (shown_part l) s.parts) holds) in
    first-columns l s all c.load_parts.new.self.stages first

pub push_seen-requires-clause-few : goal.push_seen-requires-clause-few
push_seen-requires-clause-few c =
    let l = eyes c.args.snapshot.fates.now c.args.snapshot.at c.args.snapshot.own in
    let s = c.args.table.now.stages in
    let holds = main-holds c.stages-lent.ensures l c.in_ok-shown.shown.stages.columns c.parts.result c.in_ok-main.main c.in_ok-stamps.stamps.items
    (ap (λ (x : Staged). x.columns) c.in_ok-shown.ensures ∙ c.requires) c.parts.ensures.count c.parts.ensures.few c.in_ok-main.ensures c.in_ok-stamps.ensures in
    let all = few-in c.stages-lent.ensures l in
    let first = main-made l s c.args.columns c.in_ok-shown.shown.stages c.load_parts.new.self.stages c.requires c.in_ok-shown.ensures (c.load_parts.ensures (map (shown_part l) s.parts) holds) in
    first-room l s all c.load_parts.new.self.stages first

pub push_seen-requires-2-clause-columns : goal.push_seen-requires-2-clause-columns
push_seen-requires-2-clause-columns c =
    let l = eyes c.args.snapshot.fates.now c.args.snapshot.at c.args.snapshot.own in
    let s = c.args.table.now.stages in
    let holds = main-holds c.stages-lent.ensures l c.in_ok-shown.shown.stages.columns c.parts.result c.in_ok-main.main c.in_ok-stamps.stamps.items
    (ap (λ (x : Staged). x.columns) c.in_ok-shown.ensures ∙ c.requires) c.parts.ensures.count c.parts.ensures.few c.in_ok-main.ensures c.in_ok-stamps.ensures in
    let all = few-in c.stages-lent.ensures l in
    let first = main-made l s c.args.columns c.in_ok-shown.shown.stages c.load_parts.new.self.stages c.requires c.in_ok-shown.ensures (c.load_parts.ensures (map (shown_part l) s.parts) holds) in
    second-columns l s all c.load_parts.new.self.stages first c.push_seen.new.out.stages c.in_ok-push_seen.ensures

pub push_seen-requires-2-clause-few : goal.push_seen-requires-2-clause-few
push_seen-requires-2-clause-few c =
    let l = eyes c.args.snapshot.fates.now c.args.snapshot.at c.args.snapshot.own in
    let s = c.args.table.now.stages in
    let holds = main-holds c.stages-lent.ensures l c.in_ok-shown.shown.stages.columns c.parts.result c.in_ok-main.main c.in_ok-stamps.stamps.items
    (ap (λ (x : Staged). x.columns) c.in_ok-shown.ensures ∙ c.requires) c.parts.ensures.count c.parts.ensures.few c.in_ok-main.ensures c.in_ok-stamps.ensures in
    let all = few-in c.stages-lent.ensures l in
    let first = main-made l s c.args.columns c.in_ok-shown.shown.stages c.load_parts.new.self.stages c.requires c.in_ok-shown.ensures (c.load_parts.ensures (map (shown_part l) s.parts) holds) in
    second-room l s all c.load_parts.new.self.stages first c.push_seen.new.out.stages c.in_ok-push_seen.ensures

pub push_seen-requires-3-clause-columns : goal.push_seen-requires-3-clause-columns
push_seen-requires-3-clause-columns c =
    let l = eyes c.args.snapshot.fates.now c.args.snapshot.at c.args.snapshot.own in
    let s = c.args.table.now.stages in
    let holds = main-holds c.stages-lent.ensures l c.in_ok-shown.shown.stages.columns c.parts.result c.in_ok-main.main c.in_ok-stamps.stamps.items
    (ap (λ (x : Staged). x.columns) c.in_ok-shown.ensures ∙ c.requires) c.parts.ensures.count c.parts.ensures.few c.in_ok-main.ensures c.in_ok-stamps.ensures in
    let all = few-in c.stages-lent.ensures l in
    let first = main-made l s c.args.columns c.in_ok-shown.shown.stages c.load_parts.new.self.stages c.requires c.in_ok-shown.ensures (c.load_parts.ensures (map (shown_part l) s.parts) holds) in
    third-columns l s all c.load_parts.new.self.stages first c.push_seen.new.out.stages c.in_ok-push_seen.ensures c.push_seen-2.new.out.stages c.in_ok-push_seen-2.ensures

pub push_seen-requires-3-clause-few : goal.push_seen-requires-3-clause-few
push_seen-requires-3-clause-few c =
    let l = eyes c.args.snapshot.fates.now c.args.snapshot.at c.args.snapshot.own in
    let s = c.args.table.now.stages in
    let holds = main-holds c.stages-lent.ensures l c.in_ok-shown.shown.stages.columns c.parts.result c.in_ok-main.main c.in_ok-stamps.stamps.items
    (ap (λ (x : Staged). x.columns) c.in_ok-shown.ensures ∙ c.requires) c.parts.ensures.count c.parts.ensures.few c.in_ok-main.ensures c.in_ok-stamps.ensures in
    let all = few-in c.stages-lent.ensures l in
    let first = main-made l s c.args.columns c.in_ok-shown.shown.stages c.load_parts.new.self.stages c.requires c.in_ok-shown.ensures (c.load_parts.ensures (map (shown_part l) s.parts) holds) in
    third-room l s all c.load_parts.new.self.stages first c.push_seen.new.out.stages c.in_ok-push_seen.ensures c.push_seen-2.new.out.stages c.in_ok-push_seen-2.ensures

pub returns : goal.returns
returns c =
    let l = eyes c.args.snapshot.fates.now c.args.snapshot.at c.args.snapshot.own in
    let s = c.args.table.now.stages in
    let holds = main-holds c.stages-lent.ensures l c.in_ok-shown.shown.stages.columns c.parts.result c.in_ok-main.main c.in_ok-stamps.stamps.items
    (ap (λ (x : Staged). x.columns) c.in_ok-shown.ensures ∙ c.requires) c.parts.ensures.count c.parts.ensures.few c.in_ok-main.ensures c.in_ok-stamps.ensures in
    let all = few-in c.stages-lent.ensures l in
    let first = main-made l s c.args.columns c.in_ok-shown.shown.stages c.load_parts.new.self.stages c.requires c.in_ok-shown.ensures (c.load_parts.ensures (map (shown_part l) s.parts) holds) in
    shown-is l s all c.load_parts.new.self.stages first c.push_seen.new.out.stages c.in_ok-push_seen.ensures c.push_seen-2.new.out.stages c.in_ok-push_seen-2.ensures c.push_seen-3.new.out.stages c.in_ok-push_seen-3.ensures
