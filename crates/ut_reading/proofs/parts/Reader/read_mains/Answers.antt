use Rattle.std.proofs.Common.{◌≡◌, ◌-◌, List, ◌∷◌, length, take, drop, refl, ◌∙◌, subst}
use Rattle.ut_outside.specs.Disk.{View}
use Rattle.ut_outside.proofs.RunLemmas.{reads_start, reads_then}
use Rattle.ut_image.specs.declared.drawn.Drawn.{Drawn}
use Rattle.ut_reading.proofs.ListLemmas.{first_and_others}
use Rattle.ut_reading.proofs.FindLemmas.{MainsSoFar, mains_start, mains_go_on}
use Rattle.ut_reading.proofs.parts.Reader.read_mains.Goals as goal

pub loop-left-init : goal.loop-left-init
loop-left-init g c =
    let v : View = g.D.Disk.view c.args.disk.now in
    mains_start c.args.tables.now c.new-mains.result c.args.self.now v v c.requires c.new-mains.ensures (reads_start v (g.met.D.Disk.only_now c.args.disk.now)) refl

pub loop-left-preserved : goal.loop-left-preserved
loop-left-preserved g c =
    let v0 : View = g.D.Disk.view c.args.disk.now in
    let v1 : View = g.D.Disk.view c.loop-left.disk in
    let v2 : View = g.D.Disk.view c.read_main.new.disk in
    let drawn : Drawn = c.drawn-item.result in
    let left : List Drawn = c.loop-left.left.now in
    let others : List Drawn = take (length left - 1) (drop 1 left) in
    let split : left ≡ drawn ∷ others = first_and_others left drawn c.in-len1-up.len_at_least c.drawn-item.is in
    let so : MainsSoFar c.args.tables.now (drawn ∷ others) c.loop-left.mains c.args.self.now c.loop-left.self v0 v1 =
    subst (λ (l : List Drawn). MainsSoFar c.args.tables.now l c.loop-left.mains c.args.self.now c.loop-left.self v0 v1) split c.loop-left.invariant in
    mains_go_on c.args.tables.now drawn others c.loop-left.mains c.args.self.now c.loop-left.self v0 v1 so c.in_ok-main.main c.push.new.self c.read_main.new.self v2 c.in_ok-main.ensures.found c.in_ok-push.ensures.ok
    (reads_then v0 v1 v2 so.reads c.in_ok-main.ensures.reads) (c.in_ok-main.ensures.still refl ∙ so.still)
