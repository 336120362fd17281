use Rattle.std.proofs.Common.{◌≡◌, ◌-◌, List, ◌∷◌, length, take, drop, refl, sym, ◌∙◌, ap, subst}
use Rattle.std.proofs.lemmas.Result.{err_from_is_err_and}
use Rattle.ut_outside.specs.Disk.{View}
use Rattle.ut_outside.proofs.RunLemmas.{reads_start, reads_then}
use Rattle.ut_value.specs.declared.value.Column.{Column}
use Rattle.ut_image.specs.declared.drawn.PartRef.{PartRef}
use Rattle.ut_reading.specs.Standing.{no_parts, StandsPart}
use Rattle.ut_reading.specs.Found.{FoundPart}
use Rattle.ut_reading.proofs.ListLemmas.{first_and_others}
use Rattle.ut_reading.proofs.FindLemmas.{MainSoFar, same_error, main_start, main_fails, main_goes_on}
use Rattle.ut_reading.proofs.parts.Reader.read_main.Goals as goal

pub loop-left-init : goal.loop-left-init
loop-left-init g c =
    let v : View = g.D.Disk.view c.args.disk.now in
    let none : c.new-main.result ≡ no_parts (length c.args.drawn.now.table.columns) = c.new-main.ensures ∙ ap (λ (l : List Column). no_parts (length l)) c.as_slice-columns.ensures in
    subst (λ (l : List PartRef). MainSoFar c.args.drawn.now l c.new-main.result c.args.self.now c.args.self.now v v) (sym c.as_slice-left.ensures)
    (main_start c.args.drawn.now c.new-main.result c.args.self.now v v c.requires none (reads_start v (g.met.D.Disk.only_now c.args.disk.now)) refl)

pub returns-in_err-read-clause-damaged : goal.returns-in_err-read-clause-damaged
returns-in_err-read-clause-damaged g c =
    let p = err_from_is_err_and c.from_residual.result c.from_residual.ensures.1 in
    rw (p.1, p.2) (λ is told main reached stands.
    let v0 : View = g.D.Disk.view c.args.disk.now in
    let v1 : View = g.D.Disk.view c.loop-left.disk in
    let part : PartRef = c.part-item.result in
    let left : List PartRef = c.loop-left.left.now in
    let others : List PartRef = take (length left - 1) (drop 1 left) in
    let split : left ≡ part ∷ others = first_and_others left part c.in-len1-up.len_at_least c.part-item.is in
    let so : MainSoFar c.args.drawn.now (part ∷ others) c.loop-left.main c.args.self.now c.loop-left.self v0 v1 =
    subst (λ (l : List PartRef). MainSoFar c.args.drawn.now l c.loop-left.main c.args.self.now c.loop-left.self v0 v1) split c.loop-left.invariant in
    main_fails c.args.drawn.now part others c.loop-left.main c.args.self.now c.loop-left.self v0 v1 so
    (λ rows pages there. c.in_err-read.ensures.damaged (same_error _ _ is) (so.reads.told ∙ told) rows pages
    (subst (λ (l : List Column). StandsPart l c.loop-left.main part rows pages v1.seen.pages) (sym c.as_slice-columns.ensures) there))
    told main reached stands)

pub loop-left-preserved : goal.loop-left-preserved
loop-left-preserved g c =
    let v0 : View = g.D.Disk.view c.args.disk.now in
    let v1 : View = g.D.Disk.view c.loop-left.disk in
    let v2 : View = g.D.Disk.view c.read_part.new.disk in
    let part : PartRef = c.part-item.result in
    let left : List PartRef = c.loop-left.left.now in
    let others : List PartRef = take (length left - 1) (drop 1 left) in
    let split : left ≡ part ∷ others = first_and_others left part c.in-len1-up.len_at_least c.part-item.is in
    let so : MainSoFar c.args.drawn.now (part ∷ others) c.loop-left.main c.args.self.now c.loop-left.self v0 v1 =
    subst (λ (l : List PartRef). MainSoFar c.args.drawn.now l c.loop-left.main c.args.self.now c.loop-left.self v0 v1) split c.loop-left.invariant in
    let found : FoundPart c.args.drawn.now.table.columns c.loop-left.main part c.in_ok-read.read c.loop-left.self c.read_part.new.self v1 =
    subst (λ (l : List Column). FoundPart l c.loop-left.main part c.in_ok-read.read c.loop-left.self c.read_part.new.self v1) c.as_slice-columns.ensures c.in_ok-read.ensures.found in
    main_goes_on c.args.drawn.now part others c.loop-left.main c.args.self.now c.loop-left.self v0 v1 so c.in_ok-read.read c.add_part.new.main c.read_part.new.self v2 found c.in_ok-add_part.ensures
    (reads_then v0 v1 v2 so.reads c.in_ok-read.ensures.reads) (c.in_ok-read.ensures.still refl ∙ so.still)
