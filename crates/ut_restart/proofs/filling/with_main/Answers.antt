use Rattle.std.proofs.Common.{◌∙◌, List, map, ap}
use Rattle.std.specs.Global.{Vec}
use Rattle.ut_image.specs.declared.drawn.PartRef.{PartRef}
use Rattle.ut_stamps.specs.declared.visibility.Stamp.{Stamp}
use Rattle.ut_restart.specs.Shown.{stamp_of_mark, marks_of, staged_place}
use Rattle.ut_restart.proofs.FillLemmas.{load-fit, main-empty, main-idle, main-holds, main-is}
use Rattle.ut_restart.proofs.filling.with_main.Goals as goal

pub loaded-requires-clause-narrow : goal.loaded-requires-clause-narrow
loaded-requires-clause-narrow c = (c.requires.shown.1).narrow

pub loaded-requires-clause-fit : goal.loaded-requires-clause-fit
loaded-requires-clause-fit c = load-fit c.args.drawn.now c.args.main c.requires.shown.0 c.requires.shown.1

pub load_main-requires-clause-empty : goal.load_main-requires-clause-empty
load_main-requires-clause-empty c = main-empty c.args.drawn.now c.args.main c.requires.shown.0 c.requires.shown.1 c.in_ok-stages.stages.stages c.in_ok-stages.ensures

pub load_main-requires-clause-idle : goal.load_main-requires-clause-idle
load_main-requires-clause-idle c = main-idle c.args.drawn.now c.args.main c.requires.shown.0 c.requires.shown.1 c.in_ok-stages.stages.stages c.in_ok-stages.ensures

pub load_main-requires-clause-holds : goal.load_main-requires-clause-holds
load_main-requires-clause-holds c = (
  map (map staged_place) (c.requires.shown.0).parts,
  main-holds c.args.drawn.now c.args.main c.requires.shown.0 c.requires.shown.1 c.in_ok-stages.stages.stages c.in_ok-stages.ensures (map (λ (v : Vec Stamp). v.items) c.in_ok-stamps.stamps.items)
      (c.in_ok-stamps.ensures ∙ ap (λ (refs : List PartRef). map (map stamp_of_mark) (marks_of refs)) c.as_slice.ensures),
)

pub returns : goal.returns
returns c = λ s is.
    let stamps = c.in_ok-stamps.ensures ∙ ap (λ (refs : List PartRef). map (map stamp_of_mark) (marks_of refs)) c.as_slice.ensures in
    let holds = main-holds c.args.drawn.now c.args.main s is c.in_ok-stages.stages.stages c.in_ok-stages.ensures (map (λ (v : Vec Stamp). v.items) c.in_ok-stamps.stamps.items) stamps in
    main-is c.args.drawn.now c.args.main s is c.in_ok-stages.stages.stages c.in_ok-stages.ensures c.load_main.new.self.stages (c.load_main.ensures (map (map staged_place) s.parts) holds)
