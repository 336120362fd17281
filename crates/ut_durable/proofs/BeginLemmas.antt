-- What a savepoint captures is an image of the journal.
use Rattle.std.proofs.Common.{◌≡◌, ◌≤◌, refl, sym, ◌∙◌, ap, subst, arith}
use Rattle.std.specs.FinMap as finmap
use Rattle.std.proofs.lemmas.List.{length-map}
use Rattle.ut_plain.specs.State.{State}
use Rattle.ut_plain.specs.Stages.{all_places}
use Rattle.ut_plain.specs.Journal.{state_at, current}
use Rattle.ut_plain.specs.Reached.{IsCaptured}
use Rattle.ut_plain.specs.Capture.{Directory, captured_table, capture}
use Rattle.ut_plain.proofs.CaptureLaws.{capture_rows}
use Rattle.ut_plain.proofs.CapturedLaws.{captured_places, captured_mains, captured_rest}
use Rattle.ut_plain.proofs.JournalLaws.{state_at-last}
use Rattle.ut_plain.proofs.PartLaws.{may_open_part}
use Rattle.ut_durable.specs.Directories.{IsBase}
use Rattle.ut_durable.specs.Laws.{CapturedIsImage}
use Rattle.ut_durable.proofs.DistinctLemmas.{image_distinct}

pub captured_image : CapturedIsImage
captured_image p root is held distinct rules whole long next commits merges =
    let d : Directory = capture (current p.journal) p.stages in
    let here : state_at p.journal root.length ≡ current p.journal = state_at-last p.journal root.length (omega (arith, whole)) in
    let base : IsBase root d (current p.journal) = record { tables = refl; rows = capture_rows (current p.journal) p.stages held; next = next; commits = commits; merges = merges; length = long } in
    let captured : IsCaptured d = record {
      staged = length-map p.stages (captured_table (current p.journal).rows) ∙ is.staged;
      mains = captured_mains (current p.journal).rows p.stages is.mains;
      rest = captured_rest (current p.journal).rows p.stages;
    } in
    record {
      rules = rules;
      begins = omega (arith, whole);
      within = omega (arith, whole);
      base = subst (IsBase root d) (sym here) base;
      may = λ n from until. may_open_part p d root.length n is (omega (arith, whole)) from until captured (ap (λ (s : State). s.tables) (sym here))
          (subst (λ (s : State). all_places d.stages ≤ finmap.len s.rows) (sym here) (captured_places (current p.journal) p.stages (image_distinct d.stages distinct)));
    }
