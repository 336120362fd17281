use Rattle.std.proofs.Common.{◌≡◌, ◌∙◌, ◌<◌, ◌++◌, [], ◌∷◌, List, Bool, false, length, drop, get_or, sym, ap, arith, cond, append-nil}
use Rattle.std.specs.Global.{Vec}
use Rattle.std.proofs.lemmas.List.{drop_all}
use Rattle.ut_main.specs.Parts.{MainValue}
use Rattle.ut_plain.specs.Merges.{flagged}
use Rattle.ut_merge.specs.declared.old.Old.{Old}
use Rattle.ut_merge.specs.declared.old.Old.TheVariants.{Closed}
use Rattle.ut_merge.specs.Places.{list_at, old_in, places_in_list}
use Rattle.ut_merge.proofs.KeptLemmas.{keep-count, keep-size, kept-more, place-at, places-size}
use Rattle.ut_merge.proofs.olds.push_kept.Goals.{then-flags-i+in_ok-push, else-flags-i}
use Rattle.ut_merge.proofs.olds.push_kept.Goals as goal

pub list-flags-requires : goal.list-flags-requires
list-flags-requires c = omega (arith, c.requires.list, keep-count c.args.job.now c.requires.job, ap (λ (l : List (List Bool)). length l) c.keep.ensures)

pub bounds-flags-i : goal.bounds-flags-i
bounds-flags-i c =
    let size = ap (λ (l : List Bool). length l) (c.list-flags.ensures ∙ ap (λ (k : List (List Bool)). get_or k c.args.list []) c.keep.ensures) in
    omega (arith, c.loop-i-test.true, c.rows_in_list-rows.ensures.rows, keep-size c.args.job.now c.args.list c.requires.job c.requires.list, size)

pub loop-i-preserved : goal.loop-i-preserved
loop-i-preserved c =
    let job = c.args.job.now in
    let g = c.args.list in
    let i = c.loop-i.i in
    let flags = c.list-flags.result.now in
    let old = c.loop-i.olds.items in
    let size = ap (λ (l : List Bool). length l) (c.list-flags.ensures ∙ ap (λ (k : List (List Bool)). get_or k g []) c.keep.ensures) in
    let lt : i < length (list_at job g) = omega (arith, c.loop-i-test.true, c.rows_in_list-rows.ensures.rows) in
    let in_flags : i < length flags = omega (arith, lt, keep-size job g c.requires.job c.requires.list, size) in
    let parts = c.parts-parts.ensures.count ∙ ap (λ (m : MainValue). length m.parts) c.main.ensures in
    let more = λ (new : List Old) (e : new ≡ old ++ cond (get_or flags i false) (get_or (places_in_list job g) i (Closed 0) ∷ []) []).
    kept-more (places_in_list job g) flags i (Closed 0) old new (c.args.olds.now.items ++ flagged (places_in_list job g) flags) (omega (arith, lt, places-size job g)) in_flags c.loop-i.invariant e in
    more c.if-flags-i.olds.items (elim c.if-flags-i.branch [
      | then-flags-i+in_ok-push w ↦
          let here = w.old_at.ensures ∙ ap (λ n. old_in n g i) parts ∙ sym (place-at job g i (Closed 0) lt) in
          ap (λ (v : Vec Old). v.items) w.olds-is ∙ w.in_ok-push.ensures.items ∙ (λ k. old ++ cond (sym w.if-flags-i.true k) (here k ∷ []) [])
      | else-flags-i w ↦
          ap (λ (v : Vec Old). v.items) w.olds-is ∙ sym (append-nil old) ∙ (λ k. old ++ cond (sym w.if-flags-i.false k) (get_or (places_in_list job g) i (Closed 0) ∷ []) [])
    ])

pub returns-clause-kept : goal.returns-clause-kept
returns-clause-kept c =
    let job = c.args.job.now in
    let g = c.args.list in
    let i = c.loop-i.i in
    let flags = c.list-flags.result.now in
    let none = drop_all i (places_in_list job g) (omega (arith, c.loop-i-test.false, c.rows_in_list-rows.ensures.rows, places-size job g)) in
    sym (append-nil c.loop-i.olds.items) ∙ ap (λ (l : List Old). c.loop-i.olds.items ++ flagged l (drop i flags)) (sym none) ∙ c.loop-i.invariant
    ∙ ap (λ (fs : List Bool). c.args.olds.now.items ++ flagged (places_in_list job g) fs) (c.list-flags.ensures ∙ ap (λ (k : List (List Bool)). get_or k g []) c.keep.ensures)
