use Rattle.std.proofs.Common.{◌≡◌, ◌∙◌, ◌+◌, ◌≤◌, ◌++◌, [], List, length, drop, get_or, sym, ap, subst, arith, inl, inr, append-nil}
use Rattle.std.proofs.lemmas.Bool.{cases_lt}
use Rattle.std.proofs.lemmas.List.{append_assoc, drop_all}
use Rattle.ut_main.specs.Parts.{MainValue, AreWide}
use Rattle.ut_plain.specs.Merges.{flagged, flagged_all}
use Rattle.ut_merge.specs.declared.old.Old.{Old}
use Rattle.ut_merge.specs.Places.{list_at, old_lists, places_in_list}
use Rattle.ut_merge.proofs.KeptLemmas.{flagged_all-more, get-lists, keep-count, kept-wide, length-lists, olds-lists}
use Rattle.ut_merge.proofs.olds.kept_olds.Goals as goal

pub loop-list-init : goal.loop-list-init
loop-list-init c =
    let job = c.args.job.now in (
      (λ i. c.new-olds.ensures.items i ++ flagged_all (drop (c.stay-list.ensures.stay i) (old_lists job)) (drop (c.stay-list.ensures.stay i) job.keep)) ∙ sym (olds-lists job),
      λ g le lt. absurd (omega (arith, le, lt, c.stay-list.ensures.stay)),
    )

pub loop-list-preserved : goal.loop-list-preserved
loop-list-preserved c =
    let job = c.args.job.now in
    let g = c.loop-list.list in
    let old = c.loop-list.olds.items in
    let rest = flagged_all (drop (g + 1) (old_lists job)) (drop (g + 1) job.keep) in
    let le : g ≤ length job.parts = omega (arith, c.loop-list-test.true, c.parts-list-end.ensures.count, ap (λ (m : MainValue). length m.parts) c.main.ensures) in
    let more = flagged_all-more (old_lists job) job.keep g (omega (arith, le, length-lists job)) (omega (arith, le, keep-count job c.stay-list.ensures.job)) in (
      ap (λ (l : List Old). l ++ rest) c.in_ok-push_kept.ensures.kept ∙ append_assoc old (flagged (places_in_list job g) (get_or job.keep g [])) rest
          ∙ ap (λ (l : List Old). old ++ l) (ap (λ (l : List Old). flagged l (get_or job.keep g []) ++ rest) (sym (get-lists job g le)) ∙ sym more) ∙ c.loop-list.invariant.0,
      λ h from lt. elim (cases_lt h g) [
        | inl before ↦ c.loop-list.invariant.1 h from before
        | inr behind ↦
            let same : g ≡ h = omega (arith, behind, lt) in
            subst (λ n. AreWide job.width (list_at job n)) same c.push_kept.ensures.wide
      ],
    )

pub returns-clause-olds : goal.returns-clause-olds
returns-clause-olds c =
    let job = c.args.job.now in
    let g = c.loop-list.list in
    let none = drop_all g (old_lists job) (omega (arith, c.loop-list-test.false, length-lists job, c.parts-list-end.ensures.count, ap (λ (m : MainValue). length m.parts) c.main.ensures)) in
    sym (append-nil c.loop-list.olds.items) ∙ ap (λ (l : List (List Old)). c.loop-list.olds.items ++ flagged_all l (drop g job.keep)) (sym none) ∙ c.loop-list.invariant.0

pub returns-clause-wide : goal.returns-clause-wide
returns-clause-wide c =
    kept-wide c.args.job.now (λ g from le. c.loop-list.invariant.1 g from (omega (arith, le, c.loop-list-test.false, c.parts-list-end.ensures.count, ap (λ (m : MainValue). length m.parts) c.main.ensures)))
