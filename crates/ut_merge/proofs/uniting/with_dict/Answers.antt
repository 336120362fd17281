use Rattle.std.proofs.Common.{◌∙◌, ◌++◌, List, ℕ, Option, map, sym, ap, subst}
use Rattle.ut_merge.specs.Uniting.{led, IsUnited}
use Rattle.ut_merge.proofs.UniteLemmas.{united-more}
use Rattle.ut_merge.proofs.uniting.with_dict.Goals as goal

pub returns : goal.returns
returns g c parts used_parts closed fresh sizes h =
    let united = c.args.united in
    let merged = c.in_ok-merged.merged in
    let dict = c.args.dict.now in
    let flags = c.args.used.now in
    let from_a = merged.from_a.items in
    let m = c.in_ok-merged.ensures in
    let new_parts = c.in_ok-extend_from_slice.ensures.items ∙ (λ i. (c.lead.ensures ∙ ap (λ (l : List (Option ℕ)). map (led l) united.parts.items) c.as_slice.ensures.value) i ++ c.as_slice-3.ensures.value i) in
    let new_closed = c.lead-2.ensures ∙ ap (λ (l : List (Option ℕ)). map (led l) united.closed.items) c.as_slice-2.ensures.value in
    subst (λ (l : List (Option ℕ)). IsUnited (parts ++ dict) (used_parts ++ flags) closed fresh merged.keys l c.lead-2.new.places.items) (sym new_parts)
    (subst (λ (l : List (Option ℕ)). IsUnited (parts ++ dict) (used_parts ++ flags) closed fresh merged.keys (map (led from_a) united.parts.items ++ merged.from_b.items) l) (sym new_closed)
    (united-more parts used_parts closed fresh united.keys united.parts.items united.closed.items dict flags merged.keys from_a merged.from_b.items h m sizes))
