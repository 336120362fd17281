use Rattle.std.proofs.Common.{Bool, List, length, true, ap, ◌∙◌}
use Rattle.std.proofs.lemmas.List.{length-replicate}
use Rattle.bench_codes.proofs.vectors.time_mask.Goals as goal

pub keep_in-requires : goal.keep_in-requires
keep_in-requires g c = ap (λ (l : List Bool). length l) c.in_ok-mask.ensures ∙ length-replicate {A = Bool} c.len.result true ∙ c.len.ensures.len
