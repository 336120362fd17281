use Rattle.std.proofs.Common.{◌∙◌, ap, sym, subst, List, ℕ, Some, Bor, map, string_bytes}
use Rattle.ut_run.specs.declared.report.Status.{Status}
use Rattle.ut_program.specs.Program.{Ran, Unasked, IsUnasked}
use Rattle.ut_program.proofs.run.run_words.Goals as goal

pub returns-in-Ok : goal.returns-in-Ok
returns-in-Ok g c = Ran _ (ap (λ (ws : List (Bor (List ℕ))). map (λ w. w.now) ws) c.deref.ensures.value ∙ c.in-Ok.ensures.all) c.answer.ensures

pub returns-in-Err : goal.returns-in-Err
returns-in-Err g c = Unasked (c.unasked.ensures (Some (map string_bytes c.args.words.now)) (subst (λ (s : Status). IsUnasked s (Some (map string_bytes c.args.words.now))) (sym c.in-Err.ensures.lacks) tt))
