use Rattle.std.proofs.Common.{◌∙◌, ◌≡◌, Some, Option, sym, subst, List, ℕ}
use Rattle.ut_script.specs.Words.{words_of}
use Rattle.ut_script.specs.Grammar.{MayLackMemory, line_of, line_with, session_of, statement_of}
use Rattle.ut_script.proofs.NamedLemmas.{lacks_memory}
use Rattle.ut_script.proofs.line.line_of.Goals as goal

pub returns-in-Err-clause-memory : goal.returns-in-Err-clause-memory
returns-in-Err-clause-memory c =
    let session = c.in-Some-session_of.session in
    let words = words_of c.in-Some.rest.now in
    let is : Some session ≡ session_of c.args.crowd c.in-Some.word.now = sym c.in-Some-session_of.is ∙ c.session_of.ensures in
    subst (λ (ws : List (List ℕ)). MayLackMemory session (line_of c.args.crowd ws)) (sym c.in-Some.ensures.found)
    (subst (λ (o : Option ℕ). MayLackMemory session (line_with o words)) is (lacks_memory session (statement_of session words) c.in-Err.ensures))
