use Rattle.std.proofs.Common.{◌∙◌, ◌≡◌, None, Option, sym, subst, List, ℕ}
use Rattle.ut_plain.specs.declared.statement.Statement.{Statement}
use Rattle.ut_script.specs.Words.{words_of}
use Rattle.ut_script.specs.Statements.{ReadsStatement, session_statement_of, table_statement_of, transaction_verb, alone_or}
use Rattle.ut_script.proofs.NamedLemmas.{stated-table}
use Rattle.ut_script.proofs.statements.session_statement_of.Goals as goal

pub returns-in-None : goal.returns-in-None
returns-in-None c =
    let r = c.table_statement_of.result in
    let verb = c.in-Some.verb.now in
    let words = words_of c.in-Some.rest.now in
    let none : None ≡ transaction_verb verb = sym c.in-None.is ∙ c.transaction_verb.ensures in
    subst (λ (ws : List (List ℕ)). ReadsStatement r (session_statement_of ws)) (sym c.in-Some.ensures.found)
    (subst (λ (o : Option Statement). ReadsStatement r (alone_or o words (table_statement_of verb words))) none (stated-table r verb words c.table_statement_of.ensures))
