use Rattle.std.proofs.Common.{◌∙◌, ◌≡◌, None, Option, Bool, true, false, cond, sym, subst, List, ℕ}
use Rattle.std.specs.Prelude.{codes}
use Rattle.ut_value.specs.Text.{same_bytes}
use Rattle.ut_plain.specs.declared.statement.Statement.{Statement}
use Rattle.ut_script.specs.Words.{words_of}
use Rattle.ut_script.specs.Statements.{ReadsStatement, store_statement_of, save_of, merge_end_of, merge_of, shape_of, said_or}
use Rattle.ut_script.proofs.NamedLemmas.{stated-merge}
use Rattle.ut_script.proofs.store.store_statement_of.Goals as goal

pub returns-in-None : goal.returns-in-None
returns-in-None c =
    let r = c.merge_of.result in
    let verb = c.in-Some.verb.now in
    let words = words_of c.in-Some.rest.now in
    let is_save : false ≡ same_bytes verb (codes "save") = sym c.if-same_bytes.false ∙ c.same_bytes.ensures in
    let is_merge : true ≡ same_bytes verb (codes "merge") = sym c.if-same_bytes-2.true ∙ c.same_bytes-else-same_bytes.ensures in
    let none : None ≡ merge_end_of words = sym c.in-None.is ∙ c.merge_end_of.ensures in
    let tail = cond (same_bytes verb (codes "shape")) (shape_of words) None in
    subst (λ (ws : List (List ℕ)). ReadsStatement r (store_statement_of ws)) (sym c.in-Some.ensures.found)
    (subst (λ (t : Bool). ReadsStatement r (cond t (save_of words) (cond (same_bytes verb (codes "merge")) (said_or (merge_end_of words) (merge_of words)) tail))) is_save
    (subst (λ (t : Bool). ReadsStatement r (cond t (said_or (merge_end_of words) (merge_of words)) tail)) is_merge
    (subst (λ (o : Option Statement). ReadsStatement r (said_or o (merge_of words))) none (stated-merge r words c.merge_of.ensures))))
