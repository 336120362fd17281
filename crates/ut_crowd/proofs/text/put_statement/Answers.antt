use Rattle.std.proofs.Common.{List, ℕ, ◌∷◌, ◌++◌, ap, ◌∙◌, sym, append_assoc}
use Rattle.std.specs.Prelude.{codes}
use Rattle.ut_crowd.specs.Texts.{kind_text, store_text}
use Rattle.ut_crowd.proofs.TextLaws.{two_parts}
use Rattle.ut_crowd.proofs.text.put_statement.Goals as goal

pub returns-in_ok-put_table-in-MergeBegin : goal.returns-in_ok-put_table-in-MergeBegin
returns-in_ok-put_table-in-MergeBegin c =
    let table : List ℕ = c.in-MergeBegin.table in
    let kind = kind_text c.in-MergeBegin.kind in
    two_parts c.put_kind.result c.put_kind.new.out.items c.put_table-in-MergeBegin.new.out.items c.args.out.now.items (codes "merge begin " ++ table) (32 ∷ kind) (store_text c.args.st.now) c.put_kind.ensures c.in_ok-put_table-in-MergeBegin.ensures
    (ap store_text c.in-MergeBegin.is ∙ sym (append_assoc (codes "merge begin ") table (32 ∷ kind)))
