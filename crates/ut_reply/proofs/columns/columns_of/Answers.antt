use Rattle.std.proofs.Common.{List, sym, subst, arith}
use Rattle.ut_reply.specs.Columns.{Led, Show}
use Rattle.ut_reply.proofs.ShowLemmas.{read_show}
use Rattle.ut_reply.proofs.columns.columns_of.Goals as goal

pub returns-in-Ok : goal.returns-in-Ok
returns-in-Ok c =
    subst (λ (columns : List Led). Show columns c.args.rows.now) (sym c.in-Ok.ensures)
    (read_show c.in-Some-len1-up.field-0.now c.args.rows.now c.first-item.result c.first-item.is (omega arith) c.in-Some-len1-up.ensures.rows c.in-Some-len1-up.ensures.each)
