use Rattle.std.proofs.Common.{sym, ◌∙◌, arith}
use Rattle.ut_plain.specs.Plain.{is_taken}
use Rattle.check_oracle.specs.Store.{plain_of}
use Rattle.check_oracle.proofs.TakenLemmas.{first_hit, first_miss}
use Rattle.check_oracle.proofs.taken.first_taken.Goals as goal

pub returns-then-is_taken : goal.returns-then-is_taken
returns-then-is_taken c = sym (first_hit (is_taken (plain_of c.args.held.now) c.args.session) c.args.rows.now c.loop-row.row-index c.row-item.result (omega arith) c.row-item.is (sym c.is_taken.ensures ∙ c.if-is_taken.true)) ∙ c.loop-row.invariant

pub loop-row-preserved : goal.loop-row-preserved
loop-row-preserved c = sym (first_miss (is_taken (plain_of c.args.held.now) c.args.session) c.args.rows.now c.loop-row.row-index c.row-item.result (omega arith) c.row-item.is (sym c.is_taken.ensures ∙ c.if-is_taken.false)) ∙ c.loop-row.invariant
