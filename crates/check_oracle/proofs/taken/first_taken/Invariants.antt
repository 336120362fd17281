use Rattle.std.proofs.Common.{◌≡◌, drop}
use Rattle.ut_plain.specs.Plain.{is_taken}
use Rattle.ut_plain.specs.Refusals.{first_taken}
use Rattle.check_oracle.specs.Store.{plain_of}
use Rattle.check_oracle.proofs.taken.first_taken.Given as goal

-- none of those so far was taken
abbrev pub invariant-loop-row : goal.invariant-loop-row
invariant-loop-row l = first_taken (is_taken (plain_of l.held) l.session) (drop l.row-index l.rows) ≡ first_taken (is_taken (plain_of l.held) l.session) l.rows
