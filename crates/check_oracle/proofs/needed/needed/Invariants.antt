use Rattle.std.proofs.Common.{◌≡◌, ◌||◌, ℕ, nat_eq, take}
use Rattle.std.specs.List.{list_any}
use Rattle.std.specs.Option.{is_some}
use Rattle.std.specs.FinMap as finmap
use Rattle.ut_plain.specs.Journal.{current}
use Rattle.ut_plain.specs.Merges.{open_needs}
use Rattle.check_oracle.specs.Store.{plain_of}
use Rattle.check_oracle.proofs.needed.needed.Given as goal

-- what is there, and what the sessions so far need
abbrev pub invariant-loop-transaction : goal.invariant-loop-transaction
invariant-loop-transaction l = (id : ℕ) → list_any (nat_eq id) l.ids.items ≡ (is_some (finmap.get (current (plain_of l.held).journal).rows id) || list_any (open_needs (plain_of l.held).journal id) (take l.transaction-index l.held.sessions.items))
