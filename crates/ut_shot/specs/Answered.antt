-- What a question is answered outside a transaction, where the journal's state is this one.
use Rattle.std.specs.Prelude.{if◌then◌else◌}
use Rattle.std.specs.FinMap as finmap
use Rattle.ut_plain.specs.declared.statement.Query.{Query}
use Rattle.ut_plain.specs.declared.reply.Refusal.TheVariants as refusals
use Rattle.ut_plain.specs.declared.reply.Reply.{Reply}
use Rattle.ut_plain.specs.declared.reply.Reply.TheVariants as replies
use Rattle.ut_plain.specs.Kinds.{query_fits}
use Rattle.ut_plain.specs.Names.{query_known}
use Rattle.ut_plain.specs.Query.{told}
use Rattle.ut_plain.specs.State.{State}

abbrev pub answered : State → Query → Reply
answered s query =
    if query_known s.tables query then (if query_fits s.tables query then told s.tables (finmap.entries s.rows) query else replies.Refused refusals.Kind)
    else replies.Refused refusals.Name
