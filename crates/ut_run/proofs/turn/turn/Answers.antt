use Rattle.ut_run.proofs.TurnLemmas.{quiet, told, unwritten, lost, lost_unwritten}
use Rattle.ut_run.proofs.turn.turn.Goals as goal

pub returns-in-Nothing-clause-turns : goal.returns-in-Nothing-clause-turns
returns-in-Nothing-clause-turns g c = quiet _ _ _ _ _ _ _ _ _ _ c.say.ensures.says _ c.in-Nothing.is c.journal_len-replies.ensures

pub returns-in-Ok-clause-turns : goal.returns-in-Ok-clause-turns
returns-in-Ok-clause-turns g c = told _ _ _ _ _ _ _ _ _ _ c.say.ensures.says _ _ _ _ c.in-Reply.is c.journal_len.ensures c.give.ensures.acks c.give.ensures.journal c.in-Ok.ensures.written

pub returns-in-Err-clause-turns : goal.returns-in-Err-clause-turns
returns-in-Err-clause-turns g c = unwritten _ _ _ _ _ _ _ _ _ _ c.say.ensures.says _ _ _ _ _ c.in-Reply.is c.journal_len.ensures c.give.ensures.acks c.give.ensures.journal c.in-Err.ensures.written

pub returns-in-Ok-give-clause-turns : goal.returns-in-Ok-give-clause-turns
returns-in-Ok-give-clause-turns g c = lost _ _ _ _ _ _ _ _ _ _ c.say.ensures.says _ _ _ _ c.in-Fault.is c.journal_len-before.ensures c.give-in-Fault.ensures.acks c.give-in-Fault.ensures.journal c.in-Ok-give.ensures.written

pub returns-in-Err-give-clause-turns : goal.returns-in-Err-give-clause-turns
returns-in-Err-give-clause-turns g c = lost_unwritten _ _ _ _ _ _ _ _ _ _ c.say.ensures.says _ _ _ _ _ c.in-Fault.is (c.say.ensures.cause.cause c.in-Fault.is) c.journal_len-before.ensures c.give-in-Fault.ensures.acks c.give-in-Fault.ensures.journal c.in-Err-give.ensures.written
