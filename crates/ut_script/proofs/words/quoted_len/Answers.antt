use Rattle.ut_script.proofs.QuotedLemmas.{quoted, unquoted-rest}
use Rattle.ut_script.proofs.words.quoted_len.Goals as goal

pub returns-in-Some-clause-value : goal.returns-in-Some-clause-value
returns-in-Some-clause-value c = quoted c.args.bytes.now c.in-Some.quote c.in-Some.ensures

pub returns-in-None-clause-value : goal.returns-in-None-clause-value
returns-in-None-clause-value c = unquoted-rest c.args.bytes.now c.in-None.ensures
