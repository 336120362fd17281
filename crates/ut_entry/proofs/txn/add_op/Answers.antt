use Rattle.std.proofs.Common.{◌∙◌, sym, ap, length, arith}
use Rattle.ut_entry.proofs.TxnLemmas.{added}
use Rattle.ut_entry.proofs.txn.add_op.Goals as goal

pub returns-clause-added : goal.returns-clause-added
returns-clause-added c os is =
    let a = c.deref_mut.ensures in
    added os c.args.op.now c.args.payload.now.items c.raise_count.new.bytes c.put_op.new.out.items c.args.payload.now.len is
    (sym a.len ∙ ap length a.value) (omega (arith, c.requires.size)) (c.raise_count.auto.bytes ∙ ap length a.value)
    (λ k rest few spelled. c.raise_count.ensures k rest few (a.value ∙ spelled)) c.put_op.ensures.items
