use Rattle.std.proofs.Common.{◌≡◌, ◌++◌, ◌-◌, List, ℕ, length, take, ◌∙◌, ap, arith}
use Rattle.ut_value.specs.Spelling.{op_spelling}
use Rattle.ut_frame.proofs.frame.add_bytes.Goals as goal

pub returns-clause-added : goal.returns-clause-added
returns-clause-added c os is =
    let bytes = c.args.bytes.now in
    let at : c.len-payload_len.result ≡ length bytes.items = omega (arith, c.len-payload_len.ensures, bytes.ok.0) in
    let cut = c.truncate.ensures.items ∙ ap (λ (n : ℕ). take (n - 1) bytes.items) at in
    c.close.ensures.added os c.args.op.now bytes.items c.requires.whole (c.put_op.ensures.items ∙ ap (λ (l : List ℕ). l ++ op_spelling c.args.op.now) cut) is
