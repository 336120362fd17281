use Rattle.std.proofs.Common.{◌≡◌, ◌++◌, ◌-◌, List, ℕ, length, take, ◌∙◌, ap, arith}
use Rattle.ut_value.specs.declared.entry.Op.TheVariants.{Insert}
use Rattle.ut_value.specs.Spelling.{op_spelling}
use Rattle.ut_frame.proofs.frame.insert_bytes.Goals as goal

pub returns-clause-added : goal.returns-clause-added
returns-clause-added c os is =
    let bytes = c.args.bytes.now in
    let op = Insert c.args.table c.args.id c.args.values.now in
    let at : c.len-payload_len.result ≡ length bytes.items = omega (arith, c.len-payload_len.ensures, bytes.ok.0) in
    let cut = c.truncate.ensures.items ∙ ap (λ (n : ℕ). take (n - 1) bytes.items) at in
    c.close.ensures.added os op bytes.items c.requires.whole (c.put_insert.ensures.items ∙ ap (λ (l : List ℕ). l ++ op_spelling op) cut) is
