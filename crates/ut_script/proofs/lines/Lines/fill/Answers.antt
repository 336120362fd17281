use Rattle.std.proofs.Common.{[], ◌≡◌, ◌∙◌, ap, sym, take, drop, length, arith}
use Rattle.std.proofs.lemmas.List.{drop_all, length-take-le}
use Rattle.ut_script.specs.Lines.{Reading}
use Rattle.ut_script.proofs.AskLemmas.{fills_taken, block_front}
use Rattle.ut_script.proofs.lines.Lines.fill.Goals as goal

pub returns-in-Ok-clause-bytes : goal.returns-in-Ok-clause-bytes
returns-in-Ok-clause-bytes g c =
    let i = c.self.inside in
    let none : c.args.self.now.held ≡ [] = ap (λ (r : Reading). r.held) (sym c.self.view_is) ∙ drop_all i.at (take i.filled i.block.items) (omega (arith, c.if-self.false, length-take-le i.filled i.block.items (omega (arith, i.block.ok.0)))) in
    let buf = c.take.new.buf in
    let long : length buf ≡ i.block.len = omega (arith, c.take.auto.buf, c.deref_mut.ensures.len) in
    fills_taken _ _ c.args.self.now _ _ c.in-Ok.count buf _ none (block_front c.in-Ok.count i.block.len buf (drop (length buf) i.block.items) long) c.in-Ok.ensures.bytes
