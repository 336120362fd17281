use Rattle.std.proofs.Common.{◌++◌, ◌∙◌, ap}
use Rattle.std.specs.Int.{w32, w64, to_le_bytes}
use Rattle.ut_image.specs.Bytes.{mark_bytes}
use Rattle.ut_image.proofs.PutLemmas.{four_put}
use Rattle.ut_image.proofs.put.put_part.Goals as goal

pub returns-clause-items : goal.returns-clause-items
returns-clause-items c =
    let part = c.args.part.now in
    four_put c.args.out.now.items (to_le_bytes w32 part.first) (to_le_bytes w64 part.length) (to_le_bytes w32 part.rows) (mark_bytes part.live)
    c.put.new.out.items c.put-2.new.out.items c.put-3.new.out.items c.put_marks.new.out.items
    (c.put.ensures.items ∙ ap (λ l. c.args.out.now.items ++ l) c.to_le_bytes.ensures)
    (c.put-2.ensures.items ∙ ap (λ l. c.put.new.out.items ++ l) c.to_le_bytes-2.ensures)
    (c.put-3.ensures.items ∙ ap (λ l. c.put-2.new.out.items ++ l) c.to_le_bytes-3.ensures)
    (c.put_marks.ensures.items ∙ ap (λ marks. c.put-3.new.out.items ++ mark_bytes marks) c.as_slice.ensures)
