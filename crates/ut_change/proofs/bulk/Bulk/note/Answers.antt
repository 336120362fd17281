use Rattle.std.proofs.Common.{◌++◌, ◌-◌, ◌∙◌, IsTrue, take, refl, subst, arith}
use Rattle.std.specs.List.{list_all}
use Rattle.ut_value.specs.declared.entry.Op.TheVariants.{Insert}
use Rattle.ut_value.specs.Spelling.{is_op}
use Rattle.ut_plain.proofs.BoolLemmas.{and_left}
use Rattle.ut_change.specs.Bulks.{bulk_ops}
use Rattle.ut_change.proofs.BulkLemmas.{first-len, left-behind, done-next, done-spelled}
use Rattle.ut_change.proofs.bulk.Bulk.note.Goals as goal

pub note_insert-requires-clause-rule : goal.note_insert-requires-clause-rule
note_insert-requires-clause-rule c =
    let at = c.loop-rest in
    and_left (is_op (Insert at.rest.table at.rest.id c.split.result.0.now)) (list_all is_op (bulk_ops c.split.result.1))
    (subst (λ os. IsTrue (list_all is_op os)) c.split.ensures.ops at.invariant.is.rule)

pub note_insert-requires-clause-room : goal.note_insert-requires-clause-room
note_insert-requires-clause-room c = omega (arith, first-len c.loop-rest.rest c.split.result.1 _ c.split.ensures.ops, c.loop-rest.invariant.room)

pub note_insert-requires-clause-size : goal.note_insert-requires-clause-size
note_insert-requires-clause-size c = omega (arith, first-len c.loop-rest.rest c.split.result.1 _ c.split.ensures.ops, c.loop-rest.invariant.size)

pub loop-rest-preserved : goal.loop-rest-preserved
loop-rest-preserved c =
    let at = c.loop-rest in
    let first = first-len at.rest c.split.result.1 _ c.split.ensures.ops in
    record {
      is = c.split.ensures.behind;
      from = omega (arith, c.split.ensures.id, at.invariant.from);
      left = left-behind c.args.self at.rest c.split.result.1 _ c.split.ensures.ops c.split.ensures.id at.invariant.from at.invariant.left;
      room = omega (arith, first, at.invariant.room, c.note_insert.ensures.spare);
      size = omega (arith, first, at.invariant.size, c.note_insert.ensures.len);
      grown = λ ps is. c.note_insert.ensures.grown (ps ++ take (at.rest.id - c.args.self.id) (bulk_ops c.args.self)) (at.invariant.grown ps is)
          ∙ done-next c.args.self at.rest c.split.result.1 _ c.split.ensures.ops c.split.ensures.id at.invariant.from at.invariant.left ps;
      set = let old = at.invariant.set in let one = c.note_insert.ensures.set in record {
        count = one.count ∙ old.count;
        opened = one.opened ∙ old.opened;
        payload = refl;
        others = λ s ne. one.others s ne ∙ old.others s ne;
        payloads = λ s ne. one.payloads s ne ∙ old.payloads s ne;
      };
    }

pub returns-clause-grown : goal.returns-clause-grown
returns-clause-grown c = λ ps is. let at = c.loop-rest in at.invariant.grown ps is ∙ done-spelled c.args.self at.rest ps at.invariant.left (omega arith)
