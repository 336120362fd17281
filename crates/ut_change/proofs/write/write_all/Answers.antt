use Rattle.std.proofs.Common.{◌≡◌, ◌≤◌, ◌∷◌, ◌∙◌, length, sym, ap, subst, arith}
use Rattle.std.specs.Vec.Iter.{into_iter_items}
use Rattle.ut_plain.specs.Rows.{inserts_of}
use Rattle.ut_table.specs.Finds.{hits_of}
use Rattle.ut_staged.specs.Staging.{written}
use Rattle.ut_change.specs.Writes.{CanWrite, hits_behind}
use Rattle.ut_change.proofs.WriteLemmas.{can_first, can_behind, room_first, written_first}
use Rattle.ut_change.proofs.write.write_all.Goals as goal

pub write_one-hits-requires-clause-can : goal.write_one-hits-requires-clause-can
write_one-hits-requires-clause-can c =
    let at = c.loop-op in
    can_first at.table.stages (hits_of at.hits.now) c.in-Some.op (into_iter_items c.next.new.self) (subst (λ os. CanWrite at.table.stages (hits_of at.hits.now) os) c.in-Some.ensures.steps.0 at.invariant.can)

pub write_one-hits-requires-clause-room : goal.write_one-hits-requires-clause-room
write_one-hits-requires-clause-room c =
    let at = c.loop-op in
    (room_first c.in-Some.op (into_iter_items c.next.new.self) at.table.spare at.table.spare (subst (λ os. inserts_of os ≤ at.table.spare) c.in-Some.ensures.steps.0 at.invariant.room) (omega arith)).0

pub loop-op-preserved : goal.loop-op-preserved
loop-op-preserved c =
    let at = c.loop-op in
    let op = c.in-Some.op in
    let rest = into_iter_items c.next.new.self in
    let steps : into_iter_items at.op-iterator ≡ op ∷ rest = c.in-Some.ensures.steps.0 in
    let w = c.write_one-hits in
    let can : CanWrite at.table.stages (hits_of at.hits.now) (op ∷ rest) = subst (λ os. CanWrite at.table.stages (hits_of at.hits.now) os) steps at.invariant.can in
    record {
      can = subst (λ hits. CanWrite w.new.table.stages hits rest) (sym w.ensures.hits)
          (subst (λ s. CanWrite s (hits_behind op (hits_of at.hits.now)) rest) (sym w.ensures.stages)
          (can_behind c.args.number at.table.stages (hits_of at.hits.now) op rest can));
      room = (room_first op rest at.table.spare w.new.table.spare (subst (λ os. inserts_of os ≤ at.table.spare) steps at.invariant.room) w.ensures.room).1;
      written = (λ i. written c.args.number rest (w.ensures.hits i) (w.ensures.stages i))
          ∙ written_first c.args.number op rest (hits_of at.hits.now) at.table.stages can
          ∙ ap (λ os. written c.args.number os (hits_of at.hits.now) at.table.stages) (sym steps)
          ∙ at.invariant.written;
      count = let was = at.invariant.count in let gone = c.in-Some.ensures.steps.1 in let short = ap length steps in omega arith;
    }
