use Rattle.std.proofs.Common.{◌-◌, ℕ, List, length, ap, ◌∙◌, arith}
use Rattle.std.proofs.lemmas.Int.{ints}
use Rattle.ut_prefix.specs.Totals.{key_number}
use Rattle.ut_prefix.proofs.EntryLemmas.{IsReading-more, AgreesWith-more, length-read, next_of}
use Rattle.ut_prefix.proofs.parse.read_blocks.Goals as goal

pub overflow_sub-bytes : goal.overflow_sub-bytes
overflow_sub-bytes c = let read = length-read c.loop-i.i c.args.bytes.now c.loop-i.key c.loop-i.rest.now c.loop-i.starts.items _ c.loop-i.invariant.0 in omega (arith, read)

pub returns-in-None-clause-none : goal.returns-in-None-clause-none
returns-in-None-clause-none c = λ keys more good size is.
    c.in-None.ensures.none _ _ (next_of c.args.len c.loop-i.i c.args.bytes.now c.loop-i.key c.loop-i.rest.now keys more c.loop-i.invariant.1 c.loop-i-test.true good size is)

pub loop-i-preserved : goal.loop-i-preserved
loop-i-preserved c =
    let read = length-read c.loop-i.i c.args.bytes.now c.loop-i.key c.loop-i.rest.now c.loop-i.starts.items _ c.loop-i.invariant.0 in (
      IsReading-more c.loop-i.i c.args.bytes.now c.loop-i.key c.loop-i.rest.now c.loop-i.starts.items c.read_key.new.key c.in-Some.later.now c.note_start.new.starts.items (length c.args.bytes.now - length c.loop-i.rest.now) _ c.number_of.result _ c.loop-i.invariant.0 c.in-Some.ensures.some (omega (arith, read)) c.in_ok-note_start.ensures (c.number_of.ensures.value ∙ ap (λ (l : List ℕ). key_number l) c.as_slice.ensures.bytes) c.number_of.ensures.within (omega (arith, ints)),
      AgreesWith-more c.args.len c.loop-i.i c.args.bytes.now c.loop-i.key c.loop-i.rest.now c.read_key.new.key c.in-Some.later.now c.loop-i.invariant.1 c.loop-i-test.true c.in-Some.ensures.some,
    )
