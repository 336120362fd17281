use Rattle.std.proofs.Common.{Vec, Global, ℕ, ◌+◌, ◌-◌, drop, take, length, ap, ◌∙◌}
use Rattle.std.specs.Prelude.{vec_len, vec_capacity}
use Rattle.ut_reply.proofs.QuotedLemmas.{quote_comes, byte_comes, run_short, quote_fits, byte_fits, quote_ends, byte_ends, no_less, at_most_itself}
use Rattle.ut_reply.proofs.values.add_quoted.Goals as goal
use Rattle.ut_reply.proofs.values.add_quoted.Goals.{then-b-eq-QUOTE, else-b-eq-QUOTE}

pub loop-i-preserved : goal.loop-i-preserved
loop-i-preserved c =
    let before = c.args.out.now in
    let bytes = c.args.bytes.now in
    let out = c.loop-i.out in
    let after = c.if-b-eq-QUOTE.out in
    let start = c.loop-i.start in
    let next = c.if-b-eq-QUOTE.start in
    let i = c.loop-i.i in
    let so_far = c.loop-i.invariant in
    elim c.if-b-eq-QUOTE.branch [
      | then-b-eq-QUOTE w ↦
          record {
            text = quote_comes before.items out.items w.add.new.out.items after.items bytes start next i so_far.within c.loop-i-test.true w.if-b-eq-QUOTE.true so_far.text
                w.add.ensures.text (ap (λ (o : Vec ℕ Global). o.items) w.out-is ∙ w.push_reserved.ensures.items) w.start-is;
            within = quote_ends next i w.start-is;
            room = quote_fits (vec_len before) (vec_len out) (vec_len w.add.new.out) (vec_len after) (length (take (i + 1 - start) (drop start bytes))) start next i so_far.within so_far.room
                w.add.ensures.len (run_short (i + 1 - start) (drop start bytes)) (ap (λ (o : Vec ℕ Global). vec_len o) w.out-is ∙ w.push_reserved.ensures.len) w.start-is;
            capacity = no_less (vec_capacity before) (vec_capacity out) (vec_capacity w.add.new.out) (vec_capacity after) so_far.capacity
                w.add.ensures.capacity (ap (λ (o : Vec ℕ Global). vec_capacity o) w.out-is ∙ w.push_reserved.ensures.capacity);
          }
      | else-b-eq-QUOTE w ↦
          record {
            text = byte_comes before.items out.items after.items bytes start next i so_far.within c.loop-i-test.true w.if-b-eq-QUOTE.false so_far.text
                (ap (λ (o : Vec ℕ Global). o.items) w.out-is) w.start-is;
            within = byte_ends start next i so_far.within w.start-is;
            room = byte_fits (vec_len before) (vec_len out) (vec_len after) start next so_far.room (ap (λ (o : Vec ℕ Global). vec_len o) w.out-is) w.start-is;
            capacity = no_less (vec_capacity before) (vec_capacity out) (vec_capacity out) (vec_capacity after) so_far.capacity
                (at_most_itself (vec_capacity out)) (ap (λ (o : Vec ℕ Global). vec_capacity o) w.out-is);
          }
    ]
