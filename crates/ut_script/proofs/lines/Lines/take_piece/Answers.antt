use Rattle.std.proofs.Common.{◌∙◌, ap, sym, refl, List, ℕ, take, drop, length, ◌-◌, ◌+◌, ◌≡◌, ◌++◌, arith}
use Rattle.ut_script.specs.Lines.{Reading}
use Rattle.ut_script.proofs.PieceLemmas.{held_of, line_len, held-behind, held-none, breaks_at, breaks_whole, ends_at, joins_all}
use Rattle.ut_script.proofs.lines.Lines.take_piece.Goals as goal

pub returns-then-count-room-clause-piece : goal.returns-then-count-room-clause-piece
returns-then-count-room-clause-piece c =
    let i = c.self.inside in
    let is = held_of _ c.args.self.now i.at i.filled i.block.items c.deref.result.now c.self.view_is refl c.deref.ensures.value (omega arith) in
    let count : length c.args.self.now.line ≡ c.len-room.result = line_len _ c.args.self.now c.len-room.result c.self.view_is (sym c.len-room.ensures.len) in
    breaks_at c.args.self.now _ c.in-Some.count is c.in-Some.ensures (omega (arith, count)) (omega (arith, count, c.len-room.ensures.len, c.len-room.ensures.few))

pub returns-then-held-room-clause-piece : goal.returns-then-held-room-clause-piece
returns-then-held-room-clause-piece c =
    let i = c.self.inside in
    let is = held_of _ c.args.self.now i.at i.filled i.block.items c.deref.result.now c.self.view_is refl c.deref.ensures.value (omega arith) in
    let count : length c.args.self.now.line ≡ c.len-room.result = line_len _ c.args.self.now c.len-room.result c.self.view_is (sym c.len-room.ensures.len) in
    breaks_whole c.args.self.now _ is c.in-None.ensures (omega (arith, count)) (omega (arith, count, c.len-room.ensures.len, c.len-room.ensures.few))

pub returns-else-count-room-clause-piece : goal.returns-else-count-room-clause-piece
returns-else-count-room-clause-piece c =
    let i = c.self.inside in
    let n = c.in-Some.count in
    let held = take (i.filled - i.at) (drop i.at c.deref.result.now) in
    let is = held_of _ c.args.self.now i.at i.filled i.block.items c.deref.result.now c.self.view_is refl c.deref.ensures.value (omega arith) in
    ends_at c.args.self.now _ held n is c.in-Some.ensures
    (held-behind i.at i.filled n i.block.items (omega arith) ∙ ap (λ (xs : List ℕ). drop (n + 1) (take (i.filled - i.at) (drop i.at xs))) (sym c.deref.ensures.value))
    (c.put.ensures.bytes ∙ ap (λ (xs : List ℕ). xs ++ take n held) (ap (λ (r : Reading). r.line) c.self.view_is))

pub returns-else-held-room-clause-piece : goal.returns-else-held-room-clause-piece
returns-else-held-room-clause-piece c =
    let i = c.self.inside in
    let held = take (i.filled - i.at) (drop i.at c.deref.result.now) in
    let is = held_of _ c.args.self.now i.at i.filled i.block.items c.deref.result.now c.self.view_is refl c.deref.ensures.value (omega arith) in
    joins_all c.args.self.now _ held is c.in-None.ensures (held-none i.filled i.block.items) (c.put-in-None.ensures.bytes ∙ ap (λ (xs : List ℕ). xs ++ held) (ap (λ (r : Reading). r.line) c.self.view_is))
