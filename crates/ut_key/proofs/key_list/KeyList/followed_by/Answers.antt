use Rattle.std.proofs.Common.{◌≡◌, ◌<◌, ◌+◌, ◌++◌, length, length-append, ap, ◌∙◌, get_or, arith, subst, take, ℕ, List}
use Rattle.std.proofs.lemmas.List.{take_all}
use Rattle.ut_key.proofs.ArenaLemmas.{end_within, joined_keys, joined_ends, shifted, shifted_more}
use Rattle.ut_key.specs.Arena.{keys_from}
use Rattle.ut_key.proofs.key_list.KeyList.followed_by.Goals as goal

pub overflow_add-shift : goal.overflow_add-shift
overflow_add-shift c =
    let size : length c.extend_from_slice.new.self.items ≡ length c.self.inside.bytes.items + length c.as_slice.result.now = ap (λ l. length l) c.in_ok-extend_from_slice.ensures.items ∙ length-append c.self.inside.bytes.items c.as_slice.result.now in
    let shift = ap (λ l. length l) c.as_slice-shift.ensures.value in
    let others = ap (λ l. length l) c.as_slice.ensures.value in
    let lt : c.loop-end.end-index < length c.other.inside.ends.items = subst (λ (l : List ℕ). c.loop-end.end-index < length l) c.as_slice-others.ensures.value c.loop-end-test.true in
    let end = end_within 0 c.other.inside.ends.items (length c.other.inside.bytes.items) c.loop-end.end-index c.other.invariant lt in
    let same = ap (λ (l : List ℕ). get_or l c.loop-end.end-index 0) c.as_slice-others.ensures.value in
    omega (arith, size, shift, others, end, same, c.extend_from_slice.new.self.small, c.extend_from_slice.new.self.ok, c.in_ok-extend_from_slice.ensures.len)

pub loop-end-preserved : goal.loop-end-preserved
loop-end-preserved c =
    shifted_more (length c.as_slice-shift.result.now) c.loop-end.end-index c.loop-end.ends.items c.reserve.new.self.items c.as_slice-others.result.now c.push.new.self.items c.loop-end-test.true c.loop-end.invariant c.in_ok-push.ensures.items

-- the ends that were written
written : (c : goal.After-loop-end) → c.loop-end.ends.items ≡ c.self.inside.ends.items ++ shifted (length c.self.inside.bytes.items) c.other.inside.ends.items
written c =
    c.loop-end.invariant
    ∙ ap (λ (l : List ℕ). l ++ shifted (length c.as_slice-shift.result.now) (take c.loop-end.end-index c.as_slice-others.result.now)) c.in_ok-reserve.ensures.items
    ∙ ap (λ (l : List ℕ). c.self.inside.ends.items ++ shifted (length l) (take c.loop-end.end-index c.as_slice-others.result.now)) c.as_slice-shift.ensures.value
    ∙ ap (λ (l : List ℕ). c.self.inside.ends.items ++ shifted (length c.self.inside.bytes.items) l) (take_all c.loop-end.end-index c.as_slice-others.result.now c.loop-end-test.false ∙ c.as_slice-others.ensures.value)

bytes_are : (c : goal.After-loop-end) → c.extend_from_slice.new.self.items ≡ c.self.inside.bytes.items ++ c.other.inside.bytes.items
bytes_are c = c.in_ok-extend_from_slice.ensures.items ∙ ap (λ (l : List ℕ). c.self.inside.bytes.items ++ l) c.as_slice.ensures.value

pub invariant_of-result : goal.invariant_of-result
invariant_of-result c =
    joined_ends c.self.inside.ends.items c.other.inside.ends.items c.self.inside.bytes.items c.other.inside.bytes.items c.loop-end.ends.items c.extend_from_slice.new.self.items c.self.invariant c.other.invariant (bytes_are c) (written c)

pub returns : goal.returns
returns c =
    joined_keys c.self.inside.ends.items c.other.inside.ends.items c.self.inside.bytes.items c.other.inside.bytes.items c.loop-end.ends.items c.extend_from_slice.new.self.items c.self.invariant (bytes_are c) (written c)
    ∙ ap (λ l. l ++ keys_from 0 c.other.inside.ends.items c.other.inside.bytes.items) c.self.view_is ∙ ap (λ l. c.args.self ++ l) c.other.view_is
