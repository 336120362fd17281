use Rattle.std.proofs.Common.{◌≡◌, ◌+◌, ◌*◌, ◌/◌, ◌%◌, ◌<◌, ℕ, List, length, drop, get_or, [], arith, sym, ap, ◌∙◌, subst}
use Rattle.ut_prefix.specs.Reading.{keys_of, first_key, after_first}
use Rattle.ut_prefix.proofs.BlockLemmas.{nth, get_or-block_keys}
use Rattle.ut_prefix.proofs.LayoutLemmas.{block_at, IsBlock-at, get_or-keys_of, length-keys_of}
use Rattle.ut_prefix.proofs.dict.PrefixDict.get.Goals as goal

-- the code is below the number of keys
below : (g : _) (c : goal.After-as_slice-2 g) → c.args.code < c.self.inside.len
below g c = subst (λ (k : ℕ). c.args.code < k) (ap (λ l. length l) (sym c.self.view_is) ∙ length-keys_of c.self.inside.starts.items c.self.inside.len c.self.inside.bytes.items c.self.invariant.laid.count) c.requires

pub block_of-block-requires-clause-index : goal.block_of-block-requires-clause-index
block_of-block-requires-clause-index g c = rw c.as_slice-2.ensures.value (omega (arith, below g c, c.self.invariant.laid.count))

pub block_of-block-requires-clause-start : goal.block_of-block-requires-clause-start
block_of-block-requires-clause-start g c =
    rw (c.as_slice-2.ensures.value, c.as_slice.ensures.value) (block_at c.self.inside.starts.items c.self.inside.len c.self.inside.bytes.items (c.args.code / 16) c.self.invariant.laid.blocks (omega (arith, below g c, c.self.invariant.laid.count))).0

-- the block is at its start
block_is : (g : _) (c : goal.After-block_of-block g) → c.block_of-block.result.now ≡ drop (get_or c.self.inside.starts.items (c.args.code / 16) 0) c.self.inside.bytes.items
block_is g c =
    c.block_of-block.ensures ∙ ap (λ (l : List ℕ). drop (get_or l (c.args.code / 16) 0) c.as_slice.result.now) c.as_slice-2.ensures.value
    ∙ ap (λ (l : List ℕ). drop (get_or c.self.inside.starts.items (c.args.code / 16) 0) l) c.as_slice.ensures.value

pub key_in_block-requires : goal.key_in_block-requires
key_in_block-requires g c =
    let lt : c.args.code < c.self.inside.len = subst (λ (k : ℕ). c.args.code < k) (ap (λ l. length l) (sym c.self.view_is) ∙ length-keys_of c.self.inside.starts.items c.self.inside.len c.self.inside.bytes.items c.self.invariant.laid.count) c.requires in
    IsBlock-at c.self.inside.starts.items c.self.inside.len c.self.inside.bytes.items c.block_of-block.result.now (c.args.code / 16) (c.args.code % 16 + 1) c.self.invariant.laid.blocks (omega (arith, lt, c.self.invariant.laid.count)) (block_is g c) (omega (arith, lt))

pub returns-clause-key : goal.returns-clause-key
returns-clause-key g c =
    let lt : c.args.code < c.self.inside.len = subst (λ (k : ℕ). c.args.code < k) (ap (λ l. length l) (sym c.self.view_is) ∙ length-keys_of c.self.inside.starts.items c.self.inside.len c.self.inside.bytes.items c.self.invariant.laid.count) c.requires in
    let block : c.block_of-block.result.now ≡ drop (get_or c.self.inside.starts.items (c.args.code / 16) 0) c.self.inside.bytes.items =
    c.block_of-block.ensures ∙ ap (λ (l : List ℕ). drop (get_or l (c.args.code / 16) 0) c.as_slice.result.now) c.as_slice-2.ensures.value
    ∙ ap (λ (l : List ℕ). drop (get_or c.self.inside.starts.items (c.args.code / 16) 0) l) c.as_slice.ensures.value in
    let at : 16 * (c.args.code / 16) + c.args.code % 16 ≡ c.args.code = omega arith in
    c.key_in_block.ensures ∙ get_or-block_keys (c.args.code % 16 + 1) (c.args.code % 16) c.block_of-block.result.now (omega arith)
    ∙ ap (λ (l : List ℕ). nth (c.args.code % 16) (first_key l) (after_first l)) block
    ∙ sym (get_or-keys_of c.self.inside.starts.items c.self.inside.len c.self.inside.bytes.items (c.args.code / 16) (c.args.code % 16) c.self.invariant.laid.count (omega (arith, lt)))
    ∙ ap (λ (k : ℕ). get_or (keys_of c.self.inside.starts.items c.self.inside.len c.self.inside.bytes.items) k []) at
    ∙ ap (λ l. get_or l c.args.code []) c.self.view_is
