use Rattle.std.proofs.Common.{◌≡◌, ◌+◌, ◌-◌, arith, suc, sym, ◌∙◌, ap, subst, ℕ, List, get_or, [], below_more, refl}
use Rattle.std.specs.declared.cmp.Ordering.TheVariants.{Less}
use Rattle.ut_key.specs.Keys.{key_cmp}
use Rattle.ut_prefix.specs.Reading.{block_keys, CanDecode}
use Rattle.ut_prefix.proofs.BlockLemmas.{at_first, at_next, nth, nth-at_next}
use Rattle.ut_prefix.proofs.block.search_block.Goals as goal
use Rattle.ut_prefix.proofs.block.search_block.Goals.{then-i-count, else-i-count}

pub loop-i-init : goal.loop-i-init
loop-i-init g c = record {
  can = (at_first c.args.count (c.args.count - 1) (c.args.count - 1 - 0) c.args.block.now _ _ (c.from_slice-current.ensures ∙ c.first_of.ensures.key) c.first_of.ensures.rest (omega arith) (omega arith) c.requires.block).0;
  keys = λ j lt. (at_first c.args.count (0 + j) j c.args.block.now _ _ (c.from_slice-current.ensures ∙ c.first_of.ensures.key) c.first_of.ensures.rest (omega arith) lt c.requires.block).1;
  below = λ j lt. absurd (omega arith);
  cost = omega arith;
}

pub loop-i-preserved : goal.loop-i-preserved
loop-i-preserved g c =
    let here : c.loop-i.current ≡ get_or (block_keys c.args.count c.args.block.now) c.loop-i.i [] =
    c.loop-i.invariant.keys 0 (omega arith) ∙ (let e : c.loop-i.i + 0 ≡ c.loop-i.i = omega arith in ap (λ (k : ℕ). get_or (block_keys c.args.count c.args.block.now) k []) e) in
    let less : key_cmp (get_or (block_keys c.args.count c.args.block.now) c.loop-i.i []) c.args.key.now ≡ Less =
    ap (λ (l : List ℕ). key_cmp l c.args.key.now) (sym here) ∙ ap (λ (l : List ℕ). key_cmp l c.args.key.now) (sym c.as_slice.ensures.bytes) ∙ sym c.compare.ensures.order ∙ c.in-Less.is in
    record {
      can = elim c.if-i-count.branch [
        | then-i-count w ↦ let can : CanDecode (c.args.count - 1 - (c.loop-i.i + 1)) w.read_next-rest.new.key w.read_next-rest.result.now = (at_next (c.args.count - 1 - c.loop-i.i) (c.args.count - 1 - (c.loop-i.i + 1)) c.loop-i.current c.loop-i.rest.now _ _ _ (omega arith) w.read_next-rest.ensures.key w.read_next-rest.ensures.rest c.loop-i.invariant.can refl).0 in
            subst (λ (l : List ℕ). CanDecode (c.args.count - 1 - (c.loop-i.i + 1)) l c.if-i-count.rest.now) (sym w.current-is) (subst (λ (l : List ℕ). CanDecode (c.args.count - 1 - (c.loop-i.i + 1)) w.read_next-rest.new.key l) (sym (ap (λ r. r.now) w.rest-is)) can)
        | else-i-count w ↦ let none : c.args.count - 1 - (c.loop-i.i + 1) ≡ 0 = omega arith in subst (λ (k : ℕ). CanDecode k c.if-i-count.current c.if-i-count.rest.now) (sym none) tt
      ];
      keys = λ j lt. elim c.if-i-count.branch [
        | then-i-count w ↦ let e : c.loop-i.i + suc j ≡ c.loop-i.i + 1 + j = omega arith in
            ap (λ (l : List ℕ). nth j l c.if-i-count.rest.now) w.current-is ∙ ap (λ r. nth j w.read_next-rest.new.key r.now) w.rest-is
            ∙ nth-at_next j c.loop-i.current c.loop-i.rest.now _ _ w.read_next-rest.ensures.key w.read_next-rest.ensures.rest
            ∙ c.loop-i.invariant.keys (suc j) (omega arith) ∙ ap (λ (k : ℕ). get_or (block_keys c.args.count c.args.block.now) k []) e
        | else-i-count w ↦ absurd (omega arith)
      ];
      below = below_more _ _ c.loop-i.invariant.below less;
      cost = omega arith;
    }
