use Rattle.std.proofs.Common.{◌≡◌, ◌∙◌, ◌*◌, ◌++◌, ◌<◌, ℕ, length, get_or, drop, ap, arith}
use Rattle.std.proofs.lemmas.List.{get_or_default}
use Rattle.ut_bits.specs.Bits.{AllBelow}
use Rattle.ut_bits.specs.Words.{word_bytes, word_in}
use Rattle.std.specs.List.{flat_map}
use Rattle.ut_bits.proofs.BitLemmas.{AllBelow-from_places, take-rest}
use Rattle.ut_main.proofs.IdLemmas.{id-at, ids-spelled}
use Rattle.ut_main.proofs.ids.read_ids.Goals.{then-id-eq0-via-then-id-eq0, then-id-eq0-via-else-id-eq0+then-id-gt-LAST_ID}
use Rattle.ut_main.proofs.ids.read_ids.Goals as goal

pub returns-then-id-eq0-clause-none : goal.returns-then-id-eq0-clause-none
returns-then-id-eq0-clause-none c = λ ids rest size range is.
    let at = id-at ids rest c.args.bytes.now c.loop-i.i is range (omega (arith, size, c.loop-i-test.true)) in
    let read : c.read_word-id.result ≡ get_or ids c.loop-i.i 0 = c.read_word-id.ensures ∙ ap word_in (take-rest (c.loop-i.i * 4) c.args.bytes.now) ∙ at.0 in
    elim c.then-id-eq0.branch [
      | then-id-eq0-via-then-id-eq0 w ↦ omega (arith, w.if-id-eq0.true, read, at.1)
      | then-id-eq0-via-else-id-eq0+then-id-gt-LAST_ID w ↦ omega (arith, w.if-id-gt-LAST_ID.true, read, at.2)
    ]

pub returns-clause-some : goal.returns-clause-some
returns-clause-some c =
    let bytes : AllBelow 256 c.args.bytes.now = AllBelow-from_places 256 c.args.bytes.now (λ i. omega (arith, c.type_inv.bytes i)) in
    let all : c.loop-i.i ≡ c.args.rows = omega (arith, c.loop-i-test.false, c.loop-i.auto.i-end) in
    let size : length c.loop-i.ids.items ≡ c.args.rows = c.loop-i.invariant.0 ∙ all in
    let at : (k : ℕ) → k < length c.loop-i.ids.items → k < c.loop-i.i = λ k lt. omega (arith, lt, size, all) in (
      λ k d lt.
          let h = c.loop-i.invariant.1 k (at k lt) in
          let same = get_or_default c.loop-i.ids.items k d 0 lt in
          (omega (arith, h.1, same), omega (arith, h.2, same)),
      size,
      ids-spelled c.loop-i.ids.items c.args.bytes.now bytes (omega (arith, size, c.requires)) (λ k lt. (c.loop-i.invariant.1 k (at k lt)).0)
          ∙ ap (λ n. flat_map word_bytes c.loop-i.ids.items ++ drop (n * 4) c.args.bytes.now) size,
    )
