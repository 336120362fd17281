use Rattle.std.proofs.Common.{◌∙◌, ◌<◌, ◌≤◌, length, take, get_or, sym, ap, arith}
use Rattle.std.proofs.lemmas.List.{take_more, take_all}
use Rattle.ut_unsorted.specs.FirstSeen.{note, first_seen}
use Rattle.ut_unsorted.proofs.FirstSeenLemmas.{first_seen-append}
use Rattle.ut_unsorted.proofs.HeldLemmas.{distinct-first_seen}
use Rattle.ut_unsorted.proofs.held.words_of.Goals as goal

pub loop-word-preserved : goal.loop-word-preserved
loop-word-preserved c =
    let words = c.args.words.now in
    let i = c.loop-word.word-index in
    let word = c.word-item.result in
    let lt : c.loop-word.word-index < length c.args.words.now = omega arith in
    c.in_ok-insert_full.ensures.keys
    ∙ ap (note c.loop-word.set.keys) (c.of.ensures ∙ c.as_slice.ensures.bytes)
    ∙ ap (λ ks. note ks word) c.loop-word.invariant
    ∙ sym (ap first_seen (take_more words i word lt) ∙ first_seen-append (take i words) (get_or words i word) ∙ ap (note (first_seen (take i words))) (sym c.word-item.is))

pub returns : goal.returns
returns c =
    let words = c.args.words.now in
    let n : length c.args.words.now ≤ c.loop-word.word-index = c.loop-word-test.false in
    c.loop-word.invariant
    ∙ ap first_seen (take_all c.loop-word.word-index words n)
    ∙ distinct-first_seen words c.requires
