use Rattle.std.proofs.Common.{◌≡◌, ◌∙◌, ◌-◌, ◌<◌, [], length, get_or, position, ap, sym, subst, refl, arith, rules}
use Rattle.std.specs.Int.{to_be_bytes, w64}
use Rattle.std.specs.List.{position_or_len}
use Rattle.std.specs.declared.cmp.Ordering.TheVariants.{Less}
use Rattle.std.proofs.lemmas.List.{get_or_read_under}
use Rattle.ut_key.specs.Keys.{key_cmp, IsAscending}
use Rattle.ut_unsorted.specs.FirstSeen.{key_eq, note}
use Rattle.ut_unsorted.specs.Rising.{AreWords}
use Rattle.ut_unsorted.proofs.HeldLemmas.{risen-found}
use Rattle.ut_unsorted.proofs.RisingLemmas.{rising-note, rising-place, rising-push, words-push}
use Rattle.ut_unsorted.proofs.WordLemmas.{words-less}
use Rattle.ut_unsorted.proofs.rising.Rising.intern.Goals.{then-len-eq0-via-then-len-eq0, then-len-eq0-via-else-len-eq0+then-number}
use Rattle.ut_unsorted.proofs.rising.Rising.intern.Goals as goal

above : (c : goal.In_ok-push) → 0 < length c.self.inside.words.items → key_cmp (get_or c.self.inside.words.items (length c.self.inside.words.items - 1) []) c.args.word ≡ Less
above c some =
    let ws = c.self.inside.words.items in
    let n : c.len-len.result ≡ length c.self.inside.words.items = search rules in
    elim c.then-len-eq0.branch [
      | then-len-eq0-via-then-len-eq0 w ↦ absurd (omega (arith, some, w.if-len-eq0.true, n))
      | then-len-eq0-via-else-len-eq0+then-number w ↦
          let at = get_or_read_under ws (c.len-len.result - 1) (length ws) w.index.result.now [] w.index.ensures (omega (arith, some, n)) refl ∙ ap (λ m. get_or ws (m - 1) []) n in
          ap (λ a. key_cmp a c.args.word) (sym (w.number.ensures ∙ at)) ∙ ap (key_cmp (to_be_bytes w64 w.number.result)) (sym c.number-number.ensures)
          ∙ words-less w.number.result c.number-number.result w.number.type_inv c.number-number.type_inv w.if-number.true
    ]

pub invariant_of-self-then-len-eq0 : goal.invariant_of-self-then-len-eq0
invariant_of-self-then-len-eq0 c = (
  subst IsAscending (sym c.in_ok-push.ensures.items) (rising-push c.self.inside.words.items c.args.word c.self.invariant.0 (above c)),
  subst AreWords (sym c.in_ok-push.ensures.items) (words-push c.self.inside.words.items c.args.word c.self.invariant.1 (ap length (sym c.number-number.ensures))),
)

pub returns-then-len-eq0-clause-code : goal.returns-then-len-eq0-clause-code
returns-then-len-eq0-clause-code c =
    let n : c.len-len.result ≡ length c.self.inside.words.items = search rules in
    n ∙ sym (rising-place c.self.inside.words.items c.args.word c.self.invariant.0 (above c)) ∙ ap (position_or_len (key_eq c.args.word)) c.self.view_is

pub returns-then-len-eq0-clause-keys : goal.returns-then-len-eq0-clause-keys
returns-then-len-eq0-clause-keys c = c.in_ok-push.ensures.items ∙ rising-note c.self.inside.words.items c.args.word c.self.invariant.0 (above c) ∙ ap (λ l. note l c.args.word) c.self.view_is

pub returns-clause-keys : goal.returns-clause-keys
returns-clause-keys c = risen-found c.counted_find.result c.args.self.now c.args.word (
    c.counted_find.ensures ∙ ap (λ q. position (key_eq q) c.as_slice.result.now) c.number-number.ensures
    ∙ ap (position (key_eq c.args.word)) (c.as_slice.ensures.value ∙ c.self.view_is))
