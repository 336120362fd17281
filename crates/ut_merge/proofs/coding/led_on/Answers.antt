use Rattle.std.proofs.Common.{◌∙◌, ◌+◌, List, ℕ, Option, sym, subst}
use Rattle.ut_bits.specs.Bits.{AllBelow}
use Rattle.ut_own.specs.Own.{recoded}
use Rattle.ut_recode.specs.Recode.{with_staying, HaveEntries}
use Rattle.ut_merge.proofs.coding.led_on.Goals as goal

pub recode-requires-clause-entries : goal.recode-requires-clause-entries
recode-requires-clause-entries g c κs within =
    let start = c.args.start in
    let codes = c.args.codes.now in
    subst (λ (l : List (Option ℕ)). HaveEntries (with_staying start l) (start + c.len.result) codes) (sym c.as_slice-entries.ensures.value)
    (subst (λ n. HaveEntries (with_staying start c.args.recoding.now.entries.items) (start + n) codes) (sym c.len.ensures.len) c.requires.entries)

pub returns : goal.returns
returns g c = (
  c.in_ok-new.ensures.ok ∙ c.in_ok-dict.ensures,
  c.in_ok-codes.ensures.codes ∙ (λ i. recoded (with_staying c.args.start (c.as_slice-entries.ensures.value i)) c.args.codes.now),
  subst (λ n. AllBelow (c.args.start + n) c.in_ok-codes.codes.items) c.len.ensures.len c.in_ok-codes.ensures.below,
)
