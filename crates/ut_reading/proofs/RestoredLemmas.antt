-- What files give back that hold a prefix of a journal.
use Rattle.std.proofs.Common.{◌≡◌, ℕ, ◌+◌, ◌-◌, ◌≤◌, take, drop, sym, ◌∙◌, ap, arith}
use Rattle.std.proofs.Math.Seq.{take-add}
use Rattle.ut_plain.specs.Journal.{Journal, journal_len, current, state_at, after_all, since, part}
use Rattle.ut_plain.proofs.JournalLaws.{after_all-append, journal_len-prefix}
use Rattle.ut_plain.proofs.PartLaws.{state_at-length, since-length}
use Rattle.ut_reading.specs.Restored.{PrefixIsRestored}
use Rattle.ut_reading.proofs.StoreLemmas.{one_store}

module _ (j : Journal) (from count : ℕ) (begins : j.base.length ≤ from) (within : from ≤ count) (no_more : count ≤ journal_len j) where
  begun : (state_at j from).length ≡ from
  begun = state_at-length j from begins (omega (arith, within, no_more))

  -- a part's entries lead from the state that it begins with to the one at its end
  current-part : current (part j from count) ≡ state_at j count
  current-part =
      let k : ℕ = from - j.base.length in
      let m : ℕ = count - (state_at j from).length in
      let all : count - j.base.length ≡ k + m = omega (arith, begun, begins, within) in
      sym (after_all-append j.base (take k j.entries) (take m (drop k j.entries)))
      ∙ ap (after_all j.base) (sym (take-add k m j.entries))
      ∙ ap (λ (n : ℕ). after_all j.base (take n j.entries)) (sym all)

  part-length : journal_len (part j from count) ≡ count
  part-length = journal_len-prefix (since j from) count (omega (arith, begun, within)) (omega (arith, since-length j from begins (omega (arith, within, no_more)), no_more))

pub prefix_is_restored : PrefixIsRestored
prefix_is_restored full j least c held read =
    let one = one_store j (part full held.from held.count) read.directory held.holds.directory read.end held.holds.end c read.reading held.holds.reading in
    record {
      count = held.count;
      no_fewer = held.no_fewer;
      no_more = held.no_more;
      state = ap current one.0 ∙ current-part full held.from held.count held.begins held.within held.no_more;
      length = ap journal_len one.0 ∙ part-length full held.from held.count held.begins held.within held.no_more;
    }
