-- Words stand in the order of the numbers that they spell.
use Rattle.std.proofs.Common.{◌≡◌, ℕ, ◌^◌, ◌<◌, ◌≤◌, ◌≢◌, false, refl, ap, sym, ◌∙◌, arith}
use Rattle.std.specs.Int.{w64, to_be_bytes}
use Rattle.std.specs.Cmp.{ranks, nat_cmp_is, unsigned_ties}
use Rattle.std.specs.Cmp.Lexicographic.{lists_ties}
use Rattle.std.specs.Ordering.{nat_cmp, is_lt, is_eq, MatchOrdering}
use Rattle.std.specs.declared.cmp.Ordering.{Ordering}
use Rattle.std.specs.declared.cmp.Ordering.TheVariants.{Less, Equal, Greater}
use Rattle.ut_key.specs.Keys.{key_cmp}
use Rattle.ut_key.proofs.WordLemmas.{words_cmp}
use Rattle.ut_unsorted.specs.FirstSeen.{key_eq}

not_lt : (a b : ℕ) → b ≤ a → is_lt (nat_cmp a b) ≡ false
not_lt a b le = by (nat_cmp a b) (ranks a b)
  where
    by : (o : Ordering) → MatchOrdering o (a < b) (a ≡ b) (b < a) → is_lt o ≡ false
    by Less h = absurd (omega (arith, h, le))
    by Equal h = refl
    by Greater h = refl

-- the bytes of a greater number aren't below those of a smaller one
pub bytes-not_below : (a b : ℕ) → a < 2 ^ 64 → b < 2 ^ 64 → a ≤ b → is_lt (key_cmp (to_be_bytes w64 b) (to_be_bytes w64 a)) ≡ false
bytes-not_below a b ha hb le = ap is_lt (words_cmp b a hb ha) ∙ not_lt b a le

-- words of different numbers differ
pub words-differ : (a b : ℕ) → a < 2 ^ 64 → b < 2 ^ 64 → a ≢ b → key_eq (to_be_bytes w64 a) (to_be_bytes w64 b) ≡ false
words-differ a b ha hb ne = lists_ties nat_cmp unsigned_ties (to_be_bytes w64 a) (to_be_bytes w64 b) ∙ ap is_eq (words_cmp a b ha hb) ∙ by (nat_cmp a b) (ranks a b)
  where
    by : (o : Ordering) → MatchOrdering o (a < b) (a ≡ b) (b < a) → is_eq o ≡ false
    by Less h = refl
    by Equal h = absurd (ne h)
    by Greater h = refl

pub words-less : (a b : ℕ) → a < 2 ^ 64 → b < 2 ^ 64 → a < b → key_cmp (to_be_bytes w64 a) (to_be_bytes w64 b) ≡ Less
words-less a b ha hb lt = words_cmp a b ha hb ∙ sym (nat_cmp_is a b Less lt)
