-- Parts of journals.
use Rattle.std.proofs.Common.{◌≡◌, ℕ, ◌-◌, ◌≤◌, List, [], ◌∷◌, ◌++◌, ◌∙◌, ap, arith}
use Rattle.std.proofs.lemmas.List.{drop_all}
use Rattle.ut_value.specs.declared.entry.Entry.{Entry}
use Rattle.ut_plain.specs.State.{State}
use Rattle.ut_plain.specs.Journal.{Journal, journal_len, state_at, entries_after, prefix, appended, since, part}
use Rattle.ut_plain.proofs.ListLemmas.{take_within, take_whole, drop_within}
use Rattle.ut_plain.proofs.JournalLaws.{state_at-appended}
use Rattle.ut_plain.proofs.PartLaws.{state_at-length, since-length}

-- ---- an entry more

pub entries_after-appended : (j : Journal) (e : Entry) (n : ℕ) → n ≤ journal_len j → entries_after (appended j e) n ≡ entries_after j n ++ e ∷ []
entries_after-appended j e n within = drop_within (n - j.base.length) j.entries (e ∷ []) (omega (arith, within))

-- nothing stands behind all of them
pub entries_after-all : (j : Journal) (n : ℕ) → journal_len j ≤ n → entries_after j n ≡ []
entries_after-all j n le = drop_all (n - j.base.length) j.entries (omega (arith, le))

pub since-appended : (j : Journal) (e : Entry) (n : ℕ) → n ≤ journal_len j → since (appended j e) n ≡ appended (since j n) e
since-appended j e n within =
    ap (λ (s : State). record { base = s; entries = entries_after (appended j e) n }) (state_at-appended j e n within)
    ∙ ap (λ (es : List Entry). record { base = state_at j n; entries = es }) (entries_after-appended j e n within)

-- a part that ends before it is as it was
pub part-appended : (j : Journal) (e : Entry) (from count : ℕ) → j.base.length ≤ from → from ≤ count → count ≤ journal_len j → part (appended j e) from count ≡ part j from count
part-appended j e from count begins within no_more =
    let le : from ≤ journal_len j = omega (arith, within, no_more) in
    let long : journal_len (since j from) ≡ journal_len j = since-length j from begins le in
    let start : (state_at j from).length ≡ from = state_at-length j from begins le in
    ap (λ (k : Journal). prefix k count) (since-appended j e from le)
    ∙ ap (λ (es : List Entry). record { base = state_at j from; entries = es }) (take_within (count - (state_at j from).length) (entries_after j from) (e ∷ []) (omega (arith, start, long, within, no_more)))

-- all of it
pub part-all : (j : Journal) (from : ℕ) → j.base.length ≤ from → from ≤ journal_len j → part j from (journal_len j) ≡ since j from
part-all j from begins within =
    let long : journal_len (since j from) ≡ journal_len j = since-length j from begins within in
    ap (λ (es : List Entry). record { base = state_at j from; entries = es }) (take_whole (journal_len j - (state_at j from).length) (entries_after j from) (omega (arith, long)))
