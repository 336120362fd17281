-- A merge begins: the second stage is closed, and what isn't kept is gone from then on.
use Rattle.std.proofs.Common.{ℕ, zero, suc, ◌<◌, ◌≤◌, ◌≡◌, ◌≢◌, ◌⊎◌, inl, inr, Bool, true, false, List, [], ◌∷◌, ◌++◌, length, map, Option, None, Some, refl, sym, ap, ◌∙◌, subst, slice_get, slice_set, unwrap_or, true≢false}
use Rattle.std.proofs.lemmas.Bool.{cases_eq, cases_lt}
use Rattle.std.proofs.lemmas.List.{map-append}
use Rattle.std.specs.Option.{option_and_then}
use Rattle.ut_value.specs.declared.entry.MergeKind.{MergeKind}
use Rattle.ut_plain.specs.declared.stage.Placed.{Placed}
use Rattle.ut_plain.specs.declared.stage.TableStages.{TableStages}
use Rattle.ut_plain.specs.declared.stage.PendingMerge.{PendingMerge}
use Rattle.ut_plain.specs.Journal.{Journal, journal_len}
use Rattle.ut_plain.specs.Stages.{Stages, stages_at, with_stages, no_stages}
use Rattle.ut_plain.specs.Plain.{Sessions}
use Rattle.ut_plain.specs.Merges as plain
use Rattle.ut_plain.specs.Merges.{staying, is_kept, flags, all_kept}
use Rattle.ut_stamps.specs.declared.fates.Fate.{Fate}
use Rattle.ut_stamps.specs.declared.visibility.Stamp.{Stamp}
use Rattle.ut_exact.specs.Stamped.{Stamped}
use Rattle.ut_exact.specs.Exact.{IsExact, AreOpen}
use Rattle.ut_exact.specs.Gone.{IsGone}
use Rattle.ut_exact.specs.Kept.{AreSnapshots}
use Rattle.ut_exact.specs.Places.{StagedRow, AreHeld, Moved}
use Rattle.ut_exact.specs.Dropped.{AreDropped, placed_at, kept_at}
use Rattle.ut_exact.proofs.DroppedLemmas.{AreDropped-begun}
use Rattle.ut_exact.proofs.PlaceLemmas.{AreHeld-moved}
use Rattle.ut_stamps.specs.declared.place.Place.{Place}
use Rattle.ut_stamps.specs.declared.place.Place.TheVariants.{L1, L2, Closed, Main}
use Rattle.ut_staged.specs.Staged.{Staged, row_at, row_in, placed_of, stages_of, closed_l2}
use Rattle.ut_staged.specs.Choice.{flag_at}
use Rattle.ut_staged.specs.Tables.{place_at, moved_in, opened}
use Rattle.ut_staged.proofs.ListLemmas.{none_some, some_same, get-within, get-front, get-last, get-map, get-mapped, get-set_same, get-set_other}
use Rattle.ut_staged.proofs.TableLemmas.{stages-here, moved_among}

-- ---- the second stage is closed

shut : Place → Place
shut (L1 i) = L1 i
shut (L2 i) = Closed i
shut (Closed i) = Closed i
shut (Main p i) = Main p i

module _ (head : PendingMerge) (keep : List (List Bool)) (s : Staged) (none : s.closed ≡ None) where
  takes : (q : Place) (r : StagedRow) → row_at (closed_l2 head keep s) q ≡ Some r → row_at s (opened q) ≡ Some r
  takes (L1 i) r h = h
  takes (L2 i) r h = absurd (none_some r h)
  takes (Closed i) r h = h
  takes (Main p i) r h = h

  gives : (q : Place) (r : StagedRow) → row_at s q ≡ Some r → (p : Place) × (opened p ≡ q) × (row_at (closed_l2 head keep s) p ≡ Some r)
  gives (L1 i) r h = (L1 i, refl, h)
  gives (L2 i) r h = (Closed i, refl, h)
  gives (Closed i) r h = absurd (none_some r (sym (ap (λ o. row_in o i) none) ∙ h))
  gives (Main p i) r h = (Main p i, refl, h)

  back_again : (q : Place) (r : StagedRow) → row_at (closed_l2 head keep s) q ≡ Some r → shut (opened q) ≡ q
  unfolding shut
  back_again (L1 i) r h = refl
  back_again (L2 i) r h = absurd (none_some r h)
  back_again (Closed i) r h = refl
  back_again (Main p i) r h = refl

  pub closed_moved : Moved (λ (n : ℕ) q. row_at s q) (λ n q. row_at (closed_l2 head keep s) q) (λ n q. opened q)
  closed_moved = record {
    each = λ m q r h. takes q r h;
    all = λ m q r h. gives q r h;
    apart = λ m p q r u hp hq e. sym (back_again p r hp) ∙ ap shut e ∙ back_again q u hq;
  }

-- the row of each id stands where the rows of the second stage went
pub AreHeld-closed : (staged : List Staged) (n : ℕ) (s : Staged) (head : PendingMerge) (keep : List (List Bool)) (gone : Stamp → Type 0) (held : ℕ → Option Stamped) → slice_get staged n ≡ Some s → s.closed ≡ None
    → AreHeld (place_at staged) gone held → AreHeld (place_at (slice_set staged n (closed_l2 head keep s))) gone held
AreHeld-closed staged n s head keep gone held is none h =
    AreHeld-moved (place_at staged) (place_at (slice_set staged n (closed_l2 head keep s))) gone held (moved_in n opened) h (moved_among staged n s (closed_l2 head keep s) opened is (closed_moved head keep s none))

-- ---- flags

flags_false : (j : Journal) (sessions : Sessions) (lists : List (List Placed)) (stay g i : ℕ) (place : Placed) → option_and_then (λ (places : List Placed). slice_get places i) (slice_get lists g) ≡ Some place
    → flag_at (flags j sessions stay lists) g i ≡ Some false → is_kept j sessions place ≡ false
flags_false j sessions [] stay g i place at flag = absurd (none_some place at)
flags_false j sessions (x ∷ lists) zero zero i place at flag =
    let m = get-mapped (is_kept j sessions) x i false flag in
    ap (is_kept j sessions) (some_same place m.0 (sym at ∙ m.1)) ∙ m.2
flags_false j sessions (x ∷ lists) zero (suc g) i place at flag = flags_false j sessions lists zero g i place at flag
flags_false j sessions (x ∷ lists) (suc stay) zero i place at flag = let m = get-mapped (λ (p : Placed). true) x i false flag in absurd (true≢false m.2)
flags_false j sessions (x ∷ lists) (suc stay) (suc g) i place at flag = flags_false j sessions lists stay g i place at flag

-- a row of main or of the second stage has a place
pub place_there : (s : Staged) (g i : ℕ) (r : StagedRow) → row_in (slice_get (s.parts ++ s.l2 ∷ []) g) i ≡ Some r → (q : Place) × (row_at s q ≡ Some r)
place_there s g i r h = by (slice_get (s.parts ++ s.l2 ∷ []) g) refl h
  where
    by : (o : Option (List StagedRow)) → slice_get (s.parts ++ s.l2 ∷ []) g ≡ o → row_in o i ≡ Some r → (q : Place) × (row_at s q ≡ Some r)
    by None e k = absurd (none_some r k)
    by (Some rows) e k = elim (cases_lt g (length s.parts)) [
      | inl lt ↦ (Main g i, ap (λ o. row_in o i) (sym (get-front s.parts (s.l2 ∷ []) g lt) ∙ e) ∙ k)
      | inr le ↦ (L2 i, ap (λ (x : List StagedRow). slice_get x i) (get-last s.parts s.l2 rows g le e).1 ∙ k)
    ]

-- a plain place there is a row's
row_of : (s : Staged) (g i : ℕ) (place : Placed) → option_and_then (λ (places : List Placed). slice_get places i) (slice_get (map (map placed_of) (s.parts ++ s.l2 ∷ [])) g) ≡ Some place
    → (q : Place) × (r : StagedRow) × (row_at s q ≡ Some r) × (placed_of r ≡ place)
row_of s g i place h = by (slice_get (map (map placed_of) (s.parts ++ s.l2 ∷ [])) g) refl h
  where
    by : (o : Option (List Placed)) → slice_get (map (map placed_of) (s.parts ++ s.l2 ∷ [])) g ≡ o → option_and_then (λ (places : List Placed). slice_get places i) o ≡ Some place
        → (q : Place) × (r : StagedRow) × (row_at s q ≡ Some r) × (placed_of r ≡ place)
    by None e k = absurd (none_some place k)
    by (Some places) e k =
        let rows = get-mapped (map placed_of) (s.parts ++ s.l2 ∷ []) g places e in
        let r = get-mapped placed_of rows.0 i place (ap (λ (x : List Placed). slice_get x i) rows.2 ∙ k) in
        let q = place_there s g i r.0 (ap (λ o. row_in o i) rows.1 ∙ r.1) in
        (q.0, r.0, q.1, r.2)

-- ---- what isn't kept is gone

with-here : (change : TableStages → TableStages) (stages : Stages) (n : ℕ) → n < length stages → stages_at (with_stages change n stages) n ≡ change (stages_at stages n)
with-here change stages n lt = ap (λ (o : Option TableStages). unwrap_or o no_stages) (get-set_same stages n (change (stages_at stages n)) lt)

with-other : (change : TableStages → TableStages) (stages : Stages) (n m : ℕ) → m ≢ n → stages_at (with_stages change n stages) m ≡ stages_at stages m
with-other change stages n m away = ap (λ (o : Option TableStages). unwrap_or o no_stages) (get-set_other stages n m (change (stages_at stages n)) away)

pub AreDropped-closing : (staged : List Staged) (fates : List Fate) (held : ℕ → Option Stamped) (sessions : Sessions) (numbers : ℕ → ℕ) (j : Journal) (o : ℕ) (snapshots : List ℕ)
    → IsExact fates held j o → AreOpen fates held sessions numbers j o → o ≤ journal_len j → AreSnapshots snapshots sessions → AreHeld (place_at staged) (IsGone fates sessions) held
    → (n : ℕ) (s : Staged) (kind : MergeKind) → slice_get staged n ≡ Some s → ((m : ℕ) → (stages_at (map stages_of staged) m).keep ≡ [])
    → AreDropped (with_stages (plain.closing j sessions kind) n (map stages_of staged)) (IsGone fates sessions) held
AreDropped-closing staged fates held sessions numbers j o snapshots x ours opening looks places n s kind is rest = record {
  each = λ m g i place at flag. elim (cases_eq m n) [
    | inl same ↦ of g i place (ap (λ t. placed_at t g i) (sym (closing_is m same)) ∙ at) (ap (λ t. kept_at t g i) (sym (closing_is m same)) ∙ flag)
    | inr away ↦ absurd (none_some false (sym (ap (λ (k : List (List Bool)). flag_at k g i) (ap (λ (t : TableStages). t.keep) (with-other (plain.closing j sessions kind) (map stages_of staged) n m away) ∙ rest m)) ∙ flag))
  ];
}
  where
    table : stages_at (map stages_of staged) n ≡ stages_of s
    table = stages-here staged n s is

    closing_is : (m : ℕ) → m ≡ n → stages_at (with_stages (plain.closing j sessions kind) n (map stages_of staged)) m ≡ plain.closing j sessions kind (stages_of s)
    closing_is m same = ap (stages_at (with_stages (plain.closing j sessions kind) n (map stages_of staged))) same
        ∙ with-here (plain.closing j sessions kind) (map stages_of staged) n (get-within (map stages_of staged) n (stages_of s) (get-map stages_of staged n s is)) ∙ ap (plain.closing j sessions kind) table

    lists_are : ((stages_of s).parts ++ (stages_of s).l2 ∷ []) ≡ map (map placed_of) (s.parts ++ s.l2 ∷ [])
    lists_are = sym (map-append (map placed_of) s.parts (s.l2 ∷ []))

    of : (g i : ℕ) (place : Placed) → placed_at (plain.closing j sessions kind (stages_of s)) g i ≡ Some place → kept_at (plain.closing j sessions kind (stages_of s)) g i ≡ Some false
        → (place.dead ≡ true) ⊎ ((y : Stamped) × (held place.id ≡ Some y) × IsGone fates sessions y.stamp)
    of g i place at flag =
        let lost = flags_false j sessions ((stages_of s).parts ++ (stages_of s).l2 ∷ []) (staying kind (length (stages_of s).parts)) g i place at flag in
        let r = row_of s g i place (ap (λ (l : List (List Placed)). option_and_then (λ places. slice_get places i) (slice_get l g)) (sym lists_are) ∙ at) in
        let gone = AreDropped-begun (place_at staged) fates held sessions numbers j o snapshots x ours opening looks places n r.0 r.1 (ap (λ q. option_and_then (λ t. row_at t r.0) q) is ∙ r.2) (ap (is_kept j sessions) r.3 ∙ lost) in
        subst (λ (p : Placed). (p.dead ≡ true) ⊎ ((y : Stamped) × (held p.id ≡ Some y) × IsGone fates sessions y.stamp)) r.3 gone
