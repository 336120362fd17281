-- Which rows a merge keeps, told by the fates of their transactions, are those that somebody sees.
use Rattle.std.proofs.Common.{◌≡◌, ◌≤◌, inl, inr, ℕ, Bool, true, false, not, ◌&&◌, ◌||◌, nat_eq, nat_le, nat_lt, List, [], ◌∷◌, Option, None, Some, refl, sym, ap, ◌∙◌}
use Rattle.std.specs.List.{list_any}
use Rattle.std.proofs.lemmas.Bool.{and_right, eq-eqb, le-leb, lt-leb, lt-ltb, le-ltb, cases_lt}
use Rattle.ut_stamps.specs.declared.fates.Fate.{Fate}
use Rattle.ut_stamps.specs.declared.fates.Fate.TheVariants.{Running, Committed, Aborted}
use Rattle.ut_stamps.specs.declared.visibility.Stamp.{Stamp}
use Rattle.ut_stamps.specs.Stamps.{fate_at, is_running, is_committed_by, counts, has_ended}
use Rattle.ut_stamps.specs.Kept.{is_needed_still, end_keeps, begin_keeps}
use Rattle.ut_meaning.specs.Keeping.{KeepsWhatIsSeen}

none-any : {X : Type 0} (xs : List X) → list_any (λ (x : X). false) xs ≡ false
none-any [] = refl
none-any (x ∷ xs) = none-any xs

or-false : (b : Bool) → (b || false) ≡ b
or-false true = refl
or-false false = refl

before : (k c : ℕ) → not (nat_le c k) ≡ nat_lt k c
before k c = elim (cases_lt k c) [
  | inl lt ↦ ap not (lt-leb c k lt) ∙ sym (lt-ltb k c lt)
  | inr ge ↦ ap not (le-leb c k ge) ∙ sym (le-ltb k c ge)
]

module _ (fates : List Fate) (snapshots : List ℕ) (now : ℕ) (past : (t c : ℕ) → fate_at fates t ≡ Committed c → c ≤ now) where
  -- a row whose insert was committed at b, seen at a snapshot
  abbrev at : ℕ → Option ℕ → ℕ → Bool
  at b end k = nat_le b k && not (has_ended (counts fates k None) end)

  committed-end : (b t : ℕ) (f : Fate) → fate_at fates t ≡ f → b ≤ now
      → is_needed_still snapshots b f ≡ list_any (λ k. nat_le b k && not (is_committed_by f k)) (now ∷ snapshots)
  committed-end b t Running e le = sym (ap (λ x. (x && true) || list_any (λ k. nat_le b k && true) snapshots) (le-leb b now le))
  committed-end b t (Committed c) e le =
      (λ i. list_any (λ k. nat_le b k && sym (before k c) i) snapshots)
      ∙ sym (ap (λ x. x || list_any (λ k. nat_le b k && not (nat_le c k)) snapshots)
      (and_right (nat_le b now) (not (nat_le c now)) (ap not (le-leb c now (past t c e)))))
  committed-end b t Aborted e le = sym (ap (λ x. (x && true) || list_any (λ k. nat_le b k && true) snapshots) (le-leb b now le))

  committed : (b : ℕ) (end : Option ℕ) → b ≤ now → end_keeps fates snapshots b end ≡ list_any (at b end) (now ∷ snapshots)
  committed b None le = sym (ap (λ x. (x && true) || list_any (λ k. nat_le b k && true) snapshots) (le-leb b now le))
  committed b (Some t) le = committed-end b t (fate_at fates t) refl le

  -- a row of a running transaction, which nobody else ends
  running-end : (begin : ℕ) (end : Option ℕ) → ((t : ℕ) → end ≡ Some t → t ≡ begin) → has_ended (counts fates now (Some begin)) end ≡ has_ended (nat_eq begin) end
  running-end begin None alone = refl
  running-end begin (Some t) alone =
      let own : nat_eq begin t ≡ true = eq-eqb begin t (sym (alone t refl)) in ap (λ b. b || is_committed_by (fate_at fates t) now) own ∙ sym own

  by_fate : (stamp : Stamp) → ((t : ℕ) → fate_at fates stamp.begin ≡ Running → stamp.end ≡ Some t → t ≡ stamp.begin) → (f : Fate) → fate_at fates stamp.begin ≡ f
      → begin_keeps fates snapshots stamp f
      ≡ (list_any (λ k. is_committed_by f k && not (has_ended (counts fates k None) stamp.end)) (now ∷ snapshots)
      || (is_running f && ((nat_eq stamp.begin stamp.begin || is_committed_by f now) && not (has_ended (counts fates now (Some stamp.begin)) stamp.end))))
  by_fate stamp alone Running e = sym (
      ap (λ x. x || ((nat_eq stamp.begin stamp.begin || false) && not (has_ended (counts fates now (Some stamp.begin)) stamp.end))) (none-any snapshots)
      ∙ ap (λ x. (x || false) && not (has_ended (counts fates now (Some stamp.begin)) stamp.end)) (eq-eqb stamp.begin stamp.begin refl)
      ∙ ap not (running-end stamp.begin stamp.end (λ t at. alone t e at)))
  by_fate stamp alone (Committed b) e = committed b stamp.end (past stamp.begin b e) ∙ sym (or-false (list_any (at b stamp.end) (now ∷ snapshots)))
  by_fate stamp alone Aborted e = sym (or-false (list_any (λ (k : ℕ). false) snapshots) ∙ none-any snapshots)

pub keeps-seen : KeepsWhatIsSeen
keeps-seen fates snapshots now stamp past alone = by_fate fates snapshots now past stamp alone (fate_at fates stamp.begin) refl
