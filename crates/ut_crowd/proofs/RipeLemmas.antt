-- The first table that is full, one table more at a time.
use Rattle.std.proofs.Common.{ℕ, ◌≡◌, ◌<◌, ◌≤◌, true, false, List, length, None, Some, ap, ◌∙◌, sym, arith}
use Rattle.std.proofs.lemmas.Grind.{common_steps}
use Rattle.std.specs.Prelude.{nat_le}
use Rattle.ut_plain.specs.declared.table.Table.{Table}
use Rattle.ut_plain.specs.declared.stage.TableStages.{TableStages}
use Rattle.ut_plain.specs.Plain.{Plain}
use Rattle.ut_plain.specs.Stages.{stages_at}
use Rattle.ut_store.specs.Held.{Held}
use Rattle.ut_store.specs.Stands.{StandsFor}
use Rattle.ut_engine.specs.Tables.{IsTableCount, IsL1Length, IsL2Length}
use Rattle.ut_crowd.specs.Asking.{first_full, second_full}
use Rattle.ut_crowd.proofs.AskingLemmas.{found_at, found_none}

le_is : (a b : ℕ) → a ≤ b → nat_le a b ≡ true
le_is a b h = grind (arith, common_steps, h)

places_of : (e : Held) (p : Plain) → StandsFor e p → length e.rows.tables ≡ length p.stages
places_of e p s = ap (λ (ts : List Table). length ts) s.counts.tables ∙ sym s.plain.staged

module _ (e : Held) (rows : ℕ) (p : Plain) (s : StandsFor e p) where
  abbrev no_l1 : ℕ → Type 0
  no_l1 n = (k : ℕ) → k < n → nat_le rows (length (stages_at p.stages k).l1) ≡ false

  pub l1_found : (place here : ℕ) → place < length e.rows.tables → IsL1Length e place here → no_l1 place → rows ≤ here → Some place ≡ first_full rows p.stages
  l1_found place here lt is before full =
      sym (found_at (λ (t : TableStages). nat_le rows (length t.l1)) p.stages place (let same = places_of e p s in omega (arith, lt, same)) before (ap (λ (n : ℕ). nat_le rows n) (sym (is.plain p s)) ∙ le_is rows here full))

  pub l1_none : (count : ℕ) → IsTableCount e count → no_l1 count → None ≡ first_full rows p.stages
  l1_none count is before =
      sym (found_none (λ (t : TableStages). nat_le rows (length t.l1)) p.stages (λ k lt. before k (let same = is.held in let n = places_of e p s in omega (arith, lt, same, n))))

  abbrev no_l2 : ℕ → Type 0
  no_l2 n = (k : ℕ) → k < n → nat_le rows (length (stages_at p.stages k).l2) ≡ false

  pub l2_found : (place here : ℕ) → place < length e.rows.tables → IsL2Length e place here → no_l2 place → rows ≤ here → Some place ≡ second_full rows p.stages
  l2_found place here lt is before full =
      sym (found_at (λ (t : TableStages). nat_le rows (length t.l2)) p.stages place (let same = places_of e p s in omega (arith, lt, same)) before (ap (λ (n : ℕ). nat_le rows n) (sym (is.plain p s)) ∙ le_is rows here full))

  pub l2_none : (count : ℕ) → IsTableCount e count → no_l2 count → None ≡ second_full rows p.stages
  l2_none count is before =
      sym (found_none (λ (t : TableStages). nat_le rows (length t.l2)) p.stages (λ k lt. before k (let same = is.held in let n = places_of e p s in omega (arith, lt, same, n))))
