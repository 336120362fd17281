-- The tables of a store as they are captured one by one.
use Rattle.std.proofs.Common.{◌≡◌, ℕ, ◌+◌, ◌<◌, ◌≤◌, List, [], ◌∷◌, ◌++◌, length, map, take, get_or, sym, ◌∙◌, ap, subst, arith}
use Rattle.std.proofs.lemmas.List.{take_more, length-map, map-append, get_or-map}
use Rattle.ut_plain.specs.declared.table.Table.{Table}
use Rattle.ut_plain.specs.declared.stage.TableStages.{TableStages}
use Rattle.ut_plain.specs.Stages.{Stages}
use Rattle.ut_plain.specs.Journal.{current}
use Rattle.ut_plain.specs.Plain.{Plain}
use Rattle.ut_plain.specs.Capture.{capture}
use Rattle.ut_savepoint.specs.declared.captured.CapturedTable.{CapturedTable}
use Rattle.ut_savepoint.specs.Captured.{CapturesTable, CaptureTables, Captures}
use Rattle.ut_stamps.specs.declared.fates.Fate.{Fate}
use Rattle.ut_staged.specs.Staged.{Staged}
use Rattle.ut_table.specs.Contents.{TableValue}
use Rattle.ut_tables.specs.Rows.{Rows}
use Rattle.ut_tables.specs.Standing.{AreRowsOf}
use Rattle.ut_capture.specs.Live.{live_stages}
use Rattle.ut_capture.proofs.ListLemmas.{map-twice, alike-at, take_all}
use Rattle.ut_capture.proofs.LiveLemmas.{capture-live}

pub tables-more : (cs : List CapturedTable) (ts : List Table) (ss : Stages) (c : CapturedTable) (t : Table) (s : TableStages) → CaptureTables cs ts ss → CapturesTable c t s → CaptureTables (cs ++ c ∷ []) (ts ++ t ∷ []) (ss ++ s ∷ [])
tables-more [] [] [] c t s all one = (one, tt)
tables-more [] [] (x ∷ xs) c t s all one = absurd all
tables-more [] (t0 ∷ ts) ss c t s all one = absurd all
tables-more (c0 ∷ cs) [] ss c t s all one = absurd all
tables-more (c0 ∷ cs) (t0 ∷ ts) [] c t s all one = absurd all
tables-more (c0 ∷ cs) (t0 ∷ ts) (s0 ∷ ss) c t s all one = (all.0, tables-more cs ts ss c t s all.1 one)

-- what is captured of all tables is the directory
pub captures : (r : Rows) (count : ℕ) (cs : List CapturedTable) → CaptureTables cs r.tables (map (live_stages r.fates count) r.staged) → (p : Plain) → AreRowsOf r count p → Captures cs (capture (current p.journal) p.stages)
captures r count cs all p stands = subst (Captures cs) (sym (capture-live r count p stands)) all

module _ (r : Rows) (count : ℕ) (first : (p : Plain) × AreRowsOf r count p) (ts : List Table) (vs : List TableValue) (tables : ts ≡ r.tables) (stages : map (λ (v : TableValue). v.stages) vs ≡ r.staged) where
  alike : map (λ (t : Table). t.columns) ts ≡ map (λ (v : TableValue). v.stages.columns) vs
  alike = ap (map (λ (t : Table). t.columns)) tables ∙ sym first.1.rows.columns ∙ ap (map (λ (s : Staged). s.columns)) (sym stages) ∙ map-twice (λ (s : Staged). s.columns) (λ (v : TableValue). v.stages) vs

  as_many : length ts ≡ length vs
  as_many = sym (length-map ts (λ (t : Table). t.columns)) ∙ ap length alike ∙ length-map vs (λ (v : TableValue). v.stages.columns)

  pub columns-here : (n : ℕ) (t : Table) (v : TableValue) → n < length ts → t ≡ get_or ts n t → v ≡ get_or vs n v → t.columns ≡ v.stages.columns
  columns-here n t v lt t_is v_is =
      ap (λ (x : Table). x.columns) t_is ∙ alike-at (λ (x : Table). x.columns) (λ (x : TableValue). x.stages.columns) ts vs n t v alike lt (omega (arith, lt, as_many))
      ∙ ap (λ (x : TableValue). x.stages.columns) (sym v_is)

  pub table_more : (fates : List Fate) (entries n : ℕ) (cs new : List CapturedTable) (c : CapturedTable) (t : Table) (v : TableValue) → n < length ts → t ≡ get_or ts n t → v ≡ get_or vs n v
      → CaptureTables cs (take n ts) (map (live_stages fates entries) (take n (map (λ (x : TableValue). x.stages) vs))) → CapturesTable c t (live_stages fates entries v.stages) → new ≡ cs ++ c ∷ []
      → CaptureTables new (take (n + 1) ts) (map (live_stages fates entries) (take (n + 1) (map (λ (x : TableValue). x.stages) vs)))
  table_more fates entries n cs new c t v lt t_is v_is all one is =
      let within : n < length vs = omega (arith, lt, as_many) in
      let there : n < length staged = omega (arith, within, length-map vs (λ (x : TableValue). x.stages)) in
      let front : take (n + 1) ts ≡ take n ts ++ t ∷ [] = take_more ts n t lt ∙ ap (λ (x : Table). take n ts ++ x ∷ []) (sym t_is) in
      let here : get_or staged n v.stages ≡ v.stages = get_or-map (λ (x : TableValue). x.stages) vs n v v.stages within ∙ ap (λ (x : TableValue). x.stages) (sym v_is) in
      let behind : map (live_stages fates entries) (take (n + 1) staged) ≡ map (live_stages fates entries) (take n staged) ++ live_stages fates entries v.stages ∷ [] =
      ap (map (live_stages fates entries)) (take_more staged n v.stages there ∙ ap (λ (x : Staged). take n staged ++ x ∷ []) here)
      ∙ map-append (live_stages fates entries) (take n staged) (v.stages ∷ []) in
      subst (λ (l : List CapturedTable). CaptureTables l (take (n + 1) ts) (map (live_stages fates entries) (take (n + 1) staged))) (sym is)
      (subst (λ (l : List Table). CaptureTables (cs ++ c ∷ []) l (map (live_stages fates entries) (take (n + 1) staged))) (sym front)
      (subst (λ (l : Stages). CaptureTables (cs ++ c ∷ []) (take n ts ++ t ∷ []) l) (sym behind)
      (tables-more cs (take n ts) (map (live_stages fates entries) (take n staged)) c t (live_stages fates entries v.stages) all one)))
    where
      staged : List Staged
      staged = map (λ (x : TableValue). x.stages) vs

  pub all_captured : (fates : List Fate) (entries n : ℕ) (cs : List CapturedTable) → fates ≡ r.fates → entries ≡ count → length ts ≤ n
      → CaptureTables cs (take n ts) (map (live_stages fates entries) (take n (map (λ (x : TableValue). x.stages) vs))) → (p : Plain) → AreRowsOf r count p → Captures cs (capture (current p.journal) p.stages)
  all_captured fates entries n cs fates_is entries_is all are p stands =
      let front : take n ts ≡ r.tables = take_all n ts all ∙ tables in
      let behind : take n (map (λ (x : TableValue). x.stages) vs) ≡ r.staged = take_all n (map (λ (x : TableValue). x.stages) vs) (omega (arith, all, as_many, length-map vs (λ (x : TableValue). x.stages))) ∙ stages in
      let live : map (live_stages fates entries) (take n (map (λ (x : TableValue). x.stages) vs)) ≡ map (live_stages r.fates count) r.staged = λ i. map (live_stages (fates_is i) (entries_is i)) (behind i) in
      captures r count cs (subst (λ (l : List Table). CaptureTables cs l (map (live_stages r.fates count) r.staged)) front
      (subst (λ (l : Stages). CaptureTables cs (take n ts) l) live are)) p stands
