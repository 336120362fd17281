-- A page file has one directory.
use Rattle.std.proofs.Common.{◌≡◌, ℕ, Bool, true, false, not, List, [], ◌∷◌, ◌++◌, length, map, refl, sym, ◌∙◌, ap, subst}
use Rattle.std.specs.List.{AllByRecursion, AllZip}
use Rattle.ut_value.specs.declared.value.Column.{Column}
use Rattle.ut_value.specs.declared.value.Row.{Row}
use Rattle.ut_l2.specs.KeyRows.{KeyRow, keyed}
use Rattle.ut_main.specs.Parts.{MainValue}
use Rattle.ut_image.specs.declared.drawn.PartRef.{PartRef}
use Rattle.ut_image.specs.declared.drawn.Drawn.{Drawn}
use Rattle.ut_plain.specs.declared.table.Table.{Table}
use Rattle.ut_plain.specs.declared.stage.Placed.{Placed}
use Rattle.ut_plain.specs.declared.stage.TableStages.{TableStages}
use Rattle.ut_plain.specs.Stages.{Stages}
use Rattle.ut_plain.specs.Capture.{Directory}
use Rattle.ut_pages.specs.declared.root.Root.{Root}
use Rattle.ut_durable.specs.Rules.{IsImageRow, IsImageTable}
use Rattle.ut_durable.specs.Bytes.{Chain, row_in, key_rows, main_of, part_ref, part_refs, live_marks, HoldParts, drawn, drawn_all, HoldTables}
use Rattle.ut_reading.specs.Standing.{StandsMain}
use Rattle.ut_reading.specs.Reading.{mains_of}
use Rattle.ut_reading.proofs.KeyLemmas.{one_cells}
use Rattle.ut_reading.proofs.OneLemmas.{one_drawn, one_mains}
use Rattle.ut_reading.proofs.RuleLemmas.{InKeys}

same_place : (p q : Placed) → p.id ≡ q.id → p.values ≡ q.values → p.dead ≡ q.dead → p ≡ q
same_place p q id values dead = λ i. record { id = id i; values = values i; dead = dead i }

same_dead : (a b : Bool) → not a ≡ not b → a ≡ b
same_dead true true is = refl
same_dead true false is = cc
same_dead false true is = cc
same_dead false false is = refl

-- ---- rows

same_delta : (ps qs : List Placed) → AllByRecursion (λ (p : Placed). p.dead ≡ false) ps → AllByRecursion (λ (p : Placed). p.dead ≡ false) qs → map row_in ps ≡ map row_in qs → ps ≡ qs
same_delta [] [] a b same = refl
same_delta [] (q ∷ qs) a b same = cc
same_delta (p ∷ ps) [] a b same = cc
same_delta (p ∷ ps) (q ∷ qs) a b same =
    let row : row_in p ≡ row_in q = cc in
    let rest : map row_in ps ≡ map row_in qs = cc in
    ap (λ (x : Placed). x ∷ ps) (same_place p q (ap (λ (r : Row). r.id) row) (ap (λ (r : Row). r.values) row) (a.0 ∙ sym b.0)) ∙ ap (λ (l : List Placed). q ∷ l) (same_delta ps qs a.1 b.1 rest)

same_part : (columns : List Column) (ps qs : List Placed) → AllByRecursion (IsImageRow columns) ps → AllByRecursion (IsImageRow columns) qs → key_rows ps ≡ key_rows qs → live_marks ps ≡ live_marks qs → ps ≡ qs
same_part columns [] [] a b keys marks = refl
same_part columns [] (q ∷ qs) a b keys marks = cc
same_part columns (p ∷ ps) [] a b keys marks = cc
same_part columns (p ∷ ps) (q ∷ qs) a b keys marks =
    let row : keyed (row_in p) ≡ keyed (row_in q) = cc in
    let rest : key_rows ps ≡ key_rows qs = cc in
    let mark : not p.dead ≡ not q.dead = cc in
    let others : live_marks ps ≡ live_marks qs = cc in
    ap (λ (x : Placed). x ∷ ps) (same_place p q (ap (λ (r : KeyRow). r.id) row) (one_cells columns p.values q.values a.0.values b.0.values (ap (λ (r : KeyRow). r.keys) row)) (same_dead p.dead q.dead mark))
    ∙ ap (λ (l : List Placed). q ∷ l) (same_part columns ps qs a.1 b.1 rest others)

-- ---- parts

same_parts : (columns : List Column) (width : ℕ) (earlier earlier' : List (List Placed)) (cs cs' : List Chain) (ps qs : List (List Placed)) → AllByRecursion (AllByRecursion (IsImageRow columns)) ps → AllByRecursion (AllByRecursion (IsImageRow columns)) qs
    → HoldParts width earlier cs ps → HoldParts width earlier' cs' qs → map key_rows ps ≡ map key_rows qs → part_refs cs ps ≡ part_refs cs' qs → ps ≡ qs
same_parts columns width e e' [] [] [] [] a b h k keys refs = refl
same_parts columns width e e' [] cs' [] (q ∷ qs) a b h k keys refs = cc
same_parts columns width e e' [] (c' ∷ cs') [] [] a b h k keys refs = absurd k
same_parts columns width e e' [] cs' (p ∷ ps) qs a b h k keys refs = absurd h
same_parts columns width e e' (c ∷ cs) cs' [] qs a b h k keys refs = absurd h
same_parts columns width e e' (c ∷ cs) cs' (p ∷ ps) [] a b h k keys refs = cc
same_parts columns width e e' (c ∷ cs) [] (p ∷ ps) (q ∷ qs) a b h k keys refs = absurd k
same_parts columns width e e' (c ∷ cs) (c' ∷ cs') (p ∷ ps) (q ∷ qs) a b h k keys refs =
    let here : key_rows p ≡ key_rows q = cc in
    let rest : map key_rows ps ≡ map key_rows qs = cc in
    let ref : part_ref c p ≡ part_ref c' q = cc in
    let others : part_refs cs ps ≡ part_refs cs' qs = cc in
    ap (λ (x : List Placed). x ∷ ps) (same_part columns p q a.0 b.0 here (ap (λ (r : PartRef). r.live) ref))
    ∙ ap (λ (l : List (List Placed)). q ∷ l) (same_parts columns width (e ++ p ∷ []) (e' ++ q ∷ []) cs cs' ps qs a.1 b.1 h.1 k.1 rest others)

-- ---- tables

same_stages : (columns : List Column) (s s' : TableStages) → IsImageTable columns s → IsImageTable columns s' → s.l1 ≡ s'.l1 → s.l2 ≡ s'.l2 → s.parts ≡ s'.parts → s ≡ s'
same_stages columns s s' is is' l1 l2 parts = λ i. record { l1 = l1 i; l2 = l2 i; closed = closed i; parts = parts i; keep = keep i }
  where
    closed : s.closed ≡ s'.closed
    closed = is.rest.closed ∙ sym is'.rest.closed

    keep : s.keep ≡ s'.keep
    keep = is.rest.keep ∙ sym is'.rest.keep

same_table : (t t' : Table) (c c' : List Chain) (s s' : TableStages) → IsImageTable t.columns s → IsImageTable t'.columns s' → HoldParts (length t.columns) [] c s.parts → HoldParts (length t'.columns) [] c' s'.parts
    → drawn t c s ≡ drawn t' c' s' → map key_rows s.parts ≡ map key_rows s'.parts → (t ≡ t') × (s ≡ s')
same_table t t' c c' s s' is is' hold hold' same keys =
    let table : t ≡ t' = ap (λ (d : Drawn). d.table) same in
    let is2 : IsImageTable t.columns s' = subst (λ (u : Table). IsImageTable u.columns s') (sym table) is' in
    let hold2 : HoldParts (length t.columns) [] c' s'.parts = subst (λ (u : Table). HoldParts (length u.columns) [] c' s'.parts) (sym table) hold' in
    let stages = same_stages t.columns s s' is is2 (same_delta s.l1 s'.l1 is.l1.live is2.l1.live (ap (λ (d : Drawn). d.l1) same)) (same_delta s.l2 s'.l2 is.l2.live is2.l2.live (ap (λ (d : Drawn). d.l2) same))
    (same_parts t.columns (length t.columns) [] [] c c' s.parts s'.parts is.parts is2.parts hold hold2 keys (ap (λ (d : Drawn). d.parts) same)) in
    (table, stages)

same_tables : (ts ts' : List Table) (cs cs' : List (List Chain)) (ss ss' : Stages) → AllZip (λ (t : Table) (s : TableStages). IsImageTable t.columns s) ts ss → AllZip (λ (t : Table) (s : TableStages). IsImageTable t.columns s) ts' ss'
    → HoldTables ts cs ss → HoldTables ts' cs' ss' → drawn_all ts cs ss ≡ drawn_all ts' cs' ss' → mains_of ts ss ≡ mains_of ts' ss' → (ts ≡ ts') × (ss ≡ ss')
same_tables [] [] [] [] [] [] a b h k same mains = (refl, refl)
same_tables [] ts' [] cs' (s ∷ ss) ss' a b h k same mains = absurd h
same_tables [] ts' (c ∷ cs) cs' ss ss' a b h k same mains = absurd h
same_tables (t ∷ ts) ts' [] cs' ss ss' a b h k same mains = absurd h
same_tables (t ∷ ts) ts' (c ∷ cs) cs' [] ss' a b h k same mains = absurd h
same_tables [] [] [] [] [] (s' ∷ ss') a b h k same mains = absurd k
same_tables [] [] [] (c' ∷ cs') [] ss' a b h k same mains = absurd k
same_tables [] (t' ∷ ts') [] [] [] ss' a b h k same mains = absurd k
same_tables [] (t' ∷ ts') [] (c' ∷ cs') [] [] a b h k same mains = absurd k
same_tables [] (t' ∷ ts') [] (c' ∷ cs') [] (s' ∷ ss') a b h k same mains = cc
same_tables (t ∷ ts) [] (c ∷ cs) [] (s ∷ ss) [] a b h k same mains = cc
same_tables (t ∷ ts) [] (c ∷ cs) [] (s ∷ ss) (s' ∷ ss') a b h k same mains = absurd k
same_tables (t ∷ ts) [] (c ∷ cs) (c' ∷ cs') (s ∷ ss) ss' a b h k same mains = absurd k
same_tables (t ∷ ts) (t' ∷ ts') (c ∷ cs) [] (s ∷ ss) ss' a b h k same mains = absurd k
same_tables (t ∷ ts) (t' ∷ ts') (c ∷ cs) (c' ∷ cs') (s ∷ ss) [] a b h k same mains = absurd k
same_tables (t ∷ ts) (t' ∷ ts') (c ∷ cs) (c' ∷ cs') (s ∷ ss) (s' ∷ ss') a b h k same mains =
    let here : drawn t c s ≡ drawn t' c' s' = cc in
    let others : drawn_all ts cs ss ≡ drawn_all ts' cs' ss' = cc in
    let main : main_of (length t.columns) s.parts ≡ main_of (length t'.columns) s'.parts = cc in
    let more : mains_of ts ss ≡ mains_of ts' ss' = cc in
    let one = same_table t t' c c' s s' a.0 b.0 h.0 k.0 here (ap (λ (m : MainValue). m.parts) main) in
    let rest = same_tables ts ts' cs cs' ss ss' a.1 b.1 h.1 k.1 others more in
    ((λ i. one.0 i ∷ rest.0 i), (λ i. one.1 i ∷ rest.1 i))

-- ---- directories

pub one_directory : (reached reached' : List ℕ) (root : Root) (d d' : Directory) (bytes file : List ℕ) → InKeys reached root d bytes file → InKeys reached' root d' bytes file → d ≡ d'
one_directory reached reached' root d d' bytes file x y =
    let tables : x.tables ≡ y.tables = one_drawn root bytes x.tables y.tables x.stands.drawn y.stands.drawn in
    let there = subst (λ (ts : List Drawn). AllZip (StandsMain reached' file) ts y.mains) (sym tables) y.stands.parts in
    let mains : x.mains ≡ y.mains = one_mains x.tables x.mains y.mains reached reached' file x.stands.parts there in
    let same = same_tables d.tables d'.tables x.chains y.chains d.stages d'.stages x.rules.stages y.rules.stages x.hold y.hold (x.drawn ∙ tables ∙ sym y.drawn) (x.parts ∙ mains ∙ sym y.parts) in
    λ i. record { tables = same.0 i; stages = same.1 i }
