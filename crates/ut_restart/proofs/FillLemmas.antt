-- The tables of an image, filled one after the other.
use Rattle.std.proofs.Common.{◌≡◌, ◌⊎◌, inl, inr, append-nil, ◌+◌, ◌≤◌, ◌^◌, Bool, true, false, not, List, [], ◌∷◌, ◌++◌, length, map, None, All, IsTrue, refl, sym, ◌∙◌, ap, subst, arith, length-append}
use Rattle.std.specs.List.{AllByRecursion, list_all}
use Rattle.std.proofs.lemmas.Bool.{and_parts}
use Rattle.std.proofs.lemmas.List.{length-map, map-append}
use Rattle.std.proofs.lemmas.List.Sums.{sum_by-cons}
use Rattle.std.proofs.lemmas.List.Elements.{All-nil, All-cons}
use Rattle.ut_value.specs.declared.value.Column.{Column}
use Rattle.ut_value.specs.declared.value.Row.{Row}
use Rattle.ut_value.specs.KeyBytes.{is_value}
use Rattle.ut_plain.specs.declared.table.Table.{Table}
use Rattle.ut_plain.specs.declared.stage.Placed.{Placed}
use Rattle.ut_plain.specs.declared.stage.TableStages.{TableStages}
use Rattle.ut_plain.specs.Tables.{fits_columns}
use Rattle.ut_plain.specs.Stages.{Stages}
use Rattle.ut_stamps.specs.declared.visibility.Stamp.{Stamp}
use Rattle.ut_exact.specs.Places.{StagedRow}
use Rattle.ut_staged.specs.Staged.{Staged, no_rows, count_of, begun_row, entered_l1, entered_l2}
use Rattle.ut_table.specs.Contents.{TableValue}
use Rattle.ut_table.specs.Kept.{IsRow}
use Rattle.ut_table.specs.Pending.{key_row}
use Rattle.ut_table.specs.Filled.{HoldsParts, row_of}
use Rattle.ut_main.specs.Parts.{MainValue}
use Rattle.ut_image.specs.declared.drawn.Drawn.{Drawn}
use Rattle.ut_durable.specs.Rules.{IsImageRow}
use Rattle.ut_durable.specs.Bytes.{row_in, key_rows, live_marks}
use Rattle.ut_restart.specs.Shown.{stamp_of, stamp_of_mark, staged_place, staged_of, staged_all, marks_of, delta_count, IsShown, AreShown}
use Rattle.ut_restart.specs.Standing.{shown, live_row}

-- ---- one table

not-not : (b : Bool) → not (not b) ≡ b
not-not true = refl
not-not false = refl

-- rows of a delta, which are all live
pub delta-rows : (ps : List Placed) → AllByRecursion (λ (p : Placed). p.dead ≡ false) ps → map (begun_row 0) (map row_in ps) ≡ map staged_place ps
delta-rows [] alive = refl
delta-rows (p ∷ ps) alive = λ i. record { id = p.id; values = p.values; stamp = stamp_of (sym alive.0 i) } ∷ delta-rows ps alive.1 i

pub delta-fit : (columns : List Column) (ps : List Placed) → AllByRecursion (IsImageRow columns) ps → AllByRecursion (λ (r : Row). IsTrue (fits_columns columns r.values)) (map row_in ps)
delta-fit columns [] are = tt
delta-fit columns (p ∷ ps) are = ((and_parts (fits_columns columns p.values) (list_all is_value p.values) are.0.values).0, delta-fit columns ps are.1)

pub all-fit : (columns : List Column) (rows : List Row) → AllByRecursion (λ (r : Row). IsTrue (fits_columns columns r.values)) rows → All (λ (r : Row). IsTrue (fits_columns columns r.values)) rows
all-fit columns [] fit = All-nil (λ (r : Row). IsTrue (fits_columns columns r.values))
all-fit columns (r ∷ rows) fit = All-cons (λ (r : Row). IsTrue (fits_columns columns r.values)) r rows fit.0 (all-fit columns rows fit.1)

part-stamps : (ps : List Placed) → map stamp_of_mark (live_marks ps) ≡ map (λ (row : StagedRow). row.stamp) (map staged_place ps)
part-stamps [] = refl
part-stamps (p ∷ ps) = λ i. stamp_of (not-not p.dead i) ∷ part-stamps ps i

parts-stamps : (parts : List (List Placed)) → map (map stamp_of_mark) (map live_marks parts) ≡ map (map (λ (row : StagedRow). row.stamp)) (map (map staged_place) parts)
parts-stamps [] = refl
parts-stamps (part ∷ parts) = λ i. part-stamps part i ∷ parts-stamps parts i

part-keys : (ps : List Placed) → key_rows ps ≡ map key_row (map staged_place ps)
part-keys [] = refl
part-keys (p ∷ ps) = λ i. key_row (staged_place p) ∷ part-keys ps i

parts-keys : (parts : List (List Placed)) → map key_rows parts ≡ map (map key_row) (map (map staged_place) parts)
parts-keys [] = refl
parts-keys (part ∷ parts) = λ i. part-keys part i ∷ parts-keys parts i

part-fit : (columns : List Column) (ps : List Placed) → AllByRecursion (IsImageRow columns) ps → AllByRecursion (λ (row : StagedRow). IsRow columns (row_of row)) (map staged_place ps)
part-fit columns [] are = tt
part-fit columns (p ∷ ps) are = let both = and_parts (fits_columns columns p.values) (list_all is_value p.values) are.0.values in (record { fits = both.0; kept = both.1 }, part-fit columns ps are.1)

parts-fit : (columns : List Column) (parts : List (List Placed)) → AllByRecursion (AllByRecursion (IsImageRow columns)) parts → AllByRecursion (AllByRecursion (λ (row : StagedRow). IsRow columns (row_of row))) (map (map staged_place) parts)
parts-fit columns [] are = tt
parts-fit columns (part ∷ parts) are = (part-fit columns part are.0, parts-fit columns parts are.1)

pub holds-parts : (t : Drawn) (main : MainValue) (s : TableStages) (stamps : List (List Stamp)) → IsShown t main s → stamps ≡ map (map stamp_of_mark) (marks_of t.parts) → HoldsParts t.table.columns main stamps (map (map staged_place) s.parts)
holds-parts t main s stamps is same = record {
  width = ap (λ (m : MainValue). m.width) is.keys;
  few = let few = is.rules.main.parts in omega (arith, few, length-map s.parts (map staged_place));
  keys = ap (λ (m : MainValue). m.parts) is.keys ∙ parts-keys s.parts;
  stamps_are = same ∙ ap (map (map stamp_of_mark)) is.marks ∙ parts-stamps s.parts;
  fit = parts-fit t.table.columns s.parts is.rules.parts;
}

module _ (t : Drawn) (main : MainValue) (s : TableStages) (is : IsShown t main s) where
  l2-fit : AllByRecursion (λ (r : Row). IsTrue (fits_columns t.table.columns r.values)) t.l2
  l2-fit = subst (AllByRecursion (λ (r : Row). IsTrue (fits_columns t.table.columns r.values))) (sym is.l2) (delta-fit t.table.columns s.l2 is.rules.l2.rows)

  l1-fit : AllByRecursion (λ (r : Row). IsTrue (fits_columns t.table.columns r.values)) t.l1
  l1-fit = subst (AllByRecursion (λ (r : Row). IsTrue (fits_columns t.table.columns r.values))) (sym is.l1) (delta-fit t.table.columns s.l1 is.rules.l1.rows)

  pub load-fit : All (λ (r : Row). IsTrue (fits_columns t.table.columns r.values)) t.l2
  load-fit = all-fit t.table.columns t.l2 l2-fit

  -- with the second delta's rows
  module _ (b : Staged) (loaded : b ≡ entered_l2 (map (begun_row 0) t.l2) (no_rows t.table.columns)) where
    pub main-empty : b.parts ≡ []
    main-empty = ap (λ (x : Staged). x.parts) loaded

    pub main-idle : b.merge ≡ None
    main-idle = ap (λ (x : Staged). x.merge) loaded

    pub main-holds : (stamps : List (List Stamp)) → stamps ≡ map (map stamp_of_mark) (marks_of t.parts) → HoldsParts b.columns main stamps (map (map staged_place) s.parts)
    main-holds stamps same = subst (λ (cs : List Column). HoldsParts cs main stamps (map (map staged_place) s.parts)) (sym (ap (λ (x : Staged). x.columns) loaded)) (holds-parts t main s stamps is same)

    pub main-is : (c : Staged) → c ≡ record b { parts = map (map staged_place) s.parts } → c ≡ record (staged_of t.table.columns s) { l1 = [] }
    main-is c with_main =
        let l2 : map (begun_row 0) t.l2 ≡ map staged_place s.l2 = ap (map (begun_row 0)) is.l2 ∙ delta-rows s.l2 is.rules.l2.live in
        with_main ∙ ap (λ (x : Staged). record x { parts = map (map staged_place) s.parts }) loaded
        ∙ (λ i. record { columns = t.table.columns; l1 = []; l2 = l2 i; closed = None; parts = map (map staged_place) s.parts; keep = []; merge = None })

  -- with main
  module _ (c : Staged) (held : c ≡ record (staged_of t.table.columns s) { l1 = [] }) where
    pub push-fit : AllByRecursion (λ (r : Row). IsTrue (fits_columns c.columns r.values)) t.l1
    push-fit = subst (λ (x : Staged). AllByRecursion (λ (r : Row). IsTrue (fits_columns x.columns r.values)) t.l1) (sym held) l1-fit

    pub push-room : length t.l2 + length t.l1 ≤ 2147483648 → count_of c + length t.l1 ≤ 2147483648
    push-room few = omega (arith, few, ap count_of held, length-map s.l2 staged_place, ap (λ (l : List Row). length l) is.l2, length-map s.l2 row_in)

    pub filled-is : (d : Staged) → d ≡ record c { l1 = c.l1 ++ map live_row t.l1 } → d ≡ staged_of t.table.columns s
    filled-is d pushed =
        let l1 : map live_row t.l1 ≡ map staged_place s.l1 = ap (map live_row) is.l1 ∙ delta-rows s.l1 is.rules.l1.live in
        pushed ∙ ap (λ (x : Staged). record x { l1 = x.l1 ++ map live_row t.l1 }) held
        ∙ (λ i. record { columns = t.table.columns; l1 = l1 i; l2 = map staged_place s.l2; closed = None; parts = map (map staged_place) s.parts; keep = []; merge = None })

-- rows that are pushed one after the other

pub pushed-more : (s : Staged) (rows : List Row) (row : Row) → entered_l1 (live_row row) (record s { l1 = s.l1 ++ map live_row rows }) ≡ record s { l1 = s.l1 ++ map live_row (rows ++ row ∷ []) }
pushed-more s rows row = ap (λ (l : List StagedRow). record s { l1 = l }) (append-behind s.l1 (map live_row rows) (live_row row ∷ []) ∙ ap (λ (l : List StagedRow). s.l1 ++ l) (sym (map-append live_row rows (row ∷ []))))
  where
    append-behind : (xs ys zs : List StagedRow) → (xs ++ ys) ++ zs ≡ xs ++ (ys ++ zs)
    append-behind [] ys zs = refl
    append-behind (x ∷ xs) ys zs = ap (λ l. x ∷ l) (append-behind xs ys zs)

pub pushed-count : (s : Staged) (rows : List Row) → count_of (record s { l1 = s.l1 ++ map live_row rows }) ≡ count_of s + length rows
pushed-count s rows = omega (arith, length-append s.l1 (map live_row rows), length-map rows live_row)

-- ---- one after the other

pub record Filling (tables : List Drawn) (mains : List MainValue) (heads : List Table) (filled : List TableValue) (ts : List Drawn) (ms : List MainValue) : Type 0 where
  pub heads_are : map (λ (t : Drawn). t.table) tables ≡ heads ++ map (λ (t : Drawn). t.table) ts
  pub rest : (ss : Stages) → AreShown tables mains ss → (more : Stages) × AreShown ts ms more × (staged_all tables ss ≡ shown filled ++ staged_all ts more)
  pub few : delta_count ts ≤ 2 ^ 31

pub filling-first : (tables : List Drawn) (mains : List MainValue) → delta_count tables ≤ 2 ^ 31 → Filling tables mains [] [] tables mains
filling-first tables mains few = record { heads_are = refl; rest = λ ss all. (ss, all, refl); few = few }

append-one : {X : Type 0} (xs : List X) (x : X) (ys : List X) → xs ++ x ∷ ys ≡ (xs ++ x ∷ []) ++ ys
append-one [] x ys = refl
append-one (z ∷ xs) x ys = ap (λ l. z ∷ l) (append-one xs x ys)

pub filling-then : (tables : List Drawn) (mains : List MainValue) (heads : List Table) (filled : List TableValue) (t : Drawn) (m : MainValue) (ts : List Drawn) (ms : List MainValue) (head : Table) (new : TableValue) → Filling tables mains heads filled (t ∷ ts) (m ∷ ms)
    → head ≡ t.table → ((s : TableStages) → IsShown t m s → new.stages ≡ staged_of t.table.columns s) → Filling tables mains (heads ++ head ∷ []) (filled ++ new ∷ []) ts ms
filling-then tables mains heads filled t m ts ms head new f head_is new_is = record {
  heads_are = f.heads_are ∙ append-one heads t.table (map (λ (t : Drawn). t.table) ts) ∙ ap (λ (h : Table). (heads ++ h ∷ []) ++ map (λ (t : Drawn). t.table) ts) (sym head_is);
  rest = λ ss all. let r = f.rest ss all in by r.0 r.1 r.2;
  few = omega (arith, f.few, sum_by-cons (λ (t : Drawn). length t.l2 + length t.l1) t ts);
}
  where
    by : {all : List Staged} (more : Stages) → AreShown (t ∷ ts) (m ∷ ms) more → all ≡ shown filled ++ staged_all (t ∷ ts) more → (rest : Stages) × AreShown ts ms rest × (all ≡ shown (filled ++ new ∷ []) ++ staged_all ts rest)
    by [] shows is = absurd shows
    by (s ∷ ss) shows is = (
      ss,
      shows.1,
      is ∙ append-one (shown filled) (staged_of t.table.columns s) (staged_all ts ss)
          ∙ ap (λ (x : Staged). (shown filled ++ x ∷ []) ++ staged_all ts ss) (sym (new_is s shows.0))
          ∙ ap (λ (l : List Staged). l ++ staged_all ts ss) (sym (map-append (λ (v : TableValue). v.stages) filled (new ∷ []))),
    )

pub filling-some : (tables : List Drawn) (mains : List MainValue) (heads : List Table) (filled : List TableValue) (t : Drawn) (m : MainValue) (ts : List Drawn) (ms : List MainValue) (ss : Stages) → AreShown tables mains ss → Filling tables mains heads filled (t ∷ ts) (m ∷ ms) → (s : TableStages) × IsShown t m s
filling-some tables mains heads filled t m ts ms ss all f = by (f.rest ss all).0 (f.rest ss all).1
  where
    by : (more : Stages) → AreShown (t ∷ ts) (m ∷ ms) more → (s : TableStages) × IsShown t m s
    by [] shows = absurd shows
    by (s ∷ ss) shows = (s, shows.0)

pub filling-room : (tables : List Drawn) (mains : List MainValue) (heads : List Table) (filled : List TableValue) (t : Drawn) (m : MainValue) (ts : List Drawn) (ms : List MainValue) → Filling tables mains heads filled (t ∷ ts) (m ∷ ms) → length t.l2 + length t.l1 ≤ 2147483648
filling-room tables mains heads filled t m ts ms f = omega (arith, f.few, sum_by-cons (λ (t : Drawn). length t.l2 + length t.l1) t ts)

-- ---- its ends

pub filling-start : (tables : List Drawn) (mains : List MainValue) (heads : List Table) (filled : List TableValue) (ts : List Drawn) (ms : List MainValue) → heads ≡ [] → filled ≡ [] → ts ≡ tables → ms ≡ mains → delta_count tables ≤ 2 ^ 31 → Filling tables mains heads filled ts ms
filling-start tables mains heads filled ts ms no_heads none same mains_same few =
    subst (λ (h : List Table). Filling tables mains h filled ts ms) (sym no_heads)
    (subst (λ (f : List TableValue). Filling tables mains [] f ts ms) (sym none)
    (subst (λ (x : List Drawn). Filling tables mains [] [] x ms) (sym same)
    (subst (λ (y : List MainValue). Filling tables mains [] [] tables y) (sym mains_same) (filling-first tables mains few))))

pub filling-next : (tables : List Drawn) (mains : List MainValue) (heads : List Table) (filled : List TableValue) (ts more : List Drawn) (ms others : List MainValue) → Filling tables mains heads filled ts ms → ts ≡ more → ms ≡ others → Filling tables mains heads filled more others
filling-next tables mains heads filled ts more ms others f same mains_same =
    subst (λ (x : List Drawn). Filling tables mains heads filled x others) same (subst (λ (y : List MainValue). Filling tables mains heads filled ts y) mains_same f)

pub filling-more : (tables : List Drawn) (mains : List MainValue) (heads pushed : List Table) (filled grown : List TableValue) (ts : List Drawn) (ms : List MainValue) → Filling tables mains heads filled ts ms → pushed ≡ heads → grown ≡ filled → Filling tables mains pushed grown ts ms
filling-more tables mains heads pushed filled grown ts ms f same filled_same =
    subst (λ (h : List Table). Filling tables mains h grown ts ms) (sym same) (subst (λ (g : List TableValue). Filling tables mains heads g ts ms) (sym filled_same) f)

none-left : (ts : List Drawn) (ms : List MainValue) (ss : Stages) → AreShown ts ms ss → (length ts ≡ 0) ⊎ (length ms ≡ 0) → ts ≡ []
none-left [] ms ss all none = refl
none-left (t ∷ ts) [] ss all none = absurd all
none-left (t ∷ ts) (m ∷ ms) ss all (inl none) = absurd (omega (arith, none))
none-left (t ∷ ts) (m ∷ ms) ss all (inr none) = absurd (omega (arith, none))

module _ (tables : List Drawn) (mains : List MainValue) (heads : List Table) (filled : List TableValue) (ts : List Drawn) (ms : List MainValue) (f : Filling tables mains heads filled ts ms) (none : (length ts ≡ 0) ⊎ (length ms ≡ 0)) where
  pub heads-end : (ss : Stages) → AreShown tables mains ss → heads ≡ map (λ (t : Drawn). t.table) tables
  heads-end ss all =
      let r = f.rest ss all in
      let gone = none-left ts ms r.0 r.1 none in
      sym (f.heads_are ∙ ap (λ (l : List Drawn). heads ++ map (λ (t : Drawn). t.table) l) gone ∙ append-nil heads)

  pub filled-end : (ss : Stages) → AreShown tables mains ss → shown filled ≡ staged_all tables ss
  filled-end ss all =
      let r = f.rest ss all in
      let gone = none-left ts ms r.0 r.1 none in
      sym (r.2 ∙ ap (λ (l : List Drawn). shown filled ++ staged_all l r.0) gone ∙ append-nil (shown filled))
