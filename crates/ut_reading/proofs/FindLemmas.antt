-- What a reading has found so far, and what is left of every image.
use Rattle.std.proofs.Common.{◌≡◌, ⊎_elim, ℕ, zero, suc, ◌+◌, ◌<◌, ◌≤◌, Bool, true, false, cond, List, [], ◌∷◌, ◌++◌, length, map, drop, get_or, Err, refl, sym, ◌∙◌, ap, subst, arith, append_assoc, length-append}
use Rattle.std.specs.Prelude.{Contains}
use Rattle.std.specs.List.{AllByRecursion, AllZip, items_where_true}
use Rattle.std.proofs.lemmas.List.Sums.{sum_by-cons, sum_by-append}
use Rattle.std.specs.Result.{IsErrOf}
use Rattle.std.proofs.lemmas.List.{append-nil}
use Rattle.std.proofs.lemmas.List.Elements.{Contains-append_left, Contains-append_right, Contains-append_cases}
use Rattle.ut_outside.specs.Disk.{Image, View, IsTold}
use Rattle.ut_outside.specs.Run.{ReadsOnly}
use Rattle.ut_value.specs.declared.value.Column.{Column}
use Rattle.ut_l2.specs.KeyRows.{KeyRow, no_row}
use Rattle.ut_main.specs.Parts.{PartValue, MainValue}
use Rattle.ut_main.specs.Spelling.{MayStand, part_bytes}
use Rattle.ut_main.proofs.MainLemmas.{dicts-low}
use Rattle.ut_main.proofs.StandLemmas.{part-one}
use Rattle.ut_image.specs.declared.drawn.PartRef.{PartRef}
use Rattle.ut_image.specs.declared.drawn.Drawn.{Drawn}
use Rattle.ut_pages.specs.Layout.{IsChain, HasChain}
use Rattle.ut_pages.proofs.OneLemmas.{one_chain}
use Rattle.ut_pages.proofs.MadeLemmas.{chain_there}
use Rattle.ut_durable.specs.Bytes.{Chain, pages_for}
use Rattle.ut_durable.specs.Images.{IsWithin}
use Rattle.ut_reading.specs.declared.parts.Reader.{Reader}
use Rattle.ut_reading.specs.Standing.{part_pages, all_part_pages, IsReached, IsAnywhere, PartFits, PartsFit, MainFits, part_of, with_part, no_parts, StandsPart, StandParts, StandsMain, live_in, live_in_parts, live_in_mains, ReachMore}
use Rattle.ut_reading.specs.Found.{MayRead, Reaches, FoundPart, FoundMain}
use Rattle.ut_reading.proofs.OneLemmas.{one_part, one_main}

-- ---- pages

-- a chain of bytes takes as many as are needed for them
pub chain_long : (pages : List ℕ) (first : ℕ) (bytes file : List ℕ) → IsChain pages first bytes file → length pages ≡ pages_for (length bytes)
chain_long [] first bytes file is = sym (ap (λ (l : List ℕ). pages_for (length l)) is.1)
chain_long (n ∷ pages) first bytes file (at, next, payload, rest, split, some, long, here, behind) =
    let more = chain_long pages next rest file behind in
    let whole : length bytes ≡ length payload + length rest = ap (λ (l : List ℕ). length l) split ∙ length-append payload rest in
    omega (arith, more, whole, some, long)

-- ---- a part

module _ (columns : List Column) (main : MainValue) (ref : PartRef) (rows : List KeyRow) (reached file : List ℕ) (x : StandsPart columns main ref rows reached file) where
  -- the bytes that are read are the part's
  pub read_bytes : (pages bytes : List ℕ) → HasChain pages ref.first bytes file → length bytes ≡ ref.length → bytes ≡ part_bytes (part_of main rows)
  read_bytes pages bytes has long =
      let there : IsChain x.chain.pages ref.first x.chain.bytes file = subst (λ (k : ℕ). IsChain x.chain.pages k x.chain.bytes file) x.first x.stands.0.chain in
      (one_chain pages x.chain.pages ref.first bytes x.chain.bytes file has.chain there (long ∙ sym x.long)).1 ∙ x.bytes

  pub read_rows : (pages bytes : List ℕ) (read : PartValue) → length columns ≡ main.width → HasChain pages ref.first bytes file → length bytes ≡ ref.length → MayStand columns main read → bytes ≡ part_bytes read → read.rows ≡ rows
  read_rows pages bytes read wide has long may spelled =
      ap (λ (p : PartValue). p.rows) (part-one columns main read (part_of main rows) wide (dicts-low main) may x.may (sym spelled ∙ read_bytes pages bytes has long))

-- ---- reached pages

pub reaches_none : (r : Reader) (v : View) → Reaches r r v
reaches_none r v = record { slot = refl; more = λ told. record { keeps = λ k has. has; there = λ there. there } }

pub reaches_more : (a b c : Reader) (v : View) → Reaches a b v → Reaches b c v → Reaches a c v
reaches_more a b c v x y = record {
  slot = y.slot ∙ x.slot;
  more = λ told. let m = x.more told in let n = y.more told in record { keeps = λ k has. n.keeps k (m.keeps k has); there = λ there. n.there (m.there there) };
}

pub reach_chain : (old pages : List ℕ) (first : ℕ) (bytes file : List ℕ) → HasChain pages first bytes file → ReachMore file old (old ++ pages)
reach_chain old pages first bytes file has = record {
  keeps = λ k is. Contains-append_left old pages k is;
  there = λ there k is. ⊎_elim (there k) (chain_there pages first bytes file has.chain k) (Contains-append_cases old pages k is);
}

within_more : (chain : Chain) (r r' : List ℕ) → ((k : ℕ) → Contains r k → Contains r' k) → IsWithin r chain → IsWithin r' chain
within_more chain r r' keeps within k is = keeps k (within k is)

part_more : (columns : List Column) (main : MainValue) (ref : PartRef) (rows : List KeyRow) (r r' file : List ℕ) → ((k : ℕ) → Contains r k → Contains r' k) → StandsPart columns main ref rows r file → StandsPart columns main ref rows r' file
part_more columns main ref rows r r' file keeps x = record { chain = x.chain; stands = (x.stands.0, within_more x.chain r r' keeps x.stands.1); first = x.first; long = x.long; bytes = x.bytes; may = x.may; count = x.count }

parts_more : (columns : List Column) (main : MainValue) (refs : List PartRef) (parts : List (List KeyRow)) (r r' file : List ℕ) → ((k : ℕ) → Contains r k → Contains r' k) → StandParts columns main refs parts r file → StandParts columns main refs parts r' file
parts_more columns main [] [] r r' file keeps x = x
parts_more columns main [] (rows ∷ parts) r r' file keeps x = absurd x
parts_more columns main (ref ∷ refs) [] r r' file keeps x = absurd x
parts_more columns main (ref ∷ refs) (rows ∷ parts) r r' file keeps x = (part_more columns main ref rows r r' file keeps x.0, parts_more columns (with_part main rows) refs parts r r' file keeps x.1)

main_more : (t : Drawn) (main : MainValue) (r r' file : List ℕ) → ((k : ℕ) → Contains r k → Contains r' k) → StandsMain r file t main → StandsMain r' file t main
main_more t main r r' file keeps x = record { width = x.width; parts = parts_more t.table.columns (no_parts (length t.table.columns)) t.parts main.parts r r' file keeps x.parts }

mains_more : (ts : List Drawn) (mains : List MainValue) (r r' file : List ℕ) → ((k : ℕ) → Contains r k → Contains r' k) → AllZip (StandsMain r file) ts mains → AllZip (StandsMain r' file) ts mains
mains_more [] [] r r' file keeps x = x
mains_more [] (m ∷ mains) r r' file keeps x = absurd x
mains_more (t ∷ ts) [] r r' file keeps x = absurd x
mains_more (t ∷ ts) (m ∷ mains) r r' file keeps x = (main_more t m r r' file keeps x.0, mains_more ts mains r r' file keeps x.1)

-- ---- one more part

stand_push : (Stands : Chain → Type 0) (columns : List Column) (main : MainValue) (refs : List PartRef) (parts : List (List KeyRow)) (ref : PartRef) (rows : List KeyRow) → PartsFit Stands columns main refs parts
    → PartFits Stands columns (record { width = main.width; parts = main.parts ++ parts }) ref rows → PartsFit Stands columns main (refs ++ ref ∷ []) (parts ++ rows ∷ [])
stand_push Stands columns main [] [] ref rows x y = (subst (λ (l : List (List KeyRow)). PartFits Stands columns (record { width = main.width; parts = l }) ref rows) (append-nil main.parts) y, tt)
stand_push Stands columns main [] (p ∷ parts) ref rows x y = absurd x
stand_push Stands columns main (q ∷ refs) [] ref rows x y = absurd x
stand_push Stands columns main (q ∷ refs) (p ∷ parts) ref rows x y =
    (x.0, stand_push Stands columns (with_part main p) refs parts ref rows x.1 (subst (λ (l : List (List KeyRow)). PartFits Stands columns (record { width = main.width; parts = l }) ref rows) (sym (append_assoc main.parts (p ∷ []) parts)) y))

parts_long : (columns : List Column) (main : MainValue) (refs : List PartRef) (parts : List (List KeyRow)) (r file : List ℕ) → StandParts columns main refs parts r file → length refs ≡ length parts
parts_long columns main [] [] r file x = refl
parts_long columns main [] (p ∷ parts) r file x = absurd x
parts_long columns main (q ∷ refs) [] r file x = absurd x
parts_long columns main (q ∷ refs) (p ∷ parts) r file x = ap suc (parts_long columns (with_part main p) refs parts r file x.1)

live_push : (refs : List PartRef) (parts : List (List KeyRow)) (ref : PartRef) (rows : List KeyRow) → length refs ≡ length parts → live_in_parts (refs ++ ref ∷ []) (parts ++ rows ∷ []) ≡ live_in_parts refs parts ++ live_in ref rows
live_push [] [] ref rows long = append-nil (live_in ref rows)
live_push [] (p ∷ parts) ref rows long = absurd (omega (arith, long))
live_push (q ∷ refs) [] ref rows long = absurd (omega (arith, long))
live_push (q ∷ refs) (p ∷ parts) ref rows long =
    ap (λ (l : List ℕ). live_in q p ++ l) (live_push refs parts ref rows (omega (arith, long))) ∙ sym (append_assoc (live_in q p) (live_in_parts refs parts) (live_in ref rows))

-- ---- the parts of a table so far

-- an error is one of whatever else might be returned
pub same_error : {A B E : Type 0} (e f : E) → IsErrOf {T = A} (Err e) f → IsErrOf {T = B} (Err e) f
same_error e f is = let same : e ≡ f = cc in ap Err same

pub record MainSoFar (t : Drawn) (left : List PartRef) (main : MainValue) (old new : Reader) (v0 v1 : View) : Type 0 where
  pub reads : ReadsOnly v0 v1
  pub still : v1.faults ≡ v0.faults
  pub reaches : Reaches old new v0
  pub done : List PartRef
  pub split : t.parts ≡ done ++ left
  pub same_long : length done ≡ length main.parts
  pub width : main.width ≡ length t.table.columns
  pub few : length main.parts + length left ≤ 8
  pub marks : AllByRecursion (λ (ref : PartRef). length ref.live ≡ ref.rows) left
  pub live : new.live.items ≡ old.live.items ++ live_in_parts done main.parts
  pub stand : IsTold v0 → StandParts t.table.columns (no_parts (length t.table.columns)) done main.parts new.pages.reached v0.seen.pages
  pub fits : PartsFit IsAnywhere t.table.columns (no_parts (length t.table.columns)) done main.parts
  pub count : IsTold v0 → length new.pages.reached ≡ length old.pages.reached + part_pages done
  -- each image has what was read, and more for what is left
  pub on : IsTold v0 → (parts : List (List KeyRow)) (reached : List ℕ) → StandParts t.table.columns (no_parts (length t.table.columns)) t.parts parts reached v0.seen.pages
      → (rest : List (List KeyRow)) × (parts ≡ main.parts ++ rest) × StandParts t.table.columns main left rest reached v0.seen.pages

pub main_start : (t : Drawn) (main : MainValue) (r : Reader) (v0 v1 : View) → MayRead t → main ≡ no_parts (length t.table.columns) → ReadsOnly v0 v1 → v1.faults ≡ v0.faults → MainSoFar t t.parts main r r v0 v1
main_start t main r v0 v1 may is reads still = subst (λ (m : MainValue). MainSoFar t t.parts m r r v0 v1) (sym is)
    (record {
      reads = reads;
      still = still;
      reaches = reaches_none r v0;
      done = [];
      split = refl;
      same_long = refl;
      width = refl;
      few = let few = may.parts in omega (arith, few);
      marks = may.marks;
      live = sym (append-nil r.live.items);
      stand = λ told. tt;
      fits = tt;
      count = λ told. omega arith;
      on = λ told parts reached stand. (parts, refl, stand);
    })

module _ (t : Drawn) (part : PartRef) (others : List PartRef) (main : MainValue) (old new : Reader) (v0 v1 : View) (so : MainSoFar t (part ∷ others) main old new v0 v1) where
  next_part : IsTold v0 → (parts : List (List KeyRow)) (reached : List ℕ) → StandParts t.table.columns (no_parts (length t.table.columns)) t.parts parts reached v0.seen.pages
      → (rows : List KeyRow) × (rest : List (List KeyRow)) × (parts ≡ main.parts ++ rows ∷ rest) × StandsPart t.table.columns main part rows reached v0.seen.pages × StandParts t.table.columns (with_part main rows) others rest reached v0.seen.pages
  next_part told parts reached stand = let o = so.on told parts reached stand in by o.0 o.1 o.2
    where
      by : (rest : List (List KeyRow)) → parts ≡ main.parts ++ rest → StandParts t.table.columns main (part ∷ others) rest reached v0.seen.pages
          → (rows : List KeyRow) × (rest : List (List KeyRow)) × (parts ≡ main.parts ++ rows ∷ rest) × StandsPart t.table.columns main part rows reached v0.seen.pages × StandParts t.table.columns (with_part main rows) others rest reached v0.seen.pages
      by [] is x = absurd x
      by (rows ∷ rest) is x = (rows, rest, is, x.0, x.1)

  -- no image is there where the next part isn't
  pub main_fails : ((rows : List KeyRow) (reached : List ℕ) → StandsPart t.table.columns main part rows reached v1.seen.pages → ⊥) → IsTold v0 → (all : MainValue) (reached : List ℕ) → StandsMain reached v0.seen.pages t all → ⊥
  main_fails none told all reached stands =
      let n = next_part told all.parts reached stands.parts in
      none n.0 reached (subst (λ (i : Image). StandsPart t.table.columns main part n.0 reached i.pages) (sym so.reads.seen) n.3)

  pub main_goes_on : (read : PartValue) (main' : MainValue) (new' : Reader) (v2 : View) → FoundPart t.table.columns main part read new new' v1 → main' ≡ with_part main read.rows → ReadsOnly v0 v2 → v2.faults ≡ v0.faults → MainSoFar t others main' old new' v0 v2
  main_goes_on read main' new' v2 found is reads still = subst (λ (m : MainValue). MainSoFar t others m old new' v0 v2) (sym is) more
    where
      told_now : IsTold v0 → IsTold v1
      told_now told = so.reads.told ∙ told

      reaches : Reaches new new' v0
      reaches = record { slot = found.reaches.slot; more = λ told. subst (λ (i : Image). ReachMore i.pages new.pages.reached new'.pages.reached) so.reads.seen (found.reaches.more (told_now told)) }

      stands : IsTold v0 → StandsPart t.table.columns main part read.rows new'.pages.reached v0.seen.pages
      stands told = subst (λ (i : Image). StandsPart t.table.columns main part read.rows new'.pages.reached i.pages) so.reads.seen (found.stands (told_now told))

      more : MainSoFar t others (with_part main read.rows) old new' v0 v2
      more = record {
        reads = reads;
        still = still;
        reaches = reaches_more old new new' v0 so.reaches reaches;
        done = so.done ++ part ∷ [];
        split = so.split ∙ sym (append_assoc so.done (part ∷ []) others);
        same_long = omega (arith, so.same_long, length-append so.done (part ∷ []), length-append main.parts (read.rows ∷ []));
        width = so.width;
        few = let few = so.few in omega (arith, few, length-append main.parts (read.rows ∷ []));
        marks = so.marks.1;
        live = found.live ∙ ap (λ (l : List ℕ). l ++ live_in part read.rows) so.live ∙ append_assoc old.live.items (live_in_parts so.done main.parts) (live_in part read.rows)
            ∙ ap (λ (l : List ℕ). old.live.items ++ l) (sym (live_push so.done main.parts part read.rows so.same_long));
        stand = λ told.
            let width : main ≡ record { width = length t.table.columns; parts = main.parts } = ap (λ (n : ℕ). record { width = n; parts = main.parts }) so.width in
            stand_push (IsReached new'.pages.reached v0.seen.pages) t.table.columns (no_parts (length t.table.columns)) so.done main.parts part read.rows
            (parts_more t.table.columns (no_parts (length t.table.columns)) so.done main.parts new.pages.reached new'.pages.reached v0.seen.pages (reaches.more told).keeps (so.stand told))
            (subst (λ (m : MainValue). StandsPart t.table.columns m part read.rows new'.pages.reached v0.seen.pages) width (stands told));
        fits =
            let width : main ≡ record { width = length t.table.columns; parts = main.parts } = ap (λ (n : ℕ). record { width = n; parts = main.parts }) so.width in
            stand_push IsAnywhere t.table.columns (no_parts (length t.table.columns)) so.done main.parts part read.rows so.fits
            (subst (λ (m : MainValue). PartFits IsAnywhere t.table.columns m part read.rows) width found.fits);
        count = λ told.
            let before = so.count told in
            let now = found.count (told_now told) in
            omega (arith, before, now, sum_by-append (λ (r : PartRef). pages_for r.length) so.done (part ∷ []), sum_by-cons (λ (r : PartRef). pages_for r.length) part []);
        on = λ told parts reached stand.
            let n = next_part told parts reached stand in
            let same : n.0 ≡ read.rows = one_part t.table.columns main part n.0 read.rows reached new'.pages.reached v0.seen.pages (sym so.width) n.3 (stands told) in (
              n.1,
              n.2 ∙ ap (λ (r : List KeyRow). main.parts ++ r ∷ n.1) same ∙ sym (append_assoc main.parts (read.rows ∷ []) n.1),
              subst (λ (r : List KeyRow). StandParts t.table.columns (with_part main r) others n.1 reached v0.seen.pages) same n.4,
            );
      }

-- ---- the parts of all tables so far

zip_push : (Stands : Chain → Type 0) (ts : List Drawn) (ms : List MainValue) (t : Drawn) (m : MainValue) → AllZip (MainFits Stands) ts ms → MainFits Stands t m → AllZip (MainFits Stands) (ts ++ t ∷ []) (ms ++ m ∷ [])
zip_push Stands [] [] t m x y = (y, tt)
zip_push Stands [] (n ∷ ms) t m x y = absurd x
zip_push Stands (u ∷ ts) [] t m x y = absurd x
zip_push Stands (u ∷ ts) (n ∷ ms) t m x y = (x.0, zip_push Stands ts ms t m x.1 y)

lives_push : (ts : List Drawn) (ms : List MainValue) (t : Drawn) (m : MainValue) → length ts ≡ length ms → live_in_mains (ts ++ t ∷ []) (ms ++ m ∷ []) ≡ live_in_mains ts ms ++ live_in_parts t.parts m.parts
lives_push [] [] t m long = append-nil (live_in_parts t.parts m.parts)
lives_push [] (n ∷ ms) t m long = absurd (omega (arith, long))
lives_push (u ∷ ts) [] t m long = absurd (omega (arith, long))
lives_push (u ∷ ts) (n ∷ ms) t m long =
    ap (λ (l : List ℕ). live_in_parts u.parts n.parts ++ l) (lives_push ts ms t m (omega (arith, long))) ∙ sym (append_assoc (live_in_parts u.parts n.parts) (live_in_mains ts ms) (live_in_parts t.parts m.parts))

pub record MainsSoFar (tables left : List Drawn) (mains : List MainValue) (old new : Reader) (v0 v1 : View) : Type 0 where
  pub reads : ReadsOnly v0 v1
  pub still : v1.faults ≡ v0.faults
  pub reaches : Reaches old new v0
  pub done : List Drawn
  pub split : tables ≡ done ++ left
  pub same_long : length done ≡ length mains
  pub may : AllByRecursion MayRead left
  pub live : new.live.items ≡ old.live.items ++ live_in_mains done mains
  pub stand : IsTold v0 → AllZip (StandsMain new.pages.reached v0.seen.pages) done mains
  pub fits : AllZip (MainFits IsAnywhere) done mains
  pub count : IsTold v0 → length new.pages.reached ≡ length old.pages.reached + all_part_pages done
  -- each image has what was read, and more for what is left
  pub on : IsTold v0 → (all : List MainValue) (reached : List ℕ) → AllZip (StandsMain reached v0.seen.pages) tables all
      → (rest : List MainValue) × (all ≡ mains ++ rest) × AllZip (StandsMain reached v0.seen.pages) left rest

pub mains_start : (tables : List Drawn) (mains : List MainValue) (r : Reader) (v0 v1 : View) → AllByRecursion MayRead tables → mains ≡ [] → ReadsOnly v0 v1 → v1.faults ≡ v0.faults → MainsSoFar tables tables mains r r v0 v1
mains_start tables mains r v0 v1 may is reads still = subst (λ (ms : List MainValue). MainsSoFar tables tables ms r r v0 v1) (sym is)
    (record {
      reads = reads;
      still = still;
      reaches = reaches_none r v0;
      done = [];
      split = refl;
      same_long = refl;
      may = may;
      live = sym (append-nil r.live.items);
      stand = λ told. tt;
      fits = tt;
      count = λ told. omega arith;
      on = λ told all reached stand. (all, refl, stand);
    })

module _ (tables : List Drawn) (t : Drawn) (others : List Drawn) (mains : List MainValue) (old new : Reader) (v0 v1 : View) (so : MainsSoFar tables (t ∷ others) mains old new v0 v1) where
  next_main : IsTold v0 → (all : List MainValue) (reached : List ℕ) → AllZip (StandsMain reached v0.seen.pages) tables all
      → (main : MainValue) × (rest : List MainValue) × (all ≡ mains ++ main ∷ rest) × StandsMain reached v0.seen.pages t main × AllZip (StandsMain reached v0.seen.pages) others rest
  next_main told all reached stand = let o = so.on told all reached stand in by o.0 o.1 o.2
    where
      by : (rest : List MainValue) → all ≡ mains ++ rest → AllZip (StandsMain reached v0.seen.pages) (t ∷ others) rest
          → (main : MainValue) × (rest : List MainValue) × (all ≡ mains ++ main ∷ rest) × StandsMain reached v0.seen.pages t main × AllZip (StandsMain reached v0.seen.pages) others rest
      by [] is x = absurd x
      by (main ∷ rest) is x = (main, rest, is, x.0, x.1)

  pub mains_go_on : (main : MainValue) (mains' : List MainValue) (new' : Reader) (v2 : View) → FoundMain t main new new' v1 → mains' ≡ mains ++ main ∷ [] → ReadsOnly v0 v2 → v2.faults ≡ v0.faults → MainsSoFar tables others mains' old new' v0 v2
  mains_go_on main mains' new' v2 found is reads still = subst (λ (ms : List MainValue). MainsSoFar tables others ms old new' v0 v2) (sym is) more
    where
      told_now : IsTold v0 → IsTold v1
      told_now told = so.reads.told ∙ told

      reaches : Reaches new new' v0
      reaches = record { slot = found.reaches.slot; more = λ told. subst (λ (i : Image). ReachMore i.pages new.pages.reached new'.pages.reached) so.reads.seen (found.reaches.more (told_now told)) }

      stands : IsTold v0 → StandsMain new'.pages.reached v0.seen.pages t main
      stands told = subst (λ (i : Image). StandsMain new'.pages.reached i.pages t main) so.reads.seen (found.stands (told_now told))

      more : MainsSoFar tables others (mains ++ main ∷ []) old new' v0 v2
      more = record {
        reads = reads;
        still = still;
        reaches = reaches_more old new new' v0 so.reaches reaches;
        done = so.done ++ t ∷ [];
        split = so.split ∙ sym (append_assoc so.done (t ∷ []) others);
        same_long = omega (arith, so.same_long, length-append so.done (t ∷ []), length-append mains (main ∷ []));
        may = so.may.1;
        live = found.live ∙ ap (λ (l : List ℕ). l ++ live_in_parts t.parts main.parts) so.live ∙ append_assoc old.live.items (live_in_mains so.done mains) (live_in_parts t.parts main.parts)
            ∙ ap (λ (l : List ℕ). old.live.items ++ l) (sym (lives_push so.done mains t main so.same_long));
        stand = λ told. zip_push (IsReached new'.pages.reached v0.seen.pages) so.done mains t main (mains_more so.done mains new.pages.reached new'.pages.reached v0.seen.pages (reaches.more told).keeps (so.stand told)) (stands told);
        fits = zip_push IsAnywhere so.done mains t main so.fits found.fits;
        count = λ told.
            let before = so.count told in
            let now = found.count (told_now told) in
            omega (arith, before, now, sum_by-append (λ (d : Drawn). part_pages d.parts) so.done (t ∷ []), sum_by-cons (λ (d : Drawn). part_pages d.parts) t []);
        on = λ told all reached stand.
            let n = next_main told all reached stand in
            let same : n.0 ≡ main = one_main t n.0 main reached new'.pages.reached v0.seen.pages n.3 (stands told) in
            (n.1, n.2 ∙ ap (λ (m : MainValue). mains ++ m ∷ n.1) same ∙ sym (append_assoc mains (main ∷ []) n.1), n.4);
      }

-- ---- the ids of live rows

pub live_step : (marks : List Bool) (rows : List KeyRow) (i : ℕ) → i < length rows → length marks ≡ length rows
    → map (λ (r : KeyRow). r.id) (items_where_true (drop i marks) (drop i rows)) ≡ cond (get_or marks i false) ((get_or rows i no_row).id ∷ []) [] ++ map (λ (r : KeyRow). r.id) (items_where_true (drop (i + 1) marks) (drop (i + 1) rows))
live_step [] rows i lt long = absurd (omega (arith, lt, long))
live_step (mark ∷ marks) [] i lt long = absurd (omega (arith, lt))
live_step (true ∷ marks) (r ∷ rows) zero lt long = refl
live_step (false ∷ marks) (r ∷ rows) zero lt long = refl
live_step (mark ∷ marks) (r ∷ rows) (suc i) lt long =
    let next : suc i + 1 ≡ suc (i + 1) = omega arith in
    live_step marks rows i (omega (arith, lt)) (omega (arith, long)) ∙ ap (λ (n : ℕ). cond (get_or marks i false) ((get_or rows i no_row).id ∷ []) [] ++ map (λ (q : KeyRow). q.id) (items_where_true (drop n (mark ∷ marks)) (drop n (r ∷ rows)))) (sym next)

-- one row more, which is live or not
module _ (old live : List ℕ) (marks : List Bool) (rows : List KeyRow) (i : ℕ) (lt : i < length rows) (long : length marks ≡ length rows)
    (so : live ++ map (λ (r : KeyRow). r.id) (items_where_true (drop i marks) (drop i rows)) ≡ old) where
  pub live_taken : (id : ℕ) → get_or marks i false ≡ true → id ≡ (get_or rows i no_row).id → (live ++ id ∷ []) ++ map (λ (r : KeyRow). r.id) (items_where_true (drop (i + 1) marks) (drop (i + 1) rows)) ≡ old
  live_taken id mark is =
      let rest : List ℕ = map (λ (r : KeyRow). r.id) (items_where_true (drop (i + 1) marks) (drop (i + 1) rows)) in
      append_assoc live (id ∷ []) rest ∙ ap (λ (n : ℕ). live ++ n ∷ rest) is ∙ ap (λ (b : Bool). live ++ (cond b ((get_or rows i no_row).id ∷ []) [] ++ rest)) (sym mark)
      ∙ ap (λ (l : List ℕ). live ++ l) (sym (live_step marks rows i lt long)) ∙ so

  pub live_passed : get_or marks i false ≡ false → live ++ map (λ (r : KeyRow). r.id) (items_where_true (drop (i + 1) marks) (drop (i + 1) rows)) ≡ old
  live_passed mark =
      let rest : List ℕ = map (λ (r : KeyRow). r.id) (items_where_true (drop (i + 1) marks) (drop (i + 1) rows)) in
      ap (λ (b : Bool). live ++ (cond b ((get_or rows i no_row).id ∷ []) [] ++ rest)) (sym mark) ∙ ap (λ (l : List ℕ). live ++ l) (sym (live_step marks rows i lt long)) ∙ so

-- ---- one part that was read

pub found_part : (columns : List Column) (main : MainValue) (ref : PartRef) (read : PartValue) (bytes : List ℕ) (old new : Reader) (v : View) → new.pages.slot ≡ old.pages.slot → new.live.items ≡ old.live.items ++ live_in ref read.rows
    → (IsTold v → (pages : List ℕ) × (new.pages.reached ≡ old.pages.reached ++ pages) × HasChain pages ref.first bytes v.seen.pages) → length bytes ≡ ref.length → MayStand columns main read → bytes ≡ part_bytes read → length read.rows ≡ ref.rows
    → FoundPart columns main ref read old new v
found_part columns main ref read bytes old new v slot live chain long may spelled count =
    let is : read ≡ part_of main read.rows = ap (λ (b : List (List (List (List ℕ)))). record { before = b; rows = read.rows }) may.before in
    record {
      reaches = record { slot = slot; more = λ told. let c = chain told in subst (ReachMore v.seen.pages old.pages.reached) (sym c.1) (reach_chain old.pages.reached c.0 ref.first bytes v.seen.pages c.2) };
      stands = λ told.
          let c = chain told in
          record {
            chain = record { pages = c.0; first = ref.first; bytes = bytes };
            stands = (c.2, λ k has. subst (λ (l : List ℕ). Contains l k) (sym c.1) (Contains-append_right old.pages.reached c.0 k has));
            first = refl;
            long = long;
            bytes = spelled ∙ ap part_bytes is;
            may = subst (MayStand columns main) is may;
            count = count;
          };
      count = λ told.
          let c = chain told in
          let more = chain_long c.0 ref.first bytes v.seen.pages c.2.chain in
          let joined : length new.pages.reached ≡ length old.pages.reached + length c.0 = ap (λ (l : List ℕ). length l) c.1 ∙ length-append old.pages.reached c.0 in
          omega (arith, joined, more, long);
      fits = record {
        chain = record { pages = []; first = ref.first; bytes = bytes };
        stands = tt;
        first = refl;
        long = long;
        bytes = spelled ∙ ap part_bytes is;
        may = subst (MayStand columns main) is may;
        count = count;
      };
      behind = is;
      few = may.few;
      live = live;
    }
