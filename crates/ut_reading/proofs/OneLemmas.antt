-- A page file has one image at most, in keys.
use Rattle.std.proofs.Common.{◌≡◌, inl, inr, ℕ, List, [], ◌∷◌, length, refl, sym, ◌∙◌, ap, subst, arith, length-append}
use Rattle.std.specs.Int.{w32, to_le_bytes}
use Rattle.std.specs.List.{flat_map, AllZip}
use Rattle.ut_value.specs.declared.value.Column.{Column}
use Rattle.ut_l2.specs.KeyRows.{KeyRow}
use Rattle.ut_main.specs.Parts.{PartValue, MainValue}
use Rattle.ut_main.specs.Spelling.{part_bytes}
use Rattle.ut_main.proofs.MainLemmas.{dicts-low}
use Rattle.ut_main.proofs.StandLemmas.{part-one}
use Rattle.ut_image.specs.declared.drawn.PartRef.{PartRef}
use Rattle.ut_image.specs.declared.drawn.Drawn.{Drawn}
use Rattle.ut_image.specs.Bytes.{image_bytes, drawn_bytes}
use Rattle.ut_image.proofs.OneLemmas.{image-once}
use Rattle.ut_pages.specs.declared.root.Root.{Root}
use Rattle.ut_pages.specs.Layout.{IsChain}
use Rattle.ut_pages.proofs.OneLemmas.{one_chain}
use Rattle.ut_reading.specs.Standing.{part_of, with_part, no_parts, StandsPart, StandParts, StandsMain, AreDrawnIn}

pub one_part : (columns : List Column) (main : MainValue) (ref : PartRef) (a b : List KeyRow) (r r' file : List ℕ) → length columns ≡ main.width → StandsPart columns main ref a r file → StandsPart columns main ref b r' file → a ≡ b
one_part columns main ref a b r r' file wide x y =
    let here : IsChain x.chain.pages ref.first x.chain.bytes file = subst (λ (k : ℕ). IsChain x.chain.pages k x.chain.bytes file) x.first x.stands.0.chain in
    let there : IsChain y.chain.pages ref.first y.chain.bytes file = subst (λ (k : ℕ). IsChain y.chain.pages k y.chain.bytes file) y.first y.stands.0.chain in
    let chains = one_chain x.chain.pages y.chain.pages ref.first x.chain.bytes y.chain.bytes file here there (x.long ∙ sym y.long) in
    let bytes : part_bytes (part_of main a) ≡ part_bytes (part_of main b) = sym x.bytes ∙ chains.1 ∙ y.bytes in
    ap (λ (p : PartValue). p.rows) (part-one columns main (part_of main a) (part_of main b) wide (dicts-low main) x.may y.may bytes)

pub one_parts : (columns : List Column) (main : MainValue) (refs : List PartRef) (ms bs : List (List KeyRow)) (r r' file : List ℕ) → length columns ≡ main.width → StandParts columns main refs ms r file → StandParts columns main refs bs r' file → ms ≡ bs
one_parts columns main [] [] [] r r' file wide x y = refl
one_parts columns main [] [] (b ∷ bs) r r' file wide x y = absurd y
one_parts columns main [] (a ∷ ms) bs r r' file wide x y = absurd x
one_parts columns main (ref ∷ refs) [] bs r r' file wide x y = absurd x
one_parts columns main (ref ∷ refs) (a ∷ ms) [] r r' file wide x y = absurd y
one_parts columns main (ref ∷ refs) (a ∷ ms) (b ∷ bs) r r' file wide x y =
    let same : a ≡ b = one_part columns main ref a b r r' file wide x.0 y.0 in
    let rest : StandParts columns (with_part main a) refs bs r' file = subst (λ (rows : List KeyRow). StandParts columns (with_part main rows) refs bs r' file) (sym same) y.1 in
    ap (λ (rows : List KeyRow). rows ∷ ms) same ∙ ap (λ (l : List (List KeyRow)). b ∷ l) (one_parts columns (with_part main a) refs ms bs r r' file wide x.1 rest)

pub one_main : (t : Drawn) (a b : MainValue) (r r' file : List ℕ) → StandsMain r file t a → StandsMain r' file t b → a ≡ b
one_main t a b r r' file x y =
    let parts : a.parts ≡ b.parts = one_parts t.table.columns (no_parts (length t.table.columns)) t.parts a.parts b.parts r r' file refl x.parts y.parts in
    ap (λ (n : ℕ). record { width = n; parts = a.parts }) (x.width ∙ sym y.width) ∙ ap (λ (l : List (List KeyRow)). record { width = b.width; parts = l }) parts

pub one_mains : (ts : List Drawn) (ms bs : List MainValue) (r r' file : List ℕ) → AllZip (StandsMain r file) ts ms → AllZip (StandsMain r' file) ts bs → ms ≡ bs
one_mains [] [] [] r r' file x y = refl
one_mains [] [] (b ∷ bs) r r' file x y = absurd y
one_mains [] (a ∷ ms) bs r r' file x y = absurd x
one_mains (t ∷ ts) [] bs r r' file x y = absurd x
one_mains (t ∷ ts) (a ∷ ms) [] r r' file x y = absurd y
one_mains (t ∷ ts) (a ∷ ms) (b ∷ bs) r r' file x y =
    ap (λ (m : MainValue). m ∷ ms) (one_main t a b r r' file x.0 y.0) ∙ ap (λ (l : List MainValue). b ∷ l) (one_mains ts ms bs r r' file x.1 y.1)

-- a directory that was spelled has bytes
spelled_some : (ts : List Drawn) → image_bytes ts ≡ [] → ⊥
spelled_some ts is = absurd (omega (arith, ap length is, length-append (to_le_bytes w32 (length ts)) (flat_map drawn_bytes ts), four (length ts)))
  where
    four : (n : ℕ) → length (to_le_bytes w32 n) ≡ 4
    four n = refl

pub one_drawn : (root : Root) (bytes : List ℕ) (a b : List Drawn) → AreDrawnIn root bytes a → AreDrawnIn root bytes b → a ≡ b
one_drawn root bytes a b (inl x) (inl y) = x.1 ∙ sym y.1
one_drawn root bytes a b (inl x) (inr y) = absurd (spelled_some b (sym y.0 ∙ x.0))
one_drawn root bytes a b (inr x) (inl y) = absurd (spelled_some a (sym x.0 ∙ y.0))
one_drawn root bytes a b (inr x) (inr y) = image-once root.next root.commits a b x.1 y.1 (sym x.0 ∙ y.0)
