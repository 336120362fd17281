-- A list is read item by item.
use Rattle.std.proofs.Common.{◌≡◌, ℕ, ◌+◌, ◌<◌, List, [], ◌∷◌, ◌++◌, length, Bool, true, false, true≢false, IsTrue, refl, sym, ◌∙◌, ap, arith, append_assoc, length-append, subst}
use Rattle.std.specs.Prelude.{◌&&◌}
use Rattle.std.specs.List.{flat_map, list_all}
use Rattle.std.proofs.lemmas.List.{flat_map_more, length_push}
use Rattle.std.proofs.lemmas.List.Folds.{list_all-append}
use Rattle.ut_value.specs.Reading.{Begins, BeginsNone, BeginsOnce}
use Rattle.ut_value.specs.Spelling.{text_spelling}
use Rattle.ut_value.proofs.OneSpelling.{both, one_text}

-- the items so far stand at the front of the bytes, and each list that begins the bytes begins with them and goes on in the rest
pub record IsReadTo {X : Type 0} (piece : X → List ℕ) (keeps : X → Bool) (count : ℕ) (bytes : List ℕ) (items : List X) (rest : List ℕ) : Type 0 where
  pub rule : IsTrue (list_all keeps items)
  pub front : bytes ≡ flat_map piece items ++ rest
  pub goes_on : (xs : List X) (after : List ℕ) → length xs ≡ count → IsTrue (list_all keeps xs) → bytes ≡ flat_map piece xs ++ after
      → (more : List X) × (xs ≡ items ++ more) × (rest ≡ flat_map piece more ++ after)

module _ {X : Type 0} (piece : X → List ℕ) (keeps : X → Bool) (count : ℕ) (bytes : List ℕ) where
  module _ (items : List X) (rest : List ℕ) (so_far : IsReadTo piece keeps count bytes items rest) (left : length items < count) where
    -- what is left begins with an item
    next_item : (more : List X) (xs : List X) (after : List ℕ) → length xs ≡ count → IsTrue (list_all keeps xs) → xs ≡ items ++ more → rest ≡ flat_map piece more ++ after
        → (x : X) × (others : List X) × (more ≡ x ∷ others) × Begins piece keeps rest x (flat_map piece others ++ after)
    next_item [] xs after long all is begins = absurd (omega (arith, ap length is, length-append items []))
    next_item (m ∷ ms) xs after long all is begins =
        let parts = both (list_all keeps items) (list_all keeps (m ∷ ms)) (sym (list_all-append keeps items (m ∷ ms)) ∙ ap (list_all keeps) (sym is) ∙ all) in
        (m, ms, refl, ((both (keeps m) (list_all keeps ms) parts.1).0, begins ∙ append_assoc (piece m) (flat_map piece ms) after))

    one_more : BeginsOnce piece keeps → (item : X) (behind : List ℕ) → Begins piece keeps rest item behind → IsReadTo piece keeps count bytes (items ++ item ∷ []) behind
    one_more once item behind begins = record {
      rule = list_all-append keeps items (item ∷ []) ∙ (λ i. so_far.rule i && (begins.0 i && true));
      front = so_far.front ∙ ap (λ (l : List ℕ). flat_map piece items ++ l) begins.1 ∙ sym (append_assoc (flat_map piece items) (piece item) behind)
          ∙ ap (λ (l : List ℕ). l ++ behind) (flat_map_more piece [] items item);
      goes_on = λ xs after long all is.
          let more = so_far.goes_on xs after long all is in
          let next = next_item more.0 xs after long all more.1 more.2 in
          let here = once next.0 item (flat_map piece next.1 ++ after) behind rest next.3 begins in
          (next.1, more.1 ∙ ap (λ (l : List X). items ++ l) next.2 ∙ ap (λ (x : X). items ++ x ∷ next.1) here.0 ∙ sym (append_assoc items (item ∷ []) next.1), sym here.1);
    }

    pub pushed : BeginsOnce piece keeps → (item : X) (behind : List ℕ) (new : List X) → Begins piece keeps rest item behind → new ≡ items ++ item ∷ [] → IsReadTo piece keeps count bytes new behind
    pushed once item behind new begins is = subst (λ (l : List X). IsReadTo piece keeps count bytes l behind) (sym is) (one_more once item behind begins)

    pub stuck : BeginsNone piece keeps rest → (xs : List X) (after : List ℕ) → length xs ≡ count → IsTrue (list_all keeps xs) → bytes ≡ flat_map piece xs ++ after → ⊥
    stuck none xs after long all is =
        let more = so_far.goes_on xs after long all is in
        let next = next_item more.0 xs after long all more.1 more.2 in
        none next.0 (flat_map piece next.1 ++ after) next.3

pub one_longer : {X : Type 0} (items new : List X) (x : X) (n : ℕ) → new ≡ items ++ x ∷ [] → length items ≡ n → length new ≡ n + 1
one_longer items new x n is long = omega (arith, ap length is, length_push items x, long)

-- a text that breaks the rule is no spelling
pub text_refused : (rule : List ℕ → Bool) (text rest bytes : List ℕ) → bytes ≡ text_spelling text ++ rest → rule text ≡ false → BeginsNone text_spelling rule bytes
text_refused rule text rest bytes is breaks x after begins =
    let one = one_text text x rest after (sym is ∙ begins.1) in
    true≢false (sym begins.0 ∙ ap rule (sym one.0) ∙ breaks)
