-- Texts one behind another.
use Rattle.std.proofs.Common.{ℕ, pos, ◌≡◌, ◌+◌, ◌-◌, ◌<◌, ◌≤◌, ◌++◌, ◌∷◌, [], List, length, take, drop, get_or, All, sym, ap, subst, ◌∙◌, arith, below_more}
use Rattle.std.proofs.lemmas.List.{get_or_default, get_or_append_left, take-append-le, take_all, length-append, get_or-map}
use Rattle.std.proofs.Math.Seq.{get_or-append_seam, drop-append_seam}
use Rattle.ut_value.specs.declared.value.Value.{Value}
use Rattle.ut_value.specs.declared.value.Value.TheVariants.{Int}
use Rattle.ut_rows.specs.Columns.{value_in, values_at}
use Rattle.ut_reply.specs.Columns.{IsText, AreTexts}
use Rattle.ut_reply.specs.Texts.{value_text, value_room}
use Rattle.ut_reply.proofs.RunLemmas.{run_is}

-- a text stands where it stood, when another comes behind
pub text_stays : (lead : ℕ) (v : Value) (bytes bounds after ends more : List ℕ) (end place : ℕ) → after ≡ bytes ++ more → ends ≡ bounds ++ end ∷ [] → place + 1 < length bounds
    → IsText lead v bytes bounds place → IsText lead v after ends place
text_stays lead v bytes bounds after ends more end place grown pushed below is =
    let from : get_or ends place 0 ≡ get_or bounds place 0 = ap (λ them. get_or them place 0) pushed ∙ get_or_append_left bounds (end ∷ []) 0 place (omega arith) in
    let to : get_or ends (place + 1) 0 ≡ get_or bounds (place + 1) 0 = ap (λ them. get_or them (place + 1) 0) pushed ∙ get_or_append_left bounds (end ∷ []) 0 (place + 1) below in
    let long : length after ≡ length bytes + length more = ap length grown ∙ length-append bytes more in
    let kept : take (get_or bounds (place + 1) 0) after ≡ take (get_or bounds (place + 1) 0) bytes = ap (λ them. take (get_or bounds (place + 1) 0) them) grown ∙ take-append-le (get_or bounds (place + 1) 0) bytes more is.within in
    record {
      rises = omega (arith, from, to, is.rises);
      within = omega (arith, to, long, is.within);
      text = ap (λ n. drop n (take (get_or ends (place + 1) 0) after)) from ∙ ap (λ n. drop (get_or bounds place 0) (take n after)) to ∙ ap (λ run. drop (get_or bounds place 0) run) kept ∙ is.text;
      fits = omega (arith, from, to, is.fits);
    }

-- the text that comes behind
pub text_comes : (lead : ℕ) (v : Value) (bytes bounds after ends : List ℕ) (place : ℕ) → after ≡ bytes ++ lead ∷ value_text v → ends ≡ bounds ++ length after ∷ []
    → length bounds ≡ place + 1 → get_or bounds place 0 ≡ length bytes → length after ≤ length bytes + (value_room v + 1) → IsText lead v after ends place
text_comes lead v bytes bounds after ends place grown pushed many last few =
    let from : get_or ends place 0 ≡ length bytes = ap (λ them. get_or them place 0) pushed ∙ get_or_append_left bounds (length after ∷ []) 0 place (omega arith) ∙ last in
    let to : get_or ends (place + 1) 0 ≡ length after = ap (λ them. get_or them (place + 1) 0) pushed ∙ ap (λ n. get_or (bounds ++ length after ∷ []) n 0) (sym many) ∙ get_or-append_seam bounds (length after) [] 0 in
    let long : length after ≡ length bytes + length (lead ∷ value_text v) = ap length grown ∙ length-append bytes (lead ∷ value_text v) in
    record {
      rises = omega (arith, from, to, long);
      within = omega (arith, to);
      text = ap (λ n. drop n (take (get_or ends (place + 1) 0) after)) from ∙ ap (λ n. drop (length bytes) (take n after)) to ∙ ap (λ run. drop (length bytes) run) (take_all (length after) after (omega arith) ∙ grown) ∙ drop-append_seam bytes (lead ∷ value_text v);
      fits = omega (arith, from, to, few);
    }

-- the texts so far, and one more
pub texts_more : (lead : ℕ) (values : List Value) (v : Value) (bytes bounds after ends : List ℕ) (i : ℕ) → after ≡ bytes ++ lead ∷ value_text v → ends ≡ bounds ++ length after ∷ []
    → length bounds ≡ i + 1 → get_or bounds i 0 ≡ length bytes → length after ≤ length bytes + (value_room v + 1) → value_in values i ≡ v
    → ((place : ℕ) → place < i → IsText lead (value_in values place) bytes bounds place) → (place : ℕ) → place < i + 1 → IsText lead (value_in values place) after ends place
texts_more lead values v bytes bounds after ends i grown pushed many last few read each =
    below_more (λ place. IsText lead (value_in values place) after ends place) i
    (λ place below. text_stays lead (value_in values place) bytes bounds after ends (lead ∷ value_text v) (length after) place grown pushed (omega arith) (each place below))
    (subst (λ (w : Value). IsText lead w after ends i) (sym read) (text_comes lead v bytes bounds after ends i grown pushed many last few))

-- the text of a row's value
pub text_taken : (lead : ℕ) (values : List Value) (places bytes bounds : List ℕ) (row start end : ℕ) → AreTexts lead values bytes bounds → All (λ p. p < length values) places → row < length places
    → start ≡ get_or bounds (get_or places row 0) start → end ≡ get_or bounds (get_or places row 0 + 1) end → take (end - start) (drop start bytes) ≡ lead ∷ value_text (value_in (values_at values places) row)
text_taken lead values places bytes bounds row start end are within below from to =
    let place = get_or places row 0 in
    let inside : place < length values = within row 0 below in
    let it : IsText lead (value_in values place) bytes bounds place = are.each place inside in
    let first : start ≡ get_or bounds place 0 = from ∙ get_or_default bounds place start 0 (omega (arith, are.many)) in
    let last : end ≡ get_or bounds (place + 1) 0 = to ∙ get_or_default bounds (place + 1) end 0 (omega (arith, are.many)) in
    let read : value_in (values_at values places) row ≡ value_in values place = get_or-map (value_in values) places row 0 (Int (pos 0)) below in
    run_is bytes start end (omega (arith, first, last, it.rises))
    ∙ ap (λ n. drop n (take end bytes)) first ∙ ap (λ n. drop (get_or bounds place 0) (take n bytes)) last ∙ it.text ∙ ap (λ w. lead ∷ value_text w) (sym read)
