-- Why a run ends: how far its lines go.
use Rattle.std.proofs.Common.{ℕ, ◌<◌, ◌≤◌, ◌≡◌, ◌⊎◌, inl, inr, Bool, true, false, not, List, [], ◌∷◌, ◌++◌, refl, ap, ◌∙◌, sym, subst, arith, length, append_assoc, append-nil, Option, None, Some, Ok, Err}
use Rattle.std.specs.Prelude.{◌&&◌, ◌||◌, nat_le, nat_lt}
use Rattle.std.proofs.lemmas.Grind.{common_steps}
use Rattle.std.proofs.lemmas.List.{length-append}
use Rattle.ut_script.specs.declared.lines.LineError.TheVariants as failed
use Rattle.ut_script.specs.Lines.{Reading, lines_of, is_long, has_line, NextLine, StepsLine}
use Rattle.ut_script.proofs.AskLemmas.{ended-append}
use Rattle.ut_run.specs.declared.report.Status.{Status}
use Rattle.ut_run.specs.declared.report.Status.TheVariants.{Done, Usage, NoStore, Exists, ReadFault, WriteFault, DiskFault, Damaged, Memory, TooLong}
use Rattle.ut_run.specs.Script.{all_fit, is_too_long, FitsInput, IsPast, EndsBy, ReadsInput, IsReading}

-- ---- lines

pub fit_more : (script : List (List ℕ)) (line : List ℕ) → all_fit script ≡ true → length line ≤ 65536 → all_fit (script ++ line ∷ []) ≡ true
fit_more [] line h l = grind (arith, common_steps, l)
fit_more (x ∷ xs) line h l = by_first (nat_le (length x) 65536) h (λ k. fit_more xs line k l)
  where
    by_first : (t : Bool) → (t && all_fit xs) ≡ true → (all_fit xs ≡ true → all_fit (xs ++ line ∷ []) ≡ true) → (t && all_fit (xs ++ line ∷ [])) ≡ true
    by_first true h more = more h
    by_first false h more = cc

-- a line past the length stands behind these
over_fits : (script rest : List (List ℕ)) → is_long rest ≡ true → all_fit (script ++ rest) ≡ false
over_fits [] [] h = cc
over_fits [] (x ∷ xs) h = over x (all_fit xs) h
  where
    over : (x : List ℕ) (t : Bool) → nat_lt 65536 (length x) ≡ true → (nat_le (length x) 65536 && t) ≡ false
    over x t h = let no : nat_le (length x) 65536 ≡ false = grind (arith, common_steps, h) in ap (λ (b : Bool). b && t) no
over_fits (x ∷ xs) rest h = by_first (nat_le (length x) 65536) (over_fits xs rest h)
  where
    by_first : (t : Bool) → all_fit (xs ++ rest) ≡ false → (t && all_fit (xs ++ rest)) ≡ false
    by_first true h = h
    by_first false h = refl

many_too_long : (limit : ℕ) (input : List ℕ) → limit < length (lines_of input) → is_too_long limit input ≡ true
many_too_long limit input h = grind (arith, common_steps, h)

over_too_long : (limit : ℕ) (input : List ℕ) → all_fit (lines_of input) ≡ false → is_too_long limit input ≡ true
over_too_long limit input h = either (nat_lt limit (length (lines_of input))) (all_fit (lines_of input)) h
  where
    either : (s t : Bool) → t ≡ false → (s || not t) ≡ true
    either true t h = refl
    either false true h = cc
    either false false h = refl

not_too_long : (limit : ℕ) (input : List ℕ) → length (lines_of input) ≤ limit → all_fit (lines_of input) ≡ true → is_too_long limit input ≡ false
not_too_long limit input h k = let few : nat_lt limit (length (lines_of input)) ≡ false = grind (arith, common_steps, h) in rw (few, k) refl

has_more : (lines : List (List ℕ)) → has_line lines ≡ true → 1 ≤ length lines
has_more [] h = cc
has_more (l ∷ ls) h = omega arith

-- why the next line is past the limits
past_by : (limit number : ℕ) (lines : List (List ℕ)) → number ≤ limit → ((nat_le limit number && has_line lines) || is_long lines) ≡ true → ((number ≡ limit) × (has_line lines ≡ true)) ⊎ (is_long lines ≡ true)
past_by limit number lines few h = by (nat_le limit number) (has_line lines) (is_long lines) refl refl h
  where
    by : (s t u : Bool) → nat_le limit number ≡ s → has_line lines ≡ t → ((s && t) || u) ≡ true → ((number ≡ limit) × (t ≡ true)) ⊎ (u ≡ true)
    by s t true e f h = inr refl
    by true true false e f h = inl (grind (arith, common_steps, e, few), refl)
    by true false false e f h = cc
    by false t false e f h = cc

past_too_long : (limit : ℕ) (input : List ℕ) (script rest : List (List ℕ)) → lines_of input ≡ script ++ rest → IsPast limit (length script) rest → is_too_long limit input ≡ true
past_too_long limit input script rest parts (inl many) = let more = has_more rest many.1 in many_too_long limit input (omega (arith, many.0, more, ap length parts, length-append script rest))
past_too_long limit input script rest parts (inr long) = over_too_long limit input (ap all_fit parts ∙ over_fits script rest long)

-- ---- reading

pub reading-start : (source : Option (List ℕ)) (held : List ℕ) → held ≡ [] → IsReading source [] held source
reading-start None held e = tt
reading-start (Some input) held e = record {
  after = input;
  is_left = refl;
  parts = ap (λ (h : List ℕ). lines_of (h ++ input)) (sym e);
  front = [];
  input_is = ap (λ (h : List ℕ). h ++ input) (sym e);
  ended = omega arith;
}

pub reading-more : (source : Option (List ℕ)) (script : List (List ℕ)) (old new : Reading) (left left2 : Option (List ℕ)) → IsReading source script old.held left → NextLine old left (Ok true) new left2 → StepsLine old left new left2 → IsReading source (script ++ new.line ∷ []) new.held left2
reading-more None script old new left left2 r n m = tt
reading-more (Some input) script old new left left2 r n m =
    let took = subst (λ (l : Option (List ℕ)). NextLine old l (Ok true) new left2) r.is_left n in
    let step = subst (λ (l : Option (List ℕ)). StepsLine old l new left2) r.is_left m in
    let same : Some step.after ≡ Some took.after = sym step.is_left ∙ took.is_left in
    let after : step.after ≡ took.after = cc in
    record {
      after = took.after;
      is_left = took.is_left;
      parts = r.parts ∙ ap (λ (ls : List (List ℕ)). script ++ ls) took.taken.line ∙ sym (append_assoc script (new.line ∷ []) (lines_of (new.held ++ took.after)));
      front = r.front ++ step.piece;
      input_is = r.input_is ∙ ap (λ (xs : List ℕ). r.front ++ xs) (step.parts ∙ ap (λ (xs : List ℕ). step.piece ++ (new.held ++ xs)) after) ∙ sym (append_assoc r.front step.piece (new.held ++ took.after));
      ended = omega (arith, r.ended, step.one, ended-append r.front step.piece, length-append script (new.line ∷ []));
    }

-- what a status says at the end of the reading
pub record EndsReading (limit : ℕ) (source : Option (List ℕ)) (left : Option (List ℕ)) (status : Status) (script : List (List ℕ)) : Type 0 where
  pub input : ReadsInput limit source left status script
  pub fits : FitsInput limit status source

pub reading-done : (limit : ℕ) (source : Option (List ℕ)) (script : List (List ℕ)) (old new : Reading) (left left2 : Option (List ℕ)) → length script ≤ limit → all_fit script ≡ true
    → IsReading source script old.held left → NextLine old left (Ok false) new left2 → EndsReading limit source left2 Done script
reading-done limit None script old new left left2 few fit r n = record { input = tt; fits = tt }
reading-done limit (Some input) script old new left left2 few fit r n =
    let took = subst (λ (l : Option (List ℕ)). NextLine old l (Ok false) new left2) r.is_left n in
    let all : lines_of input ≡ script = r.parts ∙ ap (λ (ls : List (List ℕ)). script ++ ls) took.taken.none ∙ append-nil script in
    record {
      input = record { rest = lines_of (old.held ++ r.after); parts = r.parts; ends = (took.taken.none, took.is_left ∙ ap (λ (a : List ℕ). Some a) took.taken.end) };
      fits = not_too_long limit input (omega (arith, few, ap length all)) (ap all_fit all ∙ fit);
    }

-- the next line is too long, or one too many
pub reading-long : (limit : ℕ) (source : Option (List ℕ)) (script : List (List ℕ)) (old new : Reading) (left left2 : Option (List ℕ)) → old.limit ≡ limit → old.number ≡ length script → length script ≤ limit
    → IsReading source script old.held left → NextLine old left (Err failed.TooLong) new left2 → EndsReading limit source left2 TooLong script
reading-long limit None script old new left left2 e f few r n = record { input = tt; fits = tt }
reading-long limit (Some input) script old new left left2 e f few r n =
    let took = subst (λ (l : Option (List ℕ)). NextLine old l (Err failed.TooLong) new left2) r.is_left n in
    let rest = lines_of (old.held ++ r.after) in
    let here : ((nat_le limit (length script) && has_line rest) || is_long rest) ≡ true =
    ap (λ (m : ℕ). (nat_le limit m && has_line rest) || is_long rest) (sym f) ∙ ap (λ (m : ℕ). (nat_le m old.number && has_line rest) || is_long rest) (sym e) ∙ took.taken in
    let past = past_by limit (length script) rest few here in
    record {
      input = record { rest = rest; parts = r.parts; ends = past };
      fits = past_too_long limit input script rest r.parts past;
    }

-- a status that says nothing of the input
abbrev pub IsCut : Status → Type 0
IsCut Done = ⊥
IsCut TooLong = ⊥
IsCut _ = Unit {0}

pub fits_cut : (limit : ℕ) (status : Status) (source : Option (List ℕ)) → IsCut status → FitsInput limit status source
fits_cut limit Done source c = absurd c
fits_cut limit Usage source c = tt
fits_cut limit NoStore source c = tt
fits_cut limit Exists source c = tt
fits_cut limit ReadFault source c = tt
fits_cut limit WriteFault source c = tt
fits_cut limit DiskFault source c = tt
fits_cut limit Damaged source c = tt
fits_cut limit Memory source c = tt
fits_cut limit TooLong source c = absurd c

ends_cut : (limit : ℕ) (status : Status) (count : ℕ) (rest : List (List ℕ)) (left : Option (List ℕ)) → IsCut status → EndsBy limit status count rest left
ends_cut limit Done count rest left c = absurd c
ends_cut limit Usage count rest left c = tt
ends_cut limit NoStore count rest left c = tt
ends_cut limit Exists count rest left c = tt
ends_cut limit ReadFault count rest left c = tt
ends_cut limit WriteFault count rest left c = tt
ends_cut limit DiskFault count rest left c = tt
ends_cut limit Damaged count rest left c = tt
ends_cut limit Memory count rest left c = tt
ends_cut limit TooLong count rest left c = absurd c

pub reading-cut : (limit : ℕ) (source : Option (List ℕ)) (script : List (List ℕ)) (held : List ℕ) (left left2 : Option (List ℕ)) (status : Status) → IsReading source script held left → IsCut status → EndsReading limit source left2 status script
reading-cut limit None script held left left2 status r cut = record { input = tt; fits = fits_cut limit status None cut }
reading-cut limit (Some input) script held left left2 status r cut = record {
  input = record { rest = lines_of (held ++ r.after); parts = r.parts; ends = ends_cut limit status (length script) (lines_of (held ++ r.after)) left2 cut };
  fits = fits_cut limit status (Some input) cut;
}
