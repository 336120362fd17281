-- When a source is asked, and how many lines end in what is handed out.
use Rattle.std.proofs.Common.{ℕ, suc, ◌≡◌, ◌≤◌, ◌+◌, Bool, true, false, cond, List, [], ◌∷◌, ◌++◌, length, take, drop, refl, ap, ◌∙◌, sym, subst, arith, append_assoc, append-nil, Option, None, Some, Ok, Err}
use Rattle.std.proofs.lemmas.Grind.{common_steps}
use Rattle.std.specs.Prelude.{nat_eq, nat_lt}
use Rattle.std.specs.List.{AllByRecursion}
use Rattle.std.specs.Bool.{MatchBool}
use Rattle.std.proofs.lemmas.List.{take-append-drop, take-append-le, take_all}
use Rattle.ut_outside.specs.declared.ask.Ask.{Ask}
use Rattle.ut_outside.specs.Streams.{NotesAsk, TakesBytes}
use Rattle.ut_script.specs.Lines.{Reading, has_no_feed, ended_lines, IsNeeded, AsksFew, StepsLine}
use Rattle.ut_script.specs.LineSteps.{EndsLine, Fills, ReadsLine}
use Rattle.ut_script.proofs.LineLemmas.{has_no_feed-append}

-- ---- lines that end

none_by : (t : Bool) (n : ℕ) (b : Bool) → cond t false b ≡ true → (b ≡ true → n ≡ 0) → cond t (suc n) n ≡ 0
none_by true n b h more = cc
none_by false n b h more = more h

pub none_ends : (bytes : List ℕ) → has_no_feed bytes ≡ true → ended_lines bytes ≡ 0
none_ends [] h = refl
none_ends (b ∷ bytes) h = none_by (nat_eq b 10) (ended_lines bytes) (has_no_feed bytes) h (none_ends bytes)

more_by : (t : Bool) (n m k : ℕ) → n ≡ m + k → cond t (suc n) n ≡ cond t (suc m) m + k
more_by true n m k h = omega (arith, h)
more_by false n m k h = h

pub ended-append : (xs ys : List ℕ) → ended_lines (xs ++ ys) ≡ ended_lines xs + ended_lines ys
ended-append [] ys = omega arith
ended-append (b ∷ xs) ys = more_by (nat_eq b 10) (ended_lines (xs ++ ys)) (ended_lines xs) (ended_lines ys) (ended-append xs ys)

-- ---- what is held then

pub drop_none : (xs : List ℕ) → drop 0 xs ≡ xs
drop_none [] = refl
drop_none (x ∷ xs) = refl

by_count : (count : ℕ) (A : Type 0) → (count ≡ 0 → A) → MatchBool (nat_lt 0 count) (Unit {0}) A
by_count count A h = by (nat_lt 0 count) refl
  where
    by : (t : Bool) → nat_lt 0 count ≡ t → MatchBool t (Unit {0}) A
    by true e = tt
    by false e = h (grind (arith, common_steps, e))

-- the front of a block into which bytes were put
pub block_front : (count len : ℕ) (buf rest : List ℕ) → length buf ≡ len → drop 0 (take count (take len (buf ++ rest))) ≡ take count buf
block_front count len buf rest h =
    drop_none (take count (take len (buf ++ rest))) ∙ ap (λ (xs : List ℕ). take count xs) (take-append-le len buf rest (omega (arith, h)) ∙ take_all len buf (omega (arith, h)))

pub fills_taken : (E F : Type 0) (old : Reading) (before left : Option (List ℕ)) (count : ℕ) (buf : List ℕ) (new : Reading) → old.held ≡ [] → new.held ≡ take count buf → TakesBytes {E = E} before left (Ok count) buf → Fills {E = F} old before (Ok (nat_lt 0 count)) new left
fills_taken E F old None left count buf new none is t = tt
fills_taken E F old (Some bytes) left count buf new none is t =
    let held : new.held ≡ old.held ++ take count bytes = is ∙ t.same ∙ ap (λ (xs : List ℕ). xs ++ take count bytes) (sym none) in
    let parts : bytes ≡ take count bytes ++ drop count bytes = sym (take-append-drop count bytes) in
    let whole : old.held ++ bytes ≡ new.held ++ drop count bytes = ap (λ (xs : List ℕ). old.held ++ xs) parts ∙ sym (append_assoc old.held (take count bytes) (drop count bytes)) ∙ ap (λ (xs : List ℕ). xs ++ drop count bytes) (sym held) in
    let ended : count ≡ 0 → (old.held ++ bytes ≡ []) × (drop count bytes ≡ []) =
    λ zero. (ap (λ (xs : List ℕ). xs ++ bytes) none ∙ t.end zero, ap (λ (n : ℕ). drop n bytes) zero ∙ t.end zero) in
    record { after = drop count bytes; is_left = t.rest; same = whole; took = take count bytes; taken = parts; held = held; none = by_count count ((old.held ++ bytes ≡ []) × (drop count bytes ≡ [])) ended }

-- ---- two reaches of asking

need_of : (r0 old : Reading) (before mid taken first : List ℕ) (ask : Ask) → before ≡ first ++ mid → r0.held ++ first ≡ old.line ++ old.held → has_no_feed old.line ≡ true → IsNeeded old mid taken ask → IsNeeded r0 before taken ask
need_of r0 old before mid taken first ask parts read no_feed n = record {
  took = first ++ n.took;
  after = n.after;
  parts = parts ∙ ap (λ (xs : List ℕ). first ++ xs) n.parts ∙ sym (append_assoc first n.took n.after);
  left = n.left;
  at_sink = n.at_sink;
  no_line =
      ap has_no_feed (sym (append_assoc r0.held first n.took) ∙ ap (λ (xs : List ℕ). xs ++ n.took) read ∙ append_assoc old.line old.held n.took)
      ∙ has_no_feed-append old.line (old.held ++ n.took) no_feed n.no_line;
}

needs_of : (r0 old : Reading) (before mid taken first : List ℕ) (asks : List Ask) → before ≡ first ++ mid → r0.held ++ first ≡ old.line ++ old.held → has_no_feed old.line ≡ true → AllByRecursion (IsNeeded old mid taken) asks → AllByRecursion (IsNeeded r0 before taken) asks
needs_of r0 old before mid taken first [] parts read no_feed n = tt
needs_of r0 old before mid taken first (ask ∷ asks) parts read no_feed n = (need_of r0 old before mid taken first ask parts read no_feed n.0, needs_of r0 old before mid taken first asks parts read no_feed n.1)

both : (P : Ask → Type 0) (xs ys : List Ask) → AllByRecursion P xs → AllByRecursion P ys → AllByRecursion P (xs ++ ys)
both P [] ys p q = q
both P (x ∷ xs) ys p q = (p.0, both P xs ys p.1 q)

pub asks_on : (r0 : Reading) (start taken : Option (List ℕ)) (asks : Option (List Ask)) (old : Reading) (mid : Option (List ℕ)) (asks_mid now : Option (List Ask)) → ReadsLine r0 start old mid → AsksFew r0 start taken asks asks_mid → AsksFew old mid taken asks_mid now → AsksFew r0 start taken asks now
asks_on r0 None taken asks old mid asks_mid now part first then = tt
asks_on r0 (Some before) None asks old mid asks_mid now part first then = tt
asks_on r0 (Some before) (Some taken) None old mid asks_mid now part first then = tt
asks_on r0 (Some before) (Some taken) (Some asks) old mid asks_mid now part first then =
    let next = subst (λ (m : Option (List Ask)). AsksFew old (Some part.after) (Some taken) m now) first.is (subst (λ (m : Option (List ℕ)). AsksFew old m (Some taken) asks_mid now) part.is_left then) in
    record {
      more = first.more ++ next.more;
      is = next.is ∙ ap (λ (xs : List Ask). Some xs) (append_assoc asks first.more next.more);
      needed = both (IsNeeded r0 before taken) first.more next.more first.needed (needs_of r0 old before part.after taken part.took next.more part.taken part.read part.no_feed next.needed);
    }

-- ---- what is handed out

one_feed : (line : List ℕ) → has_no_feed line ≡ true → ended_lines (line ++ 10 ∷ []) ≤ 1
one_feed line h = omega (arith, ended-append line (10 ∷ []), none_ends line h)

-- the line ended at a line feed
pub steps_fed : (E : Type 0) (r0 : Reading) (start : Option (List ℕ)) (old : Reading) (mid : Option (List ℕ)) (filled ended now : Reading) (left : Option (List ℕ)) → ReadsLine r0 start old mid → Fills {E = E} old mid (Ok true) filled left → filled.line ≡ old.line → EndsLine filled ended → now.held ≡ ended.held
    → StepsLine r0 start now left
steps_fed E r0 None old mid filled ended now left part fills same ends is_held = tt
steps_fed E r0 (Some before) old mid filled ended now left part fills same ends is_held =
    let f = subst (λ (m : Option (List ℕ)). Fills {E = E} old m (Ok true) filled left) part.is_left fills in
    let line = old.line ++ ends.piece in
    let rest = ended.held ++ f.after in
    record {
      piece = line ++ 10 ∷ [];
      after = f.after;
      is_left = f.is_left;
      parts = part.parts ∙ ap (λ (xs : List ℕ). old.line ++ xs) (f.same ∙ ap (λ (xs : List ℕ). xs ++ f.after) ends.parts ∙ append_assoc ends.piece (10 ∷ ended.held) f.after) ∙ sym (append_assoc old.line ends.piece (10 ∷ rest))
          ∙ sym (append_assoc line (10 ∷ []) rest) ∙ ap (λ (xs : List ℕ). (line ++ 10 ∷ []) ++ (xs ++ f.after)) (sym is_held);
      one = one_feed line (has_no_feed-append old.line ends.piece part.no_feed ends.no_feed);
    }

-- the input ended, and with it the line
pub steps_last : (E : Type 0) (r0 : Reading) (start : Option (List ℕ)) (old : Reading) (mid : Option (List ℕ)) (filled now : Reading) (left : Option (List ℕ)) → ReadsLine r0 start old mid → Fills {E = E} old mid (Ok false) filled left → now.held ≡ filled.held → StepsLine r0 start now left
steps_last E r0 None old mid filled now left part fills is_held = tt
steps_last E r0 (Some before) old mid filled now left part fills is_held =
    let f = subst (λ (m : Option (List ℕ)). Fills {E = E} old m (Ok false) filled left) part.is_left fills in
    record {
      piece = old.line;
      after = f.after;
      is_left = f.is_left;
      parts = part.parts ∙ ap (λ (xs : List ℕ). old.line ++ xs) f.same ∙ ap (λ (xs : List ℕ). old.line ++ (xs ++ f.after)) (sym is_held);
      one = omega (arith, none_ends old.line part.no_feed);
    }
