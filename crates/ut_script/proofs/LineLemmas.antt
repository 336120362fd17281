-- How the input falls into its first line and the rest.
use Rattle.std.proofs.Common.{ℕ, suc, ◌≡◌, ◌+◌, ◌<◌, ◌≤◌, Bool, true, false, cond, ◌&&◌, ◌||◌, List, [], ◌∷◌, ◌++◌, length, refl, ap, ◌∙◌, sym, subst, arith, append_assoc, append-nil, Option, None, Some, Ok, Err}
use Rattle.std.proofs.lemmas.Grind.{common_steps}
use Rattle.std.proofs.lemmas.List.{length-append}
use Rattle.std.specs.Prelude.{nat_eq, nat_le, nat_lt}
use Rattle.std.specs.Bool.{MatchBool}
use Rattle.ut_script.specs.declared.lines.LineError.TheVariants.{Read, TooLong}
use Rattle.ut_script.specs.Words.{has_bytes}
use Rattle.ut_script.specs.Lines.{Reading, lines_of, onto_line, has_no_feed, is_long, has_line, is_past, NextLine, HandsOut, Ends, counted}
use Rattle.ut_script.specs.LineSteps.{EndsLine, JoinsLine, BreaksLine, Fills, ReadsLine}

pub lines_of-fed : (line rest : List ℕ) → has_no_feed line ≡ true → lines_of (line ++ 10 ∷ rest) ≡ line ∷ lines_of rest
lines_of-fed [] rest h = refl
lines_of-fed (b ∷ line) rest h = fed_by (nat_eq b 10) b line rest h (λ k. lines_of-fed line rest k)
  where
    fed_by : (t : Bool) (b : ℕ) (line rest : List ℕ) → cond t false (has_no_feed line) ≡ true → (has_no_feed line ≡ true → lines_of (line ++ 10 ∷ rest) ≡ line ∷ lines_of rest)
        → cond t ([] ∷ lines_of (line ++ 10 ∷ rest)) (onto_line b (lines_of (line ++ 10 ∷ rest))) ≡ (b ∷ line) ∷ lines_of rest
    fed_by true b line rest h more = cc
    fed_by false b line rest h more = ap (onto_line b) (more h)

last_by : (t : Bool) (b : ℕ) (line : List ℕ) (ls : List (List ℕ)) → cond t false (has_no_feed line) ≡ true → (has_no_feed line ≡ true → onto_line b ls ≡ (b ∷ line) ∷ [])
    → cond t ([] ∷ ls) (onto_line b ls) ≡ (b ∷ line) ∷ []
last_by true b line ls h more = cc
last_by false b line ls h more = more h

-- what stands behind the last line feed is a line
lines_of-last : (b : ℕ) (line : List ℕ) → has_no_feed (b ∷ line) ≡ true → lines_of (b ∷ line) ≡ (b ∷ line) ∷ []
lines_of-last b [] h = last_by (nat_eq b 10) b [] [] h (λ k. refl)
lines_of-last b (c ∷ line) h = last_by (nat_eq b 10) b (c ∷ line) (lines_of (c ∷ line)) h (λ k. ap (onto_line b) (lines_of-last c line k))

more_by : (t : Bool) (line piece : List ℕ) → cond t false (has_no_feed line) ≡ true → (has_no_feed line ≡ true → has_no_feed (line ++ piece) ≡ true) → cond t false (has_no_feed (line ++ piece)) ≡ true
more_by true line piece h more = h
more_by false line piece h more = more h

pub has_no_feed-append : (line piece : List ℕ) → has_no_feed line ≡ true → has_no_feed piece ≡ true → has_no_feed (line ++ piece) ≡ true
has_no_feed-append [] piece h k = k
has_no_feed-append (b ∷ line) piece h k = more_by (nat_eq b 10) line piece h (λ g. has_no_feed-append line piece g k)

-- how long the first line is
first_len : List (List ℕ) → ℕ
first_len [] = 0
first_len (line ∷ lines) = length line

first_onto : (b : ℕ) (lines : List (List ℕ)) → first_len (onto_line b lines) ≡ suc (first_len lines)
unfolding first_len
first_onto b [] = refl
first_onto b (l ∷ ls) = refl

-- the first line begins with what holds no line feed
first_len-append : (line rest : List ℕ) → has_no_feed line ≡ true → length line ≤ first_len (lines_of (line ++ rest))
first_len-append [] rest h = omega arith
first_len-append (b ∷ line) rest h = by_feed (nat_eq b 10) b line rest h (λ k. first_len-append line rest k)
  where
    by_feed : (t : Bool) (b : ℕ) (line rest : List ℕ) → cond t false (has_no_feed line) ≡ true → (has_no_feed line ≡ true → length line ≤ first_len (lines_of (line ++ rest)))
        → length (b ∷ line) ≤ first_len (cond t ([] ∷ lines_of (line ++ rest)) (onto_line b (lines_of (line ++ rest))))
    by_feed true b line rest h more = cc
    by_feed false b line rest h more = let below = more h in let is = first_onto b (lines_of (line ++ rest)) in omega (arith, below, is)

is_long-first : (lines : List (List ℕ)) → 65536 < first_len lines → is_long lines ≡ true
unfolding first_len
is_long-first [] h = absurd (omega arith)
is_long-first (line ∷ lines) h = grind (arith, common_steps)

or_true : (t : Bool) → (t || true) ≡ true
or_true true = refl
or_true false = refl

past_long : (r : Reading) (lines : List (List ℕ)) → is_long lines ≡ true → is_past r lines ≡ true
past_long r lines h = ap (λ (t : Bool). (nat_le r.limit r.number && has_line lines) || t) h ∙ or_true (nat_le r.limit r.number && has_line lines)

onto_has : (t : Bool) (b : ℕ) (lines : List (List ℕ)) → has_line (cond t ([] ∷ lines) (onto_line b lines)) ≡ true
onto_has true b lines = refl
onto_has false b [] = refl
onto_has false b (l ∷ ls) = refl

some_line : (held after : List ℕ) → 0 < length held → has_line (lines_of (held ++ after)) ≡ true
some_line [] after h = absurd (omega arith)
some_line (b ∷ held) after h = onto_has (nat_eq b 10) b (lines_of (held ++ after))

not_past : (r : Reading) (line : List ℕ) (lines : List (List ℕ)) → r.number < r.limit → length line ≤ 65536 → is_past r (line ∷ lines) ≡ false
not_past r line lines h k =
    let few : nat_le r.limit r.number ≡ false = grind (arith, common_steps) in
    let short : nat_lt 65536 (length line) ≡ false = grind (arith, common_steps) in
    ap (λ (t : Bool). (t && true) || nat_lt 65536 (length line)) few ∙ short

-- bytes are held, or the input ended, as the answer says
pub fills_on : (E : Type 0) (old : Reading) (mid : Option (List ℕ)) (filled : Reading) (left : Option (List ℕ)) (some is : Bool) → some ≡ is → Fills {E = E} old mid (Ok some) filled left → Fills {E = E} old mid (Ok is) filled left
fills_on E old mid filled left some is e fills = subst (λ (t : Bool). Fills {E = E} old mid (Ok t) filled left) e fills

-- what was held moved, as the answer says
pub piece_on : (filled now : Reading) (ended is : Bool) → ended ≡ is → MatchBool ended (EndsLine filled now) (JoinsLine filled now) → MatchBool is (EndsLine filled now) (JoinsLine filled now)
piece_on filled now ended is e piece = subst (λ (t : Bool). MatchBool t (EndsLine filled now) (JoinsLine filled now)) e piece

-- one line more than there may be
pub past_limit : (E : Type 0) (old : Reading) (start : Option (List ℕ)) (new : Reading) (left : Option (List ℕ)) → old.number ≡ old.limit → Fills {E = E} old start (Ok true) new left → 0 < length new.held → NextLine old start (Err TooLong) new left
past_limit E old None new left e fills h = tt
past_limit E old (Some before) new left e fills h =
    let le : nat_le old.limit old.number ≡ true = grind (arith, common_steps) in
    let has : has_line (lines_of (old.held ++ before)) ≡ true = ap (λ (xs : List ℕ). has_line (lines_of xs)) fills.same ∙ some_line new.held fills.after h in
    record {
      after = fills.after;
      is_left = fills.is_left;
      taken = ap (λ (t : Bool). (t && has_line (lines_of (old.held ++ before))) || is_long (lines_of (old.held ++ before))) le ∙ ap (λ (t : Bool). t || is_long (lines_of (old.held ++ before))) has;
    }

-- the source failed
pub unread : {E : Type 0} (r0 : Reading) (start : Option (List ℕ)) (old : Reading) (mid : Option (List ℕ)) (e : E) (new now : Reading) (left : Option (List ℕ)) → ReadsLine r0 start old mid → Fills old mid (Err e) new left → NextLine r0 start (Err Read) now left
unread r0 None old mid e new now left part fills = tt
unread r0 (Some before) old mid e new now left part fills =
    let filled = subst (λ (m : Option (List ℕ)). Fills old m (Err e) new left) part.is_left fills in
    record { after = filled.after; is_left = filled.is_left; taken = tt }

-- a line begins with nothing
pub begins : (r0 : Reading) (start : Option (List ℕ)) (now : Reading) → now.held ≡ r0.held → now.line ≡ [] → ReadsLine r0 start now start
begins r0 None now h l = tt
begins r0 (Some before) now h l =
    record {
      after = before;
      is_left = refl;
      parts = ap (λ (xs : List ℕ). xs ++ before) (sym h) ∙ ap (λ (xs : List ℕ). xs ++ (now.held ++ before)) (sym l);
      took = [];
      taken = refl;
      read = append-nil r0.held ∙ sym h ∙ ap (λ (xs : List ℕ). xs ++ now.held) (sym l);
      no_feed = ap has_no_feed l;
    }

-- two parts of what was left
took_more : (first then mid after before : List ℕ) → before ≡ first ++ mid → mid ≡ then ++ after → before ≡ (first ++ then) ++ after
took_more first then mid after before h k = h ∙ ap (λ (xs : List ℕ). first ++ xs) k ∙ sym (append_assoc first then after)

held_more : (start first then line held filled : List ℕ) → start ++ first ≡ line ++ held → filled ≡ held ++ then → start ++ (first ++ then) ≡ line ++ filled
held_more start first then line held filled h k =
    sym (append_assoc start first then) ∙ ap (λ (xs : List ℕ). xs ++ then) h ∙ append_assoc line held then ∙ ap (λ (xs : List ℕ). line ++ xs) (sym k)

-- the line grows by all that is held
pub grows : (E : Type 0) (r0 : Reading) (start : Option (List ℕ)) (old : Reading) (mid : Option (List ℕ)) (filled now : Reading) (left : Option (List ℕ))
    → ReadsLine r0 start old mid → Fills {E = E} old mid (Ok true) filled left → filled.line ≡ old.line → JoinsLine filled now → ReadsLine r0 start now left
grows E r0 None old mid filled now left part fills same joins = tt
grows E r0 (Some before) old mid filled now left part fills same joins =
    let f = subst (λ (m : Option (List ℕ)). Fills {E = E} old m (Ok true) filled left) part.is_left fills in
    let line : now.line ≡ old.line ++ filled.held = joins.line ∙ ap (λ (xs : List ℕ). xs ++ filled.held) same in
    record {
      after = f.after;
      is_left = f.is_left;
      parts = part.parts ∙ ap (λ (xs : List ℕ). old.line ++ xs) f.same ∙ sym (append_assoc old.line filled.held f.after)
          ∙ ap (λ (xs : List ℕ). xs ++ f.after) (sym line) ∙ ap (λ (xs : List ℕ). now.line ++ (xs ++ f.after)) (sym joins.held);
      took = part.took ++ f.took;
      taken = took_more part.took f.took part.after f.after before part.taken f.taken;
      read = held_more r0.held part.took f.took old.line old.held filled.held part.read f.held ∙ sym line ∙ sym (append-nil now.line) ∙ ap (λ (xs : List ℕ). now.line ++ xs) (sym joins.held);
      no_feed = ap has_no_feed line ∙ has_no_feed-append old.line filled.held part.no_feed joins.no_feed;
    }

-- the line ends at a line feed
pub fed : (E : Type 0) (r0 : Reading) (start : Option (List ℕ)) (old : Reading) (mid : Option (List ℕ)) (filled ended now : Reading) (left : Option (List ℕ))
    → ReadsLine r0 start old mid → Fills {E = E} old mid (Ok true) filled left → filled.line ≡ old.line → EndsLine filled ended → now.line ≡ ended.line → now.held ≡ ended.held → r0.number < r0.limit → length ended.line ≤ 65536
    → NextLine r0 start (Ok true) now left
fed E r0 None old mid filled ended now left part fills same ends is_line is_held few short = tt
fed E r0 (Some before) old mid filled ended now left part fills same ends is_line is_held few short =
    let f = subst (λ (m : Option (List ℕ)). Fills {E = E} old m (Ok true) filled left) part.is_left fills in
    let line : now.line ≡ old.line ++ ends.piece = is_line ∙ ends.line ∙ ap (λ (xs : List ℕ). xs ++ ends.piece) same in
    let rest = 10 ∷ (ended.held ++ f.after) in
    let parts : r0.held ++ before ≡ (old.line ++ ends.piece) ++ rest =
    part.parts ∙ ap (λ (xs : List ℕ). old.line ++ xs) (f.same ∙ ap (λ (xs : List ℕ). xs ++ f.after) ends.parts ∙ append_assoc ends.piece (10 ∷ ended.held) f.after) ∙ sym (append_assoc old.line ends.piece rest) in
    let lines : lines_of (r0.held ++ before) ≡ now.line ∷ lines_of (now.held ++ f.after) =
    ap lines_of parts ∙ lines_of-fed (old.line ++ ends.piece) (ended.held ++ f.after) (has_no_feed-append old.line ends.piece part.no_feed ends.no_feed)
    ∙ ap (λ (l : List ℕ). l ∷ lines_of (ended.held ++ f.after)) (sym line) ∙ ap (λ (h : List ℕ). now.line ∷ lines_of (h ++ f.after)) (sym is_held) in
    let fits : length now.line ≤ 65536 = subst (λ (l : List ℕ). length l ≤ 65536) (sym is_line) short in
    record {
      after = f.after;
      is_left = f.is_left;
      taken = record { within = ap (λ (ls : List (List ℕ)). is_past r0 ls) lines ∙ not_past r0 now.line (lines_of (now.held ++ f.after)) few fits; line = lines };
    }

-- the line is too long
pub breaks : (E : Type 0) (r0 : Reading) (start : Option (List ℕ)) (old : Reading) (mid : Option (List ℕ)) (filled now : Reading) (left : Option (List ℕ))
    → ReadsLine r0 start old mid → Fills {E = E} old mid (Ok true) filled left → filled.line ≡ old.line → BreaksLine filled → NextLine r0 start (Err TooLong) now left
breaks E r0 None old mid filled now left part fills same long = tt
breaks E r0 (Some before) old mid filled now left part fills same long =
    let f = subst (λ (m : Option (List ℕ)). Fills {E = E} old m (Ok true) filled left) part.is_left fills in
    let line = old.line ++ long.piece in
    let rest = long.rest ++ f.after in
    let parts : r0.held ++ before ≡ line ++ rest =
    part.parts ∙ ap (λ (xs : List ℕ). old.line ++ xs) (f.same ∙ ap (λ (xs : List ℕ). xs ++ f.after) long.parts ∙ append_assoc long.piece long.rest f.after) ∙ sym (append_assoc old.line long.piece rest) in
    let first = first_len-append line rest (has_no_feed-append old.line long.piece part.no_feed long.no_feed) in
    let over : 65536 < first_len (lines_of (line ++ rest)) = omega (arith, first, length-append old.line long.piece, subst (λ (l : List ℕ). 65536 < length l + length long.piece) same long.long) in
    record {
      after = f.after;
      is_left = f.is_left;
      taken = past_long r0 (lines_of (r0.held ++ before)) (is_long-first (lines_of (r0.held ++ before)) (subst (λ (xs : List ℕ). 65536 < first_len (lines_of xs)) (sym parts) over));
    }

ended_by : (r0 : Reading) (before line held after : List ℕ) (now : Reading) → lines_of (r0.held ++ before) ≡ lines_of line → has_no_feed line ≡ true → held ++ after ≡ [] → after ≡ [] → now.line ≡ line → now.held ≡ held
    → r0.number < r0.limit → length line ≤ 65536 → MatchBool (has_bytes line) (HandsOut r0 before now after) (Ends r0 before after)
ended_by r0 before [] held after now whole h none end is_line is_held few short = record { none = whole; end = end }
ended_by r0 before (b ∷ line) held after now whole h none end is_line is_held few short =
    let rest : lines_of (now.held ++ after) ≡ [] = ap (λ (xs : List ℕ). lines_of (xs ++ after)) is_held ∙ ap lines_of none in
    let lines : lines_of (r0.held ++ before) ≡ now.line ∷ lines_of (now.held ++ after) =
    whole ∙ lines_of-last b line h ∙ ap (λ (ls : List (List ℕ)). (b ∷ line) ∷ ls) (sym rest) ∙ ap (λ (l : List ℕ). l ∷ lines_of (now.held ++ after)) (sym is_line) in
    let fits : length now.line ≤ 65536 = subst (λ (l : List ℕ). length l ≤ 65536) (sym is_line) short in
    record { within = ap (λ (ls : List (List ℕ)). is_past r0 ls) lines ∙ not_past r0 now.line (lines_of (now.held ++ after)) few fits; line = lines }

-- the input ends, and with it a line that has a byte
pub ends : (E : Type 0) (r0 : Reading) (start : Option (List ℕ)) (old : Reading) (mid : Option (List ℕ)) (filled now : Reading) (left : Option (List ℕ)) (some : Bool)
    → ReadsLine r0 start old mid → Fills {E = E} old mid (Ok false) filled left → filled.line ≡ old.line → some ≡ has_bytes filled.line → now.line ≡ filled.line → now.held ≡ filled.held → r0.number < r0.limit → length filled.line ≤ 65536
    → NextLine r0 start (Ok some) now left
ends E r0 None old mid filled now left some part fills same is is_line is_held few short = tt
ends E r0 (Some before) old mid filled now left some part fills same is is_line is_held few short =
    let f = subst (λ (m : Option (List ℕ)). Fills {E = E} old m (Ok false) filled left) part.is_left fills in
    let whole : r0.held ++ before ≡ filled.line = part.parts ∙ ap (λ (xs : List ℕ). old.line ++ xs) f.none.0 ∙ append-nil old.line ∙ sym same in
    record {
      after = f.after;
      is_left = f.is_left;
      taken = subst (λ (t : Bool). MatchBool t (HandsOut r0 before now f.after) (Ends r0 before f.after)) (sym is)
          (ended_by r0 before filled.line filled.held f.after now (ap lines_of whole) (ap has_no_feed same ∙ part.no_feed) (sym f.same ∙ f.none.0) f.none.1 is_line is_held few short);
    }

pub counted-line : (t : Bool) (r : Reading) → (cond t (counted r) r).line ≡ r.line
counted-line true r = refl
counted-line false r = refl

pub counted-held : (t : Bool) (r : Reading) → (cond t (counted r) r).held ≡ r.held
counted-held true r = refl
counted-held false r = refl
