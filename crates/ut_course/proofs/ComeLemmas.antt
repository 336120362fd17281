-- What a line of a session comes to, and a statement of the store.
use Rattle.std.proofs.Common.{inl, inr, ℕ, zero, suc, ◌≡◌, ◌<◌, ◌≤◌, ◌⊎◌, Bool, true, false, cond, ◌&&◌, List, [], ◌∷◌, Option, None, Some, refl, ap, ◌∙◌, sym, subst, arith}
use Rattle.std.proofs.lemmas.Grind.{common_steps}
use Rattle.std.specs.Prelude.{nat_eq, nat_le}
use Rattle.ut_outside.specs.Disk.{View}
use Rattle.ut_plain.specs.declared.statement.Statement.{Statement}
use Rattle.ut_plain.specs.declared.statement.Statement.TheVariants as statements
use Rattle.ut_plain.specs.declared.statement.Parsed.{Parsed}
use Rattle.ut_plain.specs.declared.statement.Parsed.TheVariants.{Comment, Stranger, Bad, Good}
use Rattle.ut_plain.specs.declared.reply.Reply.{Reply}
use Rattle.ut_plain.specs.declared.reply.Reply.TheVariants as replies
use Rattle.ut_plain.specs.declared.reply.Refusal.TheVariants as refusals
use Rattle.ut_plain.specs.Plain.{Plain}
use Rattle.ut_plain.specs.Spelled.{is_spelled}
use Rattle.ut_plain.specs.Step.{step, LacksMemory, may_lack_memory}
use Rattle.ut_plain.specs.Transcript.{AnswersLine}
use Rattle.ut_plain.specs.Laws.{is_spelled_line}
use Rattle.ut_store.specs.Standing.{suits_session}
use Rattle.ut_script.specs.Words.{words_of}
use Rattle.ut_script.specs.Literals.{number_of, within}
use Rattle.ut_script.specs.Statements.{needs_memory}
use Rattle.ut_script.specs.Grammar.{MayLackMemory, session_of, statement_of, said_by, line_with, line_of, parsed}
use Rattle.ut_script.proofs.SpelledLaws.{passes, if_passes, lines_spelled}
use Rattle.ut_engine.specs.Logged.{Logged}
use Rattle.ut_engine.specs.Runs.{Runs}
use Rattle.ut_engine.specs.Serves.{Serves, IsAnswered, IsLost}
use Rattle.ut_course.specs.Coming.{is_of, session_in, is_good, Came, Answered, Lost, KeepsJob, Comes}
use Rattle.ut_course.proofs.KeepLemmas.{OnlyNow, still}
use Rattle.ut_course.proofs.JobLemmas.{job_stays, job_lost}

-- ---- the session of a line

pub record InRange (session : ℕ) : Type 0 where
  pub least : 1 ≤ session
  pub most : session < 17

eq_of : (n m : ℕ) → nat_eq n m ≡ true → n ≡ m
eq_of n m h = grind (arith, common_steps, h)

range_of : (n : ℕ) → (nat_le 1 n && nat_le n 16) ≡ true → InRange n
range_of n h = record { least = grind (arith, common_steps, h); most = grind (arith, common_steps, h) }

by_owner : (session n : ℕ) → is_of session (Some n) ≡ true → (nat_le 1 n && nat_le n 16) ≡ true → InRange session
by_owner session n h k = subst InRange (eq_of n session h) (range_of n k)

within_passes : (least most : ℕ) (n : Option ℕ) → passes (λ m. nat_le least m && nat_le m most) (within least most n) ≡ true
within_passes least most None = refl
within_passes least most (Some n) = if_passes (λ m. nat_le least m && nat_le m most) (nat_le least n && nat_le n most) (Some n) None (λ h. h) refl

said_range : (session n : ℕ) (st : Option Statement) → is_of session (session_in (said_by n st)) ≡ true → (nat_le 1 n && nat_le n 16) ≡ true → InRange session
said_range session n None h k = by_owner session n h k
said_range session n (Some st) h k = by_owner session n h k

with_range : (session : ℕ) (who : Option ℕ) (words : List (List ℕ)) → passes (λ n. nat_le 1 n && nat_le n 16) who ≡ true → is_of session (session_in (line_with who words)) ≡ true → InRange session
with_range session None words k h = cc
with_range session (Some n) words k h = said_range session n (statement_of n words) h k

words_range : (session : ℕ) (words : List (List ℕ)) → is_of session (session_in (line_of true words)) ≡ true → InRange session
words_range session [] h = cc
words_range session (word ∷ words) h = with_range session (session_of true word) words (within_passes 1 16 (number_of word)) h

sign_range : (session : ℕ) (t : Bool) (line : Parsed) → (is_of session (session_in line) ≡ true → InRange session) → is_of session (session_in (cond t Comment line)) ≡ true → InRange session
sign_range session true line f h = cc
sign_range session false line f h = f h

-- in a crowd a line is of a session from 1 to 16
pub in_range : (session : ℕ) (line : List ℕ) → is_of session (session_in (parsed true line)) ≡ true → InRange session
in_range session [] h = cc
in_range session (b ∷ bytes) h = sign_range session (nat_eq b 35) (line_of true (words_of (b ∷ bytes))) (words_range session (words_of (b ∷ bytes))) h

pub suits : (session : ℕ) (st : Statement) → 1 ≤ session → suits_session session st ≡ true
suits zero st h = absurd (omega (arith, h))
suits (suc n) st h = refl

pub spelled : (line : Parsed) (session : ℕ) (st : Statement) → line ≡ Good session st → is_spelled_line line ≡ true → is_spelled st ≡ true
spelled line session st is h = subst (λ (l : Parsed). is_spelled_line l ≡ true) is h

pub spelled_line : (line : List ℕ) (p : Parsed) → p ≡ parsed true line → is_spelled_line p ≡ true
spelled_line line p is = subst (λ (l : Parsed). is_spelled_line l ≡ true) (sym is) (lines_spelled true line)

-- ---- statements

came_by : (p : Plain) (before : View) (session : ℕ) (st : Statement) (reply : Reply) (new : Logged) (after : View) → IsAnswered p before session st reply new after ⊎ IsLost p before session st reply new after
    → Came p (Good session st) (Some session) before reply new after
came_by p before session st reply new after (inl a) = Answered a.plain a.sound (record { reply = reply; is = refl; may = a.may }) a.runs a.any_moment
came_by p before session st reply new after (inr l) =
    Lost (step p session st).plain l.fault l.down
    (record { session = session; st = st; is_line = refl; answered = ap (λ (r : Reply). record { session = Some session; reply = r } ∷ []) l.fault; steps = refl; may = l.may })
    l.any_moment

job_by : (old : Logged) (p : Plain) (before : View) (session : ℕ) (st : Statement) (reply : Reply) (new : Logged) (after : View) → Runs old before p → IsAnswered p before session st reply new after ⊎ IsLost p before session st reply new after → KeepsJob (Good session st) old new
job_by old p before session st reply new after runs (inl a) = λ leaves. job_stays old new before after p a.plain (Good session st) (record { session = Some session; reply = reply } ∷ []) runs a.runs (record { reply = reply; is = refl; may = a.may }) leaves
job_by old p before session st reply new after runs (inr l) = λ leaves. job_lost old new before p session st runs l.stands leaves

-- what the engine answers a statement of a session
pub comes_statement : (old : Logged) (before : View) (session : ℕ) (st : Statement) (reply : Reply) (new : Logged) (after : View) → Serves old before session st reply new after → Comes old before (Good session st) (Some session) reply new after
comes_statement old before session st reply new after s = record {
  each = λ p runs. came_by p before session st reply new after (s.each p runs);
  job = λ p runs. job_by old p before session st reply new after runs (s.each p runs);
  told = s.told;
  later = s.later;
  cause = s.cause;
  still = s.still;
}

-- a good line of the session
pub comes_good : (old : Logged) (before : View) (line : Parsed) (session n : ℕ) (st : Statement) (reply : Reply) (new : Logged) (after : View) → line ≡ Good n st → is_of session (session_in line) ≡ true → Serves old before session st reply new after
    → Comes old before line (Some session) reply new after
comes_good old before line session n st reply new after is own s =
    let same : n ≡ session = eq_of n session (subst (λ (l : Parsed). is_of session (session_in l) ≡ true) is own) in
    subst (λ (l : Parsed). Comes old before l (Some session) reply new after) (ap (λ (m : ℕ). Good m st) (sym same) ∙ sym is) (comes_statement old before session st reply new after s)

-- ---- other lines

-- an answer that changes nothing
comes_still : (e : Logged) (v : View) (line : Parsed) (who : Option ℕ) (reply : Reply) → OnlyNow v → (reply ≡ replies.DiskFault → ⊥) → ((p : Plain) → AnswersLine p line (record { session = who; reply = reply } ∷ []) p) → Comes e v line who reply e v
comes_still e v line who reply only sound answers = record {
  each = λ p runs. Answered p sound (answers p) runs (still e v p only runs);
  job = λ p runs leaves. refl;
  told = refl;
  later = omega arith;
  cause = λ is. absurd (sound is);
  still = λ _. refl;
}

bad_line : (session : ℕ) (line : Parsed) → is_of session (session_in line) ≡ true → is_good line ≡ false → (p : Plain) → AnswersLine p line (record { session = Some session; reply = replies.Refused refusals.Syntax } ∷ []) p
bad_line session Comment h k p = cc
bad_line session Stranger h k p = cc
bad_line session (Bad n) h k p = (ap (λ (m : ℕ). record { session = Some m; reply = replies.Refused refusals.Syntax } ∷ []) (sym (eq_of n session h)), refl)
bad_line session (Good n st) h k p = cc

pub comes_bad : (e : Logged) (v : View) (line : Parsed) (session : ℕ) → OnlyNow v → is_of session (session_in line) ≡ true → is_good line ≡ false → Comes e v line (Some session) (replies.Refused refusals.Syntax) e v
comes_bad e v line session only own bad = comes_still e v line (Some session) (replies.Refused refusals.Syntax) only (λ is. cc) (bad_line session line own bad)

pub not_bare : (st : Statement) → needs_memory (Some st) ≡ true → may_lack_memory st ≡ true
not_bare (statements.Create a b) h = refl
not_bare (statements.Insert a b) h = refl
not_bare (statements.Bulk a b) h = refl
not_bare (statements.Ask q) h = refl
not_bare (statements.Update a b c d) h = refl
not_bare (statements.Delete a b) h = refl
not_bare statements.Begin h = cc
not_bare statements.Commit h = cc
not_bare statements.Abort h = cc
not_bare (statements.MergeL1 a b) h = refl
not_bare (statements.MergeBegin a b) h = refl
not_bare statements.MergeEnd h = cc
not_bare statements.SaveBegin h = cc
not_bare (statements.SaveStep n) h = cc
not_bare statements.SaveSeal h = cc
not_bare statements.SaveFlip h = cc
not_bare statements.SaveDrop h = cc
not_bare (statements.Shape a) h = refl

lacks : (session owner : ℕ) (line : Parsed) → MayLackMemory owner line → is_of session (session_in line) ≡ true → (p : Plain) → AnswersLine p line (record { session = Some session; reply = replies.Refused refusals.Memory } ∷ []) p
lacks session owner Comment h k p = absurd h
lacks session owner Stranger h k p = absurd h
lacks session owner (Bad n) h k p = absurd h
lacks session owner (Good n st) h k p = record {
  reply = replies.Refused refusals.Memory;
  is = ap (λ (m : ℕ). record { session = Some m; reply = replies.Refused refusals.Memory } ∷ []) (sym (eq_of n session k));
  may = LacksMemory (not_bare st h.1) refl refl;
}

-- a line for which there is no memory
pub comes_lacking : (e : Logged) (v : View) (line : Parsed) (session owner : ℕ) → OnlyNow v → MayLackMemory owner line → is_of session (session_in line) ≡ true → Comes e v line (Some session) (replies.Refused refusals.Memory) e v
comes_lacking e v line session owner only may own = comes_still e v line (Some session) (replies.Refused refusals.Memory) only (λ is. cc) (lacks session owner line may own)
