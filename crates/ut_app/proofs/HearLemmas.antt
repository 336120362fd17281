-- What is heard of a line, and what is counted of it.
use Rattle.std.proofs.Common.{inl, inr, ℕ, ◌+◌, ◌≡◌, ◌≤◌, ◌⊎◌, Bool, true, false, cond, List, [], ◌∷◌, ◌++◌, length, Option, None, Some, refl, ap, ◌∙◌, sym, subst, arith}
use Rattle.std.specs.Prelude.{ℤ}
use Rattle.std.specs.List.{filter}
use Rattle.std.proofs.lemmas.List.{length-append}
use Rattle.std.proofs.lemmas.List.Elements.{filter-append}
use Rattle.ut_outside.specs.Disk.{View}
use Rattle.ut_plain.specs.declared.statement.Statement.{Statement}
use Rattle.ut_plain.specs.declared.statement.Parsed.{Parsed}
use Rattle.ut_plain.specs.declared.statement.Parsed.TheVariants.{Comment, Stranger, Bad, Good}
use Rattle.ut_plain.specs.declared.reply.Reply.{Reply}
use Rattle.ut_plain.specs.declared.reply.Reply.TheVariants as replies
use Rattle.ut_plain.specs.declared.reply.Refusal.TheVariants as refusals
use Rattle.ut_plain.specs.Plain.{Plain}
use Rattle.ut_plain.specs.Step.{step}
use Rattle.ut_plain.specs.Transcript.{Answer, AnswersLine}
use Rattle.ut_script.specs.Grammar.{MayLackMemory}
use Rattle.ut_engine.specs.Logged.{Logged}
use Rattle.ut_engine.specs.Serves.{Serves, IsAnswered, IsLost}
use Rattle.ut_app.specs.declared.tally.Heard.{Heard}
use Rattle.ut_app.specs.declared.tally.Heard.TheVariants as heards
use Rattle.ut_app.specs.declared.tally.Tally.{Tally}
use Rattle.ut_app.specs.Hearing.{is_refusal, sum_in, refusals_in, last_sum, tally_of, heard_of, counted, Quiet, Answered, Failed, Hearing, Hears, MayHear, Noting, noted_by}
use Rattle.ut_course.proofs.KeepLemmas.{OnlyNow, still}
use Rattle.ut_run.proofs.SayLemmas.{lacks}

-- ---- lines

hearing_by : (p : Plain) (before : View) (session : ℕ) (st : Statement) (reply : Reply) (new : Logged) (after : View) (heard : Heard) → heard ≡ heard_of reply → IsAnswered p before session st reply new after ⊎ IsLost p before session st reply new after → Hearing p (Good session st) before heard new after
hearing_by p before session st reply new after heard e (inl a) =
    Answered (record { session = Some session; reply = reply }) a.plain e a.sound (record { reply = reply; is = refl; may = a.may }) a.runs a.any_moment
hearing_by p before session st reply new after heard e (inr l) =
    Failed (record { session = Some session; reply = replies.DiskFault }) (step p session st).plain (e ∙ ap heard_of l.fault) (record { session = session; st = st; is_line = refl; answered = refl; steps = refl; may = l.may }) l.any_moment

pub hears_statement : (old : Logged) (before : View) (line : Parsed) (session : ℕ) (st : Statement) (reply : Reply) (new : Logged) (after : View) (heard : Heard) → line ≡ Good session st → Serves old before session st reply new after → heard ≡ heard_of reply → Hears old before line heard new after
hears_statement old before line session st reply new after heard is serves e =
    subst (λ (l : Parsed). Hears old before l heard new after) (sym is) (record { each = λ p runs. hearing_by p before session st reply new after heard e (serves.each p runs) })

pub hears_nothing : (e : Logged) (v : View) (line : Parsed) (heard : Heard) → OnlyNow v → line ≡ Comment → heard ≡ heards.Nothing → Hears e v line heard e v
hears_nothing e v line heard only is h = record { each = λ p runs. Quiet p h (subst (λ (l : Parsed). AnswersLine p l [] p) (sym is) (refl, refl)) runs (still e v p only runs) }

pub hears_stranger : (e : Logged) (v : View) (line : Parsed) (heard : Heard) → OnlyNow v → line ≡ Stranger → heard ≡ heards.Refusal → Hears e v line heard e v
hears_stranger e v line heard only is h =
    let a : Answer = record { session = None; reply = replies.Refused refusals.Syntax } in
    record { each = λ p runs. Answered a p h (λ k. cc) (subst (λ (l : Parsed). AnswersLine p l (a ∷ []) p) (sym is) (refl, refl)) runs (still e v p only runs) }

pub hears_bad : (e : Logged) (v : View) (line : Parsed) (session : ℕ) (heard : Heard) → OnlyNow v → line ≡ Bad session → heard ≡ heards.Refusal → Hears e v line heard e v
hears_bad e v line session heard only is h =
    let a : Answer = record { session = Some session; reply = replies.Refused refusals.Syntax } in
    record { each = λ p runs. Answered a p h (λ k. cc) (subst (λ (l : Parsed). AnswersLine p l (a ∷ []) p) (sym is) (refl, refl)) runs (still e v p only runs) }

pub hears_lacking : (e : Logged) (v : View) (line : Parsed) (session : ℕ) (heard : Heard) → OnlyNow v → MayLackMemory session line → heard ≡ heards.Refusal → Hears e v line heard e v
hears_lacking e v line session heard only may h =
    let a : Answer = record { session = Some session; reply = replies.Refused refusals.Memory } in
    record { each = λ p runs. Answered a p h (λ k. cc) (lacks p line session may) runs (still e v p only runs) }

-- ---- the faults of the disk

fault_of : (reply : Reply) → heard_of reply ≡ heards.Fault → reply ≡ replies.DiskFault
fault_of replies.Done h = cc
fault_of (replies.Committed n) h = cc
fault_of (replies.Changed a b) h = cc
fault_of (replies.Rows a) h = cc
fault_of (replies.Groups a) h = cc
fault_of (replies.Count a) h = cc
fault_of (replies.Sum a) h = cc
fault_of (replies.Min a) h = cc
fault_of (replies.Max a) h = cc
fault_of (replies.Moved a) h = cc
fault_of (replies.Merge a) h = cc
fault_of (replies.Saving a b) h = cc
fault_of (replies.Sealed a) h = cc
fault_of (replies.Root a) h = cc
fault_of (replies.Shape a) h = cc
fault_of (replies.Refused a) h = cc
fault_of replies.DiskFault h = refl

pub heard_faults : (old : Logged) (before : View) (session : ℕ) (st : Statement) (reply : Reply) (new : Logged) (after : View) (heard : Heard) → Serves old before session st reply new after → heard ≡ heard_of reply → MayHear before after heard
heard_faults old before session st reply new after heard s e = record {
  told = s.told;
  no_fewer = s.later;
  cause = λ is. s.cause (fault_of reply (sym e ∙ is));
  still = λ not. s.still (λ is. not (e ∙ ap heard_of is));
}

-- ---- what is counted

abbrev refuses : Answer → Bool
refuses a = is_refusal a.reply

last_sum-one : (answers : List Answer) (a : Answer) → last_sum (answers ++ a ∷ []) ≡ sum_in a.reply
last_sum-one [] a = refl
last_sum-one (x ∷ []) a = refl
last_sum-one (x ∷ y ∷ answers) a = last_sum-one (y ∷ answers) a

abbrev one_refusal : Bool → ℕ
one_refusal true = 1
one_refusal false = 0

refusals_one : (a : Answer) → length (filter refuses (a ∷ [])) ≡ one_refusal (is_refusal a.reply)
refusals_one a = by (is_refusal a.reply)
  where
    by : (t : Bool) → length (cond t (a ∷ []) []) ≡ one_refusal t
    by true = refl
    by false = refl

refusals_more : (answers : List Answer) (a : Answer) → refusals_in (answers ++ a ∷ []) ≡ refusals_in answers + one_refusal (is_refusal a.reply)
refusals_more answers a =
    ap length (filter-append refuses answers (a ∷ [])) ∙ length-append (filter refuses answers) (filter refuses (a ∷ [])) ∙ ap (λ (n : ℕ). refusals_in answers + n) (refusals_one a)

-- a tally with these
abbrev tally_with : ℕ → Option ℤ → Tally
tally_with n total = record { refused = n; total = total }

-- a tally with one reply more
counted_reply : (t : Tally) (r : Reply) → (r ≡ replies.DiskFault → ⊥) → counted t (heard_of r) ≡ tally_with (t.refused + one_refusal (is_refusal r)) (sum_in r)
counted_reply t r h = by r h
  where
    none : (o : Option ℤ) → tally_with t.refused o ≡ tally_with (t.refused + 0) o
    none o = ap (λ (n : ℕ). tally_with n o) (omega arith)

    by : (r : Reply) → (r ≡ replies.DiskFault → ⊥) → counted t (heard_of r) ≡ tally_with (t.refused + one_refusal (is_refusal r)) (sum_in r)
    by replies.Done h = none None
    by (replies.Committed n) h = none None
    by (replies.Changed a b) h = none None
    by (replies.Rows a) h = none None
    by (replies.Groups a) h = none None
    by (replies.Count a) h = none None
    by (replies.Sum n) h = none (Some n)
    by (replies.Min a) h = none None
    by (replies.Max a) h = none None
    by (replies.Moved a) h = none None
    by (replies.Merge a) h = none None
    by (replies.Saving a b) h = none None
    by (replies.Sealed a) h = none None
    by (replies.Root a) h = none None
    by (replies.Shape a) h = none None
    by (replies.Refused a) h = refl
    by replies.DiskFault h = absurd (h refl)

pub tally_more : (answers : List Answer) (a : Answer) → (a.reply ≡ replies.DiskFault → ⊥) → counted (tally_of answers) (heard_of a.reply) ≡ tally_of (answers ++ a ∷ [])
tally_more answers a h =
    counted_reply (tally_of answers) a.reply h
    ∙ ap (λ (n : ℕ). tally_with n (sum_in a.reply)) (sym (refusals_more answers a))
    ∙ ap (λ (o : Option ℤ). tally_with (refusals_in (answers ++ a ∷ [])) o) (sym (last_sum-one answers a))

-- an answer counts once at most
pub refused_one : (t : Tally) (r : Reply) (n : ℕ) → (r ≡ replies.DiskFault → ⊥) → t.refused ≤ n → (counted t (heard_of r)).refused ≤ n + 1
refused_one t r n h le = subst (λ (u : Tally). u.refused ≤ n + 1) (sym (counted_reply t r h)) (by (is_refusal r))
  where
    by : (b : Bool) → t.refused + one_refusal b ≤ n + 1
    by true = omega (arith, le)
    by false = omega (arith, le)

-- ---- what is noted

pub noted_answer : (n : Noting) (was now moment : ℕ) (r : Reply) → (r ≡ replies.DiskFault → ⊥)
    → noted_by (heard_of r) n was now moment ≡ record { acks = n.acks ++ record { journal = now; moment = moment } ∷ []; journal = now; tally = counted n.tally (heard_of r) }
noted_answer n was now moment replies.Done h = refl
noted_answer n was now moment (replies.Committed a) h = refl
noted_answer n was now moment (replies.Changed a b) h = refl
noted_answer n was now moment (replies.Rows a) h = refl
noted_answer n was now moment (replies.Groups a) h = refl
noted_answer n was now moment (replies.Count a) h = refl
noted_answer n was now moment (replies.Sum a) h = refl
noted_answer n was now moment (replies.Min a) h = refl
noted_answer n was now moment (replies.Max a) h = refl
noted_answer n was now moment (replies.Moved a) h = refl
noted_answer n was now moment (replies.Merge a) h = refl
noted_answer n was now moment (replies.Saving a b) h = refl
noted_answer n was now moment (replies.Sealed a) h = refl
noted_answer n was now moment (replies.Root a) h = refl
noted_answer n was now moment (replies.Shape a) h = refl
noted_answer n was now moment (replies.Refused a) h = refl
noted_answer n was now moment replies.DiskFault h = absurd (h refl)
