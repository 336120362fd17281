-- What a question is answered outside a transaction.
use Rattle.std.proofs.Common.{◌≡◌, ℕ, ◌+◌, ◌-◌, Bool, true, false, cond, List, ◌++◌, length, take, Option, None, Some, refl, ap, ◌∙◌, arith, is_some}
use Rattle.std.specs.Option.{option_map}
use Rattle.std.specs.FinMap as finmap
use Rattle.ut_value.specs.declared.entry.Entry.{Entry}
use Rattle.ut_plain.specs.declared.transaction.OpenTransaction.{OpenTransaction}
use Rattle.ut_plain.specs.declared.stage.PendingMerge.{PendingMerge}
use Rattle.ut_plain.specs.declared.statement.Query.{Query}
use Rattle.ut_plain.specs.declared.statement.Statement.TheVariants.{Ask}
use Rattle.ut_plain.specs.declared.reply.Refusal.{Refusal}
use Rattle.ut_plain.specs.declared.reply.Refusal.TheVariants as refusals
use Rattle.ut_plain.specs.declared.reply.Reply.TheVariants as replies
use Rattle.ut_plain.specs.Kinds.{query_fits}
use Rattle.ut_plain.specs.Names.{query_known}
use Rattle.ut_plain.specs.Query.{told}
use Rattle.ut_plain.specs.State.{State}
use Rattle.ut_plain.specs.Journal.{journal_len, current, after_all}
use Rattle.ut_plain.specs.Plain.{Plain, Phase, Idle, Writing, Sealed, seen_by}
use Rattle.ut_plain.specs.Refusals.{state_why, merge_why, save_why, unless, or_else}
use Rattle.ut_plain.specs.Step.{step_by}
use Rattle.ut_plain.specs.View.{view}
use Rattle.ut_plain.proofs.ListLemmas.{take_within, take_whole}
use Rattle.ut_shot.specs.Answered.{answered}
use Rattle.ut_shot.specs.Laws.{AskedOutside, AnswersStay}

-- neither the session's state, nor a merge, nor a savepoint stands in the way of a question
quiet : (inside : Bool) (pending : Option PendingMerge) (phase : Phase) (query : Query)
    → or_else (option_map refusals.State (state_why inside (Ask query))) (or_else (option_map refusals.State (merge_why pending (Ask query))) (option_map refusals.State (save_why phase (Ask query)))) ≡ None
quiet true None Idle query = refl
quiet true None (Writing b p q d) query = refl
quiet true None (Sealed b q d) query = refl
quiet true (Some m) Idle query = refl
quiet true (Some m) (Writing b p q d) query = refl
quiet true (Some m) (Sealed b q d) query = refl
quiet false None Idle query = refl
quiet false None (Writing b p q d) query = refl
quiet false None (Sealed b q d) query = refl
quiet false (Some m) Idle query = refl
quiet false (Some m) (Writing b p q d) query = refl
quiet false (Some m) (Sealed b q d) query = refl

-- one refusal behind others
behind_none : (a b c d : Option Refusal) → or_else a (or_else b c) ≡ None → d ≡ None → or_else a (or_else b (or_else c d)) ≡ None
behind_none None None None d h e = e
behind_none None None (Some why) d h e = absurd cc
behind_none None (Some why) c d h e = absurd cc
behind_none (Some why) b c d h e = absurd cc

told_by : (p : Plain) (session : ℕ) (query : Query) (known fits : Bool) (rest : Option Refusal) → rest ≡ None
    → (step_by (or_else (unless known refusals.Name) (or_else (unless fits refusals.Kind) rest)) p session (Ask query)).reply
    ≡ cond known (cond fits (told (view p session).tables (view p session).rows query) (replies.Refused refusals.Kind)) (replies.Refused refusals.Name)
told_by p session query true true rest none = ap (λ (o : Option Refusal). (step_by o p session (Ask query)).reply) none
told_by p session query true false rest none = refl
told_by p session query false fits rest none = refl

pub asked_outside : AskedOutside
asked_outside p session query outside =
    let v = view p session in
    let known = query_known (current p.journal).tables query in
    let fits = query_fits (current p.journal).tables query in
    let rest = behind_none (option_map refusals.State (state_why (is_some v.own) (Ask query))) (option_map refusals.State (merge_why v.pending (Ask query))) (option_map refusals.State (save_why v.phase (Ask query))) None
    (quiet (is_some v.own) v.pending v.phase query) refl in
    told_by p session query known fits _ rest
    ∙ ap (λ (own : Option OpenTransaction). cond known (cond fits (told (current p.journal).tables (finmap.entries (seen_by p.journal own)) query) (replies.Refused refusals.Kind)) (replies.Refused refusals.Name)) outside

pub answers_stay : AnswersStay
answers_stay j more query =
    let here : take (journal_len j - j.base.length) (j.entries ++ more) ≡ j.entries =
    take_within (journal_len j - j.base.length) j.entries more (omega arith) ∙ take_whole (journal_len j - j.base.length) j.entries (omega arith) in
    ap (λ (es : List Entry). answered (after_all j.base es) query) here
