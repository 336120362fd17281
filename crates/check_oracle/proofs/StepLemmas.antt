-- What a step is, by the refusals that come early and those that come late.
use Rattle.std.proofs.Common.{◌≡◌, ℕ, Bool, true, false, List, [], ◌∷◌, length, Option, None, Some, refl, sym, ap, ◌∙◌, subst, arith, nat_lt}
use Rattle.std.specs.Option.{option_map, is_some}
use Rattle.ut_value.specs.declared.value.Value.{Value}
use Rattle.ut_value.specs.declared.entry.Op.{Op}
use Rattle.ut_plain.specs.declared.statement.Pred.{Pred}
use Rattle.ut_plain.specs.declared.statement.Statement.{Statement}
use Rattle.ut_plain.specs.declared.statement.Statement.TheVariants.{Insert, Bulk, Update, Delete, Commit}
use Rattle.ut_plain.specs.declared.reply.Reply.{Reply}
use Rattle.ut_plain.specs.declared.reply.Refusal.{Refusal}
use Rattle.ut_plain.specs.declared.reply.Refusal.TheVariants as refusals
use Rattle.ut_plain.specs.Journal.{current}
use Rattle.ut_plain.specs.Plain.{Plain, open_at}
use Rattle.ut_plain.specs.View.{View, view, own_ops}
use Rattle.ut_plain.specs.Limits.{has_commit_room}
use Rattle.ut_plain.specs.declared.transaction.OpenTransaction.{OpenTransaction}
use Rattle.ut_plain.specs.Made.{made, changes}
use Rattle.ut_plain.specs.Names.{names_known}
use Rattle.ut_plain.specs.Kinds.{kinds_fit}
use Rattle.ut_plain.specs.Refusals.{state_why, merge_why, save_why, unless, or_else, conflict, refusal}
use Rattle.ut_plain.specs.Step.{Stepped, step, step_by, effect_of, committed, committed_by}
use Rattle.check_rows.specs.declared.known.Known.{Known}
use Rattle.check_oracle.specs.Store.{Gives, Allowed, early, late, refuses, change_by, change_step}

-- ---- early and late refusals

or_else_else : (a b c : Option Refusal) → or_else a (or_else b c) ≡ or_else (or_else a b) c
or_else_else None b c = refl
or_else_else (Some why) b c = refl

refusal_parts : (v : View) (st : Statement) → refusal v st ≡ or_else (early v.tables (is_some v.own) v.pending v.phase st) (late v st)
refusal_parts v st =
    let a = unless (names_known v.tables st) refusals.Name in
    let b = unless (kinds_fit v.tables st) refusals.Kind in
    let c = option_map refusals.State (state_why (is_some v.own) st) in
    let d = option_map refusals.State (merge_why v.pending st) in
    let e = option_map refusals.State (save_why v.phase st) in
    ap (λ x. or_else a (or_else b (or_else c x))) (or_else_else d e (late v st)) ∙ ap (λ x. or_else a (or_else b x)) (or_else_else c (or_else d e) (late v st)) ∙ ap (or_else a) (or_else_else b (or_else c (or_else d e)) (late v st))
    ∙ or_else_else a (or_else b (or_else c (or_else d e))) (late v st)

-- a statement that an early refusal meets
pub gives_early : (p : Plain) (session : ℕ) (st : Statement) (why : Refusal) (reply : Reply) (q : Plain) → early (current p.journal).tables (is_some (open_at p.sessions session)) p.pending p.phase st ≡ Some why → Gives (refuses p why) reply q → Gives (step p session st) reply q
gives_early p session st why reply q h g =
    let is : step p session st ≡ refuses p why = ap (λ o. step_by o p session st) (refusal_parts (view p session) st ∙ ap (λ o. or_else o (late (view p session) st)) h) in
    record { answer = g.answer ∙ ap (λ (s : Stepped). s.reply) (sym is); state = g.state ∙ ap (λ (s : Stepped). s.plain) (sym is) }

pub late_step : (p : Plain) (sight : Known) (session : ℕ) (st : Statement) → Allowed p sight session st → step p session st ≡ step_by (late (view p session) st) p session st
late_step p sight session st h = ap (λ o. step_by o p session st) (refusal_parts (view p session) st ∙ ap (λ o. or_else o (late (view p session) st)) h.clear)

pub gives_by : (p : Plain) (session : ℕ) (st : Statement) (does : Stepped) (reply : Reply) (q : Plain) → step p session st ≡ does → Gives does reply q → Gives (step p session st) reply q
gives_by p session st does reply q is g = record { answer = g.answer ∙ ap (λ (s : Stepped). s.reply) (sym is); state = g.state ∙ ap (λ (s : Stepped). s.plain) (sym is) }

-- a statement that none meets
pub gives_effect : (p : Plain) (sight : Known) (session : ℕ) (st : Statement) (reply : Reply) (q : Plain) → Allowed p sight session st → late (view p session) st ≡ None → Gives (effect_of p session st) reply q → Gives (step p session st) reply q
gives_effect p sight session st reply q h l g = gives_by p session st (effect_of p session st) reply q (late_step p sight session st h ∙ ap (λ o. step_by o p session st) l) g

-- ---- changes of rows

inserted_by : (o : Option Refusal) (p : Plain) (session : ℕ) (name : List ℕ) (values : List Value) → step_by o p session (Insert name values) ≡ change_by o p session false (made (current p.journal).tables (view p session).rows p.next_id (Insert name values)) 1
inserted_by None p session name values = refl
inserted_by (Some why) p session name values = refl

loaded_by : (o : Option Refusal) (p : Plain) (session : ℕ) (name : List ℕ) (values : List Value) → step_by o p session (Bulk name values) ≡ change_by o p session true (made (current p.journal).tables (view p session).rows p.next_id (Bulk name values)) (changes (current p.journal).tables (view p session).rows (Bulk name values))
loaded_by None p session name values = refl
loaded_by (Some why) p session name values = refl

updated_by : (o : Option Refusal) (p : Plain) (session : ℕ) (name column : List ℕ) (value : Value) (preds : List Pred) → step_by o p session (Update name column value preds) ≡ change_by o p session false (made (current p.journal).tables (view p session).rows p.next_id (Update name column value preds)) (changes (current p.journal).tables (view p session).rows (Update name column value preds))
updated_by None p session name column value preds = refl
updated_by (Some why) p session name column value preds = refl

deleted_by : (o : Option Refusal) (p : Plain) (session : ℕ) (name : List ℕ) (preds : List Pred) → step_by o p session (Delete name preds) ≡ change_by o p session false (made (current p.journal).tables (view p session).rows p.next_id (Delete name preds)) (changes (current p.journal).tables (view p session).rows (Delete name preds))
deleted_by None p session name preds = refl
deleted_by (Some why) p session name preds = refl

-- the change that a statement comes to: its operations, how many rows, and the row that was taken
pub record Makes (p : Plain) (session : ℕ) (st : Statement) (bulk : Bool) (os : List Op) (rows : ℕ) (taken : Option ℕ) : Type 0 where
  pub does : step_by (late (view p session) st) p session st ≡ change_step p session bulk os rows taken

pub makes_same : (p : Plain) (session : ℕ) (st : Statement) (bulk : Bool) (os ps : List Op) (rows many : ℕ) (taken first : Option ℕ) → ps ≡ os → many ≡ rows → first ≡ taken → Makes p session st bulk os rows taken → Makes p session st bulk ps many first
makes_same p session st bulk os ps rows many taken first e f g m = record { does = m.does ∙ (λ i. change_step p session bulk (sym e i) (sym f i) (sym g i)) }

pub insert_makes : (p : Plain) (session : ℕ) (name : List ℕ) (values : List Value) → Makes p session (Insert name values) false (made (current p.journal).tables (view p session).rows p.next_id (Insert name values)) 1 None
insert_makes p session name values = record { does = inserted_by (late (view p session) (Insert name values)) p session name values }

pub bulk_makes : (p : Plain) (session : ℕ) (name : List ℕ) (values : List Value) → Makes p session (Bulk name values) true (made (current p.journal).tables (view p session).rows p.next_id (Bulk name values)) (changes (current p.journal).tables (view p session).rows (Bulk name values)) None
bulk_makes p session name values = record { does = loaded_by (late (view p session) (Bulk name values)) p session name values }

pub update_makes : (p : Plain) (session : ℕ) (name column : List ℕ) (value : Value) (preds : List Pred) → Makes p session (Update name column value preds) false (made (current p.journal).tables (view p session).rows p.next_id (Update name column value preds)) (changes (current p.journal).tables (view p session).rows (Update name column value preds)) (conflict (view p session) (Update name column value preds))
update_makes p session name column value preds = record { does = updated_by (late (view p session) (Update name column value preds)) p session name column value preds }

pub delete_makes : (p : Plain) (session : ℕ) (name : List ℕ) (preds : List Pred) → Makes p session (Delete name preds) false (made (current p.journal).tables (view p session).rows p.next_id (Delete name preds)) (changes (current p.journal).tables (view p session).rows (Delete name preds)) (conflict (view p session) (Delete name preds))
delete_makes p session name preds = record { does = deleted_by (late (view p session) (Delete name preds)) p session name preds }

pub gives_change : (p : Plain) (sight : Known) (session : ℕ) (st : Statement) (bulk : Bool) (os : List Op) (rows : ℕ) (taken : Option ℕ) (reply : Reply) (q : Plain) → Allowed p sight session st → Makes p session st bulk os rows taken → Gives (change_step p session bulk os rows taken) reply q → Gives (step p session st) reply q
gives_change p sight session st bulk os rows taken reply q h m g = gives_by p session st (change_step p session bulk os rows taken) reply q (late_step p sight session st h ∙ m.does) g

-- ---- a transaction is committed

-- there is room for an entry, or nothing to commit
pub commit_room : (v : View) (os : List Op) (entries : ℕ) → v.entries ≡ entries → nat_lt entries 1073741823 ≡ true → has_commit_room v os ≡ true
commit_room v [] entries is room = refl
commit_room v (op ∷ os) entries is room = ap (λ n. nat_lt n 1073741823) is ∙ room

pub commit_nothing : (v : View) (os : List Op) → length os ≡ 0 → has_commit_room v os ≡ true
commit_nothing v [] none = refl
commit_nothing v (op ∷ os) none = absurd (omega (arith, none))

pub gives_commit : (p : Plain) (sight : Known) (session : ℕ) (own : OpenTransaction) (reply : Reply) (q : Plain) → Allowed p sight session Commit → open_at p.sessions session ≡ Some own → has_commit_room (view p session) own.ops ≡ true
    → Gives (committed_by p session own.ops) reply q → Gives (step p session Commit) reply q
gives_commit p sight session own reply q h is room g =
    gives_effect p sight session Commit reply q h (ap (λ b. or_else (unless b refusals.Full) None) (ap (has_commit_room (view p session)) (ap own_ops is) ∙ room))
    (subst (λ o. Gives (committed p session o) reply q) (sym is) g)
