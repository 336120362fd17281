-- What the early refusals, the limits and the conflicts are together.
use Rattle.std.proofs.Common.{ℕ, ◌<◌, ◌≡◌, Bool, true, false, IsTrue, is_some, Option, None, Some, refl, sym, ap, ◌∙◌}
use Rattle.std.specs.Option.{option_map}
use Rattle.ut_plain.specs.declared.statement.Statement.{Statement}
use Rattle.ut_plain.specs.declared.statement.Statement.TheVariants as statements
use Rattle.ut_plain.specs.declared.stage.PendingMerge.{PendingMerge}
use Rattle.ut_plain.specs.declared.reply.Refusal.{Refusal}
use Rattle.ut_plain.specs.declared.reply.Refusal.TheVariants as refusals
use Rattle.ut_plain.specs.Plain.{Plain, Phase, Idle, Writing, Sealed}
use Rattle.ut_plain.specs.View.{view}
use Rattle.ut_plain.specs.Names.{names_known}
use Rattle.ut_plain.specs.Kinds.{kinds_fit}
use Rattle.ut_plain.specs.Limits.{has_room}
use Rattle.ut_plain.specs.Refusals.{is_save, state_why, merge_why, save_why, unless, or_else, conflict, refusal}
use Rattle.ut_txn.specs.Seats.{opened_at}
use Rattle.ut_store.specs.Held.{Held}
use Rattle.ut_store.specs.Stands.{StandsFor}
use Rattle.ut_store.specs.Early.{early_refusal}
use Rattle.ut_store.specs.Standing.{changes_rows}
use Rattle.ut_store.specs.Allowed.{IsRefused}
use Rattle.ut_store.proofs.ReadLemmas.{reads}

or_else-again : (a b c : Option Refusal) → or_else (or_else a b) c ≡ or_else a (or_else b c)
or_else-again (Some why) b c = refl
or_else-again None b c = refl

-- a statement that is none of a savepoint doesn't ask how far one is
no_save : (phase : Phase) (st : Statement) → is_save st ≡ false → save_why phase st ≡ None
no_save Idle (statements.SaveStep n) h = cc
no_save Idle statements.SaveSeal h = cc
no_save Idle statements.SaveFlip h = cc
no_save Idle statements.SaveDrop h = cc
no_save Idle _ h = refl
no_save (Writing captured done pages image) statements.SaveBegin h = cc
no_save (Writing captured done pages image) (statements.SaveStep n) h = cc
no_save (Writing captured done pages image) statements.SaveSeal h = cc
no_save (Writing captured done pages image) statements.SaveFlip h = cc
no_save (Writing captured done pages image) _ h = refl
no_save (Sealed captured pages image) statements.SaveBegin h = cc
no_save (Sealed captured pages image) (statements.SaveStep n) h = cc
no_save (Sealed captured pages image) statements.SaveSeal h = cc
no_save (Sealed captured pages image) _ h = refl

-- a refusal is the early one, else that of limits, else that of a conflict
pub refusal-is : (e : Held) (p : Plain) (session : ℕ) (st : Statement) → session < 17 → is_save st ≡ false → StandsFor e p
    → refusal (view p session) st ≡ or_else (early_refusal e session st) (or_else (unless (has_room (view p session) st) refusals.Full) (option_map refusals.Conflict (conflict (view p session) st)))
refusal-is e p session st small served s =
    let r = reads e p session small s in
    let late = or_else (unless (has_room (view p session) st) refusals.Full) (option_map refusals.Conflict (conflict (view p session) st)) in
    (λ i. or_else (unless (names_known (r.tables i) st) refusals.Name) (or_else (unless (kinds_fit (r.tables i) st) refusals.Kind)
    (or_else (option_map refusals.State (state_why (r.is_open i) st)) (or_else (option_map refusals.State (merge_why (r.pending i) st))
    (or_else (option_map refusals.State (no_save (view p session).phase st served i)) late)))))
    ∙ sym (or_else-again (unless (names_known e.rows.tables st) refusals.Name) _ late
    ∙ ap (or_else (unless (names_known e.rows.tables st) refusals.Name)) (or_else-again (unless (kinds_fit e.rows.tables st) refusals.Kind) _ late
    ∙ ap (or_else (unless (kinds_fit e.rows.tables st) refusals.Kind)) (or_else-again (option_map refusals.State (state_why (is_some (opened_at e.seats session)) st)) _ late)))

pub early : (e : Held) (session : ℕ) (st : Statement) (why : Refusal) → session < 17 → is_save st ≡ false → early_refusal e session st ≡ Some why → IsRefused e session st (Some why)
early e session st why small served h = record { is = λ p s. refusal-is e p session st small served s ∙ ap (λ a. or_else a (or_else (unless (has_room (view p session) st) refusals.Full) (option_map refusals.Conflict (conflict (view p session) st)))) h }

pub full : (e : Held) (session : ℕ) (st : Statement) → session < 17 → is_save st ≡ false → early_refusal e session st ≡ None → ((p : Plain) → StandsFor e p → has_room (view p session) st ≡ false) → IsRefused e session st (Some refusals.Full)
full e session st small served none h = record {
  is = λ p s.
      refusal-is e p session st small served s ∙ (λ i. or_else (none i) (or_else (unless (h p s i) refusals.Full) (option_map refusals.Conflict (conflict (view p session) st))));
}

pub allowed : (e : Held) (session : ℕ) (st : Statement) → session < 17 → is_save st ≡ false → early_refusal e session st ≡ None → ((p : Plain) → StandsFor e p → has_room (view p session) st ≡ true)
    → ((p : Plain) → StandsFor e p → conflict (view p session) st ≡ None) → IsRefused e session st None
allowed e session st small served none room h = record {
  is = λ p s.
      refusal-is e p session st small served s ∙ (λ i. or_else (none i) (or_else (unless (room p s i) refusals.Full) (option_map refusals.Conflict (h p s i))));
}

-- ---- merges

behind : (a b : Option Refusal) → or_else a b ≡ None → b ≡ None
behind None b h = h
behind (Some why) b h = cc

-- where one is pending it may end
pub may_end : (e : Held) (session : ℕ) (m : PendingMerge) → e.counts.pending ≡ Some m → early_refusal e session statements.MergeEnd ≡ None
may_end e session m is = by (is_some (opened_at e.seats session)) ∙ (λ i. option_map refusals.State (merge_why (is i) statements.MergeEnd))
  where
    by : (inside : Bool) → or_else (option_map refusals.State (state_why inside statements.MergeEnd)) (option_map refusals.State (merge_why e.counts.pending statements.MergeEnd)) ≡ option_map refusals.State (merge_why e.counts.pending statements.MergeEnd)
    by true = refl
    by false = refl

-- ---- what is carried out

-- a statement that changes rows is none of a savepoint
pub no_save_changes : (st : Statement) → IsTrue (changes_rows st) → is_save st ≡ false
no_save_changes statements.SaveBegin h = cc
no_save_changes (statements.SaveStep n) h = cc
no_save_changes statements.SaveSeal h = cc
no_save_changes statements.SaveFlip h = cc
no_save_changes statements.SaveDrop h = cc
no_save_changes _ h = refl
