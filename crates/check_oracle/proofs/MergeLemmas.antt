-- Merges into main: one begins where it may, or is refused.
use Rattle.std.proofs.Common.{◌≡◌, ℕ, ◌<◌, Bool, true, false, ◌&&◌, nat_lt, List, length, get_or, None, sym, ap, ◌∙◌, subst}
use Rattle.ut_value.specs.declared.entry.MergeKind.{MergeKind}
use Rattle.ut_plain.specs.declared.table.Table.{Table}
use Rattle.ut_plain.specs.declared.stage.TableStages.{TableStages}
use Rattle.ut_plain.specs.declared.statement.Statement.TheVariants.{MergeBegin}
use Rattle.ut_plain.specs.declared.reply.Reply.{Reply}
use Rattle.ut_plain.specs.declared.reply.Refusal.TheVariants as refusals
use Rattle.ut_plain.specs.Tables.{place_in}
use Rattle.ut_plain.specs.Journal.{current}
use Rattle.ut_plain.specs.Stages.{stages_at}
use Rattle.ut_plain.specs.Plain.{Plain}
use Rattle.ut_plain.specs.View.{view}
use Rattle.ut_plain.specs.Merges.{has_places, has_part_room}
use Rattle.ut_plain.specs.Limits.{has_merge_room}
use Rattle.ut_plain.specs.Refusals.{unless, or_else}
use Rattle.ut_plain.specs.Step.{step, step_by, merge_begun}
use Rattle.ut_plain.proofs.TableLemmas.{there}
use Rattle.check_rows.specs.declared.known.Known.{Known}
use Rattle.check_oracle.specs.Store.{Gives, Allowed, late, refuses}
use Rattle.check_oracle.proofs.StepLemmas.{gives_by, gives_effect, late_step}
use Rattle.check_oracle.proofs.WriteLemmas.{names_passed}
use Rattle.check_oracle.proofs.ShapeLemmas.{stage_read, staged_place}

pub begin_place : (p : Plain) (sight : Known) (session place : ℕ) (name nm : List ℕ) (kind : MergeKind) (ts : List Table) → Allowed p sight session (MergeBegin name kind) → ts ≡ sight.tables.items → nm ≡ name → place ≡ place_in ts nm → place < length p.stages
begin_place p sight session place name nm kind ts h t e at = staged_place p place ts nm name h.plain (there (current p.journal).tables name (names_passed p sight session (MergeBegin name kind) h)) (t ∙ h.sees.tables) e at

-- what was tested is whether there is room
record IsTested (p : Plain) (session : ℕ) (name : List ℕ) (kind : MergeKind) (place : ℕ) (room : Bool) : Type 0 where
  at : place ≡ place_in (current p.journal).tables name
  is : room ≡ has_merge_room (view p session) (place_in (current p.journal).tables name) kind

tested : (p : Plain) (sight : Known) (session entries place : ℕ) (name nm : List ℕ) (kind : MergeKind) (ts : List Table) (t : TableStages) (room : Bool) → Allowed p sight session (MergeBegin name kind) → ts ≡ sight.tables.items → nm ≡ name → place ≡ place_in ts nm → t ≡ get_or p.stages place t
    → (view p session).entries ≡ entries → room ≡ (nat_lt entries 1073741823 && has_places t && has_part_room kind (length t.parts)) → IsTested p session name kind place room
tested p sight session entries place name nm kind ts t room h tables e at read long is =
    let here : place ≡ place_in (current p.journal).tables name = at ∙ ap (λ ts. place_in ts nm) (tables ∙ h.sees.tables) ∙ ap (place_in (current p.journal).tables) e in
    let stage : t ≡ stages_at p.stages (place_in (current p.journal).tables name) = stage_read p.stages place t (begin_place p sight session place name nm kind ts h tables e at) read ∙ ap (stages_at p.stages) here in
    record { at = here; is = is ∙ (λ i. nat_lt (sym long i) 1073741823 && has_places (stage i) && has_part_room kind (length (stage i).parts)) }

late-full : (p : Plain) (session : ℕ) (name : List ℕ) (kind : MergeKind) (room : Bool) → room ≡ has_merge_room (view p session) (place_in (current p.journal).tables name) kind → late (view p session) (MergeBegin name kind) ≡ or_else (unless room refusals.Full) None
late-full p session name kind room is = ap (λ b. or_else (unless b refusals.Full) None) (sym is)

pub begin_full : (p : Plain) (sight : Known) (session entries place : ℕ) (name nm : List ℕ) (kind : MergeKind) (ts : List Table) (t : TableStages) (room : Bool) (reply : Reply) (q : Plain) → Allowed p sight session (MergeBegin name kind) → ts ≡ sight.tables.items → nm ≡ name → place ≡ place_in ts nm → t ≡ get_or p.stages place t
    → (view p session).entries ≡ entries → room ≡ (nat_lt entries 1073741823 && has_places t && has_part_room kind (length t.parts)) → room ≡ false → Gives (refuses p refusals.Full) reply q → Gives (step p session (MergeBegin name kind)) reply q
begin_full p sight session entries place name nm kind ts t room reply q h tables e at read long is none g =
    let test = tested p sight session entries place name nm kind ts t room h tables e at read long is in
    gives_by p session (MergeBegin name kind) (refuses p refusals.Full) reply q (late_step p sight session (MergeBegin name kind) h ∙ ap (λ o. step_by o p session (MergeBegin name kind)) (late-full p session name kind room test.is ∙ ap (λ b. or_else (unless b refusals.Full) None) none)) g

pub begin_gives : (p : Plain) (sight : Known) (session entries place : ℕ) (name nm : List ℕ) (kind : MergeKind) (ts : List Table) (t : TableStages) (room : Bool) (reply : Reply) (q : Plain) → Allowed p sight session (MergeBegin name kind) → ts ≡ sight.tables.items → nm ≡ name → place ≡ place_in ts nm → t ≡ get_or p.stages place t
    → (view p session).entries ≡ entries → room ≡ (nat_lt entries 1073741823 && has_places t && has_part_room kind (length t.parts)) → room ≡ true → Gives (merge_begun p place kind) reply q → Gives (step p session (MergeBegin name kind)) reply q
begin_gives p sight session entries place name nm kind ts t room reply q h tables e at read long is some g =
    let test = tested p sight session entries place name nm kind ts t room h tables e at read long is in
    gives_effect p sight session (MergeBegin name kind) reply q h (late-full p session name kind room test.is ∙ ap (λ b. or_else (unless b refusals.Full) None) some) (subst (λ place. Gives (merge_begun p place kind) reply q) test.at g)
