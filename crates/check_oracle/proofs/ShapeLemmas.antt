-- Merges of the first stage, and how many rows stand in each.
use Rattle.std.proofs.Common.{◌≡◌, ℕ, ◌<◌, min, List, length, get_or, refl, sym, ap, ◌∙◌, arith}
use Rattle.std.specs.Option.{unwrap_or}
use Rattle.std.proofs.lemmas.Option.{slice_get_read}
use Rattle.ut_plain.specs.declared.table.Table.{Table}
use Rattle.ut_plain.specs.declared.stage.TableStages.{TableStages}
use Rattle.ut_plain.specs.declared.statement.Statement.TheVariants.{MergeL1, Shape}
use Rattle.ut_plain.specs.declared.reply.Reply.{Reply}
use Rattle.ut_plain.specs.declared.reply.Reply.TheVariants as replies
use Rattle.ut_plain.specs.Tables.{place_in}
use Rattle.ut_plain.specs.Journal.{current}
use Rattle.ut_plain.specs.Stages.{Stages, no_stages, stages_at, with_stages, moved, moved_count, shape_of}
use Rattle.ut_plain.specs.Plain.{Plain}
use Rattle.ut_plain.specs.Reached.{IsPlain}
use Rattle.ut_plain.specs.Step.{step}
use Rattle.ut_plain.proofs.ListLemmas.{position_below}
use Rattle.ut_plain.proofs.TableLemmas.{IsThere, At, there}
use Rattle.ut_value.specs.Text.{same_bytes}
use Rattle.check_rows.specs.declared.known.Known.{Known}
use Rattle.check_oracle.specs.Store.{Gives, Allowed}
use Rattle.check_oracle.proofs.StepLemmas.{gives_effect}
use Rattle.check_oracle.proofs.WriteLemmas.{names_passed}

-- the stages at a place that is there
pub stage_read : (stages : Stages) (i : ℕ) (t : TableStages) → i < length stages → t ≡ get_or stages i t → t ≡ stages_at stages i
stage_read stages i t h e = sym (ap (λ o. unwrap_or o no_stages) (slice_get_read stages (length stages) i t refl h e))

place_below : (ts : List Table) (name : List ℕ) → IsThere ts name → place_in ts name < length ts
place_below ts name (At place cs e k) =
    let below = position_below (λ (table : Table). same_bytes table.name name) ts place e in
    let is : place_in ts name ≡ place = ap (λ o. unwrap_or o 0) e in
    omega (arith, below, is)

-- the place of a table that is there is one of the stages
pub staged_place : (p : Plain) (place : ℕ) (ts : List Table) (n name : List ℕ) → IsPlain p → IsThere (current p.journal).tables name → ts ≡ (current p.journal).tables → n ≡ name → place ≡ place_in ts n → place < length p.stages
staged_place p place ts n name h is t e at =
    let below = place_below (current p.journal).tables name is in
    let staged = h.staged in
    omega (arith, below, staged, at ∙ ap (λ ts. place_in ts n) t ∙ ap (place_in (current p.journal).tables) e)

pub merge_place : (p : Plain) (sight : Known) (session n place : ℕ) (name nm : List ℕ) (ts : List Table) → Allowed p sight session (MergeL1 name n) → ts ≡ sight.tables.items → nm ≡ name → place ≡ place_in ts nm → place < length p.stages
merge_place p sight session n place name nm ts h t e at = staged_place p place ts nm name h.plain (there (current p.journal).tables name (names_passed p sight session (MergeL1 name n) h)) (t ∙ h.sees.tables) e at

pub shape_place : (p : Plain) (sight : Known) (session place : ℕ) (name nm : List ℕ) (ts : List Table) → Allowed p sight session (Shape name) → ts ≡ sight.tables.items → nm ≡ name → place ≡ place_in ts nm → place < length p.stages
shape_place p sight session place name nm ts h t e at = staged_place p place ts nm name h.plain (there (current p.journal).tables name (names_passed p sight session (Shape name) h)) (t ∙ h.sees.tables) e at

pub merge_gives : (p : Plain) (sight : Known) (session n place count : ℕ) (name nm : List ℕ) (ts : List Table) (t : TableStages) (q : Plain) → Allowed p sight session (MergeL1 name n) → ts ≡ sight.tables.items → nm ≡ name → place ≡ place_in ts nm → t ≡ get_or p.stages place t
    → count ≡ min n (length t.l1) → q ≡ record p { stages = with_stages (moved n) place p.stages } → Gives (step p session (MergeL1 name n)) (replies.Moved count) q
merge_gives p sight session n place count name nm ts t q h tables e at read many is =
    let here : place ≡ place_in (current p.journal).tables name = at ∙ ap (λ ts. place_in ts nm) (tables ∙ h.sees.tables) ∙ ap (place_in (current p.journal).tables) e in
    let stage : t ≡ stages_at p.stages place = stage_read p.stages place t (merge_place p sight session n place name nm ts h tables e at) read in
    let all : count ≡ moved_count n (stages_at p.stages place) = many ∙ ap (λ (t : TableStages). min n (length t.l1)) stage in
    gives_effect p sight session (MergeL1 name n) (replies.Moved count) q h refl (record {
      answer = ap replies.Moved (all ∙ ap (λ i. moved_count n (stages_at p.stages i)) here);
      state = is ∙ ap (λ i. record p { stages = with_stages (moved n) i p.stages }) here;
    })

-- another list of stages over the same state
pub restaged : (copy p : Plain) (n place : ℕ) (stages : Stages) → copy ≡ p → stages ≡ with_stages (moved n) place copy.stages → record copy { stages = stages } ≡ record p { stages = with_stages (moved n) place p.stages }
restaged copy p n place stages e s = ap (λ x. record copy { stages = x }) s ∙ ap (λ (q : Plain). record q { stages = with_stages (moved n) place q.stages }) e

pub shape_gives : (p : Plain) (sight : Known) (session place : ℕ) (name nm : List ℕ) (ts : List Table) (t : TableStages) (reply : Reply) (q : Plain) → Allowed p sight session (Shape name) → ts ≡ sight.tables.items → nm ≡ name → place ≡ place_in ts nm → t ≡ get_or p.stages place t
    → Gives (record { reply = replies.Shape (shape_of t); plain = p }) reply q → Gives (step p session (Shape name)) reply q
shape_gives p sight session place name nm ts t reply q h tables e at read g =
    let here : place ≡ place_in (current p.journal).tables name = at ∙ ap (λ ts. place_in ts nm) (tables ∙ h.sees.tables) ∙ ap (place_in (current p.journal).tables) e in
    let stage : t ≡ stages_at p.stages place = stage_read p.stages place t (shape_place p sight session place name nm ts h tables e at) read in
    gives_effect p sight session (Shape name) reply q h refl (record {
      answer = g.answer ∙ ap (λ (t : TableStages). replies.Shape (shape_of t)) (stage ∙ ap (stages_at p.stages) here);
      state = g.state;
    })
