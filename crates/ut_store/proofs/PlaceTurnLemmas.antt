-- What merge_l1 and shape answer, from what their steps promise.
use Rattle.std.proofs.Common.{ℕ, ◌<◌, ◌≡◌, List, length, min, None, Some, refl, sym, ap, ◌∙◌, subst, IsTrue, slice_get}
use Rattle.ut_plain.specs.declared.statement.Statement.TheVariants as statements
use Rattle.ut_plain.specs.declared.statement.Statement.TheVariants.{MergeL1}
use Rattle.ut_plain.specs.declared.reply.Shape.{Shape}
use Rattle.ut_plain.specs.declared.reply.Reply.TheVariants as replies
use Rattle.ut_plain.specs.declared.reply.Refusal.TheVariants as refusals
use Rattle.ut_plain.specs.Spelled.{is_spelled}
use Rattle.ut_plain.specs.Plain.{Plain}
use Rattle.ut_plain.specs.Stages.{Stages, stages_at, shape_of}
use Rattle.ut_plain.specs.Tables.{place_of}
use Rattle.ut_plain.specs.Step.{effect_of}
use Rattle.ut_tables.specs.Rows.{Rows}
use Rattle.ut_tables.specs.Changed.{Changed}
use Rattle.ut_store.specs.declared.response.Response.TheVariants.{Answered}
use Rattle.ut_store.specs.Held.{Held}
use Rattle.ut_store.specs.Stands.{StandsFor}
use Rattle.ut_store.specs.Early.{early_refusal}
use Rattle.ut_store.specs.Answers.{Answers}
use Rattle.ut_store.proofs.EarlyLemmas.{allowed}
use Rattle.ut_store.proofs.NamedLemmas.{place-is}
use Rattle.ut_staged.specs.Staged.{Staged, merged_l1, stages_of}
use Rattle.ut_store.proofs.StandsLemmas.{no_memory, tells, itself_same}
use Rattle.ut_store.proofs.TableLemmas.{moved_rows}
use Rattle.ut_staged.proofs.TableLemmas.{stages-here}

pub unmoved_now : (e : Held) (rows : Rows) (n : ℕ) (session : ℕ) (name : List ℕ) → rows ≡ e.rows → Answers e session (MergeL1 name n) (Answered (replies.Refused refusals.Memory)) (record e { rows = rows })
unmoved_now e rows n session name same = no_memory e (record e { rows = rows }) session (MergeL1 name n) refl (record { rows = same; seats = (itself_same e).seats; counts = refl })

pub moved_now : (e : Held) (rows : Rows) (place n moved : ℕ) (s : Staged) (session : ℕ) (name : List ℕ) → session < 17 → IsTrue (is_spelled (MergeL1 name n)) → early_refusal e session (MergeL1 name n) ≡ None
    → place_of e.rows.tables name ≡ Some place → slice_get e.rows.staged place ≡ Some s → moved ≡ min n (length s.l1) → Changed e.rows place (merged_l1 n) rows
    → Answers e session (MergeL1 name n) (Answered (replies.Moved moved)) (record e { rows = rows })
moved_now e rows place n moved s session name small spelled early at here count changed =
    subst (λ (k : ℕ). Answers e session (MergeL1 name n) (Answered (replies.Moved k)) (record e { rows = rows })) (sym count)
    (subst (λ (r : Rows). Answers e session (MergeL1 name n) (Answered (replies.Moved (min n (length s.l1)))) (record e { rows = r })) (sym (changed s here))
    (moved_rows e e.seats e.frame session name n place s spelled (allowed e session (MergeL1 name n) small refl early (λ p s. refl) (λ p s. refl)) here (place-is e session name place at) (itself_same e).seats))

pub shape_now : (e : Held) (place : ℕ) (shape : Shape) (staged : Staged) (session : ℕ) (name : List ℕ) → session < 17 → IsTrue (is_spelled (statements.Shape name)) → early_refusal e session (statements.Shape name) ≡ None
    → place_of e.rows.tables name ≡ Some place → slice_get e.rows.staged place ≡ Some staged → shape ≡ shape_of (stages_of staged) → Answers e session (statements.Shape name) (Answered (replies.Shape shape)) e
shape_now e place shape staged session name small spelled early at is told =
    tells e e session (statements.Shape name) (replies.Shape shape) spelled (allowed e session (statements.Shape name) small refl early (λ p s. refl) (λ p s. refl)) (itself_same e) told_is
  where
    told_is : (p : Plain) → StandsFor e p → effect_of p session (statements.Shape name) ≡ record { reply = replies.Shape shape; plain = p }
    told_is p s =
        let here : stages_at p.stages place ≡ stages_of staged = ap (λ (x : Stages). stages_at x place) s.rows.stages ∙ stages-here e.rows.staged place staged is in
        (λ i. record { reply = replies.Shape (shape_of (stages_at p.stages (place-is e session name place at p s i))); plain = p })
        ∙ (λ i. record { reply = replies.Shape ((ap shape_of here ∙ sym told) i); plain = p })
