-- What is held once one part of a copy is another.
use Rattle.std.proofs.Common.{◌≡◌, ℕ, ◌+◌, ◌<◌, List, [], ◌∷◌, ◌++◌, length, Option, None, Some, min, refl, sym, ap, ◌∙◌, subst, arith}
use Rattle.std.specs.Prelude.{slice_set}
use Rattle.ut_value.specs.declared.value.Column.{Column}
use Rattle.ut_value.specs.declared.entry.Op.{Op}
use Rattle.ut_value.specs.declared.entry.Entry.{Entry}
use Rattle.ut_value.specs.declared.entry.Entry.TheVariants as entries
use Rattle.ut_value.specs.declared.entry.MergeKind.{MergeKind}
use Rattle.ut_plain.specs.declared.transaction.OpenTransaction.{OpenTransaction}
use Rattle.ut_plain.specs.declared.stage.TableStages.{TableStages}
use Rattle.ut_plain.specs.declared.stage.PendingMerge.{PendingMerge}
use Rattle.ut_plain.specs.declared.stage.Progress.{Progress}
use Rattle.ut_plain.specs.declared.stage.Progress.TheVariants as steps
use Rattle.ut_plain.specs.declared.reply.Reply.{Reply}
use Rattle.ut_plain.specs.declared.reply.Reply.TheVariants as replies
use Rattle.ut_plain.specs.Journal.{journal_len, current}
use Rattle.ut_plain.specs.Stages.{Stages, no_stages, stages_at}
use Rattle.ut_plain.specs.Merges.{closing, switched}
use Rattle.ut_plain.specs.Capture.{Directory}
use Rattle.ut_plain.specs.Plain.{Plain, Sessions, Phase, Idle, Writing, Sealed, with_entry, with_session}
use Rattle.ut_plain.specs.View.{captured_now}
use Rattle.ut_plain.specs.Progress.{phase_of}
use Rattle.ut_plain.specs.Step.{created, committed_by, merge_begun, merge_ended, save_begun, save_written, save_sealed, save_flipped}
use Rattle.check_oracle.specs.Store.{Gives}

pub entry_added : (copy p : Plain) (es : List Entry) (e : Entry) → copy ≡ p → es ≡ copy.journal.entries ++ e ∷ [] → record copy { journal = record copy.journal { entries = es } } ≡ with_entry p e
entry_added copy p es e same added = ap (λ es. record copy { journal = record copy.journal { entries = es } }) added ∙ ap (λ (p : Plain). with_entry p e) same

pub session_changed : (copy p : Plain) (sessions : Sessions) (session : ℕ) (transaction : Option OpenTransaction) → copy ≡ p → sessions ≡ slice_set copy.sessions session transaction → record copy { sessions = sessions } ≡ with_session p session transaction
session_changed copy p sessions session transaction same changed = ap (λ sessions. record copy { sessions = sessions }) changed ∙ ap (λ (p : Plain). with_session p session transaction) same

-- the same with another phase
pub phase_changed : (copy p : Plain) (phase : Phase) → copy ≡ p → record copy { phase = phase } ≡ record p { phase = phase }
phase_changed copy p phase same = ap (λ (p : Plain). record p { phase = phase }) same

-- ---- merges

pub merge_begins : (p next : Plain) (n place : ℕ) (kind : MergeKind) (t : TableStages) (stages : Stages) → next ≡ with_entry p (entries.Begun n place kind) → n ≡ (current p.journal).merges + 1 → t ≡ closing p.journal p.sessions kind (stages_at p.stages place)
    → stages ≡ slice_set next.stages place t → Gives (merge_begun p place kind) (replies.Merge n) (record next { pending = Some (record { number = n; table = place; kind = kind }); stages = stages })
merge_begins p next n place kind t stages e number closed set = record {
  answer = ap replies.Merge number;
  state =
      ap (λ stages. record next { pending = Some (record { number = n; table = place; kind = kind }); stages = stages }) set
      ∙ ap (λ (q : Plain). record q { pending = Some (record { number = n; table = place; kind = kind }); stages = slice_set q.stages place t }) e
      ∙ (λ i. record (with_entry p (entries.Begun (number i) place kind)) { pending = Some (record { number = number i; table = place; kind = kind }); stages = slice_set p.stages place (closed i) });
}

pub merge_ends : (p next : Plain) (m : PendingMerge) (t : TableStages) (stages : Stages) → next ≡ with_entry p (entries.Ended m.number) → t ≡ switched m.kind (stages_at p.stages m.table) → stages ≡ slice_set next.stages m.table t
    → Gives (merge_ended p (Some m)) (replies.Merge m.number) (record next { pending = None; stages = stages })
merge_ends p next m t stages e switched_t set = record {
  answer = refl;
  state =
      ap (λ stages. record next { pending = None; stages = stages }) set
      ∙ ap (λ (q : Plain). record q { pending = None; stages = slice_set q.stages m.table t }) e
      ∙ (λ i. record (with_entry p (entries.Ended m.number)) { pending = None; stages = slice_set p.stages m.table (switched_t i) });
}

-- ---- a new table

pub table_made : (p next : Plain) (commits : ℕ) (name : List ℕ) (columns : List Column) (stages : Stages) → next ≡ with_entry p (entries.Create name columns) → commits ≡ (current p.journal).commits → stages ≡ next.stages ++ no_stages ∷ []
    → Gives (created p name columns) (replies.Committed (commits + 1)) (record next { stages = stages })
table_made p next commits name columns stages e number added = record {
  answer = ap (λ n. replies.Committed (n + 1)) number;
  state = ap (λ stages. record next { stages = stages }) added ∙ ap (λ (q : Plain). record q { stages = q.stages ++ no_stages ∷ [] }) e;
}

-- ---- a commit

pub commits_nothing : (p q : Plain) (session : ℕ) (os : List Op) → length os ≡ 0 → q ≡ with_session p session None → Gives (committed_by p session os) replies.Done q
commits_nothing p q session [] none e = record { answer = refl; state = e }
commits_nothing p q session (op ∷ os) none e = absurd (omega (arith, none))

pub commits_some : (p next q : Plain) (session commits : ℕ) (os copy : List Op) → 0 < length os → next ≡ with_session p session None → copy ≡ os → q ≡ with_entry next (entries.Txn copy) → commits ≡ (current p.journal).commits
    → Gives (committed_by p session os) (replies.Committed (commits + 1)) q
commits_some p next q session commits [] copy some e same f number = absurd (omega (arith, some))
commits_some p next q session commits (op ∷ os) copy some e same f number = record {
  answer = ap (λ n. replies.Committed (n + 1)) number;
  state = f ∙ (λ i. with_entry (e i) (entries.Txn (same i)));
}

-- ---- a savepoint begins

pub save_begins : (p copy : Plain) (at pages : ℕ) (image : Directory) → copy ≡ p → at ≡ journal_len p.journal → pages ≡ p.image_pages (captured_now p) → image ≡ captured_now p → Gives (save_begun p) (replies.Saving 0 pages) (record copy { phase = Writing at 0 pages image })
save_begins p copy at pages image same long many is = record {
  answer = ap (replies.Saving 0) many;
  state = phase_changed copy p (Writing at 0 pages image) same ∙ (λ i. record p { phase = Writing (long i) 0 (many i) (is i) });
}

-- ---- one is written

-- a copy that is as far has the same image
record IsSame (b at : ℕ) (captured image : Directory) : Type 0 where
  length : b ≡ at
  directory : captured ≡ image

as_far : (k : Progress) (b at done pages : ℕ) (captured image : Directory) → phase_of k b captured ≡ Writing at done pages image → IsSame b at captured image
as_far steps.Idle b at done pages captured image e = absurd cc
as_far (steps.Writing d q) b at done pages captured image e = record { length = cc; directory = cc }
as_far (steps.Sealed q) b at done pages captured image e = absurd cc

copied : (p copy : Plain) (g k : Progress) (b at done pages : ℕ) (captured image : Directory) → copy ≡ p → copy.phase ≡ phase_of k b captured → p.phase ≡ phase_of g at image → g ≡ steps.Writing done pages → IsSame b at captured image
copied p copy g k b at done pages captured image same behind is writes = as_far k b at done pages captured image (sym behind ∙ ap (λ (p : Plain). p.phase) same ∙ is ∙ ap (λ g. phase_of g at image) writes)

pub write_goes_on : (p copy : Plain) (g k : Progress) (b at done pages n next : ℕ) (captured image : Directory) → copy ≡ p → copy.phase ≡ phase_of k b captured → p.phase ≡ phase_of g at image → g ≡ steps.Writing done pages → next ≡ min pages (done + n)
    → Gives (save_written p n p.phase) (replies.Saving next pages) (record copy { phase = Writing b next pages captured })
write_goes_on p copy g k b at done pages n next captured image same behind is writes count =
    let there = copied p copy g k b at done pages captured image same behind is writes in
    let q = record copy { phase = Writing b next pages captured } in
    subst (λ phase. Gives (save_written p n phase) (replies.Saving next pages) q) (sym (is ∙ ap (λ g. phase_of g at image) writes)) (record {
      answer = ap (λ n. replies.Saving n pages) count;
      state = phase_changed copy p (Writing b next pages captured) same ∙ (λ i. record p { phase = Writing (there.length i) (count i) pages (there.directory i) });
    })

pub write_ends : (p copy : Plain) (g k : Progress) (b at done pages : ℕ) (captured image : Directory) → copy ≡ p → copy.phase ≡ phase_of k b captured → p.phase ≡ phase_of g at image → g ≡ steps.Writing done pages
    → Gives (save_sealed p p.phase) (replies.Sealed pages) (record copy { phase = Sealed b pages captured })
write_ends p copy g k b at done pages captured image same behind is writes =
    let there = copied p copy g k b at done pages captured image same behind is writes in
    let q = record copy { phase = Sealed b pages captured } in
    subst (λ phase. Gives (save_sealed p phase) (replies.Sealed pages) q) (sym (is ∙ ap (λ g. phase_of g at image) writes)) (record {
      answer = refl;
      state = phase_changed copy p (Sealed b pages captured) same ∙ (λ i. record p { phase = Sealed (there.length i) pages (there.directory i) });
    })

-- its root is selected
pub root_selected : (p copy : Plain) (g : Progress) (at pages : ℕ) (image : Directory) → copy ≡ p → p.phase ≡ phase_of g at image → g ≡ steps.Sealed pages → Gives (save_flipped p p.phase) (replies.Root at) (record copy { phase = Idle; root_pages = pages })
root_selected p copy g at pages image same is seals =
    let q = record copy { phase = Idle; root_pages = pages } in
    subst (λ phase. Gives (save_flipped p phase) (replies.Root at) q) (sym (is ∙ ap (λ g. phase_of g at image) seals)) (record {
      answer = refl;
      state = ap (λ (p : Plain). record p { phase = Idle; root_pages = pages }) same;
    })

-- ---- nothing is done in another phase

pub no_write : (p : Plain) (g : Progress) (at n : ℕ) (image : Directory) (reply : Reply) (q : Plain) → p.phase ≡ phase_of g at image → ((done pages : ℕ) → g ≡ steps.Writing done pages → ⊥) → Gives (record { reply = replies.Done; plain = p }) reply q → Gives (save_written p n p.phase) reply q
no_write p steps.Idle at n image reply q is never g = subst (λ phase. Gives (save_written p n phase) reply q) (sym is) g
no_write p (steps.Writing done pages) at n image reply q is never g = absurd (never done pages refl)
no_write p (steps.Sealed pages) at n image reply q is never g = subst (λ phase. Gives (save_written p n phase) reply q) (sym is) g

pub no_seal : (p : Plain) (g : Progress) (at : ℕ) (image : Directory) (reply : Reply) (q : Plain) → p.phase ≡ phase_of g at image → ((done pages : ℕ) → g ≡ steps.Writing done pages → ⊥) → Gives (record { reply = replies.Done; plain = p }) reply q → Gives (save_sealed p p.phase) reply q
no_seal p steps.Idle at image reply q is never g = subst (λ phase. Gives (save_sealed p phase) reply q) (sym is) g
no_seal p (steps.Writing done pages) at image reply q is never g = absurd (never done pages refl)
no_seal p (steps.Sealed pages) at image reply q is never g = subst (λ phase. Gives (save_sealed p phase) reply q) (sym is) g

pub no_flip : (p : Plain) (g : Progress) (at : ℕ) (image : Directory) (reply : Reply) (q : Plain) → p.phase ≡ phase_of g at image → ((pages : ℕ) → g ≡ steps.Sealed pages → ⊥) → Gives (record { reply = replies.Done; plain = p }) reply q → Gives (save_flipped p p.phase) reply q
no_flip p steps.Idle at image reply q is never g = subst (λ phase. Gives (save_flipped p phase) reply q) (sym is) g
no_flip p (steps.Writing done pages) at image reply q is never g = subst (λ phase. Gives (save_flipped p phase) reply q) (sym is) g
no_flip p (steps.Sealed pages) at image reply q is never g = absurd (never pages refl)
