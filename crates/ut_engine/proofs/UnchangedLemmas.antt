-- An answer that changes nothing: a refusal, or that memory is wanting.
use Rattle.std.proofs.Common.{◌≡◌, inl, ℕ, refl, sym, subst, arith, IsTrue}
use Rattle.ut_outside.specs.Disk.{View, Image}
use Rattle.ut_outside.proofs.RunLemmas.{started}
use Rattle.ut_plain.specs.declared.statement.Statement.{Statement}
use Rattle.ut_plain.specs.declared.reply.Reply.{Reply}
use Rattle.ut_plain.specs.declared.reply.Reply.TheVariants as replies
use Rattle.ut_plain.specs.declared.reply.Refusal.TheVariants as refusals
use Rattle.ut_plain.specs.declared.reply.Why.{Why}
use Rattle.ut_plain.specs.Journal.{journal_len}
use Rattle.ut_plain.specs.Plain.{Plain, Phase, Sealed}
use Rattle.ut_plain.specs.Refusals.{is_save}
use Rattle.ut_plain.specs.Step.{MayAnswer}
use Rattle.ut_durable.specs.Files.{HasSelected}
use Rattle.ut_durable.specs.Journals.{HoldsPrefix}
use Rattle.ut_durable.proofs.RestLemmas.{rests_all}
use Rattle.ut_engine.specs.Logged.{Logged}
use Rattle.ut_engine.specs.Runs.{Runs}
use Rattle.ut_engine.specs.Savepoints.{IsOutOfTurn}
use Rattle.ut_engine.specs.Serves.{Selects, Serves}
use Rattle.ut_engine.proofs.PhaseLemmas.{out_of_turn}
use Rattle.ut_engine.proofs.SaveLemmas.{refused_by_phase}

-- where no root was selected nothing is said of one
pub selects_none : (phase : Phase) (reply : Reply) (new : Logged) (after : View) → ((n : ℕ) → reply ≡ replies.Root n → ⊥) → Selects phase reply new after
selects_none (Sealed captured pages image) (replies.Root n) new after never = absurd (never n refl)
selects_none phase reply new after never = tt

pub serves_unchanged : (e : Logged) (disk : View) (session : ℕ) (st : Statement) (reply : Reply) → ((c : Image) → disk.crash_states_since disk.moment c → disk.crash_states c)
    → ((p : Plain) → Runs e disk p → MayAnswer p session st reply p) → (reply ≡ replies.DiskFault → ⊥) → ((n : ℕ) → reply ≡ replies.Root n → ⊥) → Serves e disk session st reply e disk
serves_unchanged e disk session st reply only may sound no_root = record {
  each = λ p runs. inl (record {
    plain = p;
    may = may p runs;
    runs = runs;
    sound = sound;
    any_moment = λ told. started disk (HoldsPrefix p.journal (journal_len p.journal))
        (λ c left. rests_all p.journal e.files.slot e.files.reached runs.root runs.directory e.files.log c runs.stored.image (runs.stored.rests told c (only c left)));
  });
  keeps = λ p runs other told. started disk (HasSelected e.files.slot e.files.reached runs.root runs.directory)
      (λ c left. let rests = runs.stored.rests told c (only c left) in record { stands = rests.stands; image = rests.image });
  selects = λ p runs flip. selects_none p.phase reply e disk no_root;
  told = refl;
  later = omega arith;
  cause = λ fault. absurd (sound fault);
  still = λ _. refl;
}

-- a statement of the savepoint whose turn it isn't
pub serves_out_of_turn : (e : Logged) (disk : View) (session : ℕ) (st : Statement) (reply : Reply) → ((c : Image) → disk.crash_states_since disk.moment c → disk.crash_states c) → IsTrue (is_save st) → IsOutOfTurn e.saving st reply → Serves e disk session st reply e disk
serves_out_of_turn e disk session st reply only save out =
    subst (λ (r : Reply). Serves e disk session st r e disk) (sym out.says)
    (serves_unchanged e disk session st (replies.Refused (refusals.State out.why)) only (λ p runs. refused_by_phase p session st save out.why (out_of_turn e disk st reply out p runs)) (λ fault. cc) (λ n root. no_root out.why n root))
  where
    no_root : (why : Why) (n : ℕ) → replies.Refused (refusals.State why) ≡ replies.Root n → ⊥
    no_root why n is = cc
