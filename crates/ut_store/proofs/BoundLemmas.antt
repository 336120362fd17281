-- What a statement's binding comes to, and which tables a task names.
use Rattle.std.proofs.Common.{ℕ, ◌<◌, ◌≡◌, true, false, List, length, Some, refl, ap, IsTrue, Result, Ok, Err, IfErr, IsErr, IsErrOf}
use Rattle.ut_value.specs.Text.{same_bytes}
use Rattle.ut_value.specs.declared.entry.MergeKind.{MergeKind}
use Rattle.ut_plain.specs.declared.table.Table.{Table}
use Rattle.ut_plain.specs.declared.statement.Statement.{Statement}
use Rattle.ut_plain.specs.declared.statement.Statement.TheVariants as statements
use Rattle.ut_plain.specs.declared.reply.Refusal.{Refusal}
use Rattle.ut_plain.specs.declared.reply.Refusal.TheVariants as refusals
use Rattle.ut_plain.specs.declared.reply.Reply.TheVariants as replies
use Rattle.ut_plain.specs.Kinds.{kinds_fit}
use Rattle.ut_plain.specs.Names.{names_known}
use Rattle.ut_plain.specs.Refusals.{is_save}
use Rattle.ut_plain.specs.Step.{may_lack_memory}
use Rattle.ut_plain.specs.Tables.{place_of}
use Rattle.ut_plain.proofs.ListLemmas.{position_below}
use Rattle.ut_names.specs.declared.bound.Bound.{Bound}
use Rattle.ut_names.specs.declared.bound.Task.TheVariants as tasks
use Rattle.ut_names.specs.Binding.{IsPlainlyBound}
use Rattle.ut_names.specs.Resolved.{Hinders}
use Rattle.ut_names.proofs.TaskLemmas.{of_merge_l1, of_merge, of_shape}
use Rattle.ut_store.specs.declared.response.Response.TheVariants.{Answered}
use Rattle.ut_store.specs.Held.{Held}
use Rattle.ut_store.specs.Answers.{Answers}
use Rattle.ut_store.specs.Executing.{MayExecute}
use Rattle.ut_store.proofs.WayLemmas.{kept_back}

-- ---- why it wasn't bound

-- one that memory may be wanting for, where it isn't bound without any
lacks_bound : (st : Statement) → is_save st ≡ false → (IsPlainlyBound st → ⊥) → IsTrue (may_lack_memory st)
lacks_bound statements.Commit served h = absurd (h tt)
lacks_bound statements.Abort served h = absurd (h tt)
lacks_bound statements.SaveBegin served h = cc
lacks_bound (statements.SaveStep n) served h = cc
lacks_bound statements.SaveSeal served h = cc
lacks_bound statements.SaveFlip served h = cc
lacks_bound statements.SaveDrop served h = cc
lacks_bound _ served h = refl

err_is : (w v : Refusal) → w ≡ v → IsErrOf {T = Bound} (Err w) v
err_is w v same = ap (λ (x : Refusal). Err x) same

pub unbound : (e : Held) (st : Statement) (r : Result Bound Refusal) → IfErr r (Hinders (names_known e.rows.tables st) (kinds_fit e.rows.tables st)) → (IsPlainlyBound st → IsErrOf r refusals.Memory → ⊥)
    → IfErr r (λ why. (session : ℕ) → session < 17 → is_save st ≡ false → Answers e session st (Answered (replies.Refused why)) e)
unbound e st (Ok bound) h room = tt
unbound e st (Err why) h room = λ session small served. kept_back e session st why small served h (λ memory. lacks_bound st served (λ plainly. room plainly (err_is why refusals.Memory memory)))

not_both : true ≡ false → ⊥
not_both h = cc

no_error : false ≡ true → ⊥
no_error h = cc

-- a piece of a savepoint is bound
pub piece_bound : (ts : List Table) (st : Statement) (r : Result Bound Refusal) → IfErr r (Hinders (names_known ts st) (kinds_fit ts st)) → (IsPlainlyBound st → IsErrOf r refusals.Memory → ⊥) → is_save st ≡ true → IsErr r → ⊥
piece_bound ts st (Ok bound) h room save err = no_error err
piece_bound ts st (Err why) h room save err = by st h (λ plainly memory. room plainly (err_is why refusals.Memory memory)) save
  where
    memory : (w : Refusal) → Hinders true true w → (w ≡ refusals.Memory → ⊥) → ⊥
    memory refusals.Name k never = cc
    memory refusals.Kind k never = absurd (not_both k.1)
    memory refusals.Memory k never = never refl
    memory refusals.Syntax k never = k
    memory (refusals.State w) k never = k
    memory refusals.Full k never = k
    memory (refusals.Conflict id) k never = k

    by : (x : Statement) → Hinders (names_known ts x) (kinds_fit ts x) why → (IsPlainlyBound x → why ≡ refusals.Memory → ⊥) → is_save x ≡ true → ⊥
    by statements.SaveBegin k never s = memory why k (never tt)
    by (statements.SaveStep n) k never s = memory why k (never tt)
    by statements.SaveSeal k never s = memory why k (never tt)
    by statements.SaveFlip k never s = memory why k (never tt)
    by statements.SaveDrop k never s = memory why k (never tt)
    by _ k never s = cc

-- ---- the table of a task is there

below : (ts : List Table) (name : List ℕ) (n : ℕ) → place_of ts name ≡ Some n → n < length ts
below ts name n is = position_below (λ (table : Table). same_bytes table.name name) ts n is

module _ (e : Held) (session n : ℕ) where
  pub there_l1 : (m : ℕ) → MayExecute e session (tasks.MergeL1 n m) → n < length e.rows.tables
  there_l1 m a = let o = of_merge_l1 e.rows.tables n m a.st a.asked.binds.is in below e.rows.tables o.name n o.place

  pub there_merge : (kind : MergeKind) → MayExecute e session (tasks.MergeBegin n kind) → n < length e.rows.tables
  there_merge kind a = let o = of_merge e.rows.tables n kind a.st a.asked.binds.is in below e.rows.tables o.name n o.place

  pub there_shape : MayExecute e session (tasks.Shape n) → n < length e.rows.tables
  there_shape a = let o = of_shape e.rows.tables n a.st a.asked.binds.is in below e.rows.tables o.name n o.place
