-- What the program comes to with its words.
use Rattle.std.proofs.Common.{inl, inr, ◌≡◌, ◌⊎◌, List, ℕ, Result, Err, refl, sym, subst, ◌∙◌}
use Rattle.std.specs.Prelude.{IsErrOf}
use Rattle.ut_words.specs.declared.plan.Plan.{Plan}
use Rattle.ut_words.specs.declared.plan.WordsError.{WordsError}
use Rattle.ut_words.specs.declared.plan.WordsError.TheVariants as errors
use Rattle.ut_words.specs.Plans.{Refuses}
use Rattle.ut_run.specs.declared.report.Status.{Status}
use Rattle.ut_run.specs.declared.report.Status.TheVariants.{Done, Usage, Memory}
use Rattle.ut_outside.specs.declared.ack.Ack.{Ack}
use Rattle.ut_words.specs.declared.plan.Mode.{Mode}
use Rattle.ut_words.specs.declared.plan.Mode.TheVariants as modes
use Rattle.ut_run.specs.World.{World, NoFault}
use Rattle.ut_app.specs.Crowds.{CrowdRun}
use Rattle.ut_app.specs.Top.{ServesMode, RunsMode, RunsPlan, WordsStatus}

abbrev no_plan : WordsError → Result Plan WordsError
no_plan error = Err error

-- words without a plan are refused where the status says so
pub words_usage : (words : List (List ℕ)) (error : WordsError) (status said : Status) → WordsStatus error status → said ≡ status → (IsErrOf (no_plan error) errors.Usage → Refuses words) → said ≡ Usage → Refuses words
words_usage words errors.Usage status said w e refused u = refused refl
words_usage words errors.Memory status said w e refused u = let no : Memory ≡ Usage = sym (e ∙ w) ∙ u in cc

-- a plan of another mode than `crowd` is run as it is served
pub served_runs : (mode : Mode) (plan : Plan) (before after : World) (status : Status) (lines : ℕ) (acks : List Ack) (journal : ℕ) → (mode ≡ modes.Run) ⊎ (mode ≡ modes.Bench) → ServesMode mode plan before after status lines acks journal → RunsMode mode plan before after status lines acks journal
served_runs modes.Run plan before after status lines acks journal is s = s
served_runs modes.Bench plan before after status lines acks journal is s = s
served_runs modes.Crowd plan before after status lines acks journal (inl is) s = cc
served_runs modes.Crowd plan before after status lines acks journal (inr is) s = cc

-- a plan of the mode `crowd` is run as a crowd
pub crowd_runs : (plan : Plan) (before after : World) (status : Status) (lines : ℕ) (acks : List Ack) (journal : ℕ) → plan.mode ≡ modes.Crowd → CrowdRun plan before after status lines acks journal → RunsPlan plan before after status lines acks journal
crowd_runs plan before after status lines acks journal is run = subst (λ (m : Mode). RunsMode m plan before after status lines acks journal) (sym is) run

-- where a run that is served is Done, no count of faults rose
pub served_still : (mode : Mode) (plan : Plan) (before after : World) (status : Status) (lines : ℕ) (acks : List Ack) (journal : ℕ) → ServesMode mode plan before after status lines acks journal → status ≡ Done → NoFault before after
served_still modes.Run plan before after status lines acks journal s e = s.still e
served_still modes.Bench plan before after status lines acks journal s e = s.still e
served_still modes.Crowd plan before after status lines acks journal s e = let no : Usage ≡ Done = sym s.says ∙ e in cc
