use Rattle.std.proofs.Common.{◌≡◌, ◌∙◌, ℕ, sym, subst}
use Rattle.ut_plain.specs.declared.reply.Reply.{Reply}
use Rattle.ut_plain.specs.declared.statement.Statement.TheVariants as statements
use Rattle.ut_names.specs.declared.bound.Piece.{Piece}
use Rattle.ut_names.specs.declared.bound.Piece.TheVariants as pieces
use Rattle.ut_names.specs.Binding.{statement_of}
use Rattle.ut_engine.specs.Serves.{Serves}
use Rattle.ut_engine.proofs.BeginLemmas.{planned_told}
use Rattle.ut_engine.proofs.logged.LoggedStore.save.Goals as goal

pub returns-in-Begin-clause-serves : goal.returns-in-Begin-clause-serves
returns-in-Begin-clause-serves g c session =
    let v = g.D.Disk.view c.args.disk.now in
    let w = g.D.Disk.view c.save_begin.new.disk in
    subst (λ (piece : Piece). Serves c.args.self.now v session (statement_of piece) c.save_reply.result c.save_begin.new.self w) (sym c.in-Begin.is)
    (subst (λ (r : Reply). Serves c.args.self.now v session statements.SaveBegin r c.save_begin.new.self w) (sym c.save_reply.ensures) (c.save_begin.ensures.serves session))

pub phase_reply-requires : goal.phase_reply-requires
phase_reply-requires g c = c.save_step-answer.ensures.counted

pub returns-in-Step-clause-serves : goal.returns-in-Step-clause-serves
returns-in-Step-clause-serves g c session =
    let v = g.D.Disk.view c.args.disk.now in
    let w = g.D.Disk.view c.save_step-answer.new.disk in
    subst (λ (piece : Piece). Serves c.args.self.now v session (statement_of piece) c.phase_reply.result c.save_step-answer.new.self w) (sym c.in-Step.is)
    (subst (λ (r : Reply). Serves c.args.self.now v session (statements.SaveStep c.in-Step.n) r c.save_step-answer.new.self w) (sym c.phase_reply.ensures) (c.save_step-answer.ensures.serves session))

pub phase_reply-requires-in-Seal : goal.phase_reply-requires-in-Seal
phase_reply-requires-in-Seal g c = c.save_seal-answer.ensures.counted

pub returns-in-Seal-clause-serves : goal.returns-in-Seal-clause-serves
returns-in-Seal-clause-serves g c session =
    let v = g.D.Disk.view c.args.disk.now in
    let w = g.D.Disk.view c.save_seal-answer.new.disk in
    subst (λ (piece : Piece). Serves c.args.self.now v session (statement_of piece) c.phase_reply-in-Seal.result c.save_seal-answer.new.self w) (sym c.in-Seal.is)
    (subst (λ (r : Reply). Serves c.args.self.now v session statements.SaveSeal r c.save_seal-answer.new.self w) (sym c.phase_reply-in-Seal.ensures) (c.save_seal-answer.ensures.serves session))

pub returns-in-Flip-clause-serves : goal.returns-in-Flip-clause-serves
returns-in-Flip-clause-serves g c session =
    let v = g.D.Disk.view c.args.disk.now in
    let w = g.D.Disk.view c.save_flip.new.disk in
    subst (λ (piece : Piece). Serves c.args.self.now v session (statement_of piece) c.flip_reply.result c.save_flip.new.self w) (sym c.in-Flip.is)
    (subst (λ (r : Reply). Serves c.args.self.now v session statements.SaveFlip r c.save_flip.new.self w) (sym c.flip_reply.ensures) (c.save_flip.ensures.serves session))

pub phase_reply-requires-in-GiveUp : goal.phase_reply-requires-in-GiveUp
phase_reply-requires-in-GiveUp g c = c.save_drop-answer.ensures.counted

pub returns-in-GiveUp-clause-serves : goal.returns-in-GiveUp-clause-serves
returns-in-GiveUp-clause-serves g c session =
    let v = g.D.Disk.view c.args.disk.now in
    subst (λ (piece : Piece). Serves c.args.self.now v session (statement_of piece) c.phase_reply-in-GiveUp.result c.save_drop-answer.new.self v) (sym c.in-GiveUp.is)
    (subst (λ (r : Reply). Serves c.args.self.now v session statements.SaveDrop r c.save_drop-answer.new.self v) (sym c.phase_reply-in-GiveUp.ensures) (c.save_drop-answer.ensures.serves session))

-- what begins no savepoint
step_begins : (n : ℕ) → pieces.Step n ≡ pieces.Begin → ⊥
step_begins n e = cc

seal_begins : pieces.Seal ≡ pieces.Begin → ⊥
seal_begins e = cc

flip_begins : pieces.Flip ≡ pieces.Begin → ⊥
flip_begins e = cc

give_up_begins : pieces.GiveUp ≡ pieces.Begin → ⊥
give_up_begins e = cc

pub returns-in-Begin-clause-planned : goal.returns-in-Begin-clause-planned
returns-in-Begin-clause-planned g c is pages told = planned_told c.args.self.now c.save_begin.new.self.saving c.save_begin.result pages c.save_begin.ensures.planned (sym c.save_reply.ensures ∙ told)

pub returns-in-Step-clause-planned : goal.returns-in-Step-clause-planned
returns-in-Step-clause-planned g c is pages told = absurd (step_begins _ (sym c.in-Step.is ∙ is))

pub returns-in-Seal-clause-planned : goal.returns-in-Seal-clause-planned
returns-in-Seal-clause-planned g c is pages told = absurd (seal_begins (sym c.in-Seal.is ∙ is))

pub returns-in-Flip-clause-planned : goal.returns-in-Flip-clause-planned
returns-in-Flip-clause-planned g c is pages told = absurd (flip_begins (sym c.in-Flip.is ∙ is))

pub returns-in-GiveUp-clause-planned : goal.returns-in-GiveUp-clause-planned
returns-in-GiveUp-clause-planned g c is pages told = absurd (give_up_begins (sym c.in-GiveUp.is ∙ is))
