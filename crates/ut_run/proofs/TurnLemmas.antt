-- What becomes of a line, from what it is answered and what was written.
use Rattle.std.proofs.Common.{ℕ, ◌≡◌, List, [], ◌∷◌, ◌++◌, Ok, Err, refl, ap, ◌∙◌, subst}
use Rattle.ut_outside.specs.Disk.{View}
use Rattle.ut_outside.specs.Faults.{Rose}
use Rattle.ut_outside.specs.declared.ack.Ack.{Ack}
use Rattle.ut_outside.specs.declared.faults.Failed as fails
use Rattle.ut_plain.specs.declared.statement.Parsed.{Parsed}
use Rattle.ut_plain.specs.Journal.{journal_len}
use Rattle.ut_plain.specs.Plain.{Plain}
use Rattle.ut_engine.specs.Logged.{Logged}
use Rattle.ut_engine.specs.Runs.{Runs}
use Rattle.ut_run.specs.declared.say.Said.{Said}
use Rattle.ut_run.specs.declared.say.Said.TheVariants as saids
use Rattle.ut_run.specs.declared.turn.TurnEnd.TheVariants as ends
use Rattle.ut_run.specs.Writing.{Writes}
use Rattle.ut_run.specs.Saying.{Says, Outcome, Quiet, Replied, Failed}
use Rattle.ut_run.specs.Turning as turns
use Rattle.ut_run.specs.Turning.{Sunk, with_ack, LineOutcome, Turns}

noted : (acks now : List Ack) (old j jn n m : ℕ) → now ≡ acks ++ record { journal = j; moment = m } ∷ [] → jn ≡ j → j ≡ n → record { acks = now; journal = jn } ≡ with_ack (record { acks = acks; journal = old }) n m
noted acks now old j jn n m e f h =
    ap (λ (xs : List Ack). record { acks = xs; journal = jn }) e
    ∙ ap (λ (k : ℕ). record { acks = acks ++ record { journal = j; moment = m } ∷ []; journal = k }) f
    ∙ ap (λ (k : ℕ). record { acks = acks ++ record { journal = k; moment = m } ∷ []; journal = k }) h

module _ (old : Logged) (before : View) (line : Parsed) (acks : List Ack) (journal : ℕ) (sink : Sunk) (said : Said) (new : Logged) (after : View) (text : List ℕ) (says : Says old before line said new after text) where
  quiet_of : (p : Plain) (j : ℕ) → said ≡ saids.Nothing → j ≡ new.store.counts.entries → Outcome p line before said new after text → LineOutcome p line before (record { acks = acks; journal = journal }) sink (Ok tt) new after (record { acks = acks; journal = j }) sink
  quiet_of p j is e (Quiet q s a runs k t) = turns.Quiet q refl a runs k (ap (λ (n : ℕ). record { acks = acks; journal = n }) (e ∙ runs.stands.counts.entries)) refl
  quiet_of p j is e (Replied a q s l runs k t) = cc
  quiet_of p j is e (Failed a q s l k t) = cc

  pub quiet : (j : ℕ) → said ≡ saids.Nothing → j ≡ new.store.counts.entries → Turns old before line (record { acks = acks; journal = journal }) sink (Ok tt) new after (record { acks = acks; journal = j }) sink
  quiet j is e = record { each = λ p runs. quiet_of p j is e (says.each p runs) }

  told_of : (p : Plain) (j jn : ℕ) (now : List Ack) (sunk : Sunk) → said ≡ saids.Reply → j ≡ new.store.counts.entries → now ≡ acks ++ record { journal = j; moment = after.moment } ∷ [] → jn ≡ j
      → Writes {T = Unit {0}} {E = fails.Failed} sink.held sink.marks text after.moment (Ok tt) sunk.held sunk.marks → Outcome p line before said new after text
      → LineOutcome p line before (record { acks = acks; journal = journal }) sink (Ok tt) new after (record { acks = now; journal = jn }) sunk
  told_of p j jn now sunk is e f h w (Quiet q s a runs k t) = cc
  told_of p j jn now sunk is e f h w (Replied a q s l runs k t) =
      turns.Told a q refl l runs k (noted acks now journal j jn (journal_len q.journal) after.moment f h (e ∙ runs.stands.counts.entries))
      (subst (λ (xs : List ℕ). Writes {T = Unit {0}} {E = fails.Failed} sink.held sink.marks xs after.moment (Ok tt) sunk.held sunk.marks) t w)
  told_of p j jn now sunk is e f h w (Failed a q s l k t) = cc

  pub told : (j jn : ℕ) (now : List Ack) (sunk : Sunk) → said ≡ saids.Reply → j ≡ new.store.counts.entries → now ≡ acks ++ record { journal = j; moment = after.moment } ∷ [] → jn ≡ j
      → Writes {T = Unit {0}} {E = fails.Failed} sink.held sink.marks text after.moment (Ok tt) sunk.held sunk.marks
      → Turns old before line (record { acks = acks; journal = journal }) sink (Ok tt) new after (record { acks = now; journal = jn }) sunk
  told j jn now sunk is e f h w = record { each = λ p runs. told_of p j jn now sunk is e f h w (says.each p runs) }

  unwritten_of : (p : Plain) (j jn : ℕ) (now : List Ack) (sunk : Sunk) (x : fails.Failed) → said ≡ saids.Reply → j ≡ new.store.counts.entries → now ≡ acks ++ record { journal = j; moment = after.moment } ∷ [] → jn ≡ j
      → Writes {T = Unit {0}} {E = fails.Failed} sink.held sink.marks text after.moment (Err x) sunk.held sunk.marks → Outcome p line before said new after text
      → LineOutcome p line before (record { acks = acks; journal = journal }) sink (Err ends.Write) new after (record { acks = now; journal = jn }) sunk
  unwritten_of p j jn now sunk x is e f h w (Quiet q s a runs k t) = cc
  unwritten_of p j jn now sunk x is e f h w (Replied a q s l runs k t) =
      turns.Unwritten a q x refl l runs k (noted acks now journal j jn (journal_len q.journal) after.moment f h (e ∙ runs.stands.counts.entries))
      (subst (λ (xs : List ℕ). Writes {T = Unit {0}} {E = fails.Failed} sink.held sink.marks xs after.moment (Err x) sunk.held sunk.marks) t w)
  unwritten_of p j jn now sunk x is e f h w (Failed a q s l k t) = cc

  pub unwritten : (j jn : ℕ) (now : List Ack) (sunk : Sunk) (x : fails.Failed) → said ≡ saids.Reply → j ≡ new.store.counts.entries → now ≡ acks ++ record { journal = j; moment = after.moment } ∷ [] → jn ≡ j
      → Writes {T = Unit {0}} {E = fails.Failed} sink.held sink.marks text after.moment (Err x) sunk.held sunk.marks
      → Turns old before line (record { acks = acks; journal = journal }) sink (Err ends.Write) new after (record { acks = now; journal = jn }) sunk
  unwritten j jn now sunk x is e f h w = record { each = λ p runs. unwritten_of p j jn now sunk x is e f h w (says.each p runs) }

  lost_of : (p : Plain) (j jn : ℕ) (now : List Ack) (sunk : Sunk) → Runs old before p → said ≡ saids.Fault → j ≡ old.store.counts.entries → now ≡ acks ++ record { journal = j; moment = after.moment } ∷ [] → jn ≡ j
      → Writes {T = Unit {0}} {E = fails.Failed} sink.held sink.marks text after.moment (Ok tt) sunk.held sunk.marks → Outcome p line before said new after text
      → LineOutcome p line before (record { acks = acks; journal = journal }) sink (Err ends.Disk) new after (record { acks = now; journal = jn }) sunk
  lost_of p j jn now sunk was is e f h w (Quiet q s a runs k t) = cc
  lost_of p j jn now sunk was is e f h w (Replied a q s l runs k t) = cc
  lost_of p j jn now sunk was is e f h w (Failed a q s l k t) =
      turns.Lost a q refl l k (noted acks now journal j jn (journal_len p.journal) after.moment f h (e ∙ was.stands.counts.entries))
      (subst (λ (xs : List ℕ). Writes {T = Unit {0}} {E = fails.Failed} sink.held sink.marks xs after.moment (Ok tt) sunk.held sunk.marks) t w)

  pub lost : (j jn : ℕ) (now : List Ack) (sunk : Sunk) → said ≡ saids.Fault → j ≡ old.store.counts.entries → now ≡ acks ++ record { journal = j; moment = after.moment } ∷ [] → jn ≡ j
      → Writes {T = Unit {0}} {E = fails.Failed} sink.held sink.marks text after.moment (Ok tt) sunk.held sunk.marks
      → Turns old before line (record { acks = acks; journal = journal }) sink (Err ends.Disk) new after (record { acks = now; journal = jn }) sunk
  lost j jn now sunk is e f h w = record { each = λ p runs. lost_of p j jn now sunk runs is e f h w (says.each p runs) }

  lost_unwritten_of : (p : Plain) (j jn : ℕ) (now : List Ack) (sunk : Sunk) (x : fails.Failed) → Runs old before p → said ≡ saids.Fault → Rose before.faults after.faults → j ≡ old.store.counts.entries → now ≡ acks ++ record { journal = j; moment = after.moment } ∷ [] → jn ≡ j
      → Writes {T = Unit {0}} {E = fails.Failed} sink.held sink.marks text after.moment (Err x) sunk.held sunk.marks → Outcome p line before said new after text
      → LineOutcome p line before (record { acks = acks; journal = journal }) sink (Err ends.Write) new after (record { acks = now; journal = jn }) sunk
  lost_unwritten_of p j jn now sunk x was is rose e f h w (Quiet q s a runs k t) = cc
  lost_unwritten_of p j jn now sunk x was is rose e f h w (Replied a q s l runs k t) = cc
  lost_unwritten_of p j jn now sunk x was is rose e f h w (Failed a q s l k t) =
      turns.LostUnwritten a q x refl l k rose (noted acks now journal j jn (journal_len p.journal) after.moment f h (e ∙ was.stands.counts.entries))
      (subst (λ (xs : List ℕ). Writes {T = Unit {0}} {E = fails.Failed} sink.held sink.marks xs after.moment (Err x) sunk.held sunk.marks) t w)

  pub lost_unwritten : (j jn : ℕ) (now : List Ack) (sunk : Sunk) (x : fails.Failed) → said ≡ saids.Fault → Rose before.faults after.faults → j ≡ old.store.counts.entries → now ≡ acks ++ record { journal = j; moment = after.moment } ∷ [] → jn ≡ j
      → Writes {T = Unit {0}} {E = fails.Failed} sink.held sink.marks text after.moment (Err x) sunk.held sunk.marks
      → Turns old before line (record { acks = acks; journal = journal }) sink (Err ends.Write) new after (record { acks = now; journal = jn }) sunk
  lost_unwritten j jn now sunk x is rose e f h w = record { each = λ p runs. lost_unwritten_of p j jn now sunk x runs is rose e f h w (says.each p runs) }
