use Rattle.std.proofs.Common.{List, ℕ, true, ap, subst}
use Rattle.ut_outside.specs.Disk.{View}
use Rattle.ut_durable.specs.Calls.{FilesHeld, MayGain}
use Rattle.ut_engine.specs.Logged.{Logged}
use Rattle.ut_engine.specs.Handing.{Appended}
use Rattle.ut_engine.proofs.logged.LoggedStore.append.Goals as goal

pub returns-in-Ok-clause-any_moment : goal.returns-in-Ok-clause-any_moment
returns-in-Ok-clause-any_moment g c =
    subst (λ (l : List ℕ). MayGain l c.args.self.now.files (g.D.Disk.view c.args.disk.now) (g.D.Disk.view c.append.new.disk)) c.frame.ensures c.append.ensures.any_moment

pub returns-in-Ok-clause-ok : goal.returns-in-Ok-clause-ok
returns-in-Ok-clause-ok g c =
    let v : View = g.D.Disk.view c.args.disk.now in
    let w : View = g.D.Disk.view c.append.new.disk in
    let ok = c.in-Ok.ensures in
    subst (λ (l : List ℕ). Appended c.args.self.now.files c.append.new.self l v w) c.frame.ensures (record { place = ok.place; gains = ok.gains; pages = ok.pages; told = c.append.ensures.told; still = ok.cause.still })

pub returns-in-Err-clause-any_moment : goal.returns-in-Err-clause-any_moment
returns-in-Err-clause-any_moment g c =
    subst (λ (l : List ℕ). MayGain l c.args.self.now.files (g.D.Disk.view c.args.disk.now) (g.D.Disk.view c.append.new.disk)) c.frame.ensures c.append.ensures.any_moment

pub returns-in-Err-clause-err : goal.returns-in-Err-clause-err
returns-in-Err-clause-err g c = record { told = c.append.ensures.told; later = c.append.ensures.cause.later; rose = c.in-Err.ensures.cause.failed }

pub returns-in-Err-clause-down : goal.returns-in-Err-clause-down
returns-in-Err-clause-down g c = let old : Logged = c.args.self.now in ap (λ (f : FilesHeld). record old { files = f; down = true }) c.in-Err.ensures.place
