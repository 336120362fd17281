use Rattle.std.proofs.Common.{◌≡◌, ℕ, min, ◌∙◌, refl, ap, subst, arith}
use Rattle.ut_outside.specs.Disk.{View}
use Rattle.ut_durable.specs.Calls.{FilesHeld, Stays}
use Rattle.ut_engine.specs.Logged.{Logged}
use Rattle.ut_engine.specs.Saves.{pages_left, Goes}
use Rattle.ut_engine.proofs.PagesLemmas.{stays_none, stays_then, goes_none, goes_more, goes_on}
use Rattle.ut_engine.proofs.logged.LoggedStore.write_pages.Goals as goal

pub loop-init : goal.loop-init
loop-init g c =
    let v : View = g.D.Disk.view c.args.disk.now in
    record {
      goes = goes_none c.args.self.now v;
      stays = stays_none c.args.self.now.files v (g.met.D.Disk.only_now c.args.disk.now);
      told = refl;
      still = refl;
    }

pub write_page-requires-clause-goes : goal.write_page-requires-clause-goes
write_page-requires-clause-goes g c =
    goes_on c.loop.counter c.args.self.now c.loop.self (g.D.Disk.view c.args.disk.now) (g.D.Disk.view c.loop.disk) c.requires.goes c.loop.invariant.goes

pub returns-in_err-write_page-clause-stays : goal.returns-in_err-write_page-clause-stays
returns-in_err-write_page-clause-stays g c =
    let f : FilesHeld = c.args.self.now.files in
    let v : View = g.D.Disk.view c.args.disk.now in
    let m : View = g.D.Disk.view c.loop.disk in
    let w : View = g.D.Disk.view c.write_page.new.disk in
    let goes = c.loop.invariant.goes in
    stays_then f v m w c.loop.invariant.told c.loop.invariant.stays (subst (λ (e : Logged). Stays e.files m w) goes.same c.write_page.ensures.stays)

pub loop-preserved : goal.loop-preserved
loop-preserved g c =
    let f : FilesHeld = c.args.self.now.files in
    let v : View = g.D.Disk.view c.args.disk.now in
    let m : View = g.D.Disk.view c.loop.disk in
    let w : View = g.D.Disk.view c.write_page.new.disk in
    let goes = c.loop.invariant.goes in
    record {
      goes = goes_more c.loop.counter c.args.self.now c.loop.self c.write_page.new.self v m w goes c.in_ok-write_page.ensures.written;
      stays = stays_then f v m w c.loop.invariant.told c.loop.invariant.stays (subst (λ (e : Logged). Stays e.files m w) goes.same c.write_page.ensures.stays);
      told = c.write_page.ensures.told ∙ c.loop.invariant.told;
      still = c.in_ok-write_page.ensures.cause.still ∙ c.loop.invariant.still;
    }

pub returns-clause-written : goal.returns-clause-written
returns-clause-written g c =
    let v : View = g.D.Disk.view c.args.disk.now in
    let m : View = g.D.Disk.view c.loop.disk in
    let all : c.loop.counter ≡ min c.args.n (pages_left c.args.self.now.saving) = omega (arith, c.loop-test.false, c.loop.auto.counter-end, c.min-count.ensures, c.pages_left.ensures) in
    subst (λ (count : ℕ). Goes count c.args.self.now v c.loop.self m) all c.loop.invariant.goes

pub returns-in_err-write_page-clause-memory : goal.returns-in_err-write_page-clause-memory
returns-in_err-write_page-clause-memory g c = c.write_page.ensures.memory ∙ ap (λ (e : Logged). e.store) c.loop.invariant.goes.same

pub returns-clause-memory : goal.returns-clause-memory
returns-clause-memory g c = ap (λ (e : Logged). e.store) c.loop.invariant.goes.same
