use Rattle.std.proofs.Common.{refl, subst}
use Rattle.ut_stream.specs.Fronts.{IsShort, HasNoFrame, IsWhole}
use Rattle.ut_stream.proofs.HeardLemmas.{held_is, off_is, payload_is, heard_bad, heard_frame}
use Rattle.ut_stream.proofs.frames.Frames.next.Goals as goal

pub returns-in-Short-clause-ok : goal.returns-in-Short-clause-ok
returns-in-Short-clause-ok c = (subst IsShort (held_is c.self.inside.at c.deref.result.now c.self.inside.bytes.items c.args.self.now c.deref.ensures.value c.self.view_is) c.in-Short.ensures, refl)

pub returns-in-Off-clause-ok : goal.returns-in-Off-clause-ok
returns-in-Off-clause-ok c = (off_is c.args.self.now (subst HasNoFrame (held_is c.self.inside.at c.deref.result.now c.self.inside.bytes.items c.args.self.now c.deref.ensures.value c.self.view_is) c.in-Off.ensures), refl)

pub returns-in-None-clause-ok : goal.returns-in-None-clause-ok
returns-in-None-clause-ok c =
    let w = subst (IsWhole c.in-Whole.len) (held_is c.self.inside.at c.deref.result.now c.self.inside.bytes.items c.args.self.now c.deref.ensures.value c.self.view_is) c.in-Whole.ensures in (
      heard_bad c.in-Whole.len c.args.self.now _ w (payload_is c.self.inside.at c.in-Whole.len c.deref-in-Whole.result.now c.self.inside.bytes.items c.args.self.now w.behind c.deref-in-Whole.ensures.value c.self.view_is w.header)
          (rw c.in-None.is at c.in_ok-entries_in-in-Whole.ensures.none),
      refl,
    )

pub returns-in-Some-clause-ok : goal.returns-in-Some-clause-ok
returns-in-Some-clause-ok c =
    let w = subst (IsWhole c.in-Whole.len) (held_is c.self.inside.at c.deref.result.now c.self.inside.bytes.items c.args.self.now c.deref.ensures.value c.self.view_is) c.in-Whole.ensures in
    heard_frame c.self.inside.at c.in-Whole.len c.self.inside.bytes.items c.args.self.now _ c.in-Some.entries c.self.view_is w
    (payload_is c.self.inside.at c.in-Whole.len c.deref-in-Whole.result.now c.self.inside.bytes.items c.args.self.now w.behind c.deref-in-Whole.ensures.value c.self.view_is w.header)
    (rw c.in-Some.is at c.in_ok-entries_in-in-Whole.ensures.some)
