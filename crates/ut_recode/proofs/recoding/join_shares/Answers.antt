use Rattle.std.proofs.Common.{◌≡◌, ◌+◌, ◌*◌, ◌/◌, ◌++◌, sym, ap, ◌∙◌, length, subst, arith, IfOk}
use Rattle.ut_own.specs.Own.{recoded}
use Rattle.ut_recode.specs.Recode.{with_staying}
use Rattle.ut_recode.specs.Spans.{span}
use Rattle.ut_recode.proofs.ShareLemmas.{share_more, all_shares}
use Rattle.ut_recode.proofs.recoding.join_shares.Goals as goal

pub loop-share-preserved : goal.loop-share-preserved
loop-share-preserved c =
    share_more (with_staying c.args.first c.args.map.now) c.args.codes.now c.loop-share.out.items c.extend_from_slice.new.self.items c.in-Ok.part.items c.loop-share.share-index (length c.args.shares.now) (omega arith) c.loop-share.invariant
    (subst (λ r. IfOk r (λ v. v.items ≡ recoded (with_staying c.args.first c.args.map.now) (span (c.loop-share.share-index * length c.args.codes.now / length c.args.shares.now) ((c.loop-share.share-index + 1) * length c.args.codes.now / length c.args.shares.now) c.args.codes.now)))
    (sym c.share-item.is ∙ c.in-Ok.is) (c.requires.shares c.loop-share.share-index c.share-item.result c.loop-share-test.true))
    (c.in_ok-extend_from_slice-in-Ok.ensures.items ∙ ap (λ l. c.loop-share.out.items ++ l) c.as_slice.ensures.value)

pub returns : goal.returns
returns c = all_shares (with_staying c.args.first c.args.map.now) c.args.codes.now c.loop-share.out.items c.loop-share.share-index (length c.args.shares.now) (omega arith) (omega arith) c.loop-share.invariant
