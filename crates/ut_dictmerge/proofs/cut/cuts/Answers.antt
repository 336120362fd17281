use Rattle.std.proofs.Common.{◌≡◌, ◌+◌, ◌*◌, ◌/◌, ℕ, length, ap, ◌∙◌, subst, arith}
use Rattle.std.proofs.lemmas.List.{length_push}
use Rattle.ut_dictmerge.specs.Cuts.{IsCutBehind}
use Rattle.ut_dictmerge.proofs.CutLemmas.{pushed}
use Rattle.ut_dictmerge.proofs.DivisionLemmas.{cuts_are}
use Rattle.ut_dictmerge.proofs.cut.cuts.Goals as goal

pub loop-k-preserved : goal.loop-k-preserved
loop-k-preserved c =
    let behind : c.share-keys.result ≡ c.loop-k.k * (length c.args.a.now + length c.args.b.now) / c.args.pieces =
    c.share-keys.ensures.share ∙ ap (λ (n : ℕ). c.loop-k.k * n / c.args.pieces) (ap (λ n. n + c.len-2.result) c.len.ensures.len ∙ ap (λ n. length c.args.a.now + n) c.len-2.ensures.len) in
    rw c.in_ok-push.ensures.items (
      length_push c.loop-k.cuts.items c.cut_behind.result ∙ ap (λ n. n + 1) c.loop-k.invariant.0,
      pushed (λ k x. IsCutBehind c.args.a.now c.args.b.now (k * (length c.args.a.now + length c.args.b.now) / c.args.pieces) x.a x.b) c.loop-k.cuts.items c.cut_behind.result c.loop-k.k c.loop-k.invariant.0 c.loop-k.invariant.1
          (subst (λ (n : ℕ). IsCutBehind c.args.a.now c.args.b.now n c.cut_behind.result.a c.cut_behind.result.b) behind c.cut_behind.ensures),
    )

pub returns : goal.returns
returns c = cuts_are c.args.a.now c.args.b.now c.args.pieces c.loop-k.k c.loop-k.cuts.items (omega arith) c.requires.ascending_a c.requires.ascending_b c.loop-k.invariant.0 (omega arith) c.loop-k.invariant.1
