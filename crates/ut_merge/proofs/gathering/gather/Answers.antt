use Rattle.std.proofs.Common.{◌∙◌, ◌<◌, ℕ, List, All, flat_map, max, sym, ap, subst, arith}
use Rattle.std.specs.Global.{Vec}
use Rattle.std.specs.List.{AllZip}
use Rattle.rayon.proofs.ListFacts.{IfOk-then}
use Rattle.rayon.proofs.ToStd.{chunks_of-concat, slice-AllZip}
use Rattle.rayon.specs.Lists.{chunks_of}
use Rattle.ut_merge.specs.declared.old.Old.{Old}
use Rattle.ut_merge.specs.Gathering.{AreGathered}
use Rattle.ut_merge.specs.Places.{IsOld}
use Rattle.ut_merge.proofs.PieceLemmas.{each-chunk, pieces-gathered, PieceIs}
use Rattle.ut_merge.proofs.gathering.gather.Goals as goal

pub collect-requires-clause-ready : goal.collect-requires-clause-ready
collect-requires-clause-ready g c κs within =
    let job = c.args.sources.now.job.now in
    let places = subst (All (IsOld job)) (sym c.par_chunks.ensures.slice) c.requires.places in
    let each = each-chunk (IsOld job) (max c.par_chunks.result.size 1) c.par_chunks.result.slice.now places in
    rw (c.map.ensures.base, c.map.ensures.f) (λ k d lt x e. ((c.requires.are, subst (All (IsOld job)) (sym e) (each k d lt)), λ y p. tt))

pub returns : goal.returns
returns g c =
    let s = c.args.sources.now in
    let olds = c.args.olds.now in
    let size = max c.par_chunks.result.size 1 in
    let pos : 0 < size = omega arith in
    let h = c.in_ok-collect.ensures in
    let chain = rw (c.map.ensures.base, c.map.ensures.f) at h.1 in
    let oks = rw c.in_ok-lists.was at h.2 in
    let shown = chain.1 ∙ ap (λ (l : List Old). chunks_of size l) c.par_chunks.ensures.slice in
    let zipped = slice-AllZip chain.0 (chunks_of size olds) shown (PieceIs s) h.0 chain.2 in
    let gathered = pieces-gathered s (chunks_of size olds) oks.0 (subst (AllZip (PieceIs s) (chunks_of size olds)) oks.1 zipped) in
    let whole = subst (λ (l : List Old). AreGathered s l (flat_map (λ (v : Vec ℕ). v.items) oks.0)) (chunks_of-concat size olds pos) gathered in
    IfOk-then c.join.result _ _ c.join.ensures (λ codes e.
    let items = e ∙ ap (λ (l : List (Vec ℕ)). flat_map (λ (v : Vec ℕ). v.items) l) (c.as_slice.ensures.value ∙ oks.2) in
    subst (λ (l : List ℕ). AreGathered s olds l) (sym items) whole)
