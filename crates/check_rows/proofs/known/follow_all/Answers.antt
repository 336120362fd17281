use Rattle.std.proofs.Common.{◌≡◌, ◌+◌, ◌++◌, [], ◌∷◌, take, sym, ap, ◌∙◌, subst, arith}
use Rattle.std.proofs.lemmas.List.{take_more}
use Rattle.check_rows.specs.Known.{Follows}
use Rattle.check_rows.proofs.KnownLemmas.{none_follow, more_follow}
use Rattle.check_rows.proofs.known.follow_all.Goals as goal

pub loop-entry-init : goal.loop-entry-init
loop-entry-init c = record { known = none_follow c.args.known.now; commits = omega arith; merges = omega arith }

pub loop-entry-preserved : goal.loop-entry-preserved
loop-entry-preserved c =
    let next : take (c.loop-entry.entry-index + 1) c.args.entries.now ≡ take c.loop-entry.entry-index c.args.entries.now ++ c.entry-item.result ∷ [] = take_more c.args.entries.now c.loop-entry.entry-index c.entry-item.result (omega arith) ∙ ap (λ e. take c.loop-entry.entry-index c.args.entries.now ++ e ∷ []) (sym c.entry-item.is) in
    record {
      known = subst (λ es. Follows c.args.known.now es c.follow.new.known) (sym next) (more_follow c.args.known.now c.loop-entry.known c.follow.new.known (take c.loop-entry.entry-index c.args.entries.now) c.entry-item.result c.loop-entry.invariant.known c.in_ok-follow.ensures.state);
      commits = let one = c.in_ok-follow.ensures.commits in omega arith;
      merges = let one = c.in_ok-follow.ensures.merges in omega arith;
    }
