use Rattle.std.proofs.Common.{◌∙◌, ◌++◌, [], ◌∷◌, List, ℕ, length, get_or, subst, sym, ap, arith}
use Rattle.std.specs.Arc.{arc_value}
use Rattle.std.proofs.lemmas.List.{length-map}
use Rattle.ut_own.specs.Own.{cells_of}
use Rattle.ut_prefix.specs.Chain.{end_to_end, LacksAll}
use Rattle.ut_main.specs.Columns.{Chain, StandsBehind}
use Rattle.ut_main.proofs.OwnLemmas.{own-lacks, own-length}
use Rattle.ut_main.proofs.MainLemmas.{column-made}
use Rattle.ut_main.proofs.parts.Main.column.Goals as goal

pub push-requires-clause-apart : goal.push-requires-clause-apart
push-requires-clause-apart c =
    let behind = subst (λ (b : Chain). StandsBehind b (arc_value c.args.dict) c.args.codes) (sym c.in_ok-chain.ensures.dicts) c.requires.behind in
    subst (LacksAll c.in_ok-chain.chain) (sym (c.in_ok-try_clone.ensures ∙ behind.own)) (own-lacks c.in_ok-chain.chain (cells_of (end_to_end (c.in_ok-chain.chain ++ arc_value c.args.dict ∷ [])) c.args.codes.codes))

pub push-requires-clause-few : goal.push-requires-clause-few
push-requires-clause-few c =
    let behind = subst (λ (b : Chain). StandsBehind b (arc_value c.args.dict) c.args.codes) (sym c.in_ok-chain.ensures.dicts) c.requires.behind in
    let keys = end_to_end (c.in_ok-chain.chain ++ arc_value c.args.dict ∷ []) in
    let size = ap (λ (d : List (List ℕ)). length d) (c.in_ok-try_clone.ensures ∙ behind.own) in
    let own = own-length (end_to_end c.in_ok-chain.chain) (cells_of keys c.args.codes.codes) in
    let cells = length-map c.args.codes.codes (λ code. get_or keys code []) in
    let few = c.in_ok-chain.ensures.few in
    let all = c.requires.few in
    omega (arith, size, own, cells, few, all)

pub of-requires : goal.of-requires
of-requires c =
    let behind = subst (λ (b : Chain). StandsBehind b (arc_value c.args.dict) c.args.codes) (sym c.in_ok-chain.ensures.dicts) c.requires.behind in
    let new = c.in_ok-push.ensures.ok ∙ ap (λ (d : List (List ℕ)). c.in_ok-chain.chain ++ d ∷ []) c.in_ok-try_clone.ensures in
    (column-made c.in_ok-chain.chain (arc_value c.args.dict) c.args.codes c.push.new.self c.in_ok-chain.ensures.distinct behind new).1
