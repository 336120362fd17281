use Rattle.std.proofs.Common.{◌≡◌, ◌∙◌, ◌<◌, [], List, length, get_or, All, ap, subst}
use Rattle.ut_l2.specs.Delta.{Delta}
use Rattle.ut_l2.specs.KeyRows.{KeyRow, cells_at}
use Rattle.ut_main.specs.Parts.{MainValue, dicts_behind}
use Rattle.ut_own.specs.Own.{cells_of}
use Rattle.ut_prefix.specs.Chain.{end_to_end}
use Rattle.ut_unsorted.specs.FirstSeen.{first_seen}
use Rattle.ut_merge.specs.Columns.{codes_in}
use Rattle.ut_merge.proofs.GatherLemmas.{sources-are}
use Rattle.ut_merge.proofs.KeptLemmas.{staying-le}
use Rattle.ut_merge.proofs.gathering.sources_of.Goals as goal

pub returns-clause-are : goal.returns-clause-are
returns-clause-are c =
    let job = c.args.job.now in
    let column = c.args.column in
    let rows = ap (λ (l : Delta). l.rows) c.closed.ensures in
    sources-are job column c.stay.result (codes_in c.in_ok-parts.parts.items) c.codes.result.now c.keys_in.result c.requires (staying-le job.head.kind (length job.parts)) c.stay.ensures.job c.stay.ensures.stay c.in_ok-parts.ensures
    (c.keys_in.ensures ∙ ap (λ (m : MainValue). length (end_to_end (get_or (dicts_behind m) column []))) c.main.ensures)
    (subst (λ (l : List KeyRow). All (λ x. x < length (first_seen (cells_at column l))) c.codes.result.now) rows c.codes.ensures.within)
    (subst (λ (l : List KeyRow). cells_of (first_seen (cells_at column l)) c.codes.result.now ≡ cells_at column l) rows c.codes.ensures.keys)
