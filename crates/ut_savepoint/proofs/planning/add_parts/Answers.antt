use Rattle.std.proofs.Common.{length, sym, ◌∙◌, ap}
use Rattle.ut_durable.specs.Bytes.{pages_for}
use Rattle.ut_savepoint.proofs.PageLemmas.{fills_pages}
use Rattle.ut_savepoint.proofs.planning.add_parts.Goals as goal

pub add-requires : goal.add-requires
add-requires c =
    let len = c.len.ensures ∙ ap length (sym c.as_slice.ensures) in
    fills_pages c.split_at.result.0.now c.as_slice.result.now (c.split_at.ensures.front_len ∙ c.pages_for.ensures ∙ ap pages_for len)
