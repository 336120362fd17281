use Rattle.std.proofs.Common.{◌<◌, ◌≡◌, true, length, refl, ap, sym, ◌∙◌, arith}
use Rattle.ut_plain.specs.declared.reply.Refusal.TheVariants as refusals
use Rattle.ut_plain.specs.Made.{rows_of}
use Rattle.ut_change.specs.declared.bulk.Bulk.{Bulk}
use Rattle.ut_store.specs.Held.{Held}
use Rattle.ut_store.specs.Changes.{has_ids_for}
use Rattle.ut_store.proofs.ExecutedLemmas.{asked_work, executed, refused_by}
use Rattle.ut_store.proofs.AskedWorkLemmas.{loading_small, loading_wide, loading_full, loading_ready, loading_work}
use Rattle.ut_store.proofs.store.Store.load.Goals as goal

pub rows_in-count-requires : goal.rows_in-count-requires
rows_in-count-requires c = loading_wide c.args.self.now c.args.session c.args.table c.args.width c.args.values c.requires

pub returns-then-not-has_ids_for : goal.returns-then-not-has_ids_for
returns-then-not-has_ids_for c =
    let many : c.rows_in-count.result ≡ length (rows_of c.args.width c.args.values) = c.rows_in-count.ensures ∙ ap (λ vs. length (rows_of c.args.width vs)) c.as_slice-values.ensures in
    refused_by c.args.self.now c.args.self.now c.args.session _ _ refusals.Full refl
    (loading_full c.args.self.now c.args.session c.args.table c.args.width c.args.values c.rows_in-count.result many (sym c.has_ids_for.ensures ∙ c.if-not-has_ids_for.true) c.requires.seat c.requires.stands)

pub overflow_cast-bulk : goal.overflow_cast-bulk
overflow_cast-bulk c = let small : c.args.table < 65536 = loading_small c.args.self.now c.args.session c.args.table c.args.width c.args.values c.requires in omega arith

pub finish-requires-clause-asked : goal.finish-requires-clause-asked
finish-requires-clause-asked c =
    let many : c.rows_in-count.result ≡ length (rows_of c.args.width c.args.values) = c.rows_in-count.ensures ∙ ap (λ vs. length (rows_of c.args.width vs)) c.as_slice-values.ensures in
    let b : Bulk = record { table = c.args.table; id = c.self.inside.counts.next_id; width = c.args.width; values = c.as_slice-values.result } in
    asked_work c.args.self.now c.args.session _ _ c.requires
    (loading_work c.args.self.now c.args.session c.args.table c.args.width c.args.values b refl (ap (λ (h : Held). h.counts.next_id) c.self.view_is) refl c.as_slice-values.ensures c.rows_in-count.result many c.requires.seat c.requires.stands)

pub finish-requires-clause-ready : goal.finish-requires-clause-ready
finish-requires-clause-ready c =
    let many : c.rows_in-count.result ≡ length (rows_of c.args.width c.args.values) = c.rows_in-count.ensures ∙ ap (λ vs. length (rows_of c.args.width vs)) c.as_slice-values.ensures in
    let ids : has_ids_for c.args.self.now (length (rows_of c.args.width c.args.values)) ≡ true = ap (has_ids_for c.args.self.now) (sym many) ∙ sym c.has_ids_for.ensures ∙ c.if-not-has_ids_for.false in
    let b : Bulk = record { table = c.args.table; id = c.self.inside.counts.next_id; width = c.args.width; values = c.as_slice-values.result } in
    loading_ready c.args.self.now c.args.session c.args.table c.args.width c.args.values b refl (ap (λ (h : Held). h.counts.next_id) c.self.view_is) refl c.as_slice-values.ensures c.rows_in-count.result many c.requires ids

pub returns : goal.returns
returns c =
    let many : c.rows_in-count.result ≡ length (rows_of c.args.width c.args.values) = c.rows_in-count.ensures ∙ ap (λ vs. length (rows_of c.args.width vs)) c.as_slice-values.ensures in
    let b : Bulk = record { table = c.args.table; id = c.self.inside.counts.next_id; width = c.args.width; values = c.as_slice-values.result } in
    executed c.args.self.now c.finish.new.self c.args.session _ _ c.finish.result
    (loading_work c.args.self.now c.args.session c.args.table c.args.width c.args.values b refl (ap (λ (h : Held). h.counts.next_id) c.self.view_is) refl c.as_slice-values.ensures c.rows_in-count.result many c.requires.seat c.requires.stands) c.finish.ensures
