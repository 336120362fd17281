use Rattle.std.proofs.Common.{◌≡◌, ◌-◌, ◌∙◌, ◌||◌, true, false, nat_lt, length, is_some, sym, ap, subst}
use Rattle.ut_plain.specs.Rows.{inserts_of}
use Rattle.ut_value.specs.Spelling.{ops_len}
use Rattle.ut_tables.specs.Works.{ops_in}
use Rattle.ut_txn.specs.Seats.{opened_at, payload_at}
use Rattle.ut_store.specs.Held.{Held}
use Rattle.ut_store.specs.Changes.{has_ids_for, has_room_for}
use Rattle.ut_store.proofs.FinishLemmas.{some_of}
use Rattle.ut_store.proofs.LimitLemmas.{has_entry, no_ids_left, no_entry_left, no_bytes_own, told_room, told_none, told_bytes}
use Rattle.ut_store.proofs.store.Store.bytes_for.Goals as goal
use Rattle.ut_store.proofs.store.Store.bytes_for.Goals.{then-is_some, else-is_some}

-- ---- nothing is done

pub returns-then-is_empty-clause-some : goal.returns-then-is_empty-clause-some
returns-then-is_empty-clause-some c = ap (has_room_for c.args.self.now c.args.session) (c.is_empty.ensures.0 c.if-is_empty.true)

pub returns-then-is_empty-clause-bytes : goal.returns-then-is_empty-clause-bytes
returns-then-is_empty-clause-bytes c = sym (ap ops_len (c.is_empty.ensures.0 c.if-is_empty.true))

-- ---- one limit each

pub returns-then-not-journal-clause-none : goal.returns-then-not-journal-clause-none
returns-then-not-journal-clause-none c =
    let e = c.args.self.now in
    let some = some_of (ops_in c.args.work.now.changes) c.is_empty.result c.is_empty.ensures c.if-is_empty.false in
    let inside : is_some (opened_at e.seats c.args.session) ≡ c.is_some.result =
    subst (λ (h : Held). is_some (opened_at h.seats c.args.session) ≡ c.is_some.result) c.self.view_is (ap is_some (sym c.opened.ensures) ∙ sym c.is_some.ensures) in
    let entries = ap (λ (h : Held). h.counts.entries) c.self.view_is in
    let entry : has_entry e c.args.session ≡ c.if-is_some.journal =
    elim c.if-is_some.branch [
      | then-is_some w ↦
          let whole : has_entry e c.args.session ≡ true = λ i. (inside ∙ w.if-is_some.true) i || nat_lt e.counts.entries 1073741823 in
          let told = w.if-is_some.true in
          let is = w.journal-is in cc
      | else-is_some w ↦ (λ i. (inside ∙ w.if-is_some.false) i || nat_lt (sym entries i) 1073741823) ∙ sym w.journal-is
    ] in
    no_entry_left e c.args.session (ops_in c.args.work.now.changes) some (entry ∙ c.if-not-journal.true)

pub returns-then-not-has_ids_for-clause-none : goal.returns-then-not-has_ids_for-clause-none
returns-then-not-has_ids_for-clause-none c =
    let e = c.args.self.now in
    let some = some_of (ops_in c.args.work.now.changes) c.is_empty.result c.is_empty.ensures c.if-is_empty.false in
    no_ids_left e c.args.session (ops_in c.args.work.now.changes) some (ap (has_ids_for e) (sym c.requires.count) ∙ sym c.has_ids_for.ensures ∙ c.if-not-has_ids_for.true)

pub returns-then-own-gt-MOST_BYTES-clause-none : goal.returns-then-own-gt-MOST_BYTES-clause-none
returns-then-own-gt-MOST_BYTES-clause-none c =
    let e = c.args.self.now in
    let some = some_of (ops_in c.args.work.now.changes) c.is_empty.result c.is_empty.ensures c.if-is_empty.false in
    no_bytes_own e c.args.session (ops_in c.args.work.now.changes) c.size-own.result some
    (c.size-own.ensures ∙ ap (λ (h : Held). length (payload_at h.seats c.args.session)) c.self.view_is) c.if-own-gt-MOST_BYTES.true

-- ---- all of them

pub returns-clause-some : goal.returns-clause-some
returns-clause-some c =
    let e = c.args.self.now in
    let some = some_of (ops_in c.args.work.now.changes) c.is_empty.result c.is_empty.ensures c.if-is_empty.false in
    let ids : has_ids_for e (inserts_of (ops_in c.args.work.now.changes)) ≡ true = ap (has_ids_for e) (sym c.requires.count) ∙ sym c.has_ids_for.ensures ∙ c.if-not-has_ids_for.false in
    let inside : is_some (opened_at e.seats c.args.session) ≡ c.is_some.result =
    subst (λ (h : Held). is_some (opened_at h.seats c.args.session) ≡ c.is_some.result) c.self.view_is (ap is_some (sym c.opened.ensures) ∙ sym c.is_some.ensures) in
    let entries = ap (λ (h : Held). h.counts.entries) c.self.view_is in
    let entry : has_entry e c.args.session ≡ c.if-is_some.journal =
    elim c.if-is_some.branch [
      | then-is_some w ↦
          let whole : has_entry e c.args.session ≡ true = λ i. (inside ∙ w.if-is_some.true) i || nat_lt e.counts.entries 1073741823 in
          let told = w.if-is_some.true in
          let is = w.journal-is in cc
      | else-is_some w ↦ (λ i. (inside ∙ w.if-is_some.false) i || nat_lt (sym entries i) 1073741823) ∙ sym w.journal-is
    ] in
    told_room e c.args.session (ops_in c.args.work.now.changes) some c.size-own.result (c.size-own.ensures ∙ ap (λ (h : Held). length (payload_at h.seats c.args.session)) c.self.view_is) c.if-own-gt-MOST_BYTES.false
    c.ops_len.result ids (entry ∙ c.if-not-journal.false) c.ops_len.ensures

pub returns-clause-bytes : goal.returns-clause-bytes
returns-clause-bytes c = told_bytes (1073741824 - c.size-own.result) (1073741824 - c.size-own.result) (ops_len (ops_in c.args.work.now.changes)) c.ops_len.result c.ops_len.ensures

pub returns-clause-none : goal.returns-clause-none
returns-clause-none c =
    let e = c.args.self.now in
    let some = some_of (ops_in c.args.work.now.changes) c.is_empty.result c.is_empty.ensures c.if-is_empty.false in
    told_none e c.args.session (ops_in c.args.work.now.changes) some c.size-own.result (c.size-own.ensures ∙ ap (λ (h : Held). length (payload_at h.seats c.args.session)) c.self.view_is) c.if-own-gt-MOST_BYTES.false
    c.ops_len.result c.ops_len.ensures
