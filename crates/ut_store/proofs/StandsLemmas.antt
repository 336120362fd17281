-- How the store goes on standing for the plain state: refusals, questions, and transactions that begin and end.
use Rattle.std.proofs.Common.{ℕ, ◌<◌, ◌≡◌, ◌≢◌, List, [], ◌∷◌, ◌++◌, length, Option, None, Some, refl, sym, ap, ◌∙◌, subst, arith, IsTrue, slice_set, unwrap_or, length-append, length-set}
use Rattle.std.specs.Option.{option_map}
use Rattle.ut_value.specs.declared.entry.Op.{Op}
use Rattle.ut_value.specs.declared.entry.Entry.TheVariants as entries
use Rattle.ut_value.specs.Spelling.{spelling}
use Rattle.ut_plain.specs.declared.transaction.OpenTransaction.{OpenTransaction}
use Rattle.ut_plain.specs.declared.statement.Statement.{Statement}
use Rattle.ut_plain.specs.declared.statement.Statement.TheVariants.{Begin, Commit, Abort}
use Rattle.ut_plain.specs.declared.reply.Reply.{Reply}
use Rattle.ut_plain.specs.declared.reply.Reply.TheVariants as replies
use Rattle.ut_plain.specs.declared.reply.Refusal.{Refusal}
use Rattle.ut_plain.specs.declared.reply.Refusal.TheVariants as refusals
use Rattle.ut_plain.specs.Journal.{journal_len}
use Rattle.ut_plain.specs.Plain.{Plain, Sessions, open_at}
use Rattle.ut_plain.specs.Spelled.{is_spelled}
use Rattle.ut_plain.specs.Reached.{IsPlain}
use Rattle.ut_plain.specs.View.{view, own_ops}
use Rattle.ut_plain.specs.Refusals.{refusal}
use Rattle.ut_plain.specs.Step.{Steps, LacksMemory, Stepped, step, step_by, effect_of, may_lack_memory, committed, committed_by, begun, closed}
use Rattle.ut_plain.proofs.StepLaws.{IsPlain-step}
use Rattle.ut_stamps.specs.declared.fates.Fate.{Fate}
use Rattle.ut_stamps.specs.declared.fates.Fate.TheVariants.{Running, Aborted}
use Rattle.ut_stamps.specs.Stamps.{fate_at}
use Rattle.ut_exact.specs.Exact.{IsExact, AreOpen}
use Rattle.ut_stamps.specs.declared.visibility.Stamp.{Stamp}
use Rattle.ut_exact.specs.Gone.{IsGone}
use Rattle.ut_exact.specs.Dropped.{AreDropped}
use Rattle.ut_exact.specs.Places.{AreHeld, dead_number}
use Rattle.ut_exact.proofs.GoneLemmas.{gone-started, gone-ended, gone-begun, gone-closed}
use Rattle.ut_exact.proofs.PlaceLemmas.{AreHeld-gone}
use Rattle.ut_exact.proofs.DroppedLemmas.{AreDropped-gone}
use Rattle.ut_exact.proofs.FateLemmas.{fate-set_other, fate-push_old}
use Rattle.ut_exact.proofs.ExactLemmas.{IsExact-start, IsExact-abort}
use Rattle.ut_exact.proofs.SessionLemmas.{AreOpen-begun, AreOpen-closed, AreOpen-renumbered, at-set_same}
use Rattle.ut_txn.specs.declared.opened.Opened.{Opened}
use Rattle.ut_txn.specs.Seats.{Seat, opened_at, payload_at, number_at, SeatSet}
use Rattle.ut_store.specs.declared.response.Response.{Response}
use Rattle.ut_store.specs.declared.response.Response.TheVariants.{Answered}
use Rattle.ut_store.specs.Held.{Held}
use Rattle.ut_store.specs.Stands.{StandsFor, AreCounts, AreSeats, AreRows}
use Rattle.ut_store.specs.Answers.{Answer, Answers, Same, Logs, reply_of}
use Rattle.ut_store.specs.Allowed.{IsRefused}
use Rattle.ut_store.proofs.IndexLemmas.{some_inside}
use Rattle.ut_store.proofs.ReadLemmas.{SameSession, Closed, Open, same_session}
use Rattle.ut_store.proofs.SeatLemmas.{AreSeats-set, numbers-set, stands-same}
use Rattle.ut_staged.specs.Tables.{place_at}

-- ---- what a step is

pub stepped : (p : Plain) (session : ℕ) (st : Statement) (why : Option Refusal) → refusal (view p session) st ≡ why → step p session st ≡ step_by why p session st
stepped p session st why h = ap (λ r. step_by r p session st) h

-- a statement that is not refused: the store stands for what it does
pub answer_by : (e new : Held) (session : ℕ) (st : Statement) (response : Response) (p : Plain) (does : Stepped) → IsTrue (is_spelled st) → refusal (view p session) st ≡ None → StandsFor e p → effect_of p session st ≡ does
    → reply_of response ≡ does.reply → AreCounts new does.plain → AreSeats new.seats does.plain.sessions → AreRows new does.plain → Logs response new.frame p does.plain → Answer e session st response new p
answer_by e new session st response p does spelled allowed s is reply counts seats rows logs =
    let now : step p session st ≡ does = stepped p session st None allowed ∙ is in
    record {
      after = does.plain;
      may = Steps (reply ∙ ap (λ (r : Stepped). r.reply) (sym now)) (ap (λ (r : Stepped). r.plain) (sym now));
      stands = record { plain = subst (λ (r : Stepped). IsPlain r.plain) now (IsPlain-step p session st s.plain spelled); counts = counts; seats = seats; rows = rows };
      logs = logs;
    }

-- ---- refusals and questions

pub refused : (e new : Held) (session : ℕ) (st : Statement) (why : Refusal) → IsRefused e session st (Some why) → Same e new → Answers e session st (Answered (replies.Refused why)) new
refused e new session st why h same = record {
  each = λ p s.
      let now = stepped p session st (Some why) (h.is p s) in
      record {
        after = p;
        may = Steps (ap (λ (r : Stepped). r.reply) (sym now)) (ap (λ (r : Stepped). r.plain) (sym now));
        stands = stands-same e new p same s;
        logs = refl;
      };
}

-- where memory runs out nothing changes
pub no_memory : (e new : Held) (session : ℕ) (st : Statement) → IsTrue (may_lack_memory st) → Same e new → Answers e session st (Answered (replies.Refused refusals.Memory)) new
no_memory e new session st may same = record { each = λ p s. record { after = p; may = LacksMemory may refl refl; stands = stands-same e new p same s; logs = refl } }

pub itself_same : (e : Held) → Same e e
itself_same e = record { rows = refl; seats = record { count = refl; opened = λ s. refl; payloads = λ s. refl }; counts = refl }

-- a statement that only tells
pub tells : (e new : Held) (session : ℕ) (st : Statement) (reply : Reply) → IsTrue (is_spelled st) → IsRefused e session st None → Same e new
    → ((p : Plain) → StandsFor e p → effect_of p session st ≡ record { reply = reply; plain = p }) → Answers e session st (Answered reply) new
tells e new session st reply spelled h same is = record {
  each = λ p s.
      let q = stands-same e new p same s in
      answer_by e new session st (Answered reply) p (record { reply = reply; plain = p }) spelled (h.is p s) s (is p s) refl q.counts q.seats q.rows refl;
}

-- ---- a transaction begins

pub dead_pushed : (fates : List Fate) (f : Fate) → dead_number < length fates → fate_at fates dead_number ≡ Aborted → fate_at (fates ++ f ∷ []) dead_number ≡ Aborted
dead_pushed fates f lt is = fate-push_old fates dead_number f (λ same. absurd (omega (arith, same, lt))) ∙ is

pub began : (e : Held) (seats : List Seat) (frame : List ℕ) (session : ℕ) → 0 < session → session < 17 → IsRefused e session Begin None → opened_at e.seats session ≡ None
    → SeatSet e.seats seats session (Some (record { snapshot = e.counts.entries; number = length e.rows.fates })) (payload_at e.seats session)
    → Answers e session Begin (Answered replies.Done) (record e { rows = record e.rows { fates = e.rows.fates ++ Running ∷ [] }; seats = seats; frame = frame })
began e seats frame session some small h closed set = record {
  each = λ p s.
      let t : OpenTransaction = record { snapshot = journal_len p.journal; ops = [] } in
      let own = same_session e p session s.seats in
      let none : open_at p.sessions session ≡ None = is_closed p own in
      answer_by e _ session Begin (Answered replies.Done) p (record { reply = replies.Done; plain = begun p session }) refl (h.is p s) s refl refl
      (record { tables = s.counts.tables; commits = s.counts.commits; merges = s.counts.merges; entries = s.counts.entries; next_id = s.counts.next_id; rows_limit = s.counts.rows_limit; pending = s.counts.pending })
      (AreSeats-set e.seats seats p.sessions session _ (payload_at e.seats session) (Some t) some small s.plain.seats (ap Some s.counts.entries)
      (s.seats.payloads session small ∙ ap (λ o. spelling (entries.Txn (own_ops o))) none) set s.seats)
      (record {
        held = s.rows.held;
        places = AreHeld-gone (place_at e.rows.staged) (IsGone e.rows.fates p.sessions) (IsGone (e.rows.fates ++ Running ∷ []) (slice_set p.sessions session (Some t))) s.rows.held (stays p s) s.rows.places;
        dropped = AreDropped-gone p.stages (IsGone e.rows.fates p.sessions) (IsGone (e.rows.fates ++ Running ∷ []) (slice_set p.sessions session (Some t))) s.rows.held (stays p s) s.rows.dropped;
        free = s.rows.free;
        exact = IsExact-start e.rows.fates s.rows.held p.journal p.opening s.rows.exact;
        transactions = AreOpen-begun e.rows.fates s.rows.held p.sessions (number_at e.seats) (number_at seats) p.journal p.opening session t
            (omega (arith, small, s.plain.seats)) (ap (λ o. unwrap_or (option_map (λ (x : Opened). x.number) o) 0) set.opened)
            (λ r other. numbers-set e.seats seats session _ _ r set other) none refl refl s.plain.opened.1 s.rows.exact s.rows.transactions;
        dead = dead_pushed e.rows.fates Running s.rows.started s.rows.dead;
        started = omega (arith, s.rows.started, length-append e.rows.fates (Running ∷ []));
        stages = s.rows.stages;
        columns = s.rows.columns;
        merging = s.rows.merging;
      }) refl;
}
  where
    nothing : (o : Opened) → None ≡ Some o → ⊥
    nothing o g = cc

    is_closed : (p : Plain) → SameSession e p session (open_at p.sessions session) → open_at p.sessions session ≡ None
    is_closed p (Closed own seat) = own
    is_closed p (Open t o own seat same) = absurd (nothing o (sym closed ∙ seat))

    -- what is gone isn't seen by it either
    stays : (p : Plain) (s : StandsFor e p) (x : Stamp) → IsGone e.rows.fates p.sessions x → IsGone (e.rows.fates ++ Running ∷ []) (slice_set p.sessions session (Some (record { snapshot = journal_len p.journal; ops = [] }))) x
    stays p s x g =
        let t : OpenTransaction = record { snapshot = journal_len p.journal; ops = [] } in
        gone-started e.rows.fates (slice_set p.sessions session (Some t)) x (gone-begun e.rows.fates p.sessions x session (journal_len p.journal) t (omega (arith, small, s.plain.seats)) refl s.rows.exact.within g)

-- ---- a transaction ends

pub not_dead : (fates : List Fate) (t : ℕ) → fate_at fates t ≡ Running → fate_at fates dead_number ≡ Aborted → dead_number ≢ t
not_dead fates t runs dead same = differ (sym dead ∙ ap (fate_at fates) same ∙ runs)
  where
    differ : Aborted ≡ Running → ⊥
    differ g = cc

pub dead_set : (fates : List Fate) (t : ℕ) (f : Fate) → fate_at fates t ≡ Running → fate_at fates dead_number ≡ Aborted → fate_at (slice_set fates t f) dead_number ≡ Aborted
dead_set fates t f runs dead = fate-set_other fates t dead_number f (not_dead fates t runs dead) ∙ dead

-- the numbers of those that stay open stay
pub renumbered : (old seats : List Seat) (sessions : Sessions) (session : ℕ) (opened : Option Opened) (payload : List ℕ) (r : ℕ) (t : OpenTransaction) → session < length sessions
    → SeatSet old seats session opened payload → open_at (slice_set sessions session None) r ≡ Some t → number_at seats r ≡ number_at old r
renumbered old seats sessions session opened payload r t small set h =
    numbers-set old seats session opened payload r set (λ same. nothing (sym (ap (open_at (slice_set sessions session None)) same ∙ at-set_same None sessions session None small) ∙ h))
  where
    nothing : None ≡ Some t → ⊥
    nothing g = cc

-- a session's open transaction, on both sides
pub data IsOpenOn (e : Held) (p : Plain) (session : ℕ) (o : Opened) : Type 0 where
  By : (t : OpenTransaction) → open_at p.sessions session ≡ Some t → o.snapshot ≡ t.snapshot → IsOpenOn e p session o

pub open_on : (e : Held) (p : Plain) (session : ℕ) (o : Opened) → opened_at e.seats session ≡ Some o → AreSeats e.seats p.sessions → IsOpenOn e p session o
open_on e p session o is seats = by (same_session e p session seats)
  where
    nothing : None ≡ Some o → ⊥
    nothing g = cc

    by : SameSession e p session (open_at p.sessions session) → IsOpenOn e p session o
    by (Closed own seat) = absurd (nothing (sym seat ∙ is))
    by (Open t other own seat same) = By t own (ap (λ (x : Opened). x.snapshot) (some_inside o other (sym is ∙ seat)) ∙ same)

pub number_is : (seats : List Seat) (session : ℕ) (o : Opened) → opened_at seats session ≡ Some o → number_at seats session ≡ o.number
number_is seats session o is = ap (λ x. unwrap_or (option_map (λ (y : Opened). y.number) x) 0) is

-- the transaction's work is forgotten
abandoned_rows : (e : Held) (seats : List Seat) (frame : List ℕ) (session : ℕ) (o : Opened) (payload : List ℕ) (p q : Plain) (t : OpenTransaction) → session < 17 → opened_at e.seats session ≡ Some o → open_at p.sessions session ≡ Some t
    → SeatSet e.seats seats session None payload → q.journal ≡ p.journal → q.opening ≡ p.opening → q.stages ≡ p.stages → q.sessions ≡ slice_set p.sessions session None → StandsFor e p
    → AreRows (record e { rows = record e.rows { fates = slice_set e.rows.fates o.number Aborted }; seats = seats; frame = frame }) q
abandoned_rows e seats frame session o payload p q t small is opened set journal opening stages sessions s =
    let number = number_is e.seats session o is in
    let inside : session < length p.sessions = omega (arith, small, s.plain.seats) in
    let runs : fate_at e.rows.fates o.number ≡ Running = ap (fate_at e.rows.fates) (sym number) ∙ (s.rows.transactions.own session t opened).running in
    let ended = AreOpen-closed e.rows.fates Aborted s.rows.held p.sessions (number_at e.seats) p.journal p.journal p.opening session t inside opened refl (omega arith) s.rows.transactions in
    record {
      held = s.rows.held;
      places = subst (λ ss. AreHeld (place_at e.rows.staged) (IsGone (slice_set e.rows.fates o.number Aborted) ss) s.rows.held) (sym sessions) (AreHeld-gone (place_at e.rows.staged) (IsGone e.rows.fates p.sessions) (IsGone (slice_set e.rows.fates o.number Aborted) (slice_set p.sessions session None)) s.rows.held
          (λ x g. gone-ended e.rows.fates (slice_set p.sessions session None) x o.number Aborted runs (gone-closed e.rows.fates p.sessions x session inside g)) s.rows.places);
      dropped = subst (λ ss. AreDropped q.stages (IsGone (slice_set e.rows.fates o.number Aborted) ss) s.rows.held) (sym sessions) (subst (λ st. AreDropped st (IsGone (slice_set e.rows.fates o.number Aborted) (slice_set p.sessions session None)) s.rows.held) (sym stages)
          (AreDropped-gone p.stages (IsGone e.rows.fates p.sessions) (IsGone (slice_set e.rows.fates o.number Aborted) (slice_set p.sessions session None)) s.rows.held
          (λ x g. gone-ended e.rows.fates (slice_set p.sessions session None) x o.number Aborted runs (gone-closed e.rows.fates p.sessions x session inside g)) s.rows.dropped));
      free = s.rows.free;
      exact = subst (λ j. IsExact (slice_set e.rows.fates o.number Aborted) s.rows.held j q.opening) (sym journal)
          (subst (λ n. IsExact (slice_set e.rows.fates o.number Aborted) s.rows.held p.journal n) (sym opening) (IsExact-abort e.rows.fates s.rows.held p.journal p.opening o.number runs s.rows.exact));
      transactions = subst (λ ss. AreOpen (slice_set e.rows.fates o.number Aborted) s.rows.held ss (number_at seats) q.journal q.opening) (sym sessions)
          (subst (λ j. AreOpen (slice_set e.rows.fates o.number Aborted) s.rows.held (slice_set p.sessions session None) (number_at seats) j q.opening) (sym journal)
          (subst (λ n. AreOpen (slice_set e.rows.fates o.number Aborted) s.rows.held (slice_set p.sessions session None) (number_at seats) p.journal n) (sym opening)
          (subst (λ n. AreOpen (slice_set e.rows.fates n Aborted) s.rows.held (slice_set p.sessions session None) (number_at seats) p.journal p.opening) number
          (AreOpen-renumbered (slice_set e.rows.fates (number_at e.seats session) Aborted) s.rows.held (slice_set p.sessions session None) (number_at e.seats) (number_at seats) p.journal p.opening
          (λ r u g. renumbered e.seats seats p.sessions session None payload r u inside set g) ended))));
      dead = dead_set e.rows.fates o.number Aborted runs s.rows.dead;
      started = omega (arith, s.rows.started, length-set e.rows.fates o.number Aborted);
      stages = stages ∙ s.rows.stages;
      columns = s.rows.columns;
      merging = s.rows.merging;
    }

-- the payload of a session without own operations
abbrev pub no_payload : List ℕ
no_payload = spelling (entries.Txn [])

pub gave_up : (e : Held) (seats : List Seat) (frame : List ℕ) (session : ℕ) (o : Opened) → 0 < session → session < 17 → IsRefused e session Abort None → opened_at e.seats session ≡ Some o
    → SeatSet e.seats seats session None no_payload
    → Answers e session Abort (Answered replies.Done) (record e { rows = record e.rows { fates = slice_set e.rows.fates o.number Aborted }; seats = seats; frame = frame })
gave_up e seats frame session o some small h is set = record { each = λ p s. by p s (open_on e p session o is s.seats) }
  where
    by : (p : Plain) (s : StandsFor e p) → IsOpenOn e p session o → Answer e session Abort (Answered replies.Done) (record e { rows = record e.rows { fates = slice_set e.rows.fates o.number Aborted }; seats = seats; frame = frame }) p
    by p s (By t opened look) =
        answer_by e _ session Abort (Answered replies.Done) p (record { reply = replies.Done; plain = closed p session }) refl (h.is p s) s refl refl
        (record { tables = s.counts.tables; commits = s.counts.commits; merges = s.counts.merges; entries = s.counts.entries; next_id = s.counts.next_id; rows_limit = s.counts.rows_limit; pending = s.counts.pending })
        (AreSeats-set e.seats seats p.sessions session None no_payload None some small s.plain.seats refl refl set s.seats)
        (abandoned_rows e seats frame session o no_payload p (closed p session) t small is opened set refl refl refl refl s)
        refl

pub committed_nothing : (e : Held) (seats : List Seat) (frame : List ℕ) (session : ℕ) (o : Opened) → 0 < session → session < 17 → IsRefused e session Commit None → opened_at e.seats session ≡ Some o
    → payload_at e.seats session ≡ no_payload → ((os : List Op) → payload_at e.seats session ≡ spelling (entries.Txn os) → os ≡ []) → SeatSet e.seats seats session None no_payload
    → Answers e session Commit (Answered replies.Done) (record e { rows = record e.rows { fates = slice_set e.rows.fates o.number Aborted }; seats = seats; frame = frame })
committed_nothing e seats frame session o some small h is empty only set = record { each = λ p s. by p s (open_on e p session o is s.seats) }
  where
    by : (p : Plain) (s : StandsFor e p) → IsOpenOn e p session o → Answer e session Commit (Answered replies.Done) (record e { rows = record e.rows { fates = slice_set e.rows.fates o.number Aborted }; seats = seats; frame = frame }) p
    by p s (By t opened look) =
        let no_ops : t.ops ≡ [] = only t.ops (s.seats.payloads session small ∙ ap (λ x. spelling (entries.Txn (own_ops x))) opened) in
        answer_by e _ session Commit (Answered replies.Done) p (record { reply = replies.Done; plain = closed p session }) refl (h.is p s) s
        (ap (committed p session) opened ∙ ap (committed_by p session) no_ops) refl
        (record { tables = s.counts.tables; commits = s.counts.commits; merges = s.counts.merges; entries = s.counts.entries; next_id = s.counts.next_id; rows_limit = s.counts.rows_limit; pending = s.counts.pending })
        (AreSeats-set e.seats seats p.sessions session None no_payload None some small s.plain.seats refl refl set s.seats)
        (abandoned_rows e seats frame session o no_payload p (closed p session) t small is opened set refl refl refl refl s)
        refl
