-- What a crash leaves, one line more at a time.
use Rattle.std.proofs.Common.{inl, inr, ℕ, ◌≡◌, ◌≤◌, ◌⊎◌, List, [], ◌∷◌, ◌++◌, ◌∙◌, sym, ap, subst, arith, append_assoc, append-nil}
use Rattle.std.proofs.lemmas.List.{length-append}
use Rattle.ut_outside.specs.Disk.{View, Image, IsTold}
use Rattle.ut_outside.specs.Run.{LeavesOnly}
use Rattle.ut_outside.specs.declared.ack.Ack.{Ack}
use Rattle.ut_outside.proofs.RunLemmas.{joined, weaker, started}
use Rattle.ut_value.specs.declared.entry.Entry.{Entry}
use Rattle.ut_plain.specs.Journal.{Journal, journal_len, appended}
use Rattle.ut_plain.specs.Plain.{Plain}
use Rattle.ut_durable.specs.Journals.{HoldsPrefix}
use Rattle.ut_durable.proofs.MomentLemmas.{prefix_of_more, prefix_of_fewer}
use Rattle.ut_durable.proofs.SavingLemmas.{stored_holds_all}
use Rattle.ut_engine.specs.Logged.{Logged}
use Rattle.ut_engine.specs.Runs.{Runs}
use Rattle.ut_course.specs.Keeping.{behind, GoesOn, Keeps, IsKept, AreKept, Holding}

-- a disk's own moment leaves what a crash leaves now
abbrev pub OnlyNow : View → Type 0
OnlyNow v = (c : Image) → v.crash_states_since v.moment c → v.crash_states c

-- each crash now is one since any moment before
abbrev pub CountsNow : View → Type 0
CountsNow v = (t : ℕ) (c : Image) → t ≤ v.moment → v.crash_states c → v.crash_states_since t c

-- a crash now leaves the whole journal of a running store
pub runs_whole : (e : Logged) (v : View) (p : Plain) → Runs e v p → IsTold v → (c : Image) → v.crash_states c → HoldsPrefix p.journal (journal_len p.journal) c
runs_whole e v p runs told = (stored_holds_all {D = Unit {0}} (λ (u : Unit {0}). v) p.journal e.files runs.root runs.directory e.saving p.phase tt runs.stored).1 told

-- a store that does nothing keeps all
pub still : (e : Logged) (v : View) (p : Plain) → OnlyNow v → Runs e v p → Keeps v v p.journal (journal_len p.journal)
still e v p only runs told = started v (HoldsPrefix p.journal (journal_len p.journal)) (λ c h. runs_whole e v p runs told c (only c h))

-- ---- a journal that goes on

pub no_shorter : (j k : Journal) → GoesOn j k → journal_len j ≤ journal_len k
no_shorter j k g = let e : journal_len k ≡ journal_len (behind j g.more) = ap journal_len g.is in omega (arith, e, length-append j.entries g.more)

pub goes_nowhere : (j : Journal) → GoesOn j j
goes_nowhere j = record { more = []; is = ap (λ es. record j { entries = es }) (sym (append-nil j.entries)) }

grown : (i j k : Journal) → GoesOn i j → GoesOn j k → GoesOn i k
grown i j k a b = record { more = a.more ++ b.more; is = b.is ∙ ap (λ (l : Journal). behind l b.more) a.is ∙ ap (λ es. record i { entries = es }) (append_assoc i.entries a.more b.more) }

pub holds_longer : (j k : Journal) (least : ℕ) (c : Image) → GoesOn j k → HoldsPrefix j least c → HoldsPrefix k least c
holds_longer j k least c g h = subst (λ (i : Journal). HoldsPrefix i least c) (sym g.is) (with_more j g.more h)
  where
    with_more : (j : Journal) (more : List Entry) → HoldsPrefix j least c → HoldsPrefix (behind j more) least c
    with_more j [] h = subst (λ (es : List Entry). HoldsPrefix (record j { entries = es }) least c) (sym (append-nil j.entries)) h
    with_more j (e ∷ es) h =
        subst (λ (xs : List Entry). HoldsPrefix (record j { entries = xs }) least c) (append_assoc j.entries (e ∷ []) es) (with_more (appended j e) es (prefix_of_more j e least c h))

-- ---- what is acknowledged

ack_kept : (old new : View) (j k : Journal) (ack : Ack) → GoesOn j k → LeavesOnly old new (HoldsPrefix k (journal_len j)) → IsKept old j ack → IsKept new k ack
ack_kept old new j k ack g l kept = record {
  past = let e = l.later in omega (arith, e, kept.past);
  no_more = let e = no_shorter j k g in omega (arith, e, kept.no_more);
  holds = λ c h. by c (l.before ack.moment c kept.past h);
}
  where
    by : (c : Image) → old.crash_states_since ack.moment c ⊎ HoldsPrefix k (journal_len j) c → HoldsPrefix k ack.journal c
    by c (inl h) = holds_longer j k ack.journal c g (kept.holds c h)
    by c (inr h) = prefix_of_fewer k (journal_len j) ack.journal c kept.no_more h

pub acks_kept : (old new : View) (j k : Journal) (acks : List Ack) → GoesOn j k → LeavesOnly old new (HoldsPrefix k (journal_len j)) → AreKept old j acks → AreKept new k acks
acks_kept old new j k [] g l kept = tt
acks_kept old new j k (ack ∷ acks) g l kept = (ack_kept old new j k ack g l kept.0, acks_kept old new j k acks g l kept.1)

pub acks_more : (v : View) (j : Journal) (acks : List Ack) (ack : Ack) → AreKept v j acks → IsKept v j ack → AreKept v j (acks ++ ack ∷ [])
acks_more v j [] ack kept k = (k, tt)
acks_more v j (a ∷ acks) ack kept k = (kept.0, acks_more v j acks ack kept.1 k)

-- a line more, and its acknowledgement
pub holding_more : (disk was now : View) (first j k : Journal) (acks : List Ack) (n : ℕ) → GoesOn j k → now.told ≡ was.told → n ≤ journal_len k → ((c : Image) → now.crash_states_since now.moment c → HoldsPrefix k n c)
    → LeavesOnly was now (HoldsPrefix k (journal_len j)) → Holding disk was first j acks → Holding disk now first k (acks ++ record { journal = n; moment = now.moment } ∷ [])
holding_more disk was now first j k acks n on same few holds l h = record {
  told = same ∙ h.told;
  grows = grown first j k h.grows on;
  acknowledged = acks_more now k acks (record { journal = n; moment = now.moment }) (acks_kept was now j k acks on l h.acknowledged) (record { past = omega arith; no_more = few; holds = holds });
  since = joined disk was now (HoldsPrefix k (journal_len first))
      (weaker disk was (HoldsPrefix j (journal_len first)) (HoldsPrefix k (journal_len first)) (λ c held. holds_longer j k (journal_len first) c on held) h.since)
      (weaker was now (HoldsPrefix k (journal_len j)) (HoldsPrefix k (journal_len first)) (λ c held. prefix_of_fewer k (journal_len j) (journal_len first) c (no_shorter first j h.grows) held) l);
}
