-- What a run keeps, line by line.
use Rattle.std.proofs.Common.{inl, inr, ℕ, ◌≤◌, ◌⊎◌, List, [], ◌∷◌, ◌++◌, arith}
use Rattle.ut_outside.specs.Disk.{View, Image, IsTold}
use Rattle.ut_outside.specs.Run.{LeavesOnly}
use Rattle.ut_outside.specs.declared.ack.Ack.{Ack}
use Rattle.ut_plain.specs.Journal.{Journal, journal_len}
use Rattle.ut_durable.specs.Journals.{HoldsPrefix}
use Rattle.ut_durable.proofs.MomentLemmas.{prefix_of_fewer}
use Rattle.ut_run.specs.declared.start.Start.{Start}
use Rattle.ut_run.specs.declared.start.Start.TheVariants.{New, Open}
use Rattle.ut_course.specs.Keeping.{GoesOn}
use Rattle.ut_course.proofs.KeepLemmas.{no_shorter, holds_longer, acks_kept, acks_more}
use Rattle.ut_run.specs.Keeping.{SinceEntry, Kept, HoldsRun}

pub run_longer : (start : Start) (j k : Journal) (least : ℕ) (c : Image) → GoesOn j k → HoldsRun start j least c → HoldsRun start k least c
run_longer New j k least c g (inl h) = inl (holds_longer j k least c g h)
run_longer New j k least c g (inr h) = inr h
run_longer Open j k least c g h = holds_longer j k least c g h

pub run_holds : (start : Start) (k : Journal) (least : ℕ) (c : Image) → HoldsPrefix k least c → HoldsRun start k least c
run_holds New k least c h = inl h
run_holds Open k least c h = h

since_more : (start : Start) (entry old new : View) (first j k : Journal) → GoesOn j k → journal_len first ≤ journal_len j → LeavesOnly old new (HoldsPrefix k (journal_len j)) → SinceEntry start entry old first j → SinceEntry start entry new first k
since_more start entry old new first j k g le l s = record {
  past = let e = l.later in omega (arith, e, s.past);
  holds = λ c h. by c (l.before entry.moment c s.past h);
}
  where
    by : (c : Image) → old.crash_states_since entry.moment c ⊎ HoldsPrefix k (journal_len j) c → HoldsRun start k (journal_len first) c
    by c (inl h) = run_longer start j k (journal_len first) c g (s.holds c h)
    by c (inr h) = run_holds start k (journal_len first) c (prefix_of_fewer k (journal_len j) (journal_len first) c le h)

-- a line more
pub kept_on : (start : Start) (entry old new : View) (first j k : Journal) (acks : List Ack) → GoesOn j k → IsTold new → LeavesOnly old new (HoldsPrefix k (journal_len j)) → Kept start entry old first j acks → Kept start entry new first k acks
kept_on start entry old new first j k acks g told l kept = record {
  told = told;
  no_more = let e = no_shorter j k g in omega (arith, e, kept.no_more);
  acknowledged = acks_kept old new j k acks g l kept.acknowledged;
  since_entry = λ nothing. since_more start entry old new first j k g kept.no_more l (kept.since_entry nothing);
}

-- and its acknowledgement, which says how long the journal is
pub kept_ack : (start : Start) (entry now : View) (first j : Journal) (acks : List Ack) (n : ℕ) → n ≤ journal_len j → ((c : Image) → now.crash_states_since now.moment c → HoldsPrefix j n c) → Kept start entry now first j acks
    → Kept start entry now first j (acks ++ record { journal = n; moment = now.moment } ∷ [])
kept_ack start entry now first j acks n few holds kept = record {
  told = kept.told;
  no_more = kept.no_more;
  acknowledged = acks_more now j acks (record { journal = n; moment = now.moment }) kept.acknowledged (record { past = omega arith; no_more = few; holds = holds });
  since_entry = kept.since_entry;
}
