-- When turns were answered, one turn more.
use Rattle.std.proofs.Common.{ℕ, ◌≡◌, ◌≤◌, Bool, true, false, if◌then◌else◌, List, [], ◌∷◌, ◌++◌, Option, Some, refl, sym, subst, ap, ◌∙◌, arith}
use Rattle.std.proofs.lemmas.List.Elements.{All-head, All-tail}
use Rattle.std.specs.Prelude.{All}
use Rattle.ut_outside.specs.Disk.{View, Image, IsTold}
use Rattle.ut_plain.specs.declared.statement.Parsed.{Parsed}
use Rattle.ut_plain.specs.declared.reply.Reply.{Reply}
use Rattle.ut_plain.specs.Journal.{journal_len}
use Rattle.ut_plain.specs.Plain.{Plain}
use Rattle.ut_engine.specs.Logged.{Logged}
use Rattle.ut_engine.specs.Runs.{Runs}
use Rattle.ut_course.specs.Coming.{Came, Answered, Lost, Comes, is_fault, length_after}
use Rattle.ut_course.proofs.KeepLemmas.{CountsNow, runs_whole}
use Rattle.ut_crowd.specs.declared.book.Turn.{Turn}
use Rattle.ut_crowd.specs.Sorting.{IsRefused}
use Rattle.ut_crowd.specs.Dating.{AreInOrder, WasLeft, IsTimely, AreTimely}

-- a process that dies between two calls leaves what a read returned
abbrev pub SeenStays : View → Type 0
SeenStays v = IsTold v → v.crash_states v.seen

-- what a crash since an earlier moment might have left stays so
abbrev pub Grows : View → View → Type 0
Grows was now = (t : ℕ) (c : Image) → t ≤ was.moment → was.crash_states_since t c → now.crash_states_since t c

module _ (was now : View) (later : was.moment ≤ now.moment) (grows : Grows was now) where
  left_more : (n m : ℕ) → m ≤ was.moment → WasLeft was n m → WasLeft now n m
  left_more n m past w = record { image = w.image; left = grows m w.image past w.left; journal = w.journal; length = w.length; holds = w.holds }

  pub timely_more : (book : List Turn) → AreTimely was book → AreTimely now book
  timely_more [] h = tt
  timely_more (t ∷ book) h = (let past = h.0 in omega (arith, past, later), (λ sound. left_more t.journal t.moment h.0 (h.1 sound)), timely_more book h.2)

pub timely_push : (now : View) (book : List Turn) (t : Turn) → t.moment ≤ now.moment → IsTimely now t → AreTimely now book → AreTimely now (book ++ t ∷ [])
timely_push now [] t past timely h = (past, timely, tt)
timely_push now (u ∷ book) t past timely h = (h.0, h.1, timely_push now book t past timely h.2)

pub strangers_timely : (now : View) (book : List Turn) (n m : ℕ) → m ≡ now.moment → WasLeft now n m → All (IsRefused n m) book → AreTimely now book
strangers_timely now [] n m e left all = tt
strangers_timely now (t ∷ book) n m e left all =
    let first : IsRefused n m t = All-head (IsRefused n m) t book all in (
      let at = first.moment in omega (arith, at, e),
      λ sound. subst (λ (k : ℕ). WasLeft now k t.moment) (sym first.journal) (subst (λ (k : ℕ). WasLeft now n k) (sym first.moment) left),
      strangers_timely now book n m e left (All-tail (IsRefused n m) t book all),
    )

-- ---- in order

-- a turn that is dated now, behind turns that were dated before
pub order_push : (was : View) (book : List Turn) (t : Turn) → was.moment ≤ t.moment → AreTimely was book → AreInOrder book → AreInOrder (book ++ t ∷ [])
order_push was [] t later past h = tt
order_push was (u ∷ []) t later past h = (let first = past.0 in omega (arith, first, later), tt)
order_push was (u ∷ v ∷ book) t later past h = (h.0, order_push was (v ∷ book) t later past.2 h.1)

pub strangers_in_order : (book : List Turn) (n m : ℕ) → All (IsRefused n m) book → AreInOrder book
strangers_in_order [] n m all = tt
strangers_in_order (t ∷ []) n m all = tt
strangers_in_order (t ∷ u ∷ book) n m all =
    let rest : All (IsRefused n m) (u ∷ book) = All-tail (IsRefused n m) t (u ∷ book) all in
    let first : IsRefused n m t = All-head (IsRefused n m) t (u ∷ book) all in
    let second : IsRefused n m u = All-head (IsRefused n m) u book rest in
    let a = first.moment in
    let b = second.moment in (omega (arith, a, b), strangers_in_order (u ∷ book) n m rest)

came_later : (p : Plain) (line : Parsed) (who : Option ℕ) (was now : View) (reply : Reply) (new : Logged) → IsTold was → Came p line who was reply new now → was.moment ≤ now.moment
came_later p line who was now reply new told (Answered q sound answers runs keeps) = (keeps told).later
came_later p line who was now reply new told (Lost q fault down faults keeps) = (keeps told).later

-- a turn that was answered just now
pub order_turn : (p : Plain) (line : Parsed) (who : Option ℕ) (was now : View) (new : Logged) (t : Turn) → t.moment ≡ now.moment → IsTold was → (book : List Turn) → Came p line who was t.reply new now → AreTimely was book → AreInOrder book → AreInOrder (book ++ t ∷ [])
order_turn p line who was now new t at told book came past h =
    let later = came_later p line who was now t.reply new told came in order_push was book t (omega (arith, at, later)) past h

-- ---- timely

-- of a store that runs, a crash now may leave what is read, with its whole journal
pub left_now : (e : Logged) (v : View) (q : Plain) → CountsNow v → SeenStays v → Runs e v q → IsTold v → WasLeft v (journal_len q.journal) v.moment
left_now e v q counts stays runs told = record {
  image = v.seen;
  left = counts v.moment v.seen (omega arith) (stays told);
  journal = q.journal;
  length = refl;
  holds = runs_whole e v q runs told v.seen (stays told);
}

no_fault : {A : Type 0} (reply : Reply) → is_fault reply ≡ true → is_fault reply ≡ false → A
no_fault reply h k = let no : true ≡ false = sym h ∙ k in cc

sound_length : (reply : Reply) (before after : ℕ) → is_fault reply ≡ false → length_after reply before after ≡ after
sound_length reply before after h = ap (λ (b : Bool). if b then before else after) h

-- a turn that was answered just now
module _ (p : Plain) (line : Parsed) (session : ℕ) (was now : View) (old new : Logged) (t : Turn) (at : t.moment ≡ now.moment) (length : t.journal ≡ length_after t.reply old.store.counts.entries new.store.counts.entries) where
  pub timely_turn : CountsNow now → SeenStays now → IsTold was → IsTold now → (book : List Turn) → Came p line (Some session) was t.reply new now → AreTimely was book → AreTimely now (book ++ t ∷ [])
  timely_turn counts stays told told_now book (Answered q sound answers runs keeps) h =
      let l = keeps told in
      timely_push now book t (let e = at in omega (arith, e))
      (λ sound. subst (λ (n : ℕ). WasLeft now n t.moment) (sym (length ∙ sound_length t.reply _ _ sound ∙ runs.stands.counts.entries))
      (subst (λ (m : ℕ). WasLeft now (journal_len q.journal) m) (sym at) (left_now new now q counts stays runs told_now)))
      (timely_more was now l.later l.keeps book h)
  timely_turn counts stays told told_now book (Lost q fault down faults keeps) h =
      let l = keeps told in
      timely_push now book t (let e = at in omega (arith, e)) (λ sound. no_fault t.reply (ap is_fault fault) sound) (timely_more was now l.later l.keeps book h)
