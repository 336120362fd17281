-- The store as its sessions know it: its steps for each measure of images, and what it keeps when it is opened again.
use Rattle.std.proofs.Common.{◌≡◌, ℕ, ◌-◌, ◌≤◌, take, refl, sym, ap, ◌∙◌, subst, arith, IsTrue}
use Rattle.ut_plain.specs.declared.statement.Statement.{Statement}
use Rattle.ut_plain.specs.declared.statement.Statement.TheVariants.{SaveBegin}
use Rattle.ut_plain.specs.declared.reply.Reply.{Reply}
use Rattle.ut_plain.specs.State.{State}
use Rattle.ut_plain.specs.Journal.{Journal, after_all, journal_len, state_at, since}
use Rattle.ut_plain.specs.Capture.{Directory}
use Rattle.ut_plain.specs.Plain.{Plain, no_savepoint, new_store, opened_store}
use Rattle.ut_plain.specs.View.{captured_now}
use Rattle.ut_plain.specs.Stages.{Stages}
use Rattle.ut_plain.specs.Spelled.{is_spelled}
use Rattle.ut_plain.specs.Reached.{IsPlain, MayOpen}
use Rattle.ut_plain.specs.Laws.{StepIsPlain, OpenedStoreIsPlain}
use Rattle.ut_plain.specs.Step.{step}
use Rattle.ut_plain.proofs.PartLaws.{state_at-length, since-length}
use Rattle.check_oracle.specs.Store.{Gives, Selected, IsSelected, no_image, selected_behind}
use Rattle.check_oracle.proofs.MeasureLemmas.{measured, gives_measured, plain_measured}
use Rattle.check_oracle.proofs.SaveLemmas.{selected_is}

-- ---- a statement

there : (p copy : Plain) (pages session : ℕ) (st : Statement) (reply : Reply) (q : Plain) → copy ≡ p → Gives (step (measured (λ (d : Directory). pages) copy) session st) reply q → Gives (step (measured (λ (d : Directory). pages) p) session st) reply q
there p copy pages session st reply q e g = subst (λ (x : Plain). Gives (step (measured (λ (d : Directory). pages) x) session st) reply q) e g

-- the step where each image takes the told number is that for each measure that agrees
pub steps_are : (p copy : Plain) (pages session : ℕ) (st : Statement) (reply : Reply) (q : Plain) → copy ≡ p → Gives (step (measured (λ (d : Directory). pages) copy) session st) reply q → (f : Directory → ℕ) → (st ≡ SaveBegin → f (captured_now p) ≡ pages) → Gives (step (measured f p) session st) reply (measured f q)
steps_are p copy pages session st reply q e g f tells = gives_measured f (measured (λ (d : Directory). pages) p) session st reply q tells (there p copy pages session st reply q e g)

pub plain_after : (p copy : Plain) (pages session : ℕ) (st : Statement) (reply : Reply) (q : Plain) → StepIsPlain → IsTrue (is_spelled st) → IsPlain p → copy ≡ p → Gives (step (measured (λ (d : Directory). pages) copy) session st) reply q → IsPlain q
plain_after p copy pages session st reply q law spelled h e g = subst IsPlain (sym (there p copy pages session st reply q e g).state) (law (measured (λ (d : Directory). pages) p) session st (plain_measured (λ (d : Directory). pages) p h) spelled)

selected_measured : (f : Directory → ℕ) (s : Selected) (p : Plain) → IsSelected s p → IsSelected s (measured f p)
selected_measured f s p h = record { since = h.since; until = h.until; tables = h.tables; captured = h.captured }

pub selected_after : (p copy : Plain) (pages session : ℕ) (st : Statement) (s t : Selected) (reply : Reply) (q : Plain) → IsPlain p → IsSelected s p → copy ≡ p → Gives (step (measured (λ (d : Directory). pages) copy) session st) reply q → t ≡ selected_behind s p.phase reply → IsSelected t q
selected_after p copy pages session st s t reply q h i e g is =
    let told = λ (d : Directory). pages in
    selected_is (measured told p) session st s t reply q (plain_measured told p h) (selected_measured told s p i) is (there p copy pages session st reply q e g).state

-- ---- an opening

pub selected_new : (s : Selected) (q : Plain) (limit : ℕ) → s ≡ no_image → q ≡ new_store no_savepoint limit → IsSelected s q
selected_new s q limit is e =
    subst (λ (s : Selected). IsSelected s q) (sym is) (subst (IsSelected no_image) (sym e) (record {
      since = omega arith;
      until = omega arith;
      tables = refl;
      captured = record { staged = refl; mains = λ n. record { parts = omega arith; few = omega arith }; rest = λ n. record { closed = refl; keep = refl } };
    }))

-- the limit and the pages of the root are put behind
pub limited : (q : Plain) (stages : Stages) (j k : Journal) (root limit : ℕ) → q ≡ opened_store (record { stages = stages; image_pages = no_savepoint.image_pages; root_pages = 0 }) j 0 → j ≡ k
    → record q { rows_limit = limit; root_pages = root } ≡ opened_store (record { stages = stages; image_pages = no_savepoint.image_pages; root_pages = root }) k limit
limited q stages j k root limit e same =
    ap (λ (p : Plain). record p { rows_limit = limit; root_pages = root }) e ∙ ap (λ (j : Journal). opened_store (record { stages = stages; image_pages = no_savepoint.image_pages; root_pages = root }) j limit) same

-- the image stays one of the journal that begins with it
pub selected_since : (s : Selected) (p q : Plain) → IsSelected s p → q.journal ≡ since p.journal s.length → IsSelected s q
selected_since s p q h e =
    let j = p.journal in
    let base : (state_at j s.length).length ≡ s.length = state_at-length j s.length h.since h.until in
    let long : journal_len (since j s.length) ≡ journal_len j = since-length j s.length h.since h.until in
    let none : s.length - (state_at j s.length).length ≡ 0 = omega (arith, base) in
    let same : state_at (since j s.length) s.length ≡ state_at j s.length = ap (λ n. after_all (state_at j s.length) (take n (since j s.length).entries)) none in
    let until = h.until in
    record {
      since = omega (arith, base, ap (λ (k : Journal). k.base.length) e);
      until = omega (arith, long, until, ap journal_len e);
      tables = h.tables ∙ ap (λ (t : State). t.tables) (sym same) ∙ ap (λ (k : Journal). (state_at k s.length).tables) (sym e);
      captured = h.captured;
    }

pub opened_plain : (q : Plain) (stages : Stages) (j : Journal) (root limit : ℕ) → OpenedStoreIsPlain → MayOpen stages j → limit ≤ 2147483648 → q ≡ opened_store (record { stages = stages; image_pages = no_savepoint.image_pages; root_pages = root }) j limit → IsPlain q
opened_plain q stages j root limit law may few e = subst IsPlain (sym e) (law (record { stages = stages; image_pages = no_savepoint.image_pages; root_pages = root }) j limit may few)
