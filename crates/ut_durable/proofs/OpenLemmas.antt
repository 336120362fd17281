-- A store that is opened knows of its files what a running one does.
use Rattle.std.proofs.Common.{◌≡◌, inl, inr, ℕ, ◌-◌, ◌≤◌, List, [], length, take, drop, refl, sym, ◌∙◌, ap, subst, arith}
use Rattle.std.specs.Prelude.{Contains, Option, None, Some}
use Rattle.std.specs.Ordering.{nat_cmp}
use Rattle.ut_plain.specs.declared.table.Stored.{Stored}
use Rattle.ut_plain.specs.declared.stage.Placed.{Placed}
use Rattle.std.specs.FinMap as finmap
use Rattle.ut_outside.specs.Disk.{Image, View}
use Rattle.ut_value.specs.declared.entry.Entry.{Entry}
use Rattle.ut_plain.specs.State.{State, empty_state}
use Rattle.ut_plain.specs.Stages.{all_places, no_stages}
use Rattle.ut_plain.specs.Journal.{Journal, state_at, entries_after, current, empty_journal}
use Rattle.ut_plain.specs.Reached.{MayOpen}
use Rattle.ut_plain.specs.Capture.{Directory, StandsInTable}
use Rattle.ut_durable.specs.Bytes.{no_directory}
use Rattle.ut_plain.specs.Plain.{Opening, Idle, opened_store}
use Rattle.ut_plain.proofs.OpenedLaws.{IsPlain-opened}
use Rattle.ut_redo.specs.Logs.{LogHolds}
use Rattle.ut_redo.specs.Logs.LogHolds.{Straight}
use Rattle.ut_pages.specs.declared.slot.Slot.TheVariants.{First}
use Rattle.ut_pages.specs.declared.root.Root.{Root}
use Rattle.ut_pages.specs.Layout.{IsMade, IsSelected, IsRoot, empty_root, made_pages}
use Rattle.ut_pages.proofs.MadeLemmas.{made_is, made_selected, made_root}
use Rattle.ut_durable.specs.Directories.{IsBase}
use Rattle.ut_durable.specs.Images.{HasImage, AreThere}
use Rattle.ut_durable.specs.Journals.{place_of}
use Rattle.ut_durable.specs.Files.{IsImageOf, Rests}
use Rattle.ut_durable.specs.Calls.{FilesHeld}
use Rattle.ut_durable.specs.Made.{made_held}
use Rattle.ut_durable.specs.Laws.{OpenedIsStored, MadeIsStored}
use Rattle.ut_durable.specs.Saving.{IsStored}
use Rattle.ut_plain.proofs.PartLaws.{may_open_part}

-- behind the base nothing was left out
none_before : (j : Journal) (n : ℕ) → n ≡ j.base.length → state_at j n ≡ j.base
none_before j n is = let zero_is : n - j.base.length ≡ 0 = omega (arith, is) in ap (λ (k : ℕ). current (record j { entries = take k j.entries })) zero_is

all_behind : (j : Journal) (n : ℕ) → n ≡ j.base.length → entries_after j n ≡ j.entries
all_behind j n is = let zero_is : n - j.base.length ≡ 0 = omega (arith, is) in ap (λ (k : ℕ). drop k j.entries) zero_is

-- what a plain store opens with, whatever pages its images take
abbrev opening : Directory → Opening
opening d = record { stages = d.stages; image_pages = λ (e : Directory). 0; root_pages = 0 }

-- what is read is an image of its journal
pub reading_image : (j : Journal) (root : Root) (d : Directory) → IsBase root d j.base → MayOpen d.stages j → IsRoot root → IsImageOf j root d
reading_image j root d base may rules =
    let here : root.length ≡ j.base.length = sym base.length in
    let is : state_at j root.length ≡ j.base = none_before j root.length here in
    record {
      rules = rules;
      begins = omega (arith, here);
      within = omega (arith, here);
      base = subst (IsBase root d) (sym is) base;
      may = λ n from until.
          may_open_part (opened_store (opening d) j 0) d root.length n (IsPlain-opened (opening d) j 0 may (omega arith)) (omega (arith, here)) from until
          (record { staged = may.staged ∙ ap length base.tables; mains = may.mains; rest = may.rest }) (sym base.tables ∙ ap (λ (s : State). s.tables) (sym is))
          (subst (λ (s : State). all_places d.stages ≤ finmap.len s.rows) (sym is) may.places);
    }

-- what an outcome of a crash is, which says this
opened_rests : (j : Journal) (d : Directory) (f : FilesHeld) (root : Root) (c : Image) → IsMade c.pages → IsSelected f.slot c.pages → AreThere f.reached c.pages → HasImage f.slot f.reached root d c.pages → IsBase root d j.base → LogHolds (place_of root) j.entries f.log c → Rests j f.slot f.reached root d f.log c
opened_rests j d f root c made selected there image base log = record {
  stands = record { made = made; selected = selected; there = there };
  image = image;
  log = subst (λ (es : List Entry). LogHolds (place_of root) es f.log c) (sym (all_behind j root.length (sym base.length))) log;
}

pub opened_is_stored : {D : Type 0} (view : D → View) → OpenedIsStored view
opened_is_stored {D} view j d f root seen v made selected there image base log may settled = record {
  image = reading_image j root d base may image.has.rules;
  rests = λ told c left. subst (Rests j f.slot f.reached root d f.log) (sym (settled told c left)) (opened_rests j d f root seen made selected there image base log);
  under_way = tt;
}

-- ---- a store that was just made

no_element : {X : Type 0} (x : X) → Contains [] x → ⊥
no_element x (i, lt, is) = absurd (omega (arith, lt))

in_none : (p : Placed) → StandsInTable no_stages p → ⊥
in_none p (inl l1) = no_element p l1
in_none p (inr (inl l2)) = no_element p l2
in_none p (inr (inr (part, in_parts, in_part))) = no_element part in_parts

made_base : IsBase empty_root no_directory empty_state
made_base = record {
  tables = refl;
  rows = record {
    each = λ n p stands live. absurd (in_none p stands);
    only = λ id row is. absurd (nothing (finmap.get (finmap.empty {X = Stored} {R = nat_cmp}) id) row (finmap.get-empty nat_cmp id) is);
  };
  next = refl;
  commits = refl;
  merges = refl;
  length = refl;
}
  where
    nothing : (o : Option Stored) (row : Stored) → o ≡ None → o ≡ Some row → ⊥
    nothing o row none some = let same : None ≡ Some row = sym none ∙ some in cc

made_image : HasImage First [] empty_root no_directory made_pages
made_image = record {
  has = made_root;
  image = record {
    directory = record { pages = []; first = 0; bytes = [] };
    begins = refl;
    ends = refl;
    stands = record { chain = (refl, refl); fits = omega arith };
    reaches = λ k has. has;
    parts = [];
    each = tt;
    each_reaches = tt;
    count = refl;
    describes = inl (refl, refl, refl);
  };
}

pub made_is_stored : {D : Type 0} (view : D → View) → MadeIsStored view
made_is_stored {D} view f v is may left_by =
    subst (λ (h : FilesHeld). IsStored empty_journal h empty_root no_directory None Idle (view v)) (sym is)
    (record {
      image = reading_image empty_journal empty_root no_directory made_base may made_root.rules;
      rests = λ told c left.
          let here = left_by told c left in
          opened_rests empty_journal no_directory made_held empty_root c (subst IsMade (sym here.0) made_is) (subst (IsSelected First) (sym here.0) made_selected) (λ n has. absurd (no_element n has))
          (subst (HasImage First [] empty_root no_directory) (sym here.0) made_image) made_base (Straight refl here.1);
      under_way = tt;
    })
