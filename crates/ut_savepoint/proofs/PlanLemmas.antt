-- The savepoint of what is captured.
use Rattle.std.proofs.Common.{◌≡◌, inr, get_or, Fits, ℕ, zero, suc, ◌+◌, ◌<◌, ◌≤◌, ◌^◌, false, List, [], ◌∷◌, ◌++◌, length, map, drop, refl, sym, ◌∙◌, ap, subst, arith, length-append}
use Rattle.std.specs.Prelude.{Contains}
use Rattle.std.specs.Int.{w32, to_le_bytes}
use Rattle.std.proofs.lemmas.List.{append-nil, drop_all}
use Rattle.ut_plain.specs.Capture.{Directory}
use Rattle.ut_pages.specs.declared.root.Root.{Root}
use Rattle.ut_pages.specs.Layout.{IsRoot}
use Rattle.ut_pages.specs.Free.{AreFree}
use Rattle.ut_durable.specs.Rules.{IsDirectory}
use Rattle.ut_durable.specs.Bytes.{Describes, pages_for, image_pages}
use Rattle.ut_durable.specs.Saving.{Saving, IsPlan}
use Rattle.ut_durable.specs.Plans.{Draft, Ascend, chain_of, first_of, plan, planned_of, reached_of}
use Rattle.ut_durable.proofs.PlanLemmas.{chains_are_plan, free_pages_ascend}
use Rattle.ut_savepoint.specs.declared.captured.CapturedTable.{CapturedTable}
use Rattle.ut_savepoint.specs.Captured.{Captures}
use Rattle.ut_savepoint.specs.Planning.{spelled_all, pages_of, directory_of, tables_bytes, drafts_of, saving_on, Plans, PlansOn}
use Rattle.ut_savepoint.proofs.PageLemmas.{fills_pages, drafts_are, drafts_reach, plan_long, planned_long, all_numbers}
use Rattle.ut_savepoint.proofs.SpellLemmas.{AreNumbers, Short, short_parts, chains_all, directory_same, tables_hold, chains_flat, image_takes, directory_long}

-- what is known of the pages: those of the parts, and those of the directory
pub record ArePages (cs : List CapturedTable) (reached first own : List ℕ) : Type 0 where
  pub free : AreFree (Contains reached) 3 (first ++ own)
  pub fit : AreNumbers (first ++ own)
  pub short : Short (spelled_all cs)
  pub parts : length first ≡ pages_of (spelled_all cs)
  pub directory : length own ≡ pages_for (length (directory_of [] cs))

pub fit_all : (pages : List ℕ) → ((i : ℕ) → Fits w32 (get_or pages i 0)) → AreNumbers pages
fit_all [] all = tt
fit_all (p ∷ pages) all = let here = all zero in (omega (arith, here), fit_all pages (λ i. all (suc i)))

-- ---- what the code makes

-- of so many pages an image takes as many
pub pages_all : (cs : List CapturedTable) (d : Directory) (parts : List (List ℕ)) (own : ℕ) → Captures cs d → parts ≡ spelled_all cs → own ≡ pages_for (length (directory_of [] cs)) → image_pages d ≡ own + pages_of parts
pages_all cs d parts own captures spelled is = let same = ap pages_of spelled in omega (arith, image_takes cs d captures, is, same)

first_at : (pages : List ℕ) → get_or pages 0 0 ≡ first_of pages
first_at [] = refl
first_at (p ∷ pages) = refl

-- a savepoint to which both were added
pub placed_is : (root : Root) (cs : List CapturedTable) (parts : List (List ℕ)) (first own bytes : List ℕ) (len page : ℕ) (none first_added all_added : Saving) → parts ≡ spelled_all cs → bytes ≡ directory_of first cs → len ≡ length bytes → page ≡ get_or own 0 0
    → none ≡ record { root = record root { image_len = len; first_page = page }; planned = []; reached = []; done = 0; sealed = false }
    → first_added ≡ record none { planned = none.planned ++ planned_of (drafts_of first parts); reached = none.reached ++ reached_of (drafts_of first parts) }
    → all_added ≡ record first_added { planned = first_added.planned ++ plan own bytes; reached = first_added.reached ++ own } → all_added ≡ saving_on root cs first own
placed_is root cs parts first own bytes len page none first_added all_added spelled is long begins made more all =
    all ∙ ap (λ (s : Saving). record s { planned = s.planned ++ plan own bytes; reached = s.reached ++ own })
    (more ∙ ap (λ (s : Saving). record s { planned = s.planned ++ planned_of (drafts_of first parts); reached = s.reached ++ reached_of (drafts_of first parts) }) made)
    ∙ (λ i. record {
      root = record root { image_len = (long ∙ ap (λ (l : List ℕ). length l) is) i; first_page = (begins ∙ first_at own) i };
      planned = planned_of (drafts_of first (spelled i)) ++ plan own (is i);
      reached = reached_of (drafts_of first (spelled i)) ++ own;
      done = 0;
      sealed = false;
    })

first_part : (from : ℕ) (xs ys : List ℕ) → Ascend from (xs ++ ys) → Ascend from xs
first_part from [] ys up = tt
first_part from (x ∷ xs) ys up = (up.0, first_part (x + 1) xs ys up.1)

second_part : (from : ℕ) (xs ys : List ℕ) → Ascend from (xs ++ ys) → Ascend from ys
second_part from [] ys up = up
second_part from (x ∷ xs) ys up = weaker ys (second_part (x + 1) xs ys up.1)
  where
    weaker : (zs : List ℕ) → Ascend (x + 1) zs → Ascend from zs
    weaker [] h = tt
    weaker (z ∷ zs) h = (omega (arith, up.0, h.0), h.1)

fit_first : (xs ys : List ℕ) → AreNumbers (xs ++ ys) → AreNumbers xs
fit_first [] ys all = tt
fit_first (x ∷ xs) ys all = (all.0, fit_first xs ys all.1)

fit_second : (xs ys : List ℕ) → AreNumbers (xs ++ ys) → AreNumbers ys
fit_second [] ys all = all
fit_second (x ∷ xs) ys all = fit_second xs ys all.1

-- the first of some pages
some_first : (own : List ℕ) → 1 ≤ length own → Ascend 3 own → AreNumbers own → (3 ≤ first_of own) × (first_of own < 2 ^ 32)
some_first [] some up fit = absurd (omega (arith, some))
some_first (p ∷ own) some up fit = (up.0, fit.0)

module _ (cs : List CapturedTable) (reached first own : List ℕ) (are : ArePages cs reached first own) where
  abbrev bytes : List ℕ
  bytes = directory_of first cs

  abbrev parts : List Draft
  parts = drafts_of first (spelled_all cs)

  abbrev directory : Draft
  directory = record { pages = own; bytes = bytes }

  rising : Ascend 3 (first ++ own)
  rising = (free_pages_ascend reached (first ++ own) are.free).0

  same_reach : reached_of parts ≡ first
  same_reach =
      let parts_all = are.parts in
      let none : drop (pages_of (spelled_all cs)) first ≡ [] = drop_all (pages_of (spelled_all cs)) first (omega (arith, parts_all)) in
      sym (append-nil (reached_of parts)) ∙ ap (λ (l : List ℕ). reached_of parts ++ l) (sym none) ∙ drafts_reach first (spelled_all cs)

  same_both : reached_of parts ++ own ≡ first ++ own
  same_both = ap (λ (l : List ℕ). l ++ own) same_reach

  long : length bytes ≡ length (directory_of [] cs)
  long = directory_long first cs

  some : 4 ≤ length bytes
  some = omega (arith, length-append (to_le_bytes w32 (length cs)) (tables_bytes first cs), four (length cs))
    where
      four : (n : ℕ) → length (to_le_bytes w32 n) ≡ 4
      four n = refl

  some_own : 1 ≤ length own
  some_own = let own_all = are.directory in omega (arith, own_all, long, some)

  first_is : (3 ≤ first_of own) × (first_of own < 2 ^ 32)
  first_is = some_first own some_own (second_part 3 first own rising) (fit_second first own are.fit)

  -- the root that names the directory
  abbrev named : Root → Root
  named root = record root { image_len = length bytes; first_page = first_of own }

  named_rules : (root : Root) → length bytes < 2 ^ 64 → IsRoot root → IsRoot (named root)
  named_rules root short rules =
      let a = rules.allowed in
      record {
        allowed = record {
          version = a.version;
          file = a.file;
          length = a.length;
          changes = a.changes;
          next = a.next;
          offset = a.offset;
          empty = λ none. absurd (omega (arith, none, some));
          some = λ none. absurd (omega (arith, none, first_is.0));
        };
        image_len = short;
        first = first_is.1;
      }

  described : (root : Root) (d : Directory) → Captures cs d → IsDirectory root.next root.commits d → Describes (named root) bytes (map chain_of parts) d
  described root d captures rules = inr (record {
    rules = rules;
    chains = chains_all first cs;
    flat = chains_flat cs first;
    spelled = directory_same cs d first captures;
    hold = tables_hold cs d.tables d.stages first captures (fit_first first own are.fit) are.short;
  })

  named_plan : (root : Root) (d : Directory) → Captures cs d → IsDirectory root.next root.commits d → IsPlan (planned_of parts ++ plan own bytes) reached (reached_of parts ++ own) (named root) d
  named_plan root d captures rules =
      let own_all = are.directory in
      let parts_all = are.parts in
      chains_are_plan directory parts (named root) d reached
      (record { fills = fills_pages own bytes (omega (arith, own_all, long)); ascend = second_part 3 first own rising })
      (drafts_are first (spelled_all cs) (omega (arith, parts_all)) (first_part 3 first own rising))
      (subst (Ascend 3) (sym same_both) rising)
      (λ k has. (free_pages_ascend reached (first ++ own) are.free).1 k (subst (λ (l : List ℕ). Contains l k) same_both has))
      refl
      refl
      (described root d captures rules)

  -- a directory of few pages is short
  short_directory : 3 + (length first + length own) + length reached < 2 ^ 32 → length bytes < 2 ^ 64
  short_directory room = let own_all = are.directory in omega (arith, own_all, long, room)

  pub plans : (root : Root) (s : Saving) (d : Directory) → s ≡ saving_on root cs first own → 3 + (length first + length own) + length reached < 2 ^ 32 → Captures cs d → Plans root reached d s
  plans root s d is room captures = subst (Plans root reached d) (sym is)
      (record {
        named = refl;
        rules = named_rules root (short_directory room);
        done = refl;
        unsealed = refl;
        pages =
            let own_all = are.directory in
            let parts_all = are.parts in
            omega (arith, length-append (planned_of parts) (plan own bytes), planned_long parts, plan_long own bytes, ap (λ (l : List ℕ). length l) same_reach, parts_all, own_all, image_takes cs d captures);
        even = omega (arith, length-append (planned_of parts) (plan own bytes), planned_long parts, plan_long own bytes, length-append (reached_of parts) own);
        few =
            let own_all = are.directory in
            let parts_all = are.parts in
            omega (arith, room, parts_all, own_all, image_takes cs d captures);
        takes = record { least = subst (AreFree (Contains reached) 3) (sym same_both) are.free; order = all_numbers parts directory };
        chains = record { parts = parts; own = directory; planned = refl; reached = refl; first = refl; describes = described root d captures };
        plan = named_plan root d captures;
      })

-- Where the pages are free, it is the savepoint.
pub plans_on : (root : Root) (cs : List CapturedTable) (first own : List ℕ) (s : Saving) → length first ≡ pages_of (spelled_all cs) → length own ≡ pages_for (length (directory_of [] cs)) → AreNumbers first × AreNumbers own → s ≡ saving_on root cs first own → PlansOn root cs first own s
plans_on root cs first own s parts directory fit is reached d free room captures =
    plans cs reached first own (record { free = free; fit = both first fit.0; short = short_parts (spelled_all cs) (omega (arith, room, parts)); parts = parts; directory = directory }) root s d is room captures
  where
    both : (pages : List ℕ) → AreNumbers pages → AreNumbers (pages ++ own)
    both [] all = fit.1
    both (p ∷ pages) all = (all.0, both pages all.1)
