-- What a parse of a simple command has found of an option with a default, or of an argument that must be there.
use Rattle.std.proofs.Common.{ℕ, zero, suc, ◌≡◌, ◌∙◌, ◌<◌, ◌≤◌, inl, inr, ap, Bool, true, false, not, List, [], ◌∷◌, length, is_some, Option, Some, None, refl, sym, subst, arith}
use Rattle.std.specs.Prelude.{◌&&◌, pos, map, find, option_map, codes, unwrap_or}
use Rattle.std.specs.List.{All, list_all, list_any, slice_index_or}
use Rattle.std.specs.Str.{bytes_eq}
use Rattle.std.specs.Borrow.{Bor}
use Rattle.std.proofs.lemmas.Grind.{common_steps}
use Rattle.std.proofs.lemmas.List.Elements.{All-get_or}
use Rattle.std.proofs.lemmas.Slice.Eq.{bytes_eq-Decides}
use Rattle.clap.specs.Facts.{args_of, groups_of, Entry, EntryPasses, IsParsed, PassesArg, WantsDefault, least_values, unwrap_or_range, parser_of, parser_of_value}
use Rattle.clap.specs.Built.{IsPlain, IsPlainArg, IsParsedFrom, IsAuto}
use Rattle.clap.specs.Matches.{matched_of, first_value, one_text, found_of, has_subcommand}
use Rattle.clap.specs.Texts.{items_of}
use Rattle.clap.specs.Values.{Accepts, read_as, reading_of}
use Rattle.clap.specs.Lexer.{without_minus}
use Rattle.clap.specs.Walk.{Rule, Text, is_empty, is_simple_arg, is_free_arg, rule_of, texts}
use Rattle.clap.specs.Simple.{app_of}
use Rattle.clap.specs.declared.builder.action.ArgAction.TheVariants.{Count, Set}
use Rattle.clap.specs.declared.builder.arg.Arg.{Arg}
use Rattle.clap.specs.declared.builder.command.Command.{Command}
use Rattle.clap.specs.declared.builder.command.Command.TheViews.{out-Command}
use Rattle.clap.specs.declared.builder.range.ValueRange.{ValueRange}
use Rattle.clap.specs.declared.builder.value_parser.Reading.{Reading}
use Rattle.clap.specs.declared.builder.value_parser.ValueParser.{ValueParser}
use Rattle.clap.specs.declared.builder.value_parser.ValueParser.TheVariants.{Names, Signed}
use Rattle.clap.specs.declared.parser.matches.ArgMatches.{ArgMatches}
use Rattle.clap.specs.declared.parser.matches.Found.{Found}
use Rattle.clap.specs.declared.parser.matches.MatchedArg.{MatchedArg}
use Rattle.clap.proofs.CallerLemmas.{default_present, entry_by_id, present_has_entry, required_present, same_rules_by_id}
use Rattle.clap.proofs.WalkLemmas.{both}
use Rattle.ut_words.specs.Reading.{HasNumber}

-- ---- rules in their places

abbrev pub at_place : List Rule → ℕ → Option Rule
at_place [] n = None
at_place (r ∷ rs) zero = Some r
at_place (r ∷ rs) (suc n) = at_place rs n

abbrev pub none_named : List Rule → Text → Bool
none_named [] id = true
none_named (r ∷ rs) id = not (bytes_eq r.id id) && none_named rs id

-- no rule but the one in this place has the id
abbrev pub is_only : List Rule → ℕ → Text → Bool
is_only [] n id = true
is_only (r ∷ rs) zero id = none_named rs id
is_only (r ∷ rs) (suc n) id = not (bytes_eq r.id id) && is_only rs n id

not_both : (b : Bool) → not b ≡ true → b ≡ true → ⊥
not_both true n h = cc
not_both false n h = cc

none_sound : (xs : List Arg) (id : Text) → none_named (map rule_of xs) id ≡ true → (j : ℕ) (e : Arg) → j < length xs → bytes_eq (slice_index_or xs j e).id.now id ≡ true → ⊥
none_sound [] id h j e lt same = absurd (omega (arith, lt))
none_sound (x ∷ xs) id h zero e lt same = not_both (bytes_eq x.id.now id) (both (not (bytes_eq x.id.now id)) (none_named (map rule_of xs) id) h).0 same
none_sound (x ∷ xs) id h (suc j) e lt same = none_sound xs id (both (not (bytes_eq x.id.now id)) (none_named (map rule_of xs) id) h).1 j e (omega (arith, lt)) same

only_sound : (xs : List Arg) (k : ℕ) (id : Text) → is_only (map rule_of xs) k id ≡ true → (j : ℕ) (e : Arg) → j < length xs → bytes_eq (slice_index_or xs j e).id.now id ≡ true → j ≡ k
only_sound [] k id h j e lt same = absurd (omega (arith, lt))
only_sound (x ∷ xs) zero id h zero e lt same = refl
only_sound (x ∷ xs) zero id h (suc j) e lt same = absurd (none_sound xs id h j e (omega (arith, lt)) same)
only_sound (x ∷ xs) (suc k) id h zero e lt same = absurd (not_both (bytes_eq x.id.now id) (both (not (bytes_eq x.id.now id)) (is_only (map rule_of xs) k id) h).0 same)
only_sound (x ∷ xs) (suc k) id h (suc j) e lt same = ap suc (only_sound xs k id (both (not (bytes_eq x.id.now id)) (is_only (map rule_of xs) k id) h).1 j e (omega (arith, lt)) same)

all_by : (p : Rule → Bool) (xs : List Arg) (k : ℕ) (d : Arg) → list_all p (map rule_of xs) ≡ true → k < length xs → p (rule_of (slice_index_or xs k d)) ≡ true
all_by p [] k d h lt = absurd (omega (arith, lt))
all_by p (x ∷ xs) zero d h lt = (both (p (rule_of x)) (list_all p (map rule_of xs)) h).0
all_by p (x ∷ xs) (suc k) d h lt = all_by p xs k d (both (p (rule_of x)) (list_all p (map rule_of xs)) h).1 (omega (arith, lt))

rule_at : (xs : List Arg) (k : ℕ) (d : Arg) (r : Rule) → at_place (map rule_of xs) k ≡ Some r → (k < length xs) × (rule_of (slice_index_or xs k d) ≡ r)
rule_at [] k d r h = cc
rule_at (x ∷ xs) zero d r h = (omega arith, ap (λ (o : Option Rule). unwrap_or o r) h)
rule_at (x ∷ xs) (suc k) d r h = let below = rule_at xs k d r h in let lt = below.0 in (omega (arith, lt), below.1)

some_arg : (xs : List Arg) (k : ℕ) (r : Rule) → at_place (map rule_of xs) k ≡ Some r → Arg
some_arg [] k r h = absurd (none_some h)
  where
    none_some : None ≡ Some r → ⊥
    none_some e = cc
some_arg (x ∷ xs) k r h = x

-- ---- what a simple command excludes: nothing

none_there : {X : Type 0} (xs : List X) → is_empty xs ≡ true → xs ≡ []
none_there [] h = refl
none_there (x ∷ xs) h = absurd (grind (arith, common_steps, h))

is_false : (b : Bool) → not b ≡ true → b ≡ false
is_false true h = cc
is_false false h = refl

is_none_by : {X : Type 0} (o : Option X) → not (is_some o) ≡ true → o ≡ None
is_none_by None h = refl
is_none_by (Some x) h = cc

plain_arg : (a : Arg) → is_simple_arg a ≡ true → is_free_arg a ≡ true → IsPlainArg a
plain_arg a simple free =
    let overrides = both (is_empty a.overrides.items) _ simple in
    let ifs = both (is_empty a.default_vals_ifs.items) _ overrides.1 in
    let groups = both (is_empty a.groups.items) _ ifs.1 in
    let exclusive = both (not a.exclusive) _ free in
    let conflicts = both (is_empty a.conflicts.items) _ exclusive.1 in
    (is_false a.exclusive exclusive.0, none_there a.conflicts.items conflicts.0, none_there a.overrides.items overrides.0, none_there a.groups.items groups.0)

no_ifs : (a : Arg) → is_simple_arg a ≡ true → a.default_vals_ifs.items ≡ []
no_ifs a simple = none_there a.default_vals_ifs.items (both (is_empty a.default_vals_ifs.items) _ (both (is_empty a.overrides.items) _ simple).1).0

no_delim : (a : Arg) → is_simple_arg a ≡ true → a.val_delim ≡ None
no_delim a simple = is_none_by a.val_delim (both (not (is_some a.val_delim)) _ (both (is_empty a.groups.items) _ (both (is_empty a.default_vals_ifs.items) _ (both (is_empty a.overrides.items) _ simple).1).1).1).0

-- ---- the entry

has_found : (xs : List Entry) (id : Text) (i : ℕ) → i < length xs → ((d : Entry) → bytes_eq (slice_index_or xs i d).0.now id ≡ true) → is_some (option_map (λ e. e.1) (find (λ e. bytes_eq e.0.now id) xs)) ≡ true
has_found [] id i lt at = absurd (omega (arith, lt))
has_found (x ∷ xs) id zero lt at = let hit : bytes_eq x.0.now id ≡ true = at x in rw hit refl
has_found (x ∷ xs) id (suc i) lt at = by_first (bytes_eq x.0.now id) refl (has_found xs id i (omega (arith, lt)) at)
  where
    by_first : (t : Bool) → bytes_eq x.0.now id ≡ t → is_some (option_map (λ e. e.1) (find (λ e. bytes_eq e.0.now id) xs)) ≡ true
        → is_some (option_map (λ e. e.1) (find (λ e. bytes_eq e.0.now id) (x ∷ xs))) ≡ true
    by_first true e below = rw e refl
    by_first false e below = rw e below

first_reads : (f : Found) (id : Text) (x : MatchedArg) (P : Bor Text → Type 0) → matched_of f id ≡ Some x → 0 < length x.vals.items → All P x.vals.items
    → (v : Bor Text) × (one_text f id ≡ Some (read_as x.reading v.now)) × (first_value f id ≡ Some v.now) × P v
first_reads f id x P found some all = go x.vals.items refl
  where
    go : (vs : List (Bor Text)) → x.vals.items ≡ vs → (v : Bor Text) × (one_text f id ≡ Some (read_as x.reading v.now)) × (first_value f id ≡ Some v.now) × P v
    go [] e = let none : 0 < 0 = subst (λ (l : List (Bor Text)). 0 < length l) e some in absurd (omega (arith, none))
    go (v ∷ vs) e = (v, rw (found, e) refl, rw (found, e) refl, All-get_or P (v ∷ vs) 0 v (omega arith) (subst (λ (l : List (Bor Text)). All P l) e all))

module _ (cmd : Command) (m : ArgMatches) (p : IsParsedFrom cmd m) (plain : (app_of cmd).top.is_plain ≡ true)
    (simple : list_all (λ a. a.is_simple) (app_of cmd).top.rules ≡ true) (free : list_all (λ a. a.is_free) (app_of cmd).top.rules ≡ true) where
  no_groups : groups_of cmd ≡ []
  no_groups = none_there (groups_of cmd) (both (is_empty (groups_of cmd)) _ plain).0

  no_globals : (out-Command cmd).has_globals ≡ false
  no_globals = is_false (out-Command cmd).has_globals (both (not (out-Command cmd).has_globals) _ (both (not (out-Command cmd).allow_external_subcommands) _ (both (is_empty (groups_of cmd)) _ plain).1).1).0

  is_plain : IsPlain cmd
  is_plain = ((λ k d lt. plain_arg (slice_index_or (args_of cmd) k d) (all_by (λ a. a.is_simple) (args_of cmd) k d simple lt) (all_by (λ a. a.is_free) (args_of cmd) k d free lt)), no_groups)

  -- what is found of an argument that takes a value and has an entry: a text that its parser accepts
  pub entry_reads : (k : ℕ) (d : Arg) → k < length (args_of cmd) → (slice_index_or (args_of cmd) k d).action ≡ Some Set → (slice_index_or (args_of cmd) k d).val_delim ≡ None
      → 1 ≤ least_values (slice_index_or (args_of cmd) k d)
      → ((j : ℕ) (e : Arg) → j < length (args_of cmd) → bytes_eq (slice_index_or (args_of cmd) j e).id.now (slice_index_or (args_of cmd) k d).id.now ≡ true → j ≡ k)
      → ((slice_index_or (args_of cmd) k d).id.now ≡ [] → ⊥) → (IsAuto (slice_index_or (args_of cmd) k d) → ⊥)
      → (q : ValueParser) → (slice_index_or (args_of cmd) k d).value_parser ≡ Some q
      → is_some (matched_of (found_of m) (slice_index_or (args_of cmd) k d).id.now) ≡ true
      → (t : Text) × (one_text (found_of m) (slice_index_or (args_of cmd) k d).id.now ≡ Some (read_as (reading_of q) t)) × (first_value (found_of m) (slice_index_or (args_of cmd) k d).id.now ≡ Some t) × Accepts (slice_index_or (args_of cmd) k d).ignore_case q t
  entry_reads k d lt set delim least unique named own q parser some = go (matched_of (found_of m) id) refl some
    where
      a : Arg
      a = slice_index_or (args_of cmd) k d

      id : Text
      id = (slice_index_or (args_of cmd) k d).id.now

      built_groups : groups_of p.built ≡ []
      built_groups = (p.from.plain is_plain).1

      parsed : IsParsed p.built (found_of m) (has_subcommand m)
      parsed = p.parsed (p.from.globals ∙ no_globals)

      no_group : (e : Entry) → e.0.now ≡ id → EntryPasses p.built e → e.1.is_group ≡ true → ⊥
      no_group e key pass g = elim (pass.3 g) [
        | inl empty ↦ named (sym key ∙ empty)
        | inr lots ↦
            let bad : 0 < 0 = rw built_groups at lots in
            absurd (omega arith)
      ]

      has_value : (e : Entry) → e.0.now ≡ id → EntryPasses p.built e → 0 < length e.1.vals.items
      has_value e key pass = elim pass.1 [
        | inl h ↦ absurd (no_group e key pass h.0)
        | inr (inl v) ↦ v
        | inr (inr (inl h)) ↦
            let any = h.1 in
            let s = same_rules_by_id cmd m p k d lt unique own any.0 any.1 any.2 any.3 (rw key at any.4.0) in
            let is_set : any.1.action ≡ Some Set = s.action Set set in
            let bad : Set ≡ Count = rw is_set at any.4.1 in
            cc
        | inr (inr (inr h)) ↦
            let s = same_rules_by_id cmd m p k d lt unique own h.0 h.1 h.2 h.3 (rw key at h.4.0) in
            elim h.4.1 [
              | inl none ↦
                  let one = s.least set least in
                  absurd (omega arith)
              | inr has ↦
                  let bad : false ≡ true = rw (s.val_delim, delim) at has in
                  cc
            ]
      ]

      all_pass : (e : Entry) → e.0.now ≡ id → EntryPasses p.built e → All (λ v. PassesArg p.built e.0.now v.now) e.1.vals.items
      all_pass e key pass = elim pass.0 [
        | inl g ↦ absurd (no_group e key pass g)
        | inr vals ↦ vals
      ]

      reading : (e : Entry) → e.0.now ≡ id → EntryPasses p.built e → e.1.reading ≡ reading_of q
      reading e key pass = elim pass.4 [
        | inl g ↦ absurd (no_group e key pass g)
        | inr any ↦
            let s = same_rules_by_id cmd m p k d lt unique own any.0 any.1 any.2 any.3 (rw key at any.4.0) in
            let is_q : parser_of any.1 ≡ q = ap parser_of_value (s.parser q parser) in
            sym any.4.1 ∙ ap reading_of is_q
      ]

      accepts : (e : Entry) → e.0.now ≡ id → (t : Text) → PassesArg p.built e.0.now t → Accepts a.ignore_case q t
      accepts e key t any =
          let s = same_rules_by_id cmd m p k d lt unique own any.0 any.1 any.2 any.3 (rw key at any.4.0) in
          let is_q : parser_of any.1 ≡ q = ap parser_of_value (s.parser q parser) in
          let as_q : Accepts any.1.ignore_case q t = subst (λ (w : ValueParser). Accepts any.1.ignore_case w t) is_q any.4.1 in
          subst (λ (b : Bool). Accepts b q t) s.ignore_case as_q

      finish : (x : MatchedArg) → matched_of (found_of m) id ≡ Some x → (e : Entry) → e.1 ≡ x → e.0.now ≡ id → EntryPasses p.built e
          → (t : Text) × (one_text (found_of m) id ≡ Some (read_as (reading_of q) t)) × (first_value (found_of m) id ≡ Some t) × Accepts a.ignore_case q t
      finish x found e same key pass =
          let found_e : matched_of (found_of m) id ≡ Some e.1 = found ∙ ap (λ (y : MatchedArg). Some y) (sym same) in
          let first = first_reads (found_of m) id e.1 (λ v. PassesArg p.built e.0.now v.now) found_e (has_value e key pass) (all_pass e key pass) in
          (first.0.now, first.1 ∙ ap (λ (r : Reading). Some (read_as r first.0.now)) (reading e key pass), first.2, accepts e key first.0.now first.3)

      go : (o : Option MatchedArg) → matched_of (found_of m) id ≡ o → is_some (matched_of (found_of m) id) ≡ true
          → (t : Text) × (one_text (found_of m) id ≡ Some (read_as (reading_of q) t)) × (first_value (found_of m) id ≡ Some t) × Accepts a.ignore_case q t
      go None e h =
          let bad : false ≡ true = rw e at h in
          cc
      go (Some x) e h =
          let got = entry_by_id (EntryPasses p.built) (found_of m).entries.items id x parsed.values e in
          finish x e got.0 got.1 ((bytes_eq-Decides got.0.0.now id).0 got.2) got.3

  -- an option with a default and a range has a number in the range
  pub option_number : (k : ℕ) (r : Rule) (least most : ℕ) → at_place (app_of cmd).top.rules k ≡ Some r → is_only (app_of cmd).top.rules k r.id ≡ true
      → r.action ≡ Some Set → r.range ≡ None → 0 < length r.defaults → r.parser ≡ Some (Signed (pos least) (pos most))
      → (r.id ≡ [] → ⊥) → (r.id ≡ codes "help" → ⊥) → (r.id ≡ codes "version" → ⊥) → HasNumber (found_of m) r.id least most
  option_number k r least most at only set range defaults parser named help version =
      let d = some_arg (args_of cmd) k r at in
      let there = rule_at (args_of cmd) k d r at in
      let arg = slice_index_or (args_of cmd) k d in
      let simple_arg : is_simple_arg arg ≡ true = all_by (λ a. a.is_simple) (args_of cmd) k d simple there.0 in
      let same_id : arg.id.now ≡ r.id = ap (λ (r : Rule). r.id) there.1 in
      let same_range : arg.num_vals ≡ None = ap (λ (r : Rule). r.range) there.1 ∙ range in
      let same_defaults : texts (items_of arg.default_vals) ≡ r.defaults = ap (λ (r : Rule). r.defaults) there.1 in
      let wants : WantsDefault arg = (no_ifs arg simple_arg, some_default (items_of arg.default_vals) r.defaults same_defaults defaults) in
      let has = default_present cmd m p no_globals k d there.0 wants in
      let one : 1 ≤ (unwrap_or_range arg.num_vals).start_inclusive = subst (λ (o : Option ValueRange). 1 ≤ (unwrap_or_range o).start_inclusive) (sym same_range) (omega arith) in
      let got = entry_reads k d there.0 (ap (λ (r : Rule). r.action) there.1 ∙ set) (no_delim arg simple_arg) one
      (λ j e low same. only_sound (args_of cmd) k r.id only j e low (subst (λ (i : Text). bytes_eq (slice_index_or (args_of cmd) j e).id.now i ≡ true) same_id same))
      (λ empty. named (sym same_id ∙ empty))
      (λ auto. elim auto [ inl h ↦ help (sym same_id ∙ h) | inr h ↦ version (sym same_id ∙ h) ])
      (Signed (pos least) (pos most)) (ap (λ (r : Rule). r.parser) there.1 ∙ parser)
      (has_found (found_of m).entries.items arg.id.now has.0 has.1 has.2) in
      record {
        text = got.0;
        is = subst (λ (i : Text). one_text (found_of m) i ≡ Some (without_minus got.0)) same_id got.1;
        within = got.3;
      }
    where
      some_default : (vs : List (Bor Text)) (ds : List Text) → texts vs ≡ ds → 0 < length ds → 0 < length vs
      some_default [] ds e h = let none : length ds ≡ 0 = ap length (sym e) in absurd (omega (arith, none, h))
      some_default (v ∷ vs) ds e h = omega arith

  -- a word that must be there is one of the choices
  pub required_choice : (k : ℕ) (r : Rule) (choices : Bor (List (Bor Text))) → at_place (app_of cmd).top.rules k ≡ Some r → is_only (app_of cmd).top.rules k r.id ≡ true
      → r.action ≡ Some Set → r.range ≡ None → r.required ≡ true → r.ignore_case ≡ false → r.parser ≡ Some (Names choices) → (app_of cmd).top.subcommand_negates_reqs ≡ false
      → (r.id ≡ [] → ⊥) → (r.id ≡ codes "help" → ⊥) → (r.id ≡ codes "version" → ⊥)
      → (t : Text) × (first_value (found_of m) r.id ≡ Some t) × (list_any (λ name. bytes_eq name.now t) choices.now ≡ true)
  required_choice k r choices at only set range required cased parser negates named help version =
      let d = some_arg (args_of cmd) k r at in
      let there = rule_at (args_of cmd) k d r at in
      let arg = slice_index_or (args_of cmd) k d in
      let simple_arg : is_simple_arg arg ≡ true = all_by (λ a. a.is_simple) (args_of cmd) k d simple there.0 in
      let same_id : arg.id.now ≡ r.id = ap (λ (r : Rule). r.id) there.1 in
      let same_range : arg.num_vals ≡ None = ap (λ (r : Rule). r.range) there.1 ∙ range in
      let same_case : arg.ignore_case ≡ false = ap (λ (r : Rule). r.ignore_case) there.1 ∙ cased in
      let has = present_has_entry (found_of m) arg.id.now (required_present cmd m p is_plain no_globals negates k d there.0 (ap (λ (r : Rule). r.required) there.1 ∙ required)) in
      let one : 1 ≤ (unwrap_or_range arg.num_vals).start_inclusive = subst (λ (o : Option ValueRange). 1 ≤ (unwrap_or_range o).start_inclusive) (sym same_range) (omega arith) in
      let got = entry_reads k d there.0 (ap (λ (r : Rule). r.action) there.1 ∙ set) (no_delim arg simple_arg) one
      (λ j e low same. only_sound (args_of cmd) k r.id only j e low (subst (λ (i : Text). bytes_eq (slice_index_or (args_of cmd) j e).id.now i ≡ true) same_id same))
      (λ empty. named (sym same_id ∙ empty))
      (λ auto. elim auto [ inl h ↦ help (sym same_id ∙ h) | inr h ↦ version (sym same_id ∙ h) ])
      (Names choices) (ap (λ (r : Rule). r.parser) there.1 ∙ parser) has in
      (got.0, subst (λ (i : Text). first_value (found_of m) i ≡ Some got.0) same_id got.2, subst (λ (b : Bool). Accepts b (Names choices) got.0) same_case got.3)
