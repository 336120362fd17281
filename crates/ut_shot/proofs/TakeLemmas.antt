-- The tables of a shot as they are taken one by one.
use Rattle.std.proofs.Common.{◌≡◌, ℕ, ◌+◌, ◌<◌, ◌≤◌, List, [], ◌∷◌, ◌++◌, length, map, take, get_or, Some, refl, sym, ◌∙◌, ap, arith}
use Rattle.std.proofs.lemmas.List.{take_all, take_more, length-map, map-append, get_or-map}
use Rattle.std.proofs.lemmas.Option.{slice_get-get_or}
use Rattle.ut_plain.specs.declared.table.Table.{Table}
use Rattle.ut_plain.specs.declared.table.Stored.{Stored}
use Rattle.ut_plain.specs.declared.statement.Query.{Query}
use Rattle.ut_staged.specs.Staged.{Staged}
use Rattle.ut_table.specs.Contents.{TableValue}
use Rattle.ut_shown.specs.Shown.{settled}
use Rattle.ut_look.specs.declared.look.Look.{Look}
use Rattle.ut_look.specs.Look.{sight}
use Rattle.ut_query.specs.Look.{CanLook, Sees}
use Rattle.ut_shot.specs.Reads.{taken, taken_from}
use Rattle.ut_shot.specs.Shot.{ShotValue, IsShot}
use Rattle.ut_shot.proofs.SightLemmas.{taken-more, shot-is}

abbrev pub stages_in : List TableValue → List Staged
stages_in values = map (λ (t : TableValue). t.stages) values

alike-at : {X Y Z : Type 0} (f : X → Z) (g : Y → Z) (xs : List X) (ys : List Y) (n : ℕ) (d : X) (e : Y) → map f xs ≡ map g ys → n < length xs → n < length ys → f (get_or xs n d) ≡ g (get_or ys n e)
alike-at f g xs ys n d e same one two = sym (get_or-map f xs n d (g e) one) ∙ ap (λ l. get_or l n (g e)) same ∙ get_or-map g ys n e (g e) two

module _ (look : Look) (query : Query) (can : CanLook (sight look)) where
  abbrev staged : List Staged
  staged = (sight look).staged

  pub as-many : length look.stages.now ≡ length look.tables.now
  as-many = sym (length-map look.stages.now (λ (t : TableValue). t.stages)) ∙ sym (length-map staged (λ (s : Staged). s.columns)) ∙ ap length can.sees.columns ∙ length-map look.tables.now (λ (t : Table). t.columns)

  stage-at : (n : ℕ) (v e : TableValue) → n < length look.stages.now → v ≡ get_or look.stages.now n e → get_or staged n v.stages ≡ v.stages
  stage-at n v e lt is = get_or-map (λ (t : TableValue). t.stages) look.stages.now n e v.stages lt ∙ ap (λ (t : TableValue). t.stages) (sym is)

  pub columns-here : (n : ℕ) (d : Table) (e : TableValue) → n < length look.tables.now → (get_or look.tables.now n d).columns ≡ (get_or look.stages.now n e).stages.columns
  columns-here n d e lt =
      let within : n < length look.stages.now = omega (arith, lt, as-many) in
      let there : n < length staged = omega (arith, within, length-map look.stages.now (λ (t : TableValue). t.stages)) in
      let v : TableValue = get_or look.stages.now n e in
      sym (alike-at (λ (s : Staged). s.columns) (λ (t : Table). t.columns) staged look.tables.now n v.stages d can.sees.columns there lt)
      ∙ ap (λ (s : Staged). s.columns) (stage-at n v e within refl)

  pub narrow-here : (n : ℕ) (d : Table) → n < length look.tables.now → length (get_or look.tables.now n d).columns ≤ 64
  narrow-here n d lt = can.sees.narrow n d lt

  pub heads-more : (n : ℕ) (d copy : Table) (old new : List Table) → n < length look.tables.now → copy ≡ get_or look.tables.now n d → old ≡ take n look.tables.now → new ≡ old ++ copy ∷ [] → new ≡ take (n + 1) look.tables.now
  heads-more n d copy old new lt same done more =
      more ∙ (λ i. done i ++ same i ∷ []) ∙ sym (take_more look.tables.now n d lt)

  pub stages-more : (n : ℕ) (e new : TableValue) (old all : List TableValue) → n < length look.tables.now → new.stages ≡ taken (sight look) query n (get_or look.stages.now n e).stages → stages_in old ≡ taken_from (sight look) query 0 (take n staged) → all ≡ old ++ new ∷ []
      → stages_in all ≡ taken_from (sight look) query 0 (take (n + 1) staged)
  stages-more n e new old all lt made done more =
      let within : n < length look.stages.now = omega (arith, lt, as-many) in
      let there : n < length staged = omega (arith, within, length-map look.stages.now (λ (t : TableValue). t.stages)) in
      let v : TableValue = get_or look.stages.now n e in
      ap stages_in more ∙ map-append (λ (t : TableValue). t.stages) old (new ∷ []) ∙ (λ i. done i ++ made i ∷ [])
      ∙ sym (taken-more (sight look) query n staged v.stages (slice_get-get_or staged n v.stages there ∙ ap (λ (s : Staged). Some s) (stage-at n v e within refl)))

  pub all-taken : (n : ℕ) (tables : List Table) (stages : List TableValue) (shot : ShotValue) → length look.tables.now ≤ n → tables ≡ take n look.tables.now → stages_in stages ≡ taken_from (sight look) query 0 (take n staged)
      → shot.tables ≡ tables → shot.staged ≡ stages_in stages → shot.fates ≡ settled → (rows : List (ℕ × Stored)) → Sees (sight look) rows → IsShot query look.tables.now rows shot
  all-taken n tables stages shot end heads made is_tables is_staged is_fates rows sees =
      let long : length staged ≤ n = omega (arith, end, as-many, length-map look.stages.now (λ (t : TableValue). t.stages)) in
      shot-is (sight look) query rows sees shot (is_tables ∙ heads ∙ take_all n look.tables.now end) (is_staged ∙ made ∙ ap (taken_from (sight look) query 0) (take_all n staged long)) is_fates
