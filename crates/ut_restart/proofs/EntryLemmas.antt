-- What an entry makes of the tables and their rows.
use Rattle.std.proofs.Common.{ℕ, zero, suc, Option, None, ◌+◌, ◌<◌, ◌≤◌, ◌≡◌, List, [], ◌∷◌, ◌++◌, length, Some, refl, sym, ap, ◌∙◌, subst, arith, slice_get, IsTrue, nat_lt, lt-ltb, Vec, Global}
use Rattle.std.proofs.lemmas.List.{map-append}
use Rattle.std.specs.Option.{is_none, option_map}
use Rattle.ut_value.specs.declared.value.Column.{Column}
use Rattle.ut_value.specs.declared.entry.Op.{Op}
use Rattle.ut_value.specs.declared.entry.Entry.TheVariants as entries
use Rattle.ut_plain.specs.declared.table.Table.{Table}
use Rattle.ut_plain.specs.Tables.{place_of}
use Rattle.ut_plain.specs.Rows.{Rows, can_apply_all, next_after}
use Rattle.ut_plain.specs.Stages.{Stages, no_stages}
use Rattle.ut_plain.proofs.BoolLemmas.{and_both}
use Rattle.ut_staged.proofs.ListLemmas.{InPushed, Last, Before, in_pushed}
use Rattle.ut_stamps.specs.declared.place.Place.{Place}
use Rattle.ut_stamps.specs.declared.place.Place.TheVariants.{L1, L2, Closed, Main}
use Rattle.ut_staged.specs.Staged.{Staged, no_rows, count_of, stages_of}
use Rattle.ut_staged.specs.Tables.{place_at}
use Rattle.ut_table.specs.Contents.{TableValue}
use Rattle.ut_restart.specs.declared.rows.Position.{Position}
use Rattle.ut_restart.specs.declared.rows.Rows as own
use Rattle.ut_restart.specs.declared.replay.Replay.{Replay}
use Rattle.ut_restart.specs.Standing.{shown, staged_at}
use Rattle.ut_restart.specs.Rows.{Positions, IsSound, Keeps, position_in, row_at, stored_of}
use Rattle.ut_restart.specs.Applied.{Applied, Refused}
use Rattle.ut_restart.specs.Replayed.{IsReplay, Followed, Strange}

pub committed : (old : Replay) (s : own.Rows) (ops : List Op) → IsReplay old → Applied old.tables.items old.rows ops s → Followed old (entries.Txn ops) (record old { rows = s; commits = old.commits + 1; entries = old.entries + 1 })
committed old s ops sound applied = record {
  sound = record { rows = applied.sound; narrow = sound.narrow; counts = omega (arith, sound.counts) };
  count = refl;
  load = applied.load;
  suits_it = λ st stages a. ap (λ ts. can_apply_all ts st.rows ops) (sym a.tables) ∙ applied.can st.rows stages a.rows;
  agrees = λ st stages a. record {
    tables = a.tables;
    rows = applied.rows st.rows stages a.rows;
    next = applied.next ∙ ap (λ n. next_after n ops) a.next;
    commits = ap (λ n. n + 1) a.commits;
    merges = a.merges;
    entries = ap (λ n. n + 1) a.entries;
  };
}

-- operations that cannot be applied
pub uncommitted : (old : Replay) (ops : List Op) → Refused old.tables.items old.rows ops → Strange old (entries.Txn ops)
uncommitted old ops refused = record { never = λ s stages a suits few. refused.never s.rows stages a.rows (ap (λ ts. can_apply_all ts s.rows ops) a.tables ∙ suits) few }

-- ---- a table more

-- its places hold no row, those of the others what they held
place-more : (staged : List Staged) (columns : List Column) (n : ℕ) (p : Place) → place_at (staged ++ no_rows columns ∷ []) n p ≡ place_at staged n p
place-more [] columns zero (L1 i) = refl
place-more [] columns zero (L2 i) = refl
place-more [] columns zero (Closed i) = refl
place-more [] columns zero (Main q i) = refl
place-more [] columns (suc n) p = refl
place-more (s ∷ staged) columns zero p = refl
place-more (s ∷ staged) columns (suc n) p = place-more staged columns n p

count-more : (staged : List Staged) (columns : List Column) (n : ℕ) → count_of (staged_at (staged ++ no_rows columns ∷ []) n) ≡ count_of (staged_at staged n)
count-more [] columns zero = refl
count-more [] columns (suc n) = refl
count-more (s ∷ staged) columns zero = refl
count-more (s ∷ staged) columns (suc n) = count-more staged columns n

IsSound-more : (tables : List Table) (t : Table) (staged : List Staged) (positions : Positions) (load : ℕ) → IsSound tables staged positions load → IsSound (tables ++ t ∷ []) (staged ++ no_rows t.columns ∷ []) positions load
IsSound-more tables t staged positions load s = record {
  columns = map-append (λ (x : Staged). x.columns) staged (no_rows t.columns ∷ []) ∙ ap (λ l. l ++ t.columns ∷ []) s.columns ∙ sym (map-append (λ (x : Table). x.columns) tables (t ∷ []));
  merges = map-append (λ (x : Staged). x.merge) staged (no_rows t.columns ∷ []) ∙ ap (λ l. l ++ None ∷ []) s.merges ∙ sym (map-append (λ (x : Table). None) tables (t ∷ []));
  live = λ n p row is lives. s.live n p row (sym (place-more staged t.columns n p) ∙ is) lives;
  there = λ id n p is. let f = s.there id n p is in (f.0, place-more staged t.columns n p ∙ f.1, f.2, f.3);
  few = λ n. omega (arith, count-more staged t.columns n, s.few n);
  within = s.within;
}

row-more : (staged : List Staged) (columns : List Column) (at : Option Position) → row_at staged at ≡ row_at (staged ++ no_rows columns ∷ []) at
row-more staged columns None = refl
row-more staged columns (Some at) = ap (option_map (stored_of at.table)) (sym (place-more staged columns at.table at.place))

Keeps-more : (staged : List Staged) (columns : List Column) (positions : Positions) (rows : Rows) (stages : Stages) → Keeps staged positions rows stages → Keeps (staged ++ no_rows columns ∷ []) positions rows (stages ++ no_stages ∷ [])
Keeps-more staged columns positions rows stages k = record {
  row = λ id. k.row id ∙ row-more staged columns (positions id);
  stages_are = ap (λ st. st ++ no_stages ∷ []) k.stages_are ∙ sym (map-append stages_of staged (no_rows columns ∷ []));
}

pub created : (old : Replay) (tables : Vec Table Global) (stages : Vec TableValue Global) (t : Table) → IsReplay old → tables.items ≡ old.tables.items ++ t ∷ [] → shown stages.items ≡ shown old.rows.stages.items ++ no_rows t.columns ∷ [] → IsTrue (is_none (place_of old.tables.items t.name)) → length old.tables.items < 256 → length t.columns ≤ 64
    → Followed old (entries.Create t.name t.columns) (record old { tables = tables; rows = record old.rows { stages = stages }; commits = old.commits + 1; entries = old.entries + 1 })
created old tables stages t sound is staged new few narrow = record {
  sound = record {
    rows = subst (λ ts. IsSound ts (shown stages.items) (position_in old.rows.positions) old.rows.load) (sym is) (subst (λ st. IsSound (old.tables.items ++ t ∷ []) st (position_in old.rows.positions) old.rows.load) (sym staged)
        (IsSound-more old.tables.items t (shown old.rows.stages.items) (position_in old.rows.positions) old.rows.load sound.rows));
    narrow = λ i u at. narrow_at i u (in_pushed old.tables.items t i u (ap (λ ts. slice_get ts i) (sym is) ∙ at));
    counts = omega (arith, sound.counts);
  };
  count = refl;
  load = omega arith;
  suits_it = λ st plain a. and_both _ _ (ap (λ ts. is_none (place_of ts t.name)) (sym a.tables) ∙ new) (ap (λ ts. nat_lt (length ts) 256) (sym a.tables) ∙ lt-ltb (length old.tables.items) 256 few);
  agrees = λ st plain a. record {
    tables = is ∙ ap (λ ts. ts ++ t ∷ []) a.tables;
    rows = subst (λ x. Keeps x (position_in old.rows.positions) st.rows (plain ++ no_stages ∷ [])) (sym staged) (Keeps-more (shown old.rows.stages.items) t.columns (position_in old.rows.positions) st.rows plain a.rows);
    next = a.next;
    commits = ap (λ n. n + 1) a.commits;
    merges = a.merges;
    entries = ap (λ n. n + 1) a.entries;
  };
}
  where
    narrow_at : (i : ℕ) (u : Table) → InPushed old.tables.items t i u → length u.columns ≤ 64
    narrow_at i u (Last at same) = subst (λ (v : Table). length v.columns ≤ 64) (sym same) narrow
    narrow_at i u (Before at) = sound.narrow i u at
