-- A shot is answered as the state that it was taken of.
use Rattle.std.proofs.Common.{◌≡◌, Bool, true, false, cond, List, refl, sym, ap, ◌∙◌}
use Rattle.std.specs.FinMap as finmap
use Rattle.ut_plain.specs.declared.table.Table.{Table}
use Rattle.ut_plain.specs.declared.statement.Query.{Query}
use Rattle.ut_plain.specs.declared.reply.Refusal.{Refusal}
use Rattle.ut_plain.specs.declared.reply.Refusal.TheVariants as refusals
use Rattle.ut_plain.specs.declared.reply.Reply.{Reply}
use Rattle.ut_plain.specs.declared.reply.Reply.TheVariants as replies
use Rattle.ut_plain.specs.Kinds.{query_fits}
use Rattle.ut_plain.specs.Names.{query_known}
use Rattle.ut_plain.specs.Query.{told}
use Rattle.ut_plain.specs.State.{State}
use Rattle.ut_names.specs.Resolved.{Hinders}
use Rattle.ut_query.specs.Look.{CanLook}
use Rattle.ut_query.specs.Tells.{IsAnswer}
use Rattle.ut_shot.specs.Answered.{answered}
use Rattle.ut_shot.specs.Reads.{read_rows}
use Rattle.ut_shot.specs.Shot.{ShotValue, shot_sight, IsShotOf}
use Rattle.ut_shot.proofs.ToldLemmas.{told-read}

module _ (query : Query) (shot : ShotValue) where
  pub can_ask : (s : State) → IsShotOf query s shot → CanLook (shot_sight shot)
  can_ask s is = record { rows = read_rows s.tables query (finmap.entries s.rows); sees = is.sees }

  by_tests : (s : State) (known fits : Bool) → query_known s.tables query ≡ known → query_fits s.tables query ≡ fits
      → answered s query ≡ cond known (cond fits (told s.tables (finmap.entries s.rows) query) (replies.Refused refusals.Kind)) (replies.Refused refusals.Name)
  by_tests s known fits e f = λ i. cond (e i) (cond (f i) (told s.tables (finmap.entries s.rows) query) (replies.Refused refusals.Kind)) (replies.Refused refusals.Name)

  pub is_answered : (reply : Reply) → IsAnswer (shot_sight shot) query reply → (s : State) → IsShotOf query s shot → reply ≡ answered s query
  is_answered reply t s is =
      let known : query_known s.tables query ≡ true = ap (λ (ts : List Table). query_known ts query) (sym is.heads) ∙ t.known in
      let fits : query_fits s.tables query ≡ true = ap (λ (ts : List Table). query_fits ts query) (sym is.heads) ∙ t.fits in
      t.told (read_rows s.tables query (finmap.entries s.rows)) is.sees
      ∙ ap (λ (ts : List Table). told ts (read_rows s.tables query (finmap.entries s.rows)) query) is.heads
      ∙ told-read s.tables (finmap.entries s.rows) query known ∙ sym (by_tests s true true known fits)

  pub is_refused : (why : Refusal) → (why ≡ refusals.Memory → ⊥) → Hinders (query_known shot.tables query) (query_fits shot.tables query) why → (s : State) → IsShotOf query s shot → replies.Refused why ≡ answered s query
  is_refused refusals.Name other h s is = sym (by_tests s false (query_fits s.tables query) (ap (λ (ts : List Table). query_known ts query) (sym is.heads) ∙ h) refl)
  is_refused refusals.Kind other h s is = sym (by_tests s true false (ap (λ (ts : List Table). query_known ts query) (sym is.heads) ∙ h.0) (ap (λ (ts : List Table). query_fits ts query) (sym is.heads) ∙ h.1))
  is_refused refusals.Memory other h s is = absurd (other refl)
  is_refused refusals.Syntax other h s is = absurd h
  is_refused (refusals.State why) other h s is = absurd h
  is_refused refusals.Full other h s is = absurd h
  is_refused (refusals.Conflict id) other h s is = absurd h
