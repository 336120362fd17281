use Rattle.std.proofs.Common.{◌≡◌, ◌∙◌, ap, codes, refl, sym, subst, map, true, List, []}
use Rattle.clap.specs.Words.{App, Text, app_of, fault_of, first_of, found_of, is_simple, is_simple_and_free, matches_of, rows_of}
use Rattle.clap.proofs.WalkLemmas.{first_value-rows}
use Rattle.ut_words.specs.Command.{definition}
use Rattle.ut_words.specs.Plans.{says_true}
use Rattle.ut_words.proofs.PlanLemmas.{caused, definition_matches, definition_simple, mode_says, option_of, refuses, says_of}
use Rattle.ut_words.proofs.words.plan_of.Goals as goal

pub returns-in_err-matches-clause-refused : goal.returns-in_err-matches-clause-refused
returns-in_err-matches-clause-refused c = λ usage.
    refuses _ (app_of c.in_ok-command.field-0) c.in_err-matches.field-0.0 c.in_ok-command.ensures c.in_err-matches.ensures.kinds (caused _ _ c.from_residual-in_err-matches.ensures.1 usage)

pub number-requires : goal.number-requires
number-requires c =
    option_of c.in_ok-command.field-0 c.in_ok-matches.matches c.in_ok-matches.ensures.parsed c.in_ok-command.ensures 2 (codes "rows") (codes "2147483648") 1 2147483648 refl refl refl refl refl

pub number-requires-2 : goal.number-requires-2
number-requires-2 c =
    option_of c.in_ok-command.field-0 c.in_ok-matches.matches c.in_ok-matches.ensures.parsed c.in_ok-command.ensures 3 (codes "lines") (codes "1048576") 1 1048576 refl refl refl refl refl

pub number-requires-3 : goal.number-requires-3
number-requires-3 c =
    option_of c.in_ok-command.field-0 c.in_ok-matches.matches c.in_ok-matches.ensures.parsed c.in_ok-command.ensures 4 (codes "l1") (codes "64") 1 1048576 refl refl refl refl refl

pub number-requires-4 : goal.number-requires-4
number-requires-4 c =
    option_of c.in_ok-command.field-0 c.in_ok-matches.matches c.in_ok-matches.ensures.parsed c.in_ok-command.ensures 5 (codes "pieces") (codes "4") 1 64 refl refl refl refl refl

pub number-requires-5 : goal.number-requires-5
number-requires-5 c =
    option_of c.in_ok-command.field-0 c.in_ok-matches.matches c.in_ok-matches.ensures.parsed c.in_ok-command.ensures 6 (codes "seed") (codes "1") 0 2147483648 refl refl refl refl refl

pub number-requires-6 : goal.number-requires-6
number-requires-6 c =
    option_of c.in_ok-command.field-0 c.in_ok-matches.matches c.in_ok-matches.ensures.parsed c.in_ok-command.ensures 7 (codes "size") (codes "100") 1 500 refl refl refl refl refl

pub returns-clause-taken : goal.returns-clause-taken
returns-clause-taken c =
    let d = c.in_ok-command.ensures in
    let m = c.in_ok-matches.matches in
    let f = found_of m in
    let words : List Text = map (λ w. w.now) c.args.words.now in
    let parse = c.in_ok-matches.ensures in
    let fault : fault_of (app_of c.in_ok-command.field-0) words ≡ [] = parse.kinds (subst (λ (a : App). is_simple_and_free a ≡ true) (sym d.is) (definition_simple d.modes)) in
    let found : rows_of f ≡ matches_of (app_of c.in_ok-command.field-0) words = (parse.matches (subst (λ (a : App). is_simple a ≡ true) (sym d.is) (definition_matches d.modes))).0 in
    let rows : rows_of f ≡ matches_of (definition d.modes) words = found ∙ ap (λ a. matches_of a words) d.is in
    record {
      modes = d.modes;
      names = d.names;
      faultless = sym (ap (λ a. fault_of a words) d.is) ∙ fault;
      says = record {
        mode = sym (first_value-rows f (codes "MODE") ∙ ap (first_of (codes "MODE")) rows) ∙ mode_says c.in_ok-command.field-0 m parse.parsed d c.mode_of.result c.mode_of.ensures;
        fresh = c.says_true.ensures ∙ ap says_true (first_value-rows f (codes "new") ∙ ap (first_of (codes "new")) rows);
        rows = says_of f _ (codes "rows") c.number.result 1 2147483648 rows c.number.ensures.says c.number.ensures.low c.number.ensures.high;
        lines = says_of f _ (codes "lines") c.number-2.result 1 1048576 rows c.number-2.ensures.says c.number-2.ensures.low c.number-2.ensures.high;
        l1 = says_of f _ (codes "l1") c.number-3.result 1 1048576 rows c.number-3.ensures.says c.number-3.ensures.low c.number-3.ensures.high;
        pieces = says_of f _ (codes "pieces") c.number-4.result 1 64 rows c.number-4.ensures.says c.number-4.ensures.low c.number-4.ensures.high;
        seed = says_of f _ (codes "seed") c.number-5.result 0 2147483648 rows c.number-5.ensures.says c.number-5.ensures.low c.number-5.ensures.high;
        size = says_of f _ (codes "size") c.number-6.result 1 500 rows c.number-6.ensures.says c.number-6.ensures.low c.number-6.ensures.high;
      };
    }
