-- What a parse of the command says.
use Rattle.std.proofs.Common.{ℕ, ◌≡◌, ◌∙◌, ◌<◌, ◌≤◌, inl, inr, ap, Bool, true, false, List, [], ◌∷◌, length, Some, Result, Err, Ok, refl, sym, subst, arith}
use Rattle.std.specs.Prelude.{codes, IsErrAnd, IsErrOf, ◌||◌}
use Rattle.std.specs.List.{list_all, list_any}
use Rattle.std.specs.Str.{bytes_eq}
use Rattle.std.specs.Borrow.{Bor}
use Rattle.std.proofs.lemmas.Slice.Eq.{bytes_eq-Decides}
use Rattle.clap.specs.Words.{App, Row, Rule, Text, Kinds, HasKind, IsAmong, IsParsedFrom, app_of, found_of, fault_of, first_value, is_simple, is_simple_and_free, kind_of, one_of, rows_of}
use Rattle.clap.specs.declared.builder.command.Command.{Command}
use Rattle.clap.specs.declared.error.Error.{Error}
use Rattle.clap.specs.declared.error.kind.ErrorKind.{ErrorKind}
use Rattle.clap.specs.declared.parser.matches.ArgMatches.{ArgMatches}
use Rattle.clap.specs.declared.parser.matches.Found.{Found}
use Rattle.clap.proofs.OnLiterals.{clap_on_literals}
use Rattle.clap.proofs.WalkLemmas.{list_any-map, one_text-rows}
use Rattle.ut_words.specs.Command.{IsCommand, choice_rule, definition, mode_names, number_rule, rules}
use Rattle.ut_words.specs.Plans.{Refuses, Says, mode_text}
use Rattle.ut_words.specs.Reading.{HasNumber, IsNumber, cause_of, mode_by, mode_of}
use Rattle.ut_words.specs.declared.plan.Mode.{Mode}
use Rattle.ut_words.specs.declared.plan.Mode.TheVariants.{Run, Crowd, Bench}
use Rattle.ut_words.specs.declared.plan.Plan.{Plan}
use Rattle.ut_words.specs.declared.plan.WordsError.{WordsError}
use Rattle.ut_words.specs.declared.plan.WordsError.TheVariants.{Usage, Memory}
use Rattle.ut_words.proofs.OptionLemmas.{at_place, is_only, option_number, required_choice}

-- the command is one whose parse the definition says whole
pub definition_simple : (modes : Bor (List (Bor Text))) → is_simple_and_free (definition modes) ≡ true
unfolding clap_on_literals
definition_simple modes = refl

pub definition_matches : (modes : Bor (List (Bor Text))) → is_simple (definition modes) ≡ true
unfolding clap_on_literals
definition_matches modes = refl

among_some : (k : ErrorKind) (kinds : Kinds) → IsAmong k kinds → 0 < length kinds
among_some k [] h = absurd h
among_some k (x ∷ xs) h = omega arith

-- an error that isn't want of memory names a fault of the definition
pub refuses : (words : List Text) (app : App) (e : Error) → IsCommand app → (is_simple_and_free app ≡ true → HasKind (fault_of app words) e) → cause_of (kind_of e) ≡ Usage → Refuses words
refuses words app e d fails usage =
    let kinds = fault_of (definition d.modes) words in
    let has : HasKind kinds e = subst (λ (a : App). HasKind (fault_of a words) e) d.is (fails (subst (λ (a : App). is_simple_and_free a ≡ true) (sym d.is) (definition_simple d.modes))) in
    record {
      modes = d.modes;
      names = d.names;
      faulty = elim has [
        | inl out ↦ let bad : Memory ≡ Usage = sym (ap cause_of out) ∙ usage in cc
        | inr among ↦ among_some (kind_of e) kinds among
      ];
    }

-- the error is this cause
pub caused : (r : Result Plan WordsError) (cause : WordsError) → IsErrAnd r (λ e. e ≡ cause) → IsErrOf r Usage → cause ≡ Usage
caused (Ok plan) cause is h = absurd is
caused (Err e) cause is h = let same : e ≡ Usage = cc in sym is ∙ same

differ : (a b : Text) → bytes_eq a b ≡ false → a ≡ b → ⊥
differ a b h e = let same : bytes_eq a b ≡ true = (bytes_eq-Decides a b).1 e in let bad : true ≡ false = sym same ∙ h in cc

-- an option of the command has a number in its range
pub option_of : (cmd : Command) (m : ArgMatches) (p : IsParsedFrom cmd m) (d : IsCommand (app_of cmd)) (k : ℕ) (name default : Text) (least most : ℕ)
    → at_place (rules d.modes) k ≡ Some (number_rule name default least most) → is_only (rules d.modes) k name ≡ true
    → bytes_eq name [] ≡ false → bytes_eq name (codes "help") ≡ false → bytes_eq name (codes "version") ≡ false → HasNumber (found_of m) name least most
option_of cmd m p d k name default least most at only named help version =
    option_number cmd m p (ap (λ (a : App). a.top.is_plain) d.is) (ap (λ (a : App). list_all (λ (r : Rule). r.is_simple) a.top.rules) d.is) (ap (λ (a : App). list_all (λ (r : Rule). r.is_free) a.top.rules) d.is)
    k (number_rule name default least most) least most
    (ap (λ (a : App). at_place a.top.rules k) d.is ∙ at) (ap (λ (a : App). is_only a.top.rules k name) d.is ∙ only)
    refl refl (omega arith) refl (differ name [] named) (differ name (codes "help") help) (differ name (codes "version") version)

pub says_of : (f : Found) (rows : List Row) (name : Text) (n least most : ℕ) → rows_of f ≡ rows → IsNumber f name n → least ≤ n → n ≤ most → Says rows name n least most
says_of f rows name n least most same number low high = record {
  text = number.text;
  is = sym (ap (one_of name) same) ∙ sym (one_text-rows f name) ∙ number.is;
  value = number.value;
  low = low;
  high = high;
}

mode_among : (t : Text) → list_any (λ name. bytes_eq name t) mode_names ≡ true → t ≡ mode_text (mode_by t)
mode_among t h = by_run (bytes_eq (codes "run") t) refl (bytes_eq (codes "crowd") t) refl (bytes_eq (codes "bench") t) refl h
  where
    is : (name : Text) (m : Mode) → bytes_eq name t ≡ true → mode_text (mode_by name) ≡ name → t ≡ mode_text (mode_by t)
    is name m e back = let same : name ≡ t = (bytes_eq-Decides name t).0 e in subst (λ (x : Text). x ≡ mode_text (mode_by x)) same (sym back)

    by_run : (a : Bool) → bytes_eq (codes "run") t ≡ a → (b : Bool) → bytes_eq (codes "crowd") t ≡ b → (c : Bool) → bytes_eq (codes "bench") t ≡ c → (a || (b || (c || false))) ≡ true → t ≡ mode_text (mode_by t)
    by_run true e b f c g k = is (codes "run") Run e refl
    by_run false e true f c g k = is (codes "crowd") Crowd f refl
    by_run false e false f true g k = is (codes "bench") Bench g refl
    by_run false e false f false g k = cc

-- the mode is the one that the words name
pub mode_says : (cmd : Command) (m : ArgMatches) (p : IsParsedFrom cmd m) (d : IsCommand (app_of cmd)) (mode : Mode) → mode ≡ mode_of (first_value (found_of m) (codes "MODE"))
    → first_value (found_of m) (codes "MODE") ≡ Some (mode_text mode)
mode_says cmd m p d mode is =
    let got = required_choice cmd m p (ap (λ (a : App). a.top.is_plain) d.is) (ap (λ (a : App). list_all (λ (r : Rule). r.is_simple) a.top.rules) d.is) (ap (λ (a : App). list_all (λ (r : Rule). r.is_free) a.top.rules) d.is)
    0 (choice_rule (codes "MODE") d.modes) d.modes (ap (λ (a : App). at_place a.top.rules 0) d.is) (ap (λ (a : App). is_only a.top.rules 0 (codes "MODE")) d.is)
    refl refl refl refl refl (ap (λ (a : App). a.top.subcommand_negates_reqs) d.is) (differ (codes "MODE") [] refl) (differ (codes "MODE") (codes "help") refl) (differ (codes "MODE") (codes "version") refl) in
    let among : list_any (λ name. bytes_eq name got.0) mode_names ≡ true =
    sym (ap (list_any (λ name. bytes_eq name got.0)) d.names) ∙ sym (list_any-map (λ name. bytes_eq name got.0) (λ name. name.now) d.modes.now) ∙ got.2 in
    let named : mode ≡ mode_by got.0 = is ∙ ap mode_of got.1 in
    got.1 ∙ ap (λ (t : Text). Some t) (mode_among got.0 among ∙ ap mode_text (sym named))
