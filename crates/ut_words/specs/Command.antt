-- The definition of the command: its arguments, their ranges and their defaults.
use Rattle.std.specs.Prelude.{ℕ, ◌≡◌, pos, true, List, [], ◌∷◌, map, codes, Some}
use Rattle.std.specs.Borrow.{Bor}
use Rattle.clap.specs.Words.{App, Rule, Text, new_app, new_rule}
use Rattle.clap.specs.Simple.{on_top}
use Rattle.clap.specs.declared.builder.action.ArgAction.TheVariants.{Set, SetTrue}
use Rattle.clap.specs.declared.builder.value_parser.ValueParser.TheVariants.{Names, Signed}

-- an option that takes a number in a range, and has a default
abbrev pub number_rule : Text → Text → ℕ → ℕ → Rule
number_rule name default least most = record (new_rule name) {
  long = Some name;
  action = Some Set;
  defaults = default ∷ [];
  parser = Some (Signed (pos least) (pos most));
}

-- an option without a value
abbrev pub flag_rule : Text → Rule
flag_rule name = record (new_rule name) { long = Some name; action = Some SetTrue }

-- a word that must be there, one of these
abbrev pub choice_rule : Text → Bor (List (Bor Text)) → Rule
choice_rule name choices = record (new_rule name) { action = Some Set; parser = Some (Names choices); required = true }

-- the names of the modes
abbrev pub mode_names : List Text
mode_names = codes "run" ∷ codes "crowd" ∷ codes "bench" ∷ []

-- these are the names of the modes, wherever they lie in memory
abbrev pub AreModes : Bor (List (Bor Text)) → Type 0
AreModes modes = map (λ name. name.now) modes.now ≡ mode_names

-- the arguments, where the names of the modes lie somewhere
abbrev pub rules : Bor (List (Bor Text)) → List Rule
rules modes =
    choice_rule (codes "MODE") modes
    ∷ flag_rule (codes "new")
    ∷ number_rule (codes "rows") (codes "2147483648") 1 2147483648
    ∷ number_rule (codes "lines") (codes "1048576") 1 1048576
    ∷ number_rule (codes "l1") (codes "64") 1 1048576
    ∷ number_rule (codes "pieces") (codes "4") 1 64
    ∷ number_rule (codes "seed") (codes "1") 0 2147483648
    ∷ number_rule (codes "size") (codes "100") 1 500
    ∷ []

-- the command with these arguments, and none else
abbrev pub definition : Bor (List (Bor Text)) → App
definition modes = on_top (λ s. record s { rules = rules modes }) (new_app (codes "ut_app"))

-- This is the command.
pub record IsCommand (app : App) : Type 0 where
  pub modes : Bor (List (Bor Text))
  pub names : AreModes modes
  pub is : app ≡ definition modes
