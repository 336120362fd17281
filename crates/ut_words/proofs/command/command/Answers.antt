use Rattle.std.proofs.Common.{◌∙◌, ap₂, refl}
use Rattle.std.proofs.lemmas.Result.{IfOk-weaker}
use Rattle.clap.specs.Words.{with_rule}
use Rattle.ut_words.proofs.command.command.Goals as goal

pub returns : goal.returns
returns c =
    let mode = c.mode_arg.ensures.rule in
    let one = c.in_ok-arg.ensures.shape c.mode_arg.ensures.local ∙ ap₂ with_rule c.new.ensures.app mode.2 in
    let two = c.in_ok-command.ensures.shape c.flag_arg.ensures.local ∙ ap₂ with_rule one c.flag_arg.ensures.rule in
    let three = c.in_ok-command-2.ensures ∙ ap₂ with_rule two refl in
    let four = c.in_ok-command-3.ensures ∙ ap₂ with_rule three refl in
    let five = c.in_ok-command-4.ensures ∙ ap₂ with_rule four refl in
    let six = c.in_ok-command-5.ensures ∙ ap₂ with_rule five refl in
    let seven = c.in_ok-command-6.ensures ∙ ap₂ with_rule six refl in
    IfOk-weaker c.with_number-6.result _ _ (λ command h. record {
      modes = mode.0;
      names = mode.1;
      is = h ∙ ap₂ with_rule seven refl;
    }) c.with_number-6.ensures
