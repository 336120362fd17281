use Rattle.std.proofs.Common.{◌∙◌, ap, sym, Some}
use Rattle.ut_value.specs.Text.{is_text}
use Rattle.ut_script.proofs.LiteralLemmas.{unquoted-text, unquoted-rule, text_of-is}
use Rattle.ut_script.proofs.literals.read_text.Goals as goal

pub unquoted-requires : goal.unquoted-requires
unquoted-requires c = unquoted-text c.args.bytes.now c.requires

pub from_slice-requires : goal.from_slice-requires
from_slice-requires c = ap is_text c.deref.ensures.value ∙ unquoted-rule c.args.bytes.now c.in_ok-bytes.bytes.items c.requires c.in_ok-bytes.ensures

pub returns : goal.returns
returns c =
    text_of-is c.args.bytes.now _ (unquoted-rule c.args.bytes.now c.in_ok-bytes.bytes.items c.requires c.in_ok-bytes.ensures) c.in_ok-bytes.ensures ∙ ap (λ t. Some t) (sym c.deref.ensures.value ∙ sym c.in_ok-text.ensures.text)
