use Rattle.std.proofs.Common.{reverse, ap, sym, subst, ◌∙◌}
use Rattle.std.specs.Prelude.{IfSome}
use Rattle.std.proofs.lemmas.Str.{chars_from_encodes}
use Rattle.std.specs.Str.{chars}
use Rattle.njs_value.specs.Number.{IsSafe}
use Rattle.njs_meaning.specs.Numbers.{without_front, literal}
use Rattle.njs_meaning.proofs.Safe.{literal_safe}
use Rattle.njs_meaning.proofs.literal.number_of_text.Goals as goal

pub returns-clause-number : goal.returns-clause-number
returns-clause-number c =
    let text = chars_from_encodes c.args.text.now c.as_str.result.now c.as_str.utf8 (sym c.as_str.ensures) in
    c.literal.ensures
    ∙ ap literal (c.trimmed_back.ensures ∙ ap (λ s. reverse (without_front (reverse s))) (c.trimmed_front.ensures ∙ ap without_front (sym text)))

pub returns-clause-safe : goal.returns-clause-safe
returns-clause-safe c = subst (λ r. IfSome r IsSafe) (sym c.literal.ensures) (literal_safe (chars c.trimmed_back.result.now))
