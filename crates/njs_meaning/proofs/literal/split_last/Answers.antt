use Rattle.std.proofs.Common.{◌≡◌, ◌∷◌, ◌++◌, [], length, sym, ap, ◌∙◌, subst}
use Rattle.std.specs.Prelude.{encode_utf8}
use Rattle.std.specs.Option.{MatchOption}
use Rattle.std.specs.Str.{chars}
use Rattle.njs_meaning.proofs.Ends.{no_chars, last_char}
use Rattle.njs_meaning.proofs.literal.split_last.Goals as goal

pub returns-in_err-last : goal.returns-in_err-last
returns-in_err-last c =
    let text = c.args.text.now in
    let none : length text ≡ 0 = ap length (sym c.chars-rest.ensures.rest) ∙ c.in_err-last.ensures.steps.0 in
    subst (λ r. MatchOption r (chars text ≡ []) (λ parts. chars text ≡ chars parts.0.now ++ parts.1 ∷ [])) (sym c.from_residual.ensures) (no_chars text none)

pub returns : goal.returns
returns c =
    last_char c.args.text.now c.as_str.result.now c.in_ok-last.last c.utf8.text c.as_str.utf8
    (sym c.chars-rest.ensures.rest ∙ c.in_ok-last.ensures.steps ∙ ap (λ s. s ++ encode_utf8 c.in_ok-last.last) (sym c.as_str.ensures))
