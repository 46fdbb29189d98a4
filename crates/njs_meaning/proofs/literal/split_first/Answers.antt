use Rattle.std.proofs.Common.{◌++◌, sym, ap, ◌∙◌}
use Rattle.std.specs.Prelude.{encode_utf8}
use Rattle.njs_meaning.proofs.Ends.{first_char}
use Rattle.njs_meaning.proofs.literal.split_first.Goals as goal

pub returns : goal.returns
returns c =
    first_char c.args.text.now c.as_str.result.now c.in_ok-first.first c.utf8.text c.as_str.utf8
    (sym c.chars-rest.ensures.rest ∙ c.in_ok-first.ensures.steps.0 ∙ ap (λ s. encode_utf8 c.in_ok-first.first ++ s) (sym c.as_str.ensures))
