use Rattle.std.proofs.Common.{ap, ◌∙◌, bytes_eq}
use Rattle.std.specs.Str.{chars}
use Rattle.njs_text.proofs.Encoded.{bytes_eq-chars}
use Rattle.njs_tree.proofs.Spelling.{keyword_chars}
use Rattle.njs_tree.proofs.keywords.is_spelled.Goals as goal

pub returns : goal.returns
returns c =
    c.eq.ensures ∙ bytes_eq-chars c.args.word.now c.spelling.result.now c.utf8.word c.spelling.utf8
    ∙ ap (λ s. bytes_eq (chars c.args.word.now) s) (ap chars c.spelling.ensures ∙ keyword_chars c.args.keyword)
