use Rattle.std.proofs.Common.{ap, sym, ◌∙◌}
use Rattle.std.specs.Str.{encode_utf8_all, chars}
use Rattle.std.proofs.lemmas.Str.{encodes-chars}
use Rattle.njs_text.proofs.text.Text.as_str.Goals as goal

pub returns : goal.returns
returns c =
    sym (encodes-chars _ c.as_str.utf8) ∙ ap (λ bytes. encode_utf8_all (chars bytes)) c.as_str.ensures.value ∙ ap encode_utf8_all c.self.view_is
