use Rattle.std.proofs.Common.{ap, sym, ◌∙◌}
use Rattle.std.specs.Str.{encode_utf8_all, all_scalars, chars}
use Rattle.std.proofs.lemmas.Str.{encodes-chars, scalars-chars}
use Rattle.njs_text.proofs.text.Text.as_bytes.Goals as goal

pub returns-clause-bytes : goal.returns-clause-bytes
returns-clause-bytes c =
    c.as_bytes.ensures.value ∙ sym (encodes-chars _ c.as_str.utf8) ∙ ap (λ bytes. encode_utf8_all (chars bytes)) c.as_str.ensures.value ∙ ap encode_utf8_all c.self.view_is

pub returns-clause-scalars : goal.returns-clause-scalars
returns-clause-scalars c =
    ap all_scalars (sym c.self.view_is ∙ ap chars (sym c.as_str.ensures.value)) ∙ scalars-chars _ c.as_str.utf8
