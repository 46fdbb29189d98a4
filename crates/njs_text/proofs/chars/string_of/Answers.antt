use Rattle.std.proofs.Common.{◌≡◌, ◌∙◌}
use Rattle.std.specs.Str.{chars, encode_utf8_all}
use Rattle.std.specs.String.{string_bytes}
use Rattle.std.proofs.lemmas.Result.{IfOk-weaker}
use Rattle.std.proofs.lemmas.Str.{encodes_same, encodes-chars, IsUtf8-string_bytes}
use Rattle.std.proofs.lemmas.Iterator.{text_from_collect, YieldsList-from_slice}
use Rattle.std.proofs.lemmas.Iterator.Consumers.{YieldsList-from_copied}
use Rattle.njs_text.proofs.chars.string_of.Goals as goal

pub returns : goal.returns
returns c =
    IfOk-weaker c.collect.result (λ w. string_bytes w ≡ encode_utf8_all c.args.list.now) (λ w. chars (string_bytes w) ≡ c.args.list.now)
    (λ w e. encodes_same _ _ (encodes-chars _ (IsUtf8-string_bytes w) ∙ e))
    (text_from_collect c.collect.result c.collect.ensures.ran (YieldsList-from_copied (YieldsList-from_slice c.args.list.now cc)))
