use Rattle.std.proofs.Common.{◌≡◌, ◌++◌, ◌∙◌, ap, rules}
use Rattle.std.specs.Str.{chars}
use Rattle.std.specs.String.{string_bytes}
use Rattle.std.proofs.lemmas.Str.{chars-append}
use Rattle.njs_text.proofs.chars.joined.Goals as goal

pub returns : goal.returns
returns c =
    let bytes : string_bytes c.push_str.new.self ≡ c.args.a.now ++ c.args.b.now = search rules in
    ap chars bytes ∙ chars-append c.args.a.now c.args.b.now c.utf8.a
