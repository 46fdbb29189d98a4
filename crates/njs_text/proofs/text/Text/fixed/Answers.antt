use Rattle.std.proofs.Common.{◌≡◌, ◌∙◌, ap, sym, length, arith, rules}
use Rattle.std.specs.Str.{chars}
use Rattle.std.proofs.lemmas.Str.{encodes-chars, length-le-encodes}
use Rattle.njs_text.proofs.text.Text.fixed.Goals as goal

pub invariant_of-result : goal.invariant_of-result
invariant_of-result c =
    let same : c.push_str.new.self.bytes ≡ c.args.text.now = search rules in
    let count = c.char_count-count.ensures.count ∙ ap (λ bytes. length (chars bytes)) (sym same) in
    (count, omega (arith, count, length-le-encodes (chars c.args.text.now), ap length (encodes-chars c.args.text.now c.utf8.text), c.requires))
