use Rattle.std.proofs.Common.{◌≡◌, ◌∙◌, ap, sym, rules}
use Rattle.std.specs.Str.{bytes_eq, chars}
use Rattle.std.proofs.lemmas.Str.{chars_from_encodes}
use Rattle.njs_meaning.specs.Chains.{small_letters}
use Rattle.njs_clone.proofs.reads.is_small_form.Goals as goal

pub returns : goal.returns
returns c =
    let name : c.args.name.now ≡ chars c.as_str.result.now = chars_from_encodes c.args.name.now c.as_str.result.now c.as_str.utf8 (sym c.as_str.ensures) in
    let stored : c.args.stored.now ≡ chars c.as_str-2.result.now = chars_from_encodes c.args.stored.now c.as_str-2.result.now c.as_str-2.utf8 (sym c.as_str-2.ensures) in
    c.are_small_chars.ensures ∙ ap (λ t. bytes_eq (small_letters t) (chars c.as_str-2.result.now)) (sym name) ∙ ap (λ t. bytes_eq (small_letters c.args.name.now) t) (sym stored)
