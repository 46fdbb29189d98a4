use Rattle.std.proofs.Common.{◌≡◌, ◌∙◌, ap, refl, rules}
use Rattle.std.specs.Char.{to_ascii_lowercase}
use Rattle.std.specs.Str.{chars}
use Rattle.njs_meaning.specs.Chains.{small_letters}
use Rattle.std.specs.Ordering.{nat_cmp, is_eq}
use Rattle.std.proofs.lemmas.Iterator.{YieldsList-from_chars, YieldsList-from_map}
use Rattle.std.proofs.lemmas.Iterator.Search.{cmp_from_yields_List}
use Rattle.std.proofs.lemmas.Map.Text.{is_eq-slice_cmp}
use Rattle.njs_clone.proofs.reads.are_small_chars.Goals as goal

pub returns : goal.returns
returns c =
    c.is_eq.ensures
    ∙ ap is_eq (cmp_from_yields_List (λ x y. y ≡ x) _ nat_cmp _ c.cmp.ensures.ran
    (YieldsList-from_map _ to_ascii_lowercase (YieldsList-from_chars c.args.name.now c.utf8.name cc) c.map.ensures.closure (λ x r q k. search rules))
    (λ it e. YieldsList-from_chars c.args.stored.now c.utf8.stored cc) (λ x y. refl))
    ∙ is_eq-slice_cmp (small_letters (chars c.args.name.now)) (chars c.args.stored.now)
