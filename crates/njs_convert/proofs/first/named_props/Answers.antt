use Rattle.std.proofs.Common.{List, ℕ, ap, ◌∙◌}
use Rattle.std.specs.Prelude.{codes}
use Rattle.njs_value.specs.declared.Value.{Value}
use Rattle.njs_value.specs.declared.Value.TheVariants.{Str}
use Rattle.njs_props.specs.declared.map.Property.{Property}
use Rattle.njs_props.specs.Props.{with_property}
use Rattle.njs_meaning.specs.Errors.{hidden}
use Rattle.njs_convert.proofs.first.named_props.Goals as goal

-- one property behind the others, whose name is this one
abbrev with_hidden : List ℕ → Value → List (List ℕ × Property Value) → List (List ℕ × Property Value)
with_hidden name v props = with_property name (record { value = v; flags = hidden }) props

pub returns : goal.returns
returns c =
    c.in_ok-insert-2.ensures.ok
    ∙ ap (λ n. with_hidden n (Str c.args.message) c.insert.new.self) c.message_name.ensures
    ∙ ap (with_hidden (codes "message") (Str c.args.message))
    (c.in_ok-insert.ensures.ok ∙ ap (λ n. with_hidden n (Str c.args.name) c.new-props.result) c.name_name.ensures ∙ ap (with_hidden (codes "name") (Str c.args.name)) c.new-props.ensures)
