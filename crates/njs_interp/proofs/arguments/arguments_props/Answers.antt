use Rattle.std.proofs.Common.{ap, ◌∙◌, ℕ, length}
use Rattle.std.specs.Prelude.{pos}
use Rattle.njs_value.specs.declared.Value.{Value}
use Rattle.njs_value.specs.declared.Value.TheVariants as value
use Rattle.njs_props.specs.Names.{length_name}
use Rattle.njs_props.specs.Props.{with_property}
use Rattle.njs_props.specs.declared.map.Property.{Property}
use Rattle.njs_meaning.specs.Errors.{hidden}
use Rattle.njs_interp.proofs.Numbered.{length-last}
use Rattle.njs_interp.proofs.arguments.arguments_props.Goals as goal

abbrev counted : ℕ → Property Value
counted n = record { value = value.Num (pos n); flags = hidden }

abbrev of_value : Value → Property Value
of_value v = record { value = v; flags = hidden }

pub returns : goal.returns
returns c =
    c.in_ok-insert.ensures.ok
    ∙ ap (λ v. with_property c.length_text.result (of_value v) c.in_ok-props.props) c.count_of.ensures
    ∙ ap (λ name. with_property name (counted (length c.args.args.now)) c.in_ok-props.props) c.length_text.ensures
    ∙ ap (with_property length_name (counted (length c.args.args.now))) c.in_ok-props.ensures
    ∙ length-last c.args.args.now (counted (length c.args.args.now)) c.requires
