use Rattle.std.proofs.Common.{◌≡◌, sym, ◌∙◌, ap, Some, rules}
use Rattle.std.specs.Map.{set_value}
use Rattle.njs_props.specs.Names.{same_name}
use Rattle.njs_props.specs.Props.{property}
use Rattle.njs_props.proofs.Written.{with_flags-present}
use Rattle.njs_props.proofs.map.PropMap.set_flags.Goals as goal

pub returns-clause-set : goal.returns-clause-set
returns-clause-set g c =
    let name = c.args.name.now in
    let found = c.in-Some.found.now in
    let there : property name c.args.self.now ≡ Some found = search rules in
    (c.get_mut.follows.holds (record { value = found.value; flags = c.args.flags })).0 ∙ ap (λ es. set_value (same_name name) es (record { value = found.value; flags = c.args.flags })) c.self.view_is
    ∙ sym (with_flags-present name found c.args.self.now c.args.flags there)
