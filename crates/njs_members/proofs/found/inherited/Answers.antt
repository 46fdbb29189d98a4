use Rattle.std.proofs.Common.{◌≡◌, Some, ap, sym, ◌∙◌, rules}
use Rattle.std.specs.Option.{option_map_or}
use Rattle.njs_clone.specs.Content.{content}
use Rattle.njs_clone.specs.StandsFor.{plain_objects}
use Rattle.njs_meaning.specs.Primitives.{Undefined}
use Rattle.njs_meaning.specs.Values.{Simple}
use Rattle.njs_meaning.specs.Chains.{get}
use Rattle.njs_members.specs.Starts.{start_of}
use Rattle.njs_members.proofs.Started.{get-plain}
use Rattle.njs_members.proofs.found.inherited.Goals as goal

pub returns-in-Some-clause-value : goal.returns-in-Some-clause-value
returns-in-Some-clause-value c =
    let h = c.args.machine.now in
    let started : start_of (content h.texts c.args.base) ≡ Some c.in-Some.start.0 = search rules in
    ap (content h.texts) c.get.ensures.value ∙ sym (get-plain h c.args.name.now c.in-Some.start.0)
    ∙ sym (ap (λ r. option_map_or (get (Simple Undefined) c.args.name.now (plain_objects h)) r (Simple Undefined)) started)
