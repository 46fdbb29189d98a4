use Rattle.std.proofs.Common.{Some, true, subst}
use Rattle.njs_value.specs.declared.Desc.{Desc}
use Rattle.njs_value.specs.declared.Value.{Value}
use Rattle.njs_clone.specs.Content.{content}
use Rattle.njs_clone.specs.Gives.{GivesAt, define_in}
use Rattle.njs_clone.specs.StandsFor.{plain_define}
use Rattle.njs_meaning.specs.Meaning.{ordinary}
use Rattle.njs_meaning.specs.Values.{ObjectAt}
use Rattle.njs_members.proofs.Told.{change-told, change-keeps}
use Rattle.njs_interp.proofs.literals.define_at.Goals as goal

pub returns-clause-told : goal.returns-clause-told
returns-clause-told g c =
    let h = c.args.machine.now in
    let at = c.args.object.0 in
    let name = c.args.name.now in
    let d : Desc Value = record { value = Some c.args.value; writable = Some true; enumerable = Some true; configurable = Some true } in
    let v = content h.texts c.args.value in
    change-told h (c.operations_go_by_content.ensures h) at (define_in h at name d) (λ os. plain_define os at name (ordinary v))
    ((c.operations_go_by_content.ensures h).define at name d) (ObjectAt at) c.define.new.self c.define.result
    (subst (λ d. GivesAt (define_in h at name d) at h c.define.new.self c.define.result) c.ordinary.ensures c.define.ensures.gives)

pub returns-clause-kept : goal.returns-clause-kept
returns-clause-kept g c = change-keeps c.args.machine.now c.define.new.self c.args.object.0 (define_in c.args.machine.now c.args.object.0 c.args.name.now c.ordinary.result) c.define.result c.define.ensures.gives
