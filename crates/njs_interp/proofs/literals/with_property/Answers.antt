use Rattle.std.proofs.Common.{sym, subst}
use Rattle.njs_clone.specs.Content.{content}
use Rattle.njs_members.specs.Tells as members
use Rattle.njs_simul.specs.Step.{defined}
use Rattle.njs_interp.proofs.Extending.{extends-kept, extends-trans}
use Rattle.njs_interp.proofs.Mentioned.{define-asks, define-cause}
use Rattle.njs_interp.proofs.literals.with_property.Goals as goal

pub given-requires-clause-cause : goal.given-requires-clause-cause
given-requires-clause-cause g c =
    let h = c.args.machine.now in
    define-cause h c.define_member-done.new.machine (content h.texts c.args.object) c.args.name.now (content h.texts c.args.object) (content h.texts c.args.value) c.define_member-done.result c.define_member-done.ensures.told

pub returns-clause-told : goal.returns-clause-told
returns-clause-told g c =
    let h = c.args.machine.now in
    let k = c.define_member-done.new.machine in
    let meaning = defined c.args.name.now (content h.texts c.args.object) (content h.texts c.args.value) in
    c.given.ensures.told h meaning c.define_member-done.ensures.kept (define-asks c.args.name.now (content h.texts c.args.object) (content h.texts c.args.value))
    (subst (λ ts. members.Tells (content ts c.args.object) meaning h k c.define_member-done.result) (sym c.define_member-done.ensures.kept.texts) c.define_member-done.ensures.told)

pub returns-clause-extends : goal.returns-clause-extends
returns-clause-extends g c =
    extends-trans c.args.machine.now c.define_member-done.new.machine c.given.new.machine (extends-kept c.args.machine.now c.define_member-done.new.machine c.define_member-done.ensures.kept) c.given.ensures.extends
