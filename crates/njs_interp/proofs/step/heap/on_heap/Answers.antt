use Rattle.std.proofs.Common.{sym, ◌∙◌}
use Rattle.njs_interp.specs.declared.families.Family.TheVariants as family
use Rattle.njs_interp.proofs.Kept.{Grown-refl}
use Rattle.njs_interp.proofs.Lifting.{in_any_call}
use Rattle.njs_interp.proofs.Sorted.{continues}
use Rattle.njs_interp.proofs.step.heap.on_heap.Goals as goal

pub returns-in-Constant-clause-goes : goal.returns-in-Constant-clause-goes
returns-in-Constant-clause-goes g c = continues c.args.at.now.op.now.kind c.constant.result family.Constant (sym c.family_of.ensures ∙ c.in-Constant.is) tt

pub returns-in-Operand-clause-told : goal.returns-in-Operand-clause-told
returns-in-Operand-clause-told g c =
    let call = c.args.call.now in
    in_any_call call.unit call.this call.args.now c.args.at.now.op.now.kind c.args.machine.now c.args.machine.now c.args.stacks.now c.operand.new.stacks c.operand.result c.operand.ensures.told

pub returns-in-Operand-clause-goes : goal.returns-in-Operand-clause-goes
returns-in-Operand-clause-goes g c = continues c.args.at.now.op.now.kind c.operand.result family.Operand (sym c.family_of.ensures ∙ c.in-Operand.is) tt

pub returns-in-Operand-clause-grown : goal.returns-in-Operand-clause-grown
returns-in-Operand-clause-grown g c = Grown-refl c.args.machine.now

pub returns-in-Slot-clause-told : goal.returns-in-Slot-clause-told
returns-in-Slot-clause-told g c =
    let call = c.args.call.now in
    in_any_call call.unit call.this call.args.now c.args.at.now.op.now.kind c.args.machine.now c.slot.new.machine c.args.stacks.now c.slot.new.stacks c.slot.result c.slot.ensures.told

pub returns-in-Slot-clause-goes : goal.returns-in-Slot-clause-goes
returns-in-Slot-clause-goes g c = continues c.args.at.now.op.now.kind c.slot.result family.Slot (sym c.family_of.ensures ∙ c.in-Slot.is) tt

pub returns-in-Member-clause-told : goal.returns-in-Member-clause-told
returns-in-Member-clause-told g c =
    let call = c.args.call.now in
    in_any_call call.unit call.this call.args.now c.args.at.now.op.now.kind c.args.machine.now c.member.new.machine c.args.stacks.now c.member.new.stacks c.member.result c.member.ensures.told

pub returns-in-Member-clause-goes : goal.returns-in-Member-clause-goes
returns-in-Member-clause-goes g c = continues c.args.at.now.op.now.kind c.member.result family.Member (sym c.family_of.ensures ∙ c.in-Member.is) tt

pub returns-in-Made-clause-told : goal.returns-in-Made-clause-told
returns-in-Made-clause-told g c =
    let call = c.args.call.now in
    in_any_call call.unit call.this call.args.now c.args.at.now.op.now.kind c.args.machine.now c.made.new.machine c.args.stacks.now c.made.new.stacks c.made.result c.made.ensures.told

pub returns-in-Made-clause-goes : goal.returns-in-Made-clause-goes
returns-in-Made-clause-goes g c = continues c.args.at.now.op.now.kind c.made.result family.Made (sym c.family_of.ensures ∙ c.in-Made.is) tt

pub returns-in-Listed-clause-told : goal.returns-in-Listed-clause-told
returns-in-Listed-clause-told g c =
    let call = c.args.call.now in
    in_any_call call.unit call.this call.args.now c.args.at.now.op.now.kind c.args.machine.now c.on_list.new.machine c.args.stacks.now c.on_list.new.stacks c.on_list.result c.on_list.ensures.told

pub returns-in-Listed-clause-goes : goal.returns-in-Listed-clause-goes
returns-in-Listed-clause-goes g c = continues c.args.at.now.op.now.kind c.on_list.result family.Listed (sym c.family_of.ensures ∙ c.in-Listed.is) tt

pub returns-in-End-clause-told : goal.returns-in-End-clause-told
returns-in-End-clause-told g c =
    let call = c.args.call.now in
    in_any_call call.unit call.this call.args.now c.args.at.now.op.now.kind c.args.machine.now c.args.machine.now c.args.stacks.now c.end.new.stacks c.end.result c.end.ensures.told

pub returns-in-End-clause-goes : goal.returns-in-End-clause-goes
returns-in-End-clause-goes g c = continues c.args.at.now.op.now.kind c.end.result family.End (sym c.family_of.ensures ∙ c.in-End.is) tt

pub returns-in-End-clause-grown : goal.returns-in-End-clause-grown
returns-in-End-clause-grown g c = Grown-refl c.args.machine.now

pub returns-in-Failing-clause-told : goal.returns-in-Failing-clause-told
returns-in-Failing-clause-told g c =
    let call = c.args.call.now in
    in_any_call call.unit call.this call.args.now c.args.at.now.op.now.kind c.args.machine.now c.throwing.new.machine c.args.stacks.now c.throwing.new.stacks c.throwing.result c.throwing.ensures.told
