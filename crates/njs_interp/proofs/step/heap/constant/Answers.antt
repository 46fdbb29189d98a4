use Rattle.std.proofs.Common.{sym, subst, rules}
use Rattle.njs_interp.specs.Tells.{ActsInCall}
use Rattle.njs_interp.proofs.Lifting.{in_any_call, in_call_at}
use Rattle.njs_interp.proofs.Kept.{Grown-refl}
use Rattle.njs_interp.proofs.Sorted.{constants_are}
use Rattle.njs_interp.proofs.step.heap.constant.Goals as goal

pub unreachable-requires : goal.unreachable-requires
unreachable-requires c = constants_are c.args.at.now.op.now.kind c.requires.family c.in_default.not-Undefined c.in_default.not-Null c.in_default.not-Bool c.in_default.not-Num c.in_default.not-Str c.in_default.not-This

pub returns-in-Undefined-clause-grown : goal.returns-in-Undefined-clause-grown
returns-in-Undefined-clause-grown c = Grown-refl c.args.machine.now

pub returns-in-Null-clause-grown : goal.returns-in-Null-clause-grown
returns-in-Null-clause-grown c = Grown-refl c.args.machine.now

pub returns-in-Bool-clause-grown : goal.returns-in-Bool-clause-grown
returns-in-Bool-clause-grown c = Grown-refl c.args.machine.now

pub returns-in-Num-clause-grown : goal.returns-in-Num-clause-grown
returns-in-Num-clause-grown c = Grown-refl c.args.machine.now

pub returns-in-This-clause-grown : goal.returns-in-This-clause-grown
returns-in-This-clause-grown c = Grown-refl c.args.machine.now

pub returns-in-Undefined-clause-told : goal.returns-in-Undefined-clause-told
returns-in-Undefined-clause-told c =
    let call = c.args.call.now in
    let old = c.args.machine.now in
    let before = c.args.stacks.now in
    let after = c.undefined.new.stacks in
    subst (λ k. ActsInCall call.unit call.this call.args.now k old c.args.machine.now before after c.undefined.result) (sym c.in-Undefined.is) (in_any_call call.unit call.this call.args.now _ old c.args.machine.now before after c.undefined.result c.undefined.ensures.told)

pub returns-in-Null-clause-told : goal.returns-in-Null-clause-told
returns-in-Null-clause-told c =
    let call = c.args.call.now in
    let old = c.args.machine.now in
    let before = c.args.stacks.now in
    let after = c.null.new.stacks in
    subst (λ k. ActsInCall call.unit call.this call.args.now k old c.args.machine.now before after c.null.result) (sym c.in-Null.is) (in_any_call call.unit call.this call.args.now _ old c.args.machine.now before after c.null.result c.null.ensures.told)

pub returns-in-Bool-clause-told : goal.returns-in-Bool-clause-told
returns-in-Bool-clause-told c =
    let call = c.args.call.now in
    let old = c.args.machine.now in
    let before = c.args.stacks.now in
    let after = c.truth.new.stacks in
    subst (λ k. ActsInCall call.unit call.this call.args.now k old c.args.machine.now before after c.truth.result) (sym c.in-Bool.is) (in_any_call call.unit call.this call.args.now _ old c.args.machine.now before after c.truth.result c.truth.ensures.told)

pub returns-in-Num-clause-told : goal.returns-in-Num-clause-told
returns-in-Num-clause-told c =
    let call = c.args.call.now in
    let h = c.args.machine.now in
    in_call_at call.unit call.this call.args.now c.args.at.now.op.now.kind _ h h c.args.stacks.now c.number.new.stacks c.number.result c.number.ensures.told (search rules)

pub returns-in-Str-clause-told : goal.returns-in-Str-clause-told
returns-in-Str-clause-told c =
    let call = c.args.call.now in
    let old = c.args.machine.now in
    let before = c.args.stacks.now in
    let after = c.text.new.stacks in
    subst (λ k. ActsInCall call.unit call.this call.args.now k old c.text.new.machine before after c.text.result) (sym c.in-Str.is) (in_any_call call.unit call.this call.args.now _ old c.text.new.machine before after c.text.result c.text.ensures.told)
