use Rattle.std.proofs.Common.{◌≡◌, ◌+◌, [], ◌∷◌, ◌++◌, length, reverse, length-append, ap, refl, ◌∙◌, subst, arith}
use Rattle.std.proofs.lemmas.List.{length-reverse}
use Rattle.std.specs.List.{AllByRecursion}
use Rattle.njs_shared.specs.Heap.{sizes}
use Rattle.njs_shared.specs.Fits.{FitsValue}
use Rattle.njs_interp.proofs.CallOperands.{new_takes, has-taken, above-others, taken-count, args-all}
use Rattle.njs_interp.proofs.calling.take_new.Goals as goal

pub take_top-requires : goal.take_top-requires
take_top-requires c = omega (arith, (new_takes c.args.count c.args.at.now.op.now.kind c.requires.kind).operands, c.requires.ready.operands, c.requires.ready.sits.operands)

pub pop-callee-requires : goal.pop-callee-requires
pop-callee-requires c =
    let args = c.in-Ok.args.items in
    omega (arith, (new_takes c.args.count c.args.at.now.op.now.kind c.requires.kind).operands, c.requires.ready.operands, c.requires.ready.sits.operands, ap length c.in-Ok.ensures.0, length-append (reverse args) c.take_top.new.self, length-reverse args, c.in-Ok.ensures.1)

pub returns-clause-args : goal.returns-clause-args
returns-clause-args c =
    let fits = FitsValue (sizes c.args.machine.now) in
    args-all fits c.in-Ok.args.items c.take_top.new.self (subst (AllByRecursion fits) c.in-Ok.ensures.0 c.requires.ready.sits.values)

pub returns-clause-taken : goal.returns-clause-taken
returns-clause-taken c =
    let before = c.args.stacks.now in
    let args = c.in-Ok.args.items in
    let others = (c.pop-callee.result ∷ []) in
    let below = c.pop-callee.new.self in
    let whole : before.operands ≡ (reverse args ++ others) ++ below = above-others args others below before.operands (c.in-Ok.ensures.0 ∙ ap (λ os. reverse args ++ os) c.pop-callee.ensures) in
    has-taken c.args.at.now.function.now c.args.at.now.op.now c.args.machine.now before (record before { operands = below }) (reverse args ++ others) (c.args.count + 1)
    (new_takes c.args.count c.args.at.now.op.now.kind c.requires.kind) (taken-count args others c.args.count 1 c.in-Ok.ensures.1 refl) (ap (λ os. record before { operands = os }) whole) c.requires.ready.sits
