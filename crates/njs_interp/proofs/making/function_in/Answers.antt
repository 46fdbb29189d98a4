use Rattle.std.proofs.Common.{Err, refl, sym, subst, ◌<◌, length}
use Rattle.njs_shared.specs.declared.object.Scope.{Scope}
use Rattle.std.proofs.Common.{List}
use Rattle.njs_interp.proofs.Kept.{Widens-trans, content-widened, FitsValue-widened}
use Rattle.njs_interp.proofs.FunctionsFitted.{functions_fit, functions-trans, functions-made}
use Rattle.njs_interp.proofs.ClosureScopes.{not-made, made-named, unmade, has-slot-kept}
use Rattle.njs_interp.proofs.making.function_in.Goals as goal

pub returns-in-Err-clause-told : goal.returns-in-Err-clause-told
returns-in-Err-clause-told g c =
    let m = c.args.making in
    let h = c.args.machine.now in
    let k = c.made.new.machine in
    not-made m.unit m.number m.params m.scope c.args.name.now h k k c.in-Err.stop (Err c.in-Err.stop) k refl c.in-Err.ensures.memory

pub returns-in-Err-clause-functions : goal.returns-in-Err-clause-functions
returns-in-Err-clause-functions g c = λ counts slots counted from.
    let m = c.args.making in
    functions-made counts c.args.machine.now c.made.new.machine m.unit m.number m.scope slots c.in-Err.ensures.makes counted from

pub returns-in-Err-clause-widens : goal.returns-in-Err-clause-widens
returns-in-Err-clause-widens g c = c.in-Err.ensures.makes.widens

pub name_function-requires-clause-scope : goal.name_function-requires-clause-scope
name_function-requires-clause-scope g c = subst (λ (scopes : List Scope). c.args.making.scope.0 < length scopes) (sym c.in-Ok.ensures.makes.scopes) c.requires.scope

pub name_function-requires-clause-slot : goal.name_function-requires-clause-slot
name_function-requires-clause-slot g c = has-slot-kept c.args.name.now c.args.machine.now c.made.new.machine c.args.making.scope c.in-Ok.ensures.makes.scopes c.requires.slot

pub returns-in-Ok-name_function-clause-told : goal.returns-in-Ok-name_function-clause-told
returns-in-Ok-name_function-clause-told g c =
    let m = c.args.making in
    let h = c.args.machine.now in
    let k = c.made.new.machine in
    let l = c.name_function.new.machine in
    let v = c.in-Ok.function in
    made-named m.unit m.number m.params m.scope c.args.name.now h k l v c.in-Ok.ensures.told c.in-Ok-name_function.ensures.named (content-widened k l c.in-Ok-name_function.ensures.grown.widens v c.in-Ok.ensures.fits)

pub returns-in-Ok-name_function-clause-functions : goal.returns-in-Ok-name_function-clause-functions
returns-in-Ok-name_function-clause-functions g c = λ counts slots counted from.
    let m = c.args.making in
    let h = c.args.machine.now in
    let k = c.made.new.machine in
    let l = c.name_function.new.machine in
    functions-trans counts h k l (functions-made counts h k m.unit m.number m.scope slots c.in-Ok.ensures.makes counted from) c.in-Ok-name_function.ensures.grown.widens (functions_fit counts k l c.in-Ok-name_function.ensures.grown)

pub returns-in-Ok-name_function-clause-widens : goal.returns-in-Ok-name_function-clause-widens
returns-in-Ok-name_function-clause-widens g c = Widens-trans c.args.machine.now c.made.new.machine c.name_function.new.machine c.in-Ok.ensures.makes.widens c.in-Ok-name_function.ensures.grown.widens

pub returns-in-Ok-name_function-clause-value : goal.returns-in-Ok-name_function-clause-value
returns-in-Ok-name_function-clause-value g c = FitsValue-widened c.made.new.machine c.name_function.new.machine c.in-Ok-name_function.ensures.grown.widens c.in-Ok.function c.in-Ok.ensures.fits

pub returns-in-Err-name_function-clause-told : goal.returns-in-Err-name_function-clause-told
returns-in-Err-name_function-clause-told g c =
    let m = c.args.making in
    let h = c.args.machine.now in
    let k = c.made.new.machine in
    let l = c.name_function.new.machine in
    unmade m.unit m.number m.params m.scope c.args.name.now h k l l

pub returns-in-Err-name_function-clause-functions : goal.returns-in-Err-name_function-clause-functions
returns-in-Err-name_function-clause-functions g c = λ counts slots counted from.
    let m = c.args.making in
    let h = c.args.machine.now in
    let k = c.made.new.machine in
    let l = c.name_function.new.machine in
    functions-trans counts h k l (functions-made counts h k m.unit m.number m.scope slots c.in-Ok.ensures.makes counted from) c.in-Err-name_function.ensures.grown.widens (functions_fit counts k l c.in-Err-name_function.ensures.grown)

pub returns-in-Err-name_function-clause-widens : goal.returns-in-Err-name_function-clause-widens
returns-in-Err-name_function-clause-widens g c = Widens-trans c.args.machine.now c.made.new.machine c.name_function.new.machine c.in-Ok.ensures.makes.widens c.in-Err-name_function.ensures.grown.widens
