use Rattle.std.proofs.Common.{◌≡◌, ◌∙◌, ◌++◌, ◌∷◌, [], Some, None, slice_get, ap, sym, arith}
use Rattle.njs_value.specs.declared.Value.TheVariants.{Undefined}
use Rattle.njs_shared.specs.Heap.{Heap, sizes}
use Rattle.njs_shared.specs.Fits.{FitsValue}
use Rattle.njs_interp.proofs.Kept.{Grown-same, all-at}
use Rattle.njs_interp.proofs.CallScopes.{past-end, filled_all, new-filled, filled-grown, filled-within, filled-slot, filled-value, filled-next}
use Rattle.njs_interp.proofs.script.call_scope.Goals as goal

pub returns-in_err-scope-clause-grown : goal.returns-in_err-scope-clause-grown
returns-in_err-scope-clause-grown g c = Grown-same c.args.machine.now c.new_scope.new.self c.in_err-scope.ensures.err

pub loop-place-init : goal.loop-place-init
loop-place-init g c = record {
  filled = new-filled c.args.machine.now c.new_scope.new.self c.args.parent c.args.slots c.args.args.now c.in_ok-scope.ensures.ok;
  steps = omega (arith, c.in_ok-scope.ensures.cell);
}

pub returns-in_default-clause-filled : goal.returns-in_default-clause-filled
returns-in_default-clause-filled g c =
    let h : Heap = c.args.machine.now in
    let none : slice_get c.args.args.now c.loop-place.place ≡ None = sym c.argument.ensures ∙ c.in_default.is in
    c.loop-place.invariant.filled
    ∙ ap (λ vs. record h { scopes = h.scopes ++ record { parent = Some c.args.parent; slots = vs } ∷ [] })
    (filled_all Undefined c.args.slots c.loop-place.place c.args.params c.args.args.now (omega (arith, c.loop-place-test.true)) (past-end c.args.args.now c.loop-place.place none))

pub returns-in_default-clause-grown : goal.returns-in_default-clause-grown
returns-in_default-clause-grown g c = filled-grown c.args.machine.now c.loop-place.machine c.args.parent c.args.slots c.loop-place.place c.args.args.now c.loop-place.invariant.filled

pub scope_put-requires-clause-scope : goal.scope_put-requires-clause-scope
scope_put-requires-clause-scope g c =
    filled-within c.args.machine.now c.loop-place.machine c.args.parent c.args.slots c.loop-place.place c.args.args.now c.loop-place.invariant.filled c.in_ok-scope.scope.0 c.in_ok-scope.ensures.number

pub scope_put-requires-clause-slot : goal.scope_put-requires-clause-slot
scope_put-requires-clause-slot g c =
    filled-slot c.args.machine.now c.loop-place.machine c.args.parent c.args.slots c.loop-place.place c.args.args.now c.loop-place.invariant.filled c.in_ok-scope.scope.0 c.in_ok-scope.ensures.number
    (omega (arith, c.loop-place-test.true, c.requires.params))

pub scope_put-requires-clause-value : goal.scope_put-requires-clause-value
scope_put-requires-clause-value g c =
    let there : slice_get c.args.args.now c.loop-place.place ≡ Some c.in-Some.value = sym c.argument.ensures ∙ c.in-Some.is in
    filled-value c.args.machine.now c.loop-place.machine c.args.parent c.args.slots c.loop-place.place c.args.args.now c.loop-place.invariant.filled c.in-Some.value
    (all-at (FitsValue (sizes c.args.machine.now)) c.args.args.now c.loop-place.place c.in-Some.value c.requires.args there)

pub returns-in_err-scope_put-clause-grown : goal.returns-in_err-scope_put-clause-grown
returns-in_err-scope_put-clause-grown g c =
    filled-grown c.args.machine.now c.scope_put.new.self c.args.parent c.args.slots c.loop-place.place c.args.args.now (c.in_err-scope_put.ensures.err ∙ c.loop-place.invariant.filled)

pub loop-place-preserved : goal.loop-place-preserved
loop-place-preserved g c =
    let there : slice_get c.args.args.now c.loop-place.place ≡ Some c.in-Some.value = sym c.argument.ensures ∙ c.in-Some.is in
    record {
      filled = filled-next c.args.machine.now c.loop-place.machine c.args.parent c.args.slots c.loop-place.place c.args.args.now c.loop-place.invariant.filled c.scope_put.new.self c.in_ok-scope.scope.0 c.in-Some.value
          c.in_ok-scope.ensures.number (omega (arith, c.loop-place-test.true, c.requires.params)) there c.in_ok-scope_put.ensures.ok;
      steps = omega (arith, c.loop-place.invariant.steps, c.scope_put.ensures.cells.0);
    }

pub returns-clause-grown : goal.returns-clause-grown
returns-clause-grown g c = filled-grown c.args.machine.now c.loop-place.machine c.args.parent c.args.slots c.loop-place.place c.args.args.now c.loop-place.invariant.filled
