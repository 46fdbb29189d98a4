use Rattle.std.proofs.Common.{◌≡◌, ℕ, suc, ◌+◌, List, Option, subst, arith, rules}
use Rattle.njs_tree.specs.declared.tree.Expr.{Expr, the_lemmas}
use Rattle.njs_simul.specs.Emission.{method_size}
use Rattle.njs_simul.specs.Compiled.{expression}
use Rattle.njs_gen_stmt.specs.Sized.{counted, form, in_target, in_value, in_values, in_elements, in_fields}
use Rattle.njs_gen_stmt.proofs.Lists.{from_start}
use Rattle.njs_gen_stmt.proofs.size.+expression.Goals as goal

pub values-returns : goal.values-returns
values-returns t c first =
    let all = from_start c.loop-i.i c.as_slice-list.result.now c.args.list.now (omega arith) c.as_slice-list.ensures in
    let size : c.loop-i.size ≡ counted (in_values c.args.list.now first) =
    subst (λ (list : List Expr). c.loop-i.size ≡ counted (in_values list first)) all (c.loop-i.invariant first) in
    omega arith

pub elements-returns : goal.elements-returns
elements-returns t c first =
    let all = from_start c.loop-i.i c.as_slice-list.result.now c.args.list.now (omega arith) c.as_slice-list.ensures in
    let size : c.loop-i.size ≡ counted (in_elements c.args.list.now first) =
    subst (λ (list : List (Option Expr)). c.loop-i.size ≡ counted (in_elements list first)) all (c.loop-i.invariant first) in
    omega arith

pub fields-returns : goal.fields-returns
fields-returns t c first =
    let all = from_start c.loop-i.i c.as_slice-list.result.now c.args.list.now (omega arith) c.as_slice-list.ensures in
    let size : c.loop-i.size ≡ counted (in_fields c.args.list.now first) =
    subst (λ (list : List (List ℕ × Expr)). c.loop-i.size ≡ counted (in_fields list first)) all (c.loop-i.invariant first) in
    omega arith

pub target-returns-in-Array : goal.target-returns-in-Array
unfolding expression
target-returns-in-Array t c first =
    let shape : in_target c.args.e.now first ≡ suc (suc (in_elements c.in-Array.list first + 5)) = search (rules, the_lemmas) in
    omega (arith, shape, c.elements.ensures first)

pub target-returns-in-Object : goal.target-returns-in-Object
unfolding expression
target-returns-in-Object t c first =
    let shape : in_target c.args.e.now first ≡ suc (suc (in_fields c.in-Object.list first)) = search (rules, the_lemmas) in
    omega (arith, shape, c.fields.ensures first)

pub target-returns-in-New : goal.target-returns-in-New
unfolding expression
target-returns-in-New t c first =
    let behind = first + (expression c.in-New.callee).size in
    let shape : in_target c.args.e.now first ≡ suc (in_value c.in-New.callee first + (in_values c.in-New.arguments behind + 1)) =
    search (rules, the_lemmas) in
    let front : c.value-in-New.result ≡ counted (c.plus-in-New.result + in_value c.in-New.callee first) = search (rules, c.value-in-New.ensures first) in
    omega (arith, shape, front, c.values-in-New.ensures behind)

pub target-returns-in-Call : goal.target-returns-in-Call
unfolding expression
target-returns-in-Call t c first =
    let behind = first + (expression c.in-Call.callee).size in
    let shape : in_target c.args.e.now first ≡ suc (in_target c.in-Call.callee first + (method_size (form c.in-Call.callee first) + (in_values c.in-Call.arguments behind + 1))) =
    search (rules, the_lemmas) in
    let called : c.method.result ≡ method_size (form c.in-Call.callee first) = search (rules, c.method.ensures first) in
    let front : c.target-in-Call.result ≡ counted (c.plus-total.result + in_target c.in-Call.callee first) = search (rules, c.target-in-Call.ensures first) in
    omega (arith, shape, called, front, c.values.ensures behind)
