use Rattle.std.proofs.Common.{◌≡◌, ℕ, ◌+◌, List, Option, subst, arith, rules}
use Rattle.njs_tree.specs.declared.tree.Expr.{Expr, the_lemmas}
use Rattle.njs_tree.specs.declared.tree.Stmt.{Stmt}
use Rattle.njs_tree.specs.declared.tree.Case.{Case, out-Case}
use Rattle.njs_tree.specs.declared.tree.FunctionTree.{out-FunctionTree}
use Rattle.njs_gen_expr.specs.Written.{most_functions}
use Rattle.njs_simul.specs.Compiled.{expression, statement}
use Rattle.njs_gen_expr.specs.Trees.{function, branch, first, head, in_list, in_statements, in_elements, in_fields, in_variables, in_held, in_branches, in_first}
use Rattle.njs_gen_expr.proofs.Lists.{from_start}
use Rattle.njs_gen_expr.proofs.functions.+functions.Goals as goal

pub in_list-returns : goal.in_list-returns
in_list-returns t c =
    let all = from_start c.loop-i.i c.as_slice-list.result.now c.args.list.now (omega arith) c.as_slice-list.ensures in
    let sum : c.loop-i.sum ≡ most_functions (in_list c.args.list.now) = subst (λ (list : List Expr). c.loop-i.sum ≡ most_functions (in_list list)) all c.loop-i.invariant in
    omega arith

pub in_elements-returns : goal.in_elements-returns
in_elements-returns t c =
    let all = from_start c.loop-i.i c.as_slice-list.result.now c.args.list.now (omega arith) c.as_slice-list.ensures in
    let sum : c.loop-i.sum ≡ most_functions (in_elements c.args.list.now) = subst (λ (list : List (Option Expr)). c.loop-i.sum ≡ most_functions (in_elements list)) all c.loop-i.invariant in
    omega arith

pub in_fields-returns : goal.in_fields-returns
in_fields-returns t c =
    let all = from_start c.loop-i.i c.as_slice-list.result.now c.args.list.now (omega arith) c.as_slice-list.ensures in
    let sum : c.loop-i.sum ≡ most_functions (in_fields c.args.list.now) = subst (λ (list : List (List ℕ × Expr)). c.loop-i.sum ≡ most_functions (in_fields list)) all c.loop-i.invariant in
    omega arith

pub in_variables-returns : goal.in_variables-returns
in_variables-returns t c =
    let all = from_start c.loop-i.i c.as_slice-list.result.now c.args.list.now (omega arith) c.as_slice-list.ensures in
    let sum : c.loop-i.sum ≡ most_functions (in_variables c.args.list.now) = subst (λ (list : List (List ℕ × Option Expr)). c.loop-i.sum ≡ most_functions (in_variables list)) all c.loop-i.invariant in
    omega arith

pub in_statements-returns : goal.in_statements-returns
in_statements-returns t c =
    let all = from_start c.loop-i.i c.as_slice-list.result.now c.args.list.now (omega arith) c.as_slice-list.ensures in
    let sum : c.loop-i.sum ≡ most_functions (in_statements c.args.list.now) = subst (λ (list : List Stmt). c.loop-i.sum ≡ most_functions (in_statements list)) all c.loop-i.invariant in
    omega arith

pub in_branches-returns : goal.in_branches-returns
in_branches-returns t c =
    let all = from_start c.loop-i.i c.as_slice-list.result.now c.args.list.now (omega arith) c.as_slice-list.ensures in
    let sum : c.loop-i.sum ≡ most_functions (in_branches c.args.list.now) = subst (λ (list : List Case). c.loop-i.sum ≡ most_functions (in_branches list)) all c.loop-i.invariant in
    omega arith

pub in_expression-returns-in-Array : goal.in_expression-returns-in-Array
unfolding expression statement function branch first head
in_expression-returns-in-Array t c =
    let shape : (expression c.args.e.now).size ≡ in_elements c.in-Array.list = search (rules, the_lemmas) in
    omega (arith, shape, c.in_elements.ensures)

pub in_expression-returns-in-Object : goal.in_expression-returns-in-Object
unfolding expression statement function branch first head
in_expression-returns-in-Object t c =
    let shape : (expression c.args.e.now).size ≡ in_fields c.in-Object.list = search (rules, the_lemmas) in
    omega (arith, shape, c.in_fields.ensures)

pub in_statement-returns-in-Block : goal.in_statement-returns-in-Block
unfolding expression statement function branch first head
in_statement-returns-in-Block t c =
    let shape : (statement c.args.s.now).size ≡ in_statements c.in-Block.list = search (rules, the_lemmas) in
    omega (arith, shape, c.in_statements.ensures)

pub in_statement-returns-in-Var : goal.in_statement-returns-in-Var
unfolding expression statement function branch first head
in_statement-returns-in-Var t c =
    let shape : (statement c.args.s.now).size ≡ in_variables c.in-Var.list = search (rules, the_lemmas) in
    omega (arith, shape, c.in_variables.ensures)

pub in_statement-returns-in-Return : goal.in_statement-returns-in-Return
unfolding expression statement function branch first head
in_statement-returns-in-Return t c =
    let shape : (statement c.args.s.now).size ≡ in_held c.in-Return.value = search (rules, the_lemmas) in
    omega (arith, shape, c.in_held-in-Return.ensures)

pub in_first-returns-in-Some-Var : goal.in_first-returns-in-Some-Var
unfolding expression statement function branch first head
in_first-returns-in-Some-Var t c =
    let shape : in_first c.args.part.now ≡ in_variables c.in-Some-Var.list = search (rules, the_lemmas) in
    omega (arith, shape, c.in_variables.ensures)

pub functions_in-returns : goal.functions_in-returns
unfolding expression statement function branch first head
functions_in-returns t c =
    let f = out-FunctionTree c.args.f.now in
    let shape : (function c.args.f.now).size ≡ 1 + in_statements f.body = search (rules, the_lemmas) in
    omega (arith, shape, c.in_statements.ensures)

pub in_expression-returns-in-Call : goal.in_expression-returns-in-Call
unfolding expression statement function branch first head
in_expression-returns-in-Call t c =
    let shape : (expression c.args.e.now).size ≡ (expression c.in-Call.callee).size + in_list c.in-Call.arguments = search (rules, the_lemmas) in
    let front : c.in_expression-in-Call.result ≡ most_functions (c.args.total + (expression c.in-Call.callee).size) = search (rules, c.in_expression-in-Call.ensures) in
    omega (arith, shape, front, c.in_list.ensures)

pub in_branch-returns : goal.in_branch-returns
unfolding expression statement function branch first head
in_branch-returns t c =
    let part = out-Case c.args.part.now in
    let shape : (branch c.args.part.now).size ≡ in_held part.test + in_statements part.body = search (rules, the_lemmas) in
    omega (arith, shape, c.in_held.ensures, c.in_statements.ensures)

pub in_statement-returns-in-Switch : goal.in_statement-returns-in-Switch
unfolding expression statement function branch first head
in_statement-returns-in-Switch t c =
    let shape : (statement c.args.s.now).size ≡ (expression c.in-Switch.value).size + in_branches c.in-Switch.cases = search (rules, the_lemmas) in
    omega (arith, shape, c.in_expression-in-Switch.ensures, c.in_branches.ensures)

pub in_statement-returns-in-For : goal.in_statement-returns-in-For
unfolding expression statement function branch first head
in_statement-returns-in-For t c =
    let shape : (statement c.args.s.now).size ≡ ((in_first c.in-For.first + in_held c.in-For.test) + in_held c.in-For.update) + (statement c.in-For.body).size = search (rules, the_lemmas) in
    let last : c.in_statement-in-For.result ≡ most_functions (c.in_held-head.result + (statement c.in-For.body).size) = search (rules, c.in_statement-in-For.ensures) in
    omega (arith, shape, last, c.in_first.ensures, c.in_held.ensures, c.in_held-head.ensures)
