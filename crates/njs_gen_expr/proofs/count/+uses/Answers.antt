use Rattle.std.proofs.Common.{◌≡◌, ℕ, ◌+◌, List, [], ◌∷◌, map, true, Option, Some, ap, subst, arith, rules}
use Rattle.std.specs.Option.{option_map}
use Rattle.njs_meaning.specs.Places.{assignable}
use Rattle.njs_meaning.specs.Functions.{scope_names}
use Rattle.njs_meaning.specs.Parts.{leaf, three}
use Rattle.njs_tree.specs.declared.tree.Expr.{Expr, the_lemmas}
use Rattle.njs_tree.specs.declared.tree.Stmt.{Stmt}
use Rattle.njs_tree.specs.declared.tree.Case.{Case, out-Case}
use Rattle.njs_tree.specs.declared.tree.FunctionTree.{out-FunctionTree}
use Rattle.std.proofs.lemmas.List.{length-append}
use Rattle.njs_scope.specs.Uses as uses
use Rattle.njs_scope.specs.Uses.{expression, statement, function, branch, first, head}
use Rattle.njs_gen_expr.specs.Written.{most}
use Rattle.njs_gen_expr.specs.Counted.{in_part, in_list, in_statements, in_elements, in_fields, in_variables, in_held, in_branches, in_first, in_function}
use Rattle.njs_gen_expr.proofs.Lists.{from_start}
use Rattle.njs_gen_expr.proofs.count.+uses.Goals as goal

pub in_list-returns : goal.in_list-returns
in_list-returns t c start names =
    let all = from_start c.loop-i.i c.as_slice-list.result.now c.args.list.now (omega arith) c.as_slice-list.ensures in
    let sum : c.loop-i.sum ≡ most (in_list c.args.list.now start names) = subst (λ (list : List Expr). c.loop-i.sum ≡ most (in_list list start names)) all (c.loop-i.invariant start names) in
    omega arith

pub in_elements-returns : goal.in_elements-returns
in_elements-returns t c start names =
    let all = from_start c.loop-i.i c.as_slice-list.result.now c.args.list.now (omega arith) c.as_slice-list.ensures in
    let sum : c.loop-i.sum ≡ most (in_elements c.args.list.now start names) = subst (λ (list : List (Option Expr)). c.loop-i.sum ≡ most (in_elements list start names)) all (c.loop-i.invariant start names) in
    omega arith

pub in_fields-returns : goal.in_fields-returns
in_fields-returns t c start names =
    let all = from_start c.loop-i.i c.as_slice-list.result.now c.args.list.now (omega arith) c.as_slice-list.ensures in
    let sum : c.loop-i.sum ≡ most (in_fields c.args.list.now start names) = subst (λ (list : List (List ℕ × Expr)). c.loop-i.sum ≡ most (in_fields list start names)) all (c.loop-i.invariant start names) in
    omega arith

pub in_variables-returns : goal.in_variables-returns
in_variables-returns t c start names =
    let all = from_start c.loop-i.i c.as_slice-list.result.now c.args.list.now (omega arith) c.as_slice-list.ensures in
    let sum : c.loop-i.sum ≡ most (in_variables c.args.list.now start names) = subst (λ (list : List (List ℕ × Option Expr)). c.loop-i.sum ≡ most (in_variables list start names)) all (c.loop-i.invariant start names) in
    omega arith

pub in_statements-returns : goal.in_statements-returns
in_statements-returns t c start names =
    let all = from_start c.loop-i.i c.as_slice-list.result.now c.args.list.now (omega arith) c.as_slice-list.ensures in
    let sum : c.loop-i.sum ≡ most (in_statements c.args.list.now start names) = subst (λ (list : List Stmt). c.loop-i.sum ≡ most (in_statements list start names)) all (c.loop-i.invariant start names) in
    omega arith

pub in_branches-returns : goal.in_branches-returns
in_branches-returns t c start names =
    let all = from_start c.loop-i.i c.as_slice-list.result.now c.args.list.now (omega arith) c.as_slice-list.ensures in
    let sum : c.loop-i.sum ≡ most (in_branches c.args.list.now start names) = subst (λ (list : List Case). c.loop-i.sum ≡ most (in_branches list start names)) all (c.loop-i.invariant start names) in
    omega arith

pub uses_in-returns-in-Array : goal.uses_in-returns-in-Array
unfolding expression statement function branch first head
uses_in-returns-in-Array t c start names =
    let shape : in_part (uses.expression c.args.e.now) start names ≡ in_elements c.in-Array.list start names = search (rules, the_lemmas, length-append) in
    omega (arith, shape, c.in_elements.ensures start names)

pub uses_in-returns-in-Object : goal.uses_in-returns-in-Object
unfolding expression statement function branch first head
uses_in-returns-in-Object t c start names =
    let shape : in_part (uses.expression c.args.e.now) start names ≡ in_fields c.in-Object.list start names = search (rules, the_lemmas, length-append) in
    omega (arith, shape, c.in_fields.ensures start names)

pub in_statement-returns-in-Block : goal.in_statement-returns-in-Block
unfolding expression statement function branch first head
in_statement-returns-in-Block t c start names =
    let shape : in_part (uses.statement c.args.s.now) start names ≡ in_statements c.in-Block.list start names = search (rules, the_lemmas, length-append) in
    omega (arith, shape, c.in_statements.ensures start names)

pub in_statement-returns-in-Var : goal.in_statement-returns-in-Var
unfolding expression statement function branch first head
in_statement-returns-in-Var t c start names =
    let shape : in_part (uses.statement c.args.s.now) start names ≡ in_variables c.in-Var.list start names = search (rules, the_lemmas, length-append) in
    omega (arith, shape, c.in_variables.ensures start names)

pub in_statement-returns-in-Return : goal.in_statement-returns-in-Return
unfolding expression statement function branch first head
in_statement-returns-in-Return t c start names =
    let shape : in_part (uses.statement c.args.s.now) start names ≡ in_held c.in-Return.value start names = search (rules, the_lemmas, length-append) in
    omega (arith, shape, c.in_held-in-Return.ensures start names)

pub in_first-returns-in-Some-Var : goal.in_first-returns-in-Some-Var
unfolding expression statement function branch first head
in_first-returns-in-Some-Var t c start names =
    let shape : in_first c.args.part.now start names ≡ in_variables c.in-Some-Var.list start names = search (rules, the_lemmas, length-append) in
    omega (arith, shape, c.in_variables.ensures start names)

pub uses_in_function-returns : goal.uses_in_function-returns
unfolding expression statement function branch first head
uses_in_function-returns t c start names =
    let f = out-FunctionTree c.args.f.now in
    let part = uses.all_of (map statement f.body) in
    let inner = assignable (scope_names f.params (part.declared (start + 1)) part.names_arguments part.vars) in
    let shape : in_function c.args.f.now start names ≡ in_statements f.body (start + 1) (inner ∷ names) = search (rules, the_lemmas) in
    omega (arith, shape, c.in_statements.ensures (start + 1) (inner ∷ names))

pub uses_in-returns-in-Call : goal.uses_in-returns-in-Call
unfolding expression statement function branch first head
uses_in-returns-in-Call t c start names =
    let later = start + (expression c.in-Call.callee).size in
    let shape : in_part (uses.expression c.args.e.now) start names ≡ in_part (expression c.in-Call.callee) start names + in_list c.in-Call.arguments later names =
    search (rules, the_lemmas, length-append) in
    let front : c.uses_in-in-Call.result ≡ most (c.args.total + in_part (expression c.in-Call.callee) start names) = search (rules, c.uses_in-in-Call.ensures start names) in
    omega (arith, shape, front, c.in_list.ensures later names)

pub in_branch-returns : goal.in_branch-returns
unfolding expression statement function branch first head
in_branch-returns t c start names =
    let part = out-Case c.args.part.now in
    let later = start + (uses.held_of (option_map expression part.test)).size in
    let shape : in_part (branch c.args.part.now) start names ≡ in_held part.test start names + in_statements part.body later names =
    search (rules, the_lemmas, length-append) in
    omega (arith, shape, c.in_held.ensures start names, c.in_statements.ensures later names)

pub in_statement-returns-in-Switch : goal.in_statement-returns-in-Switch
unfolding expression statement function branch first head
in_statement-returns-in-Switch t c start names =
    let later = start + (expression c.in-Switch.value).size in
    let shape : in_part (statement c.args.s.now) start names ≡ in_part (expression c.in-Switch.value) start names + in_branches c.in-Switch.cases later names =
    search (rules, the_lemmas, length-append) in
    omega (arith, shape, c.uses_in-in-Switch.ensures start names, c.in_branches.ensures later names)

pub in_statement-returns-in-For : goal.in_statement-returns-in-For
unfolding expression statement function branch first head
in_statement-returns-in-For t c start names =
    let a = (uses.held_of (option_map first c.in-For.first)).size in
    let b = (uses.held_of (option_map expression c.in-For.test)).size in
    let d = (uses.held_of (option_map expression c.in-For.update)).size in
    let shape : in_part (statement c.args.s.now) start names ≡ in_first c.in-For.first start names + (in_held c.in-For.test (start + a) names + (in_held c.in-For.update (start + (a + b)) names + in_part (statement c.in-For.body) (start + ((a + b) + d)) names)) =
    search (rules, the_lemmas, length-append) in
    let last : c.in_statement-in-For.result ≡ most (c.in_held-head.result + in_part (statement c.in-For.body) (start + ((a + b) + d)) names) = search (rules, c.in_statement-in-For.ensures (start + ((a + b) + d)) names) in
    omega (arith, shape, last, c.in_first.ensures start names, c.in_held.ensures (start + a) names, c.in_held-head.ensures (start + (a + b)) names)

pub in_statement-returns-in-Try-default-None-None : goal.in_statement-returns-in-Try-default-None-None
unfolding expression statement function branch first head
in_statement-returns-in-Try-default-None-None t c start names =
    let body = uses.all_of (map statement c.in-Try-default-None-None.body) in
    let part : statement c.args.s.now ≡ three body (leaf uses.none) (leaf uses.none) (λ a b c. uses.both a (uses.both b c)) = search (rules, the_lemmas) in
    omega (arith, simp length-append at (ap (λ p. in_part p start names) part), c.in_statements-in-Try-default-None-None.ensures start names)

pub in_statement-returns-in-Try-default-None-Some : goal.in_statement-returns-in-Try-default-None-Some
unfolding expression statement function branch first head
in_statement-returns-in-Try-default-None-Some t c start names =
    let body = uses.all_of (map statement c.in-Try-default-None-Some.body) in
    let part : statement c.args.s.now ≡ three body (leaf uses.none) (uses.all_of (map statement c.in-Try-default-None-Some.last)) (λ a b c. uses.both a (uses.both b c)) = search (rules, the_lemmas) in
    let sum1 : c.in_statements-in-Try-default-None-Some.result ≡ most (c.args.total + in_statements c.in-Try-default-None-Some.body start names) = search (rules, c.in_statements-in-Try-default-None-Some.ensures start names) in
    let sum2 : c.in_statements-in-Try-default-None-Some-2.result ≡ most (c.in_statements-in-Try-default-None-Some.result + in_statements c.in-Try-default-None-Some.last (start + (body.size + 0)) names) = search (rules, c.in_statements-in-Try-default-None-Some-2.ensures (start + (body.size + 0)) names) in
    omega (arith, simp length-append at (ap (λ p. in_part p start names) part), sum1, sum2)

pub in_statement-returns-in-Try-default-Some-None : goal.in_statement-returns-in-Try-default-Some-None
unfolding expression statement function branch first head
in_statement-returns-in-Try-default-Some-None t c start names =
    let body = uses.all_of (map statement c.in-Try-default-Some-None.body) in
    let inner = ((c.in-Try-default-Some-None.caught-0-0, true) ∷ []) ∷ names in
    let part : statement c.args.s.now ≡ three body (uses.caught_part (Some (c.in-Try-default-Some-None.caught-0-0, map statement c.in-Try-default-Some-None.handler))) (leaf uses.none) (λ a b c. uses.both a (uses.both b c)) = search (rules, the_lemmas) in
    let sum1 : c.in_statements-in-Try-default-Some-None.result ≡ most (c.args.total + in_statements c.in-Try-default-Some-None.body start names) = search (rules, c.in_statements-in-Try-default-Some-None.ensures start names) in
    let sum2 : c.in_statements-in-Try-default-Some-None-2.result ≡ most (c.in_statements-in-Try-default-Some-None.result + in_statements c.in-Try-default-Some-None.handler (start + body.size) inner) = search (rules, c.in_statements-in-Try-default-Some-None-2.ensures (start + body.size) inner) in
    omega (arith, simp length-append at (ap (λ p. in_part p start names) part), sum1, sum2)

pub in_statement-returns-in-Try-default-Some-Some : goal.in_statement-returns-in-Try-default-Some-Some
unfolding expression statement function branch first head
in_statement-returns-in-Try-default-Some-Some t c start names =
    let body = uses.all_of (map statement c.in-Try-default-Some-Some.body) in
    let inner = ((c.in-Try-default-Some-Some.caught-0-0, true) ∷ []) ∷ names in
    let part : statement c.args.s.now ≡ three body (uses.caught_part (Some (c.in-Try-default-Some-Some.caught-0-0, map statement c.in-Try-default-Some-Some.handler))) (uses.all_of (map statement c.in-Try-default-Some-Some.last)) (λ a b c. uses.both a (uses.both b c)) = search (rules, the_lemmas) in
    let sum1 : c.in_statements-in-Try-default-Some-Some.result ≡ most (c.args.total + in_statements c.in-Try-default-Some-Some.body start names) = search (rules, c.in_statements-in-Try-default-Some-Some.ensures start names) in
    let sum2 : c.in_statements-in-Try-default-Some-Some-2.result ≡ most (c.in_statements-in-Try-default-Some-Some.result + in_statements c.in-Try-default-Some-Some.handler (start + body.size) inner) = search (rules, c.in_statements-in-Try-default-Some-Some-2.ensures (start + body.size) inner) in
    let sum3 : c.in_statements-in-Try-default-Some-Some-3.result ≡ most (c.in_statements-in-Try-default-Some-Some-2.result + in_statements c.in-Try-default-Some-Some.last (start + (body.size + (uses.all_of (map statement c.in-Try-default-Some-Some.handler)).size)) names) = search (rules, c.in_statements-in-Try-default-Some-Some-3.ensures (start + (body.size + (uses.all_of (map statement c.in-Try-default-Some-Some.handler)).size)) names) in
    omega (arith, simp length-append at (ap (λ p. in_part p start names) part), sum1, sum2, sum3)
