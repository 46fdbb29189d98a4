use Rattle.std.proofs.Common.{◌≡◌, suc, ◌+◌, List, map, subst, refl, arith, rules}
use Rattle.std.specs.Option.{option_map}
use Rattle.njs_tree.specs.declared.tree.Expr.{the_lemmas}
use Rattle.njs_tree.specs.declared.tree.Stmt.{Stmt}
use Rattle.njs_tree.specs.declared.tree.Case.{Case, out-Case}
use Rattle.njs_meaning.specs.Parts.{each, held}
use Rattle.njs_simul.specs.EmissionOfStatements.{tests_if_any, does_if_any, branches_size, bodies_size}
use Rattle.njs_simul.specs.Compiled.{expression, statement}
use Rattle.njs_gen_expr.specs.Trees as code
use Rattle.njs_gen_stmt.specs.Sized.{counted, in_value, in_statement, in_statements, in_branches, in_variables, in_first, in_aside, in_branch}
use Rattle.njs_gen_stmt.proofs.Lists.{from_start}
use Rattle.njs_gen_stmt.proofs.Sizes.{test_size, update_size}
use Rattle.njs_gen_stmt.proofs.size.+statement.Goals as goal

pub in_turn-returns : goal.in_turn-returns
in_turn-returns t c first =
    let all = from_start c.loop-i.i c.args.list.now c.args.list.now (omega arith) refl in
    let size : c.loop-i.size ≡ counted (in_statements c.args.list.now first) =
    subst (λ (list : List Stmt). c.loop-i.size ≡ counted (in_statements list first)) all (c.loop-i.invariant first) in
    omega arith

pub statements-returns : goal.statements-returns
statements-returns t c first =
    subst (λ (list : List Stmt). c.in_turn.result ≡ counted (c.args.total + in_statements list first)) c.as_slice.ensures (c.in_turn.ensures first)

pub branch-returns : goal.branch-returns
unfolding expression statement code.branch code.first code.head
branch-returns t c first =
    let part = out-Case c.args.part.now in
    let behind = first + (held (option_map expression part.test)).size in
    let shape : in_branch c.args.part.now first ≡ in_aside part.test first + in_statements part.body behind = search (rules, the_lemmas) in
    omega (arith, shape, c.aside.ensures first, c.statements.ensures behind)

pub branches-returns : goal.branches-returns
branches-returns t c first =
    let all = from_start c.loop-i.i c.as_slice-list.result.now c.args.list.now (omega arith) c.as_slice-list.ensures in
    let size : c.loop-i.size ≡ counted (in_branches c.args.list.now first) =
    subst (λ (list : List Case). c.loop-i.size ≡ counted (in_branches list first)) all (c.loop-i.invariant first) in
    omega arith

pub statement-returns-in-Block : goal.statement-returns-in-Block
unfolding expression statement code.branch code.first code.head
statement-returns-in-Block t c first =
    let shape : in_statement c.args.s.now first ≡ suc (in_statements c.in-Block.list first) = search (rules, the_lemmas) in
    omega (arith, shape, c.statements.ensures first)

pub statement-returns-in-Var : goal.statement-returns-in-Var
unfolding expression statement code.branch code.first code.head
statement-returns-in-Var t c first =
    let shape : in_statement c.args.s.now first ≡ suc (in_variables c.in-Var.list first) = search (rules, the_lemmas) in
    omega (arith, shape, c.variables.ensures first)

pub statement-returns-in-For : goal.statement-returns-in-For
unfolding expression statement code.branch code.first code.head
statement-returns-in-For t c first =
    let part = (held (option_map code.first c.in-For.part)).size in
    let test = (held (option_map expression c.in-For.test)).size in
    let update = (held (option_map expression c.in-For.update)).size in
    let at_test = first + part in
    let at_update = first + (part + test) in
    let at_body = first + (part + test + update) in
    let tested = (held (option_map expression c.in-For.test)).means at_test in
    let updated = (held (option_map expression c.in-For.update)).means at_update in
    let shape : in_statement c.args.s.now first ≡ suc (in_first c.in-For.part first
    + suc ((tests_if_any tested).size + (in_statement c.in-For.body at_body + suc ((does_if_any updated).size + 1)))) =
    search (rules, the_lemmas) in
    let body : c.statement-in-For.result ≡ counted (c.aside-head.result + in_statement c.in-For.body at_body) = search (rules, c.statement-in-For.ensures at_body) in
    omega (arith, shape, test_size tested, update_size updated, body, c.first.ensures first, c.aside.ensures at_test, c.aside-head.ensures at_update)

pub statement-returns-in-Switch : goal.statement-returns-in-Switch
unfolding expression statement code.branch code.first code.head
statement-returns-in-Switch t c first =
    let behind = first + (expression c.in-Switch.v).size in
    let cases = (each (map code.branch c.in-Switch.cases)).means behind in
    let shape : in_statement c.args.s.now first ≡ suc (in_value c.in-Switch.v first + (branches_size cases + suc (suc (bodies_size cases + 1)))) =
    search (rules, the_lemmas) in
    omega (arith, shape, c.value-in-Switch.ensures first, c.branches.ensures behind)

pub statement-returns-in-Try-default-None-None : goal.statement-returns-in-Try-default-None-None
unfolding expression statement code.branch code.first code.head
statement-returns-in-Try-default-None-None t c first =
    let i = c.in-Try-default-None-None in
    let shape : in_statement c.args.s.now first ≡ suc (in_statements i.body first) = search (rules, the_lemmas) in
    omega (arith, shape, c.statements-in-Try-default-None-None.ensures first)

pub statement-returns-in-Try-default-Some-None : goal.statement-returns-in-Try-default-Some-None
unfolding expression statement code.branch code.first code.head
statement-returns-in-Try-default-Some-None t c first =
    let i = c.in-Try-default-Some-None in
    let behind = first + (each (map statement i.body)).size in
    let shape : in_statement c.args.s.now first ≡ suc (in_statements i.body first + suc (suc (suc (in_statements i.handler behind + 1)))) =
    search (rules, the_lemmas) in
    let handler : c.statements-in-Try-default-Some-None-2.result ≡ counted (c.statements-in-Try-default-Some-None.result + in_statements i.handler behind) =
    search (rules, c.statements-in-Try-default-Some-None-2.ensures behind) in
    omega (arith, shape, handler, c.statements-in-Try-default-Some-None.ensures first)

pub statement-returns-in-Try-default-None-Some : goal.statement-returns-in-Try-default-None-Some
unfolding expression statement code.branch code.first code.head
statement-returns-in-Try-default-None-Some t c first =
    let i = c.in-Try-default-None-Some in
    let at_last = first + ((each (map statement i.body)).size + 0) in
    let shape : in_statement c.args.s.now first ≡ suc (in_statements i.body first + suc (in_statements i.last at_last + 1)) = search (rules, the_lemmas) in
    let last : c.statements-in-Try-default-None-Some-2.result ≡ counted (c.statements-in-Try-default-None-Some.result + in_statements i.last at_last) =
    search (rules, c.statements-in-Try-default-None-Some-2.ensures at_last) in
    omega (arith, shape, last, c.statements-in-Try-default-None-Some.ensures first)

pub statement-returns-in-Try-default-Some-Some : goal.statement-returns-in-Try-default-Some-Some
unfolding expression statement code.branch code.first code.head
statement-returns-in-Try-default-Some-Some t c first =
    let i = c.in-Try-default-Some-Some in
    let behind = first + (each (map statement i.body)).size in
    let at_last = first + ((each (map statement i.body)).size + (each (map statement i.handler)).size) in
    let shape : in_statement c.args.s.now first ≡ suc (in_statements i.body first + suc (suc (suc (in_statements i.handler behind + 1))) + suc (in_statements i.last at_last + 1)) =
    search (rules, the_lemmas) in
    let handler : c.statements-in-Try-default-Some-Some-2.result ≡ counted (c.statements-in-Try-default-Some-Some.result + in_statements i.handler behind) =
    search (rules, c.statements-in-Try-default-Some-Some-2.ensures behind) in
    let last : c.statements-in-Try-default-Some-Some-3.result ≡ counted (c.statements-in-Try-default-Some-Some-2.result + in_statements i.last at_last) =
    search (rules, c.statements-in-Try-default-Some-Some-3.ensures at_last) in
    omega (arith, shape, handler, last, c.statements-in-Try-default-Some-Some.ensures first)
