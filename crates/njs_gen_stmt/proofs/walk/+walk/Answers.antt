use Rattle.std.proofs.Common.{◌≡◌, ℕ, ◌+◌, List, [], ◌∷◌, map, Option, None, Some, sym, subst, arith, rules}
use Rattle.std.specs.Option.{option_map}
use Rattle.njs_tree.specs.declared.tree.Expr.{Expr, the_lemmas}
use Rattle.njs_tree.specs.declared.tree.Stmt.{Stmt}
use Rattle.njs_tree.specs.declared.tree.Case.{Case, out-Case}
use Rattle.njs_tree.specs.declared.tree.ForFirst.{ForFirst}
use Rattle.njs_code.specs.declared.op.Kind.TheVariants as kind
use Rattle.njs_meaning.specs.Parts.{leaf, one, two, three, four, held, each, each_held, each_named, with_vars}
use Rattle.njs_simul.specs.Emission as emit
use Rattle.njs_simul.specs.Emission.{value, value_size, deeper, op, address}
use Rattle.njs_simul.specs.EmissionOfStatements as step
use Rattle.njs_simul.specs.Compiled as compiled
use Rattle.njs_simul.specs.Compiled.{expression, statement}
use Rattle.njs_scope.specs.Uses as uses
use Rattle.njs_gen_expr.specs.Trees as code
use Rattle.njs_gen_stmt.specs.Statements.{declared_in, declared_uses, optional, optional_uses, first, first_uses, in_turn, in_turn_uses, cases, cases_uses, caught, caught_uses, last, last_uses, otherwise, otherwise_uses}
use Rattle.njs_tree.specs.declared.tree.FunctionTree.{out-FunctionTree}
use Rattle.njs_gen_stmt.specs.Walked.{Walked, variables, variables_uses, declaration_part, declaration_uses}
use Rattle.njs_gen_stmt.proofs.Walks.{walked_leaf, walked_one, walked_two, walked_three, walked_four, walked_some, as_walked, completes_more, completed}
use Rattle.njs_gen_stmt.proofs.FunctionWalks.{name_walked, variables_walked, undeclared_walked, variable_walked, declared_walked, function_walked, declaration_walked, unnamed_walked, named_walked, caught_walked, try_walked, no_catch_walked, no_last_walked, last_walked}
use Rattle.njs_gen_stmt.proofs.Jumps.{branch_of, coded_branch, used_branch}
use Rattle.njs_gen_expr.proofs.Nodes.{member_is}
use Rattle.njs_gen_stmt.proofs.Nodes.{for_used}
use Rattle.njs_gen_stmt.specs.declared.walk.Walk.{Walk}
use Rattle.njs_gen_stmt.proofs.walk.+walk.Goals.{in_elements-in-Some, in_elements-in_default, in_variables-in-Some, in_variables-in_default}
use Rattle.njs_gen_stmt.proofs.walk.+walk.Goals as goal

pub in_expression-returns-in-Comma : goal.in_expression-returns-in-Comma
unfolding expression statement code.function code.branch code.first code.head uses.expression uses.statement uses.function uses.branch uses.first uses.head
in_expression-returns-in-Comma t c =
    let i = c.in-Comma in
    let coded : expression c.args.e.now ≡ two (expression i.a) (expression i.b) emit.comma = search (rules, the_lemmas) in
    let named : uses.expression c.args.e.now ≡ two (uses.expression i.a) (uses.expression i.b) uses.both = search (rules, the_lemmas) in
    as_walked (expression c.args.e.now) (two (expression i.a) (expression i.b) emit.comma) (uses.expression c.args.e.now) (two (uses.expression i.a) (uses.expression i.b) uses.both) c.args.around.now c.args.w.now c.in_expression-in-Comma.new.w coded named
    (walked_two (expression i.a) (expression i.b) (uses.expression i.a) (uses.expression i.b) emit.comma c.args.around.now c.args.w.now c.in_expression.new.w c.in_expression-in-Comma.new.w (subst (λ (x : Expr). Walked (expression x) (uses.expression x) c.args.around.now c.args.w.now c.in_expression.new.w) c.get.ensures c.in_expression.ensures) (subst (λ (x : Expr). Walked (expression x) (uses.expression x) c.args.around.now c.in_expression.new.w c.in_expression-in-Comma.new.w) c.get-in-Comma.ensures c.in_expression-in-Comma.ensures))

pub in_expression-returns-in-Assign : goal.in_expression-returns-in-Assign
unfolding expression statement code.function code.branch code.first code.head uses.expression uses.statement uses.function uses.branch uses.first uses.head
in_expression-returns-in-Assign t c =
    let i = c.in-Assign in
    let coded : expression c.args.e.now ≡ two (expression i.a) (expression i.b) (emit.assignment i.field-0) = search (rules, the_lemmas) in
    let named : uses.expression c.args.e.now ≡ two (uses.expression i.a) (uses.expression i.b) uses.both = search (rules, the_lemmas) in
    as_walked (expression c.args.e.now) (two (expression i.a) (expression i.b) (emit.assignment i.field-0)) (uses.expression c.args.e.now) (two (uses.expression i.a) (uses.expression i.b) uses.both) c.args.around.now c.args.w.now c.in_expression-in-Assign-2.new.w coded named
    (walked_two (expression i.a) (expression i.b) (uses.expression i.a) (uses.expression i.b) (emit.assignment i.field-0) c.args.around.now c.args.w.now c.in_expression-in-Assign.new.w c.in_expression-in-Assign-2.new.w (subst (λ (x : Expr). Walked (expression x) (uses.expression x) c.args.around.now c.args.w.now c.in_expression-in-Assign.new.w) c.get-in-Assign.ensures c.in_expression-in-Assign.ensures) (subst (λ (x : Expr). Walked (expression x) (uses.expression x) c.args.around.now c.in_expression-in-Assign.new.w c.in_expression-in-Assign-2.new.w) c.get-in-Assign-2.ensures c.in_expression-in-Assign-2.ensures))

pub in_expression-returns-in-Logical : goal.in_expression-returns-in-Logical
unfolding expression statement code.function code.branch code.first code.head uses.expression uses.statement uses.function uses.branch uses.first uses.head
in_expression-returns-in-Logical t c =
    let i = c.in-Logical in
    let coded : expression c.args.e.now ≡ two (expression i.a) (expression i.b) (emit.either i.field-0) = search (rules, the_lemmas) in
    let named : uses.expression c.args.e.now ≡ two (uses.expression i.a) (uses.expression i.b) uses.both = search (rules, the_lemmas) in
    as_walked (expression c.args.e.now) (two (expression i.a) (expression i.b) (emit.either i.field-0)) (uses.expression c.args.e.now) (two (uses.expression i.a) (uses.expression i.b) uses.both) c.args.around.now c.args.w.now c.in_expression-in-Logical-2.new.w coded named
    (walked_two (expression i.a) (expression i.b) (uses.expression i.a) (uses.expression i.b) (emit.either i.field-0) c.args.around.now c.args.w.now c.in_expression-in-Logical.new.w c.in_expression-in-Logical-2.new.w (subst (λ (x : Expr). Walked (expression x) (uses.expression x) c.args.around.now c.args.w.now c.in_expression-in-Logical.new.w) c.get-in-Logical.ensures c.in_expression-in-Logical.ensures) (subst (λ (x : Expr). Walked (expression x) (uses.expression x) c.args.around.now c.in_expression-in-Logical.new.w c.in_expression-in-Logical-2.new.w) c.get-in-Logical-2.ensures c.in_expression-in-Logical-2.ensures))

pub in_expression-returns-in-Binary : goal.in_expression-returns-in-Binary
unfolding expression statement code.function code.branch code.first code.head uses.expression uses.statement uses.function uses.branch uses.first uses.head
in_expression-returns-in-Binary t c =
    let i = c.in-Binary in
    let coded : expression c.args.e.now ≡ two (expression i.a) (expression i.b) (emit.both i.field-0) = search (rules, the_lemmas) in
    let named : uses.expression c.args.e.now ≡ two (uses.expression i.a) (uses.expression i.b) uses.both = search (rules, the_lemmas) in
    as_walked (expression c.args.e.now) (two (expression i.a) (expression i.b) (emit.both i.field-0)) (uses.expression c.args.e.now) (two (uses.expression i.a) (uses.expression i.b) uses.both) c.args.around.now c.args.w.now c.in_expression-in-Binary-2.new.w coded named
    (walked_two (expression i.a) (expression i.b) (uses.expression i.a) (uses.expression i.b) (emit.both i.field-0) c.args.around.now c.args.w.now c.in_expression-in-Binary.new.w c.in_expression-in-Binary-2.new.w (subst (λ (x : Expr). Walked (expression x) (uses.expression x) c.args.around.now c.args.w.now c.in_expression-in-Binary.new.w) c.get-in-Binary.ensures c.in_expression-in-Binary.ensures) (subst (λ (x : Expr). Walked (expression x) (uses.expression x) c.args.around.now c.in_expression-in-Binary.new.w c.in_expression-in-Binary-2.new.w) c.get-in-Binary-2.ensures c.in_expression-in-Binary-2.ensures))

pub in_expression-returns-in-Index : goal.in_expression-returns-in-Index
unfolding expression statement code.function code.branch code.first code.head uses.expression uses.statement uses.function uses.branch uses.first uses.head
in_expression-returns-in-Index t c =
    let i = c.in-Index in
    let coded : expression c.args.e.now ≡ two (expression i.a) (expression i.b) emit.index = search (rules, the_lemmas) in
    let named : uses.expression c.args.e.now ≡ two (uses.expression i.a) (uses.expression i.b) uses.both = search (rules, the_lemmas) in
    as_walked (expression c.args.e.now) (two (expression i.a) (expression i.b) emit.index) (uses.expression c.args.e.now) (two (uses.expression i.a) (uses.expression i.b) uses.both) c.args.around.now c.args.w.now c.in_expression-in-Index-2.new.w coded named
    (walked_two (expression i.a) (expression i.b) (uses.expression i.a) (uses.expression i.b) emit.index c.args.around.now c.args.w.now c.in_expression-in-Index.new.w c.in_expression-in-Index-2.new.w (subst (λ (x : Expr). Walked (expression x) (uses.expression x) c.args.around.now c.args.w.now c.in_expression-in-Index.new.w) c.get-in-Index.ensures c.in_expression-in-Index.ensures) (subst (λ (x : Expr). Walked (expression x) (uses.expression x) c.args.around.now c.in_expression-in-Index.new.w c.in_expression-in-Index-2.new.w) c.get-in-Index-2.ensures c.in_expression-in-Index-2.ensures))

pub in_expression-returns-in-Cond : goal.in_expression-returns-in-Cond
unfolding expression statement code.function code.branch code.first code.head uses.expression uses.statement uses.function uses.branch uses.first uses.head
in_expression-returns-in-Cond t c =
    let i = c.in-Cond in
    let coded : expression c.args.e.now ≡ three (expression i.a) (expression i.b) (expression i.c) emit.conditional = search (rules, the_lemmas) in
    let named : uses.expression c.args.e.now ≡ three (uses.expression i.a) (uses.expression i.b) (uses.expression i.c) (λ a b c. uses.both a (uses.both b c)) = search (rules, the_lemmas) in
    as_walked (expression c.args.e.now) (three (expression i.a) (expression i.b) (expression i.c) emit.conditional) (uses.expression c.args.e.now) (three (uses.expression i.a) (uses.expression i.b) (uses.expression i.c) (λ a b c. uses.both a (uses.both b c))) c.args.around.now c.args.w.now c.in_expression-in-Cond-3.new.w coded named
    (walked_three (expression i.a) (expression i.b) (expression i.c) (uses.expression i.a) (uses.expression i.b) (uses.expression i.c) emit.conditional c.args.around.now c.args.w.now c.in_expression-in-Cond.new.w c.in_expression-in-Cond-2.new.w c.in_expression-in-Cond-3.new.w (subst (λ (x : Expr). Walked (expression x) (uses.expression x) c.args.around.now c.args.w.now c.in_expression-in-Cond.new.w) c.get-in-Cond.ensures c.in_expression-in-Cond.ensures) (subst (λ (x : Expr). Walked (expression x) (uses.expression x) c.args.around.now c.in_expression-in-Cond.new.w c.in_expression-in-Cond-2.new.w) c.get-in-Cond-2.ensures c.in_expression-in-Cond-2.ensures) (subst (λ (x : Expr). Walked (expression x) (uses.expression x) c.args.around.now c.in_expression-in-Cond-2.new.w c.in_expression-in-Cond-3.new.w) c.get-in-Cond-3.ensures c.in_expression-in-Cond-3.ensures))

pub in_expression-returns-in-Unary : goal.in_expression-returns-in-Unary
unfolding expression statement code.function code.branch code.first code.head uses.expression uses.statement uses.function uses.branch uses.first uses.head
in_expression-returns-in-Unary t c =
    let i = c.in-Unary in
    let coded : expression c.args.e.now ≡ one (expression i.a) (emit.sole i.field-0) = search (rules, the_lemmas) in
    let named : uses.expression c.args.e.now ≡ uses.expression i.a = search (rules, the_lemmas) in
    as_walked (expression c.args.e.now) (one (expression i.a) (emit.sole i.field-0)) (uses.expression c.args.e.now) (uses.expression i.a) c.args.around.now c.args.w.now c.in_expression-in-Unary.new.w coded named
    (walked_one (expression i.a) (uses.expression i.a) (emit.sole i.field-0) c.args.around.now c.args.w.now c.in_expression-in-Unary.new.w (subst (λ (x : Expr). Walked (expression x) (uses.expression x) c.args.around.now c.args.w.now c.in_expression-in-Unary.new.w) c.get-in-Unary.ensures c.in_expression-in-Unary.ensures))

pub in_expression-returns-in-Member : goal.in_expression-returns-in-Member
unfolding expression statement code.function code.branch code.first code.head uses.expression uses.statement uses.function uses.branch uses.first uses.head
in_expression-returns-in-Member t c =
    let i = c.in-Member in
    let coded : expression c.args.e.now ≡ one (expression i.a) (λ e. emit.member e i.field-1) = member_is c.args.e.now i.a i.field-1 i.is in
    let named : uses.expression c.args.e.now ≡ uses.expression i.a = search (rules, the_lemmas) in
    as_walked (expression c.args.e.now) (one (expression i.a) (λ e. emit.member e i.field-1)) (uses.expression c.args.e.now) (uses.expression i.a) c.args.around.now c.args.w.now c.in_expression-in-Member.new.w coded named
    (walked_one (expression i.a) (uses.expression i.a) (λ e. emit.member e i.field-1) c.args.around.now c.args.w.now c.in_expression-in-Member.new.w (subst (λ (x : Expr). Walked (expression x) (uses.expression x) c.args.around.now c.args.w.now c.in_expression-in-Member.new.w) c.get-in-Member.ensures c.in_expression-in-Member.ensures))

pub in_expression-returns-in-Update : goal.in_expression-returns-in-Update
unfolding expression statement code.function code.branch code.first code.head uses.expression uses.statement uses.function uses.branch uses.first uses.head
in_expression-returns-in-Update t c =
    let i = c.in-Update in
    let coded : expression c.args.e.now ≡ one (expression i.a) (emit.stepping i.op i.prefix) = search (rules, the_lemmas) in
    let named : uses.expression c.args.e.now ≡ uses.expression i.a = search (rules, the_lemmas) in
    as_walked (expression c.args.e.now) (one (expression i.a) (emit.stepping i.op i.prefix)) (uses.expression c.args.e.now) (uses.expression i.a) c.args.around.now c.args.w.now c.in_expression-in-Update.new.w coded named
    (walked_one (expression i.a) (uses.expression i.a) (emit.stepping i.op i.prefix) c.args.around.now c.args.w.now c.in_expression-in-Update.new.w (subst (λ (x : Expr). Walked (expression x) (uses.expression x) c.args.around.now c.args.w.now c.in_expression-in-Update.new.w) c.get-in-Update.ensures c.in_expression-in-Update.ensures))

pub in_expression-returns-in-Call : goal.in_expression-returns-in-Call
unfolding expression statement code.function code.branch code.first code.head uses.expression uses.statement uses.function uses.branch uses.first uses.head
in_expression-returns-in-Call t c =
    let i = c.in-Call in
    let coded : expression c.args.e.now ≡ two (expression i.callee) (each (map expression i.list)) emit.calling = search (rules, the_lemmas) in
    let named : uses.expression c.args.e.now ≡ two (uses.expression i.callee) (uses.all_of (map uses.expression i.list)) uses.both = search (rules, the_lemmas) in
    as_walked (expression c.args.e.now) (two (expression i.callee) (each (map expression i.list)) emit.calling) (uses.expression c.args.e.now) (two (uses.expression i.callee) (uses.all_of (map uses.expression i.list)) uses.both) c.args.around.now c.args.w.now c.in_expressions.new.w coded named
    (walked_two (expression i.callee) (each (map expression i.list)) (uses.expression i.callee) (uses.all_of (map uses.expression i.list)) emit.calling c.args.around.now c.args.w.now c.in_expression-in-Call.new.w c.in_expressions.new.w (subst (λ (x : Expr). Walked (expression x) (uses.expression x) c.args.around.now c.args.w.now c.in_expression-in-Call.new.w) c.get-in-Call.ensures c.in_expression-in-Call.ensures) c.in_expressions.ensures)

pub in_expression-returns-in-New : goal.in_expression-returns-in-New
unfolding expression statement code.function code.branch code.first code.head uses.expression uses.statement uses.function uses.branch uses.first uses.head
in_expression-returns-in-New t c =
    let i = c.in-New in
    let coded : expression c.args.e.now ≡ two (expression i.callee) (each (map expression i.list)) emit.making = search (rules, the_lemmas) in
    let named : uses.expression c.args.e.now ≡ two (uses.expression i.callee) (uses.all_of (map uses.expression i.list)) uses.both = search (rules, the_lemmas) in
    as_walked (expression c.args.e.now) (two (expression i.callee) (each (map expression i.list)) emit.making) (uses.expression c.args.e.now) (two (uses.expression i.callee) (uses.all_of (map uses.expression i.list)) uses.both) c.args.around.now c.args.w.now c.in_expressions-in-New.new.w coded named
    (walked_two (expression i.callee) (each (map expression i.list)) (uses.expression i.callee) (uses.all_of (map uses.expression i.list)) emit.making c.args.around.now c.args.w.now c.in_expression-in-New.new.w c.in_expressions-in-New.new.w (subst (λ (x : Expr). Walked (expression x) (uses.expression x) c.args.around.now c.args.w.now c.in_expression-in-New.new.w) c.get-in-New.ensures c.in_expression-in-New.ensures) c.in_expressions-in-New.ensures)

pub in_expression-returns-in-Array : goal.in_expression-returns-in-Array
unfolding expression statement code.function code.branch code.first code.head uses.expression uses.statement uses.function uses.branch uses.first uses.head
in_expression-returns-in-Array t c =
    let i = c.in-Array in
    let coded : expression c.args.e.now ≡ one (each_held (map (option_map expression) i.list)) emit.array = search (rules, the_lemmas) in
    let named : uses.expression c.args.e.now ≡ one (each_held (map (option_map uses.expression) i.list)) uses.all_held = search (rules, the_lemmas) in
    as_walked (expression c.args.e.now) (one (each_held (map (option_map expression) i.list)) emit.array) (uses.expression c.args.e.now) (one (each_held (map (option_map uses.expression) i.list)) uses.all_held) c.args.around.now c.args.w.now c.in_elements.new.w coded named
    (walked_one (each_held (map (option_map expression) i.list)) (one (each_held (map (option_map uses.expression) i.list)) uses.all_held) emit.array c.args.around.now c.args.w.now c.in_elements.new.w c.in_elements.ensures)

pub in_expression-returns-in-Object : goal.in_expression-returns-in-Object
unfolding expression statement code.function code.branch code.first code.head uses.expression uses.statement uses.function uses.branch uses.first uses.head
in_expression-returns-in-Object t c =
    let i = c.in-Object in
    let coded : expression c.args.e.now ≡ one (each_named (map (λ p. (p.0, expression p.1)) i.list)) emit.object = search (rules, the_lemmas) in
    let named : uses.expression c.args.e.now ≡ one (each_named (map (λ p. (p.0, uses.expression p.1)) i.list)) uses.all_named = search (rules, the_lemmas) in
    as_walked (expression c.args.e.now) (one (each_named (map (λ p. (p.0, expression p.1)) i.list)) emit.object) (uses.expression c.args.e.now) (one (each_named (map (λ p. (p.0, uses.expression p.1)) i.list)) uses.all_named) c.args.around.now c.args.w.now c.in_fields.new.w coded named
    (walked_one (each_named (map (λ p. (p.0, expression p.1)) i.list)) (one (each_named (map (λ p. (p.0, uses.expression p.1)) i.list)) uses.all_named) emit.object c.args.around.now c.args.w.now c.in_fields.new.w c.in_fields.ensures)

pub in_expression-returns-in-Function : goal.in_expression-returns-in-Function
unfolding expression statement code.function code.branch code.first code.head uses.expression uses.statement uses.function uses.branch uses.first uses.head
in_expression-returns-in-Function t c =
    let i = c.in-Function in
    let coded : expression c.args.e.now ≡ compiled.function_expression (code.function i.f) = search (rules, the_lemmas) in
    let named : uses.expression c.args.e.now ≡ one (uses.function i.f) uses.function_expression = search (rules, the_lemmas) in
    as_walked (expression c.args.e.now) (compiled.function_expression (code.function i.f)) (uses.expression c.args.e.now) (one (uses.function i.f) uses.function_expression) c.args.around.now c.args.w.now c.in_function_expression.new.w coded named
    (c.in_function_expression.ensures)

pub in_expression-returns-in-Name : goal.in_expression-returns-in-Name
unfolding expression statement code.function code.branch code.first code.head uses.expression uses.statement uses.function uses.branch uses.first uses.head
in_expression-returns-in-Name t c =
    let i = c.in-Name in
    let coded : expression c.args.e.now ≡ compiled.name_part i.name = search (rules, the_lemmas) in
    let named : uses.expression c.args.e.now ≡ uses.name_part i.name = search (rules, the_lemmas) in
    as_walked (expression c.args.e.now) (compiled.name_part i.name) (uses.expression c.args.e.now) (uses.name_part i.name) c.args.around.now c.args.w.now c.in_name.new.w coded named
    (c.in_name.ensures c.args.around.now)

pub in_statement-returns-in-Block : goal.in_statement-returns-in-Block
unfolding expression statement code.function code.branch code.first code.head uses.expression uses.statement uses.function uses.branch uses.first uses.head
in_statement-returns-in-Block t c =
    let i = c.in-Block in
    let coded : statement c.args.s.now ≡ one (in_turn i.list) step.block = search (rules, the_lemmas) in
    let named : uses.statement c.args.s.now ≡ in_turn_uses i.list = search (rules, the_lemmas) in
    as_walked (statement c.args.s.now) (one (in_turn i.list) step.block) (uses.statement c.args.s.now) (in_turn_uses i.list) c.args.around.now c.args.w.now c.in_statements.new.w coded named
    (walked_one (in_turn i.list) (in_turn_uses i.list) step.block c.args.around.now c.args.w.now c.in_statements.new.w c.in_statements.ensures)

pub in_statement-returns-in-Var : goal.in_statement-returns-in-Var
unfolding expression statement code.function code.branch code.first code.head uses.expression uses.statement uses.function uses.branch uses.first uses.head
in_statement-returns-in-Var t c =
    let i = c.in-Var in
    let coded : statement c.args.s.now ≡ one (variables i.list) step.statement_of = search (rules, the_lemmas) in
    let named : uses.statement c.args.s.now ≡ variables_uses i.list = search (rules, the_lemmas) in
    as_walked (statement c.args.s.now) (one (variables i.list) step.statement_of) (uses.statement c.args.s.now) (variables_uses i.list) c.args.around.now c.args.w.now c.in_variables.new.w coded named
    (walked_one (variables i.list) (variables_uses i.list) step.statement_of c.args.around.now c.args.w.now c.in_variables.new.w c.in_variables.ensures)

pub in_statement-returns-in-Expr : goal.in_statement-returns-in-Expr
unfolding expression statement code.function code.branch code.first code.head uses.expression uses.statement uses.function uses.branch uses.first uses.head
in_statement-returns-in-Expr t c =
    let i = c.in-Expr in
    let coded : statement c.args.s.now ≡ one (expression i.a) (λ a. step.statement_of (step.evaluate a)) = search (rules, the_lemmas) in
    let named : uses.statement c.args.s.now ≡ uses.expression i.a = search (rules, the_lemmas) in
    as_walked (statement c.args.s.now) (one (expression i.a) (λ a. step.statement_of (step.evaluate a))) (uses.statement c.args.s.now) (uses.expression i.a) c.args.around.now c.args.w.now c.in_expression.new.w coded named
    (walked_one (expression i.a) (uses.expression i.a) (λ a. step.statement_of (step.evaluate a)) c.args.around.now c.args.w.now c.in_expression.new.w c.in_expression.ensures)

pub in_statement-returns-in-Throw : goal.in_statement-returns-in-Throw
unfolding expression statement code.function code.branch code.first code.head uses.expression uses.statement uses.function uses.branch uses.first uses.head
in_statement-returns-in-Throw t c =
    let i = c.in-Throw in
    let coded : statement c.args.s.now ≡ one (expression i.a) step.throw_value = search (rules, the_lemmas) in
    let named : uses.statement c.args.s.now ≡ uses.expression i.a = search (rules, the_lemmas) in
    as_walked (statement c.args.s.now) (one (expression i.a) step.throw_value) (uses.statement c.args.s.now) (uses.expression i.a) c.args.around.now c.args.w.now c.in_expression-in-Throw.new.w coded named
    (walked_one (expression i.a) (uses.expression i.a) step.throw_value c.args.around.now c.args.w.now c.in_expression-in-Throw.new.w c.in_expression-in-Throw.ensures)

pub in_statement-returns-in-If : goal.in_statement-returns-in-If
unfolding expression statement code.function code.branch code.first code.head uses.expression uses.statement uses.function uses.branch uses.first uses.head
in_statement-returns-in-If t c =
    let i = c.in-If in
    let coded : statement c.args.s.now ≡ three (expression i.test) (statement i.then) (otherwise i.other) step.if_else = search (rules, the_lemmas) in
    let named : uses.statement c.args.s.now ≡ three (uses.expression i.test) (uses.statement i.then) (otherwise_uses i.other) (λ a b c. uses.both a (uses.both b c)) = search (rules, the_lemmas) in
    as_walked (statement c.args.s.now) (three (expression i.test) (statement i.then) (otherwise i.other) step.if_else) (uses.statement c.args.s.now) (three (uses.expression i.test) (uses.statement i.then) (otherwise_uses i.other) (λ a b c. uses.both a (uses.both b c))) c.args.around.now c.args.w.now c.in_otherwise.new.w coded named
    (walked_three (expression i.test) (statement i.then) (otherwise i.other) (uses.expression i.test) (uses.statement i.then) (otherwise_uses i.other) step.if_else c.args.around.now c.args.w.now c.in_expression-in-If.new.w c.in_statement.new.w c.in_otherwise.new.w c.in_expression-in-If.ensures (subst (λ (x : Stmt). Walked (statement x) (uses.statement x) c.args.around.now c.in_expression-in-If.new.w c.in_statement.new.w) c.get.ensures c.in_statement.ensures) c.in_otherwise.ensures)

pub in_statement-returns-in-Do : goal.in_statement-returns-in-Do
unfolding expression statement code.function code.branch code.first code.head uses.expression uses.statement uses.function uses.branch uses.first uses.head
in_statement-returns-in-Do t c =
    let i = c.in-Do in
    let coded : statement c.args.s.now ≡ two (statement i.body) (expression i.test) step.do_loop = search (rules, the_lemmas) in
    let named : uses.statement c.args.s.now ≡ two (uses.statement i.body) (uses.expression i.test) uses.both = search (rules, the_lemmas) in
    as_walked (statement c.args.s.now) (two (statement i.body) (expression i.test) step.do_loop) (uses.statement c.args.s.now) (two (uses.statement i.body) (uses.expression i.test) uses.both) c.args.around.now c.args.w.now c.in_expression-in-Do.new.w coded named
    (walked_two (statement i.body) (expression i.test) (uses.statement i.body) (uses.expression i.test) step.do_loop c.args.around.now c.args.w.now c.in_statement-in-Do.new.w c.in_expression-in-Do.new.w (subst (λ (x : Stmt). Walked (statement x) (uses.statement x) c.args.around.now c.args.w.now c.in_statement-in-Do.new.w) c.get-in-Do.ensures c.in_statement-in-Do.ensures) c.in_expression-in-Do.ensures)

pub in_statement-returns-in-While : goal.in_statement-returns-in-While
unfolding expression statement code.function code.branch code.first code.head uses.expression uses.statement uses.function uses.branch uses.first uses.head
in_statement-returns-in-While t c =
    let i = c.in-While in
    let coded : statement c.args.s.now ≡ two (expression i.test) (statement i.body) step.while_loop = search (rules, the_lemmas) in
    let named : uses.statement c.args.s.now ≡ two (uses.expression i.test) (uses.statement i.body) uses.both = search (rules, the_lemmas) in
    as_walked (statement c.args.s.now) (two (expression i.test) (statement i.body) step.while_loop) (uses.statement c.args.s.now) (two (uses.expression i.test) (uses.statement i.body) uses.both) c.args.around.now c.args.w.now c.in_statement-in-While.new.w coded named
    (walked_two (expression i.test) (statement i.body) (uses.expression i.test) (uses.statement i.body) step.while_loop c.args.around.now c.args.w.now c.in_expression-in-While.new.w c.in_statement-in-While.new.w c.in_expression-in-While.ensures (subst (λ (x : Stmt). Walked (statement x) (uses.statement x) c.args.around.now c.in_expression-in-While.new.w c.in_statement-in-While.new.w) c.get-in-While.ensures c.in_statement-in-While.ensures))

pub in_statement-returns-in-For : goal.in_statement-returns-in-For
unfolding expression statement code.function code.branch code.first code.head uses.expression uses.statement uses.function uses.branch uses.first uses.head
in_statement-returns-in-For t c =
    let i = c.in-For in
    let coded : statement c.args.s.now ≡ four (first i.first) (optional i.test) (optional i.update) (statement i.body) step.for_loop = search (rules, the_lemmas) in
    let named : uses.statement c.args.s.now ≡ four (first_uses i.first) (optional_uses i.test) (optional_uses i.update) (uses.statement i.body) (λ a b c d. uses.both a (uses.both b (uses.both c d))) = for_used c.args.s.now i.first i.test i.update i.body i.is in
    as_walked (statement c.args.s.now) (four (first i.first) (optional i.test) (optional i.update) (statement i.body) step.for_loop) (uses.statement c.args.s.now) (four (first_uses i.first) (optional_uses i.test) (optional_uses i.update) (uses.statement i.body) (λ a b c d. uses.both a (uses.both b (uses.both c d)))) c.args.around.now c.args.w.now c.in_statement-in-For.new.w coded named
    (walked_four (first i.first) (optional i.test) (optional i.update) (statement i.body) (first_uses i.first) (optional_uses i.test) (optional_uses i.update) (uses.statement i.body) step.for_loop c.args.around.now c.args.w.now c.in_first.new.w c.in_optional.new.w c.in_optional-in-For.new.w c.in_statement-in-For.new.w c.in_first.ensures c.in_optional.ensures c.in_optional-in-For.ensures (subst (λ (x : Stmt). Walked (statement x) (uses.statement x) c.args.around.now c.in_optional-in-For.new.w c.in_statement-in-For.new.w) c.get-in-For.ensures c.in_statement-in-For.ensures))

pub in_statement-returns-in-ForIn : goal.in_statement-returns-in-ForIn
unfolding expression statement code.function code.branch code.first code.head uses.expression uses.statement uses.function uses.branch uses.first uses.head
in_statement-returns-in-ForIn t c =
    let i = c.in-ForIn in
    let coded : statement c.args.s.now ≡ three (code.head i.head) (expression i.value) (statement i.body) step.for_in = search (rules, the_lemmas) in
    let named : uses.statement c.args.s.now ≡ three (uses.head i.head) (uses.expression i.value) (uses.statement i.body) (λ a b c. uses.both a (uses.both b c)) = search (rules, the_lemmas) in
    as_walked (statement c.args.s.now) (three (code.head i.head) (expression i.value) (statement i.body) step.for_in) (uses.statement c.args.s.now) (three (uses.head i.head) (uses.expression i.value) (uses.statement i.body) (λ a b c. uses.both a (uses.both b c))) c.args.around.now c.args.w.now c.in_statement-in-ForIn.new.w coded named
    (walked_three (code.head i.head) (expression i.value) (statement i.body) (uses.head i.head) (uses.expression i.value) (uses.statement i.body) step.for_in c.args.around.now c.args.w.now c.in_head.new.w c.in_expression-in-ForIn.new.w c.in_statement-in-ForIn.new.w c.in_head.ensures c.in_expression-in-ForIn.ensures (subst (λ (x : Stmt). Walked (statement x) (uses.statement x) c.args.around.now c.in_expression-in-ForIn.new.w c.in_statement-in-ForIn.new.w) c.get-in-ForIn.ensures c.in_statement-in-ForIn.ensures))

pub in_statement-returns-in-Return : goal.in_statement-returns-in-Return
unfolding expression statement code.function code.branch code.first code.head uses.expression uses.statement uses.function uses.branch uses.first uses.head
in_statement-returns-in-Return t c =
    let i = c.in-Return in
    let coded : statement c.args.s.now ≡ one (optional i.value) step.return = search (rules, the_lemmas) in
    let named : uses.statement c.args.s.now ≡ optional_uses i.value = search (rules, the_lemmas) in
    as_walked (statement c.args.s.now) (one (optional i.value) step.return) (uses.statement c.args.s.now) (optional_uses i.value) c.args.around.now c.args.w.now c.in_optional-in-Return.new.w coded named
    (walked_one (optional i.value) (optional_uses i.value) step.return c.args.around.now c.args.w.now c.in_optional-in-Return.new.w c.in_optional-in-Return.ensures)

pub in_statement-returns-in-Switch : goal.in_statement-returns-in-Switch
unfolding expression statement code.function code.branch code.first code.head uses.expression uses.statement uses.function uses.branch uses.first uses.head
in_statement-returns-in-Switch t c =
    let i = c.in-Switch in
    let coded : statement c.args.s.now ≡ two (expression i.value) (cases i.cases) step.switch = search (rules, the_lemmas) in
    let named : uses.statement c.args.s.now ≡ two (uses.expression i.value) (cases_uses i.cases) uses.both = search (rules, the_lemmas) in
    as_walked (statement c.args.s.now) (two (expression i.value) (cases i.cases) step.switch) (uses.statement c.args.s.now) (two (uses.expression i.value) (cases_uses i.cases) uses.both) c.args.around.now c.args.w.now c.in_cases.new.w coded named
    (walked_two (expression i.value) (cases i.cases) (uses.expression i.value) (cases_uses i.cases) step.switch c.args.around.now c.args.w.now c.in_expression-in-Switch.new.w c.in_cases.new.w c.in_expression-in-Switch.ensures c.in_cases.ensures)

pub in_statement-returns-in-Label : goal.in_statement-returns-in-Label
unfolding expression statement code.function code.branch code.first code.head uses.expression uses.statement uses.function uses.branch uses.first uses.head
in_statement-returns-in-Label t c =
    let i = c.in-Label in
    let coded : statement c.args.s.now ≡ one (statement i.body) (step.labelled i.field-0) = search (rules, the_lemmas) in
    let named : uses.statement c.args.s.now ≡ uses.statement i.body = search (rules, the_lemmas) in
    as_walked (statement c.args.s.now) (one (statement i.body) (step.labelled i.field-0)) (uses.statement c.args.s.now) (uses.statement i.body) c.args.around.now c.args.w.now c.in_statement-in-Label.new.w coded named
    (walked_one (statement i.body) (uses.statement i.body) (step.labelled i.field-0) c.args.around.now c.args.w.now c.in_statement-in-Label.new.w (subst (λ (x : Stmt). Walked (statement x) (uses.statement x) c.args.around.now c.args.w.now c.in_statement-in-Label.new.w) c.get-in-Label.ensures c.in_statement-in-Label.ensures))

pub in_statement-returns-in-FunctionDecl : goal.in_statement-returns-in-FunctionDecl
unfolding expression statement code.function code.branch code.first code.head uses.expression uses.statement uses.function uses.branch uses.first uses.head
in_statement-returns-in-FunctionDecl t c =
    let i = c.in-FunctionDecl in
    let coded : statement c.args.s.now ≡ declaration_part (code.function i.f) = search (rules, the_lemmas) in
    let named : uses.statement c.args.s.now ≡ declaration_uses (uses.function i.f) = search (rules, the_lemmas) in
    as_walked (statement c.args.s.now) (declaration_part (code.function i.f)) (uses.statement c.args.s.now) (declaration_uses (uses.function i.f)) c.args.around.now c.args.w.now c.in_declaration.new.w coded named
    (c.in_declaration.ensures)

pub in_expressions-returns : goal.in_expressions-returns
in_expressions-returns t c =
    completed (λ (l : List (Expr)). each (map expression l)) (λ (l : List (Expr)). uses.all_of (map uses.expression l)) c.args.around.now c.loop-i.i c.as_slice-list.result.now c.args.list.now c.args.w.now c.loop-i.w (omega arith) c.as_slice-list.ensures c.loop-i.invariant
    (walked_leaf [] c.args.around.now c.loop-i.w)

pub in_expressions-loop-i-init : goal.in_expressions-loop-i-init
in_expressions-loop-i-init t c = λ end h. h

pub in_expressions-loop-i-preserved : goal.in_expressions-loop-i-preserved
in_expressions-loop-i-preserved t c =
    completes_more (λ (l : List (Expr)). each (map expression l)) (λ (l : List (Expr)). uses.all_of (map uses.expression l)) c.args.around.now (c.loop-i.i + 1) c.loop-i.i c.as_slice-list.result.now c.index-list-i.result c.args.w.now c.loop-i.w c.in_expression.new.w (omega arith) (omega arith) c.index-list-i.is c.loop-i.invariant
    (λ xs end h. walked_two (expression c.index-list-i.result) (each (map expression xs)) (uses.expression c.index-list-i.result) (uses.all_of (map uses.expression xs)) (λ x xs. x ∷ xs) c.args.around.now c.loop-i.w c.in_expression.new.w end c.in_expression.ensures h)

pub in_statements-returns : goal.in_statements-returns
in_statements-returns t c =
    completed (λ (l : List (Stmt)). each (map statement l)) (λ (l : List (Stmt)). uses.all_of (map uses.statement l)) c.args.around.now c.loop-i.i c.as_slice-list.result.now c.args.list.now c.args.w.now c.loop-i.w (omega arith) c.as_slice-list.ensures c.loop-i.invariant
    (walked_leaf [] c.args.around.now c.loop-i.w)

pub in_statements-loop-i-init : goal.in_statements-loop-i-init
in_statements-loop-i-init t c = λ end h. h

pub in_statements-loop-i-preserved : goal.in_statements-loop-i-preserved
in_statements-loop-i-preserved t c =
    completes_more (λ (l : List (Stmt)). each (map statement l)) (λ (l : List (Stmt)). uses.all_of (map uses.statement l)) c.args.around.now (c.loop-i.i + 1) c.loop-i.i c.as_slice-list.result.now c.index-list-i.result c.args.w.now c.loop-i.w c.in_statement.new.w (omega arith) (omega arith) c.index-list-i.is c.loop-i.invariant
    (λ xs end h. walked_two (statement c.index-list-i.result) (each (map statement xs)) (uses.statement c.index-list-i.result) (uses.all_of (map uses.statement xs)) (λ x xs. x ∷ xs) c.args.around.now c.loop-i.w c.in_statement.new.w end c.in_statement.ensures h)

pub in_cases-returns : goal.in_cases-returns
in_cases-returns t c =
    completed (λ (l : List (Case)). each (map code.branch l)) (λ (l : List (Case)). uses.all_of (map uses.branch l)) c.args.around.now c.loop-i.i c.as_slice-list.result.now c.args.list.now c.args.w.now c.loop-i.w (omega arith) c.as_slice-list.ensures c.loop-i.invariant
    (walked_leaf [] c.args.around.now c.loop-i.w)

pub in_cases-loop-i-init : goal.in_cases-loop-i-init
in_cases-loop-i-init t c = λ end h. h

pub in_cases-loop-i-preserved : goal.in_cases-loop-i-preserved
in_cases-loop-i-preserved t c =
    completes_more (λ (l : List (Case)). each (map code.branch l)) (λ (l : List (Case)). uses.all_of (map uses.branch l)) c.args.around.now (c.loop-i.i + 1) c.loop-i.i c.as_slice-list.result.now c.index-list-i.result c.args.w.now c.loop-i.w c.in_case.new.w (omega arith) (omega arith) c.index-list-i.is c.loop-i.invariant
    (λ xs end h. walked_two (code.branch c.index-list-i.result) (each (map code.branch xs)) (uses.branch c.index-list-i.result) (uses.all_of (map uses.branch xs)) (λ x xs. x ∷ xs) c.args.around.now c.loop-i.w c.in_case.new.w end c.in_case.ensures h)

pub in_elements-returns : goal.in_elements-returns
in_elements-returns t c =
    completed (λ (l : List (Option Expr)). each_held (map (option_map expression) l)) (λ (l : List (Option Expr)). one (each_held (map (option_map uses.expression) l)) uses.all_held) c.args.around.now c.loop-i.i c.as_slice-list.result.now c.args.list.now c.args.w.now c.loop-i.w (omega arith) c.as_slice-list.ensures c.loop-i.invariant
    (walked_leaf [] c.args.around.now c.loop-i.w)

pub in_elements-loop-i-init : goal.in_elements-loop-i-init
in_elements-loop-i-init t c = λ end h. h

pub in_fields-returns : goal.in_fields-returns
in_fields-returns t c =
    completed (λ (l : List (List ℕ × Expr)). each_named (map (λ p. (p.0, expression p.1)) l)) (λ (l : List (List ℕ × Expr)). one (each_named (map (λ p. (p.0, uses.expression p.1)) l)) uses.all_named) c.args.around.now c.loop-i.i c.as_slice-list.result.now c.args.list.now c.args.w.now c.loop-i.w (omega arith) c.as_slice-list.ensures c.loop-i.invariant
    (walked_leaf [] c.args.around.now c.loop-i.w)

pub in_fields-loop-i-init : goal.in_fields-loop-i-init
in_fields-loop-i-init t c = λ end h. h

pub in_fields-loop-i-preserved : goal.in_fields-loop-i-preserved
in_fields-loop-i-preserved t c =
    completes_more (λ (l : List (List ℕ × Expr)). each_named (map (λ p. (p.0, expression p.1)) l)) (λ (l : List (List ℕ × Expr)). one (each_named (map (λ p. (p.0, uses.expression p.1)) l)) uses.all_named) c.args.around.now (c.loop-i.i + 1) c.loop-i.i c.as_slice-list.result.now c.index-list-i.result c.args.w.now c.loop-i.w c.in_expression.new.w (omega arith) (omega arith) c.index-list-i.is c.loop-i.invariant
    (λ xs end h. walked_two (expression c.index-list-i.result.1) (each_named (map (λ p. (p.0, expression p.1)) xs)) (uses.expression c.index-list-i.result.1) (one (each_named (map (λ p. (p.0, uses.expression p.1)) xs)) uses.all_named) (λ x xs. (c.index-list-i.result.0, x) ∷ xs) c.args.around.now c.loop-i.w c.in_expression.new.w end c.in_expression.ensures h)

pub in_variables-returns : goal.in_variables-returns
in_variables-returns t c =
    variables_walked c.args.list.now c.args.around.now c.args.w.now c.loop-i.w
    (completed (λ (l : List (List ℕ × Option Expr)). declared_in l) (λ (l : List (List ℕ × Option Expr)). declared_uses l) c.args.around.now c.loop-i.i c.as_slice-list.result.now c.args.list.now c.args.w.now c.loop-i.w (omega arith) c.as_slice-list.ensures c.loop-i.invariant
    (walked_leaf [] c.args.around.now c.loop-i.w))

pub in_variables-loop-i-init : goal.in_variables-loop-i-init
in_variables-loop-i-init t c = λ end h. h

pub in_optional-returns-in-None : goal.in_optional-returns-in-None
in_optional-returns-in-None t c =
    subst (λ (o : Option (Expr)). Walked (optional o) (optional_uses o) c.args.around.now c.args.w.now c.args.w.now) (sym c.in-None.is) (walked_leaf None c.args.around.now c.args.w.now)

pub in_optional-returns-in-Some : goal.in_optional-returns-in-Some
in_optional-returns-in-Some t c =
    subst (λ (o : Option (Expr)). Walked (optional o) (optional_uses o) c.args.around.now c.args.w.now c.in_expression.new.w) (sym c.in-Some.is)
    (walked_some (expression c.in-Some.e) (uses.expression c.in-Some.e) c.args.around.now c.args.w.now c.in_expression.new.w c.in_expression.ensures)

pub in_otherwise-returns-in-None : goal.in_otherwise-returns-in-None
in_otherwise-returns-in-None t c =
    subst (λ (o : Option (Stmt)). Walked (otherwise o) (otherwise_uses o) c.args.around.now c.args.w.now c.args.w.now) (sym c.in-None.is) (walked_leaf None c.args.around.now c.args.w.now)

pub in_otherwise-returns-in-Some : goal.in_otherwise-returns-in-Some
in_otherwise-returns-in-Some t c =
    subst (λ (o : Option (Stmt)). Walked (otherwise o) (otherwise_uses o) c.args.around.now c.args.w.now c.in_statement.new.w) (sym c.in-Some.is)
    (walked_some (statement c.in-Some.s) (uses.statement c.in-Some.s) c.args.around.now c.args.w.now c.in_statement.new.w (subst (λ (x : Stmt). Walked (statement x) (uses.statement x) c.args.around.now c.args.w.now c.in_statement.new.w) c.get.ensures c.in_statement.ensures))

pub in_first-returns-in-None : goal.in_first-returns-in-None
in_first-returns-in-None t c =
    subst (λ (o : Option (ForFirst)). Walked (first o) (first_uses o) c.args.around.now c.args.w.now c.args.w.now) (sym c.in-None.is) (walked_leaf None c.args.around.now c.args.w.now)

pub in_first-returns-in-Some-Var : goal.in_first-returns-in-Some-Var
unfolding expression statement code.function code.branch code.first code.head uses.expression uses.statement uses.function uses.branch uses.first uses.head
in_first-returns-in-Some-Var t c =
    let i = c.in-Some-Var in
    let coded : first c.args.part.now ≡ held (Some (variables i.list)) = search (rules, the_lemmas) in
    let named : first_uses c.args.part.now ≡ uses.held_of (Some (variables_uses i.list)) = search (rules, the_lemmas) in
    as_walked (first c.args.part.now) (held (Some (variables i.list))) (first_uses c.args.part.now) (uses.held_of (Some (variables_uses i.list))) c.args.around.now c.args.w.now c.in_variables.new.w coded named
    (walked_some (variables i.list) (variables_uses i.list) c.args.around.now c.args.w.now c.in_variables.new.w c.in_variables.ensures)

pub in_first-returns-in-Some-Expr : goal.in_first-returns-in-Some-Expr
unfolding expression statement code.function code.branch code.first code.head uses.expression uses.statement uses.function uses.branch uses.first uses.head
in_first-returns-in-Some-Expr t c =
    let i = c.in-Some-Expr in
    let coded : first c.args.part.now ≡ held (Some (one (expression i.e) step.evaluate)) = search (rules, the_lemmas) in
    let named : first_uses c.args.part.now ≡ uses.held_of (Some (uses.expression i.e)) = search (rules, the_lemmas) in
    as_walked (first c.args.part.now) (held (Some (one (expression i.e) step.evaluate))) (first_uses c.args.part.now) (uses.held_of (Some (uses.expression i.e))) c.args.around.now c.args.w.now c.in_expression.new.w coded named
    (walked_some (one (expression i.e) step.evaluate) (uses.expression i.e) c.args.around.now c.args.w.now c.in_expression.new.w (walked_one (expression i.e) (uses.expression i.e) step.evaluate c.args.around.now c.args.w.now c.in_expression.new.w c.in_expression.ensures))

pub in_head-returns-in-Var : goal.in_head-returns-in-Var
unfolding expression statement code.function code.branch code.first code.head uses.expression uses.statement uses.function uses.branch uses.first uses.head
in_head-returns-in-Var t c =
    let i = c.in-Var in
    let coded : code.head c.args.part.now ≡ with_vars (i.field-0 ∷ []) (leaf (compiled.bare_name i.field-0)) = search (rules, the_lemmas) in
    let named : uses.head c.args.part.now ≡ with_vars (i.field-0 ∷ []) (leaf (uses.use_of i.field-0)) = search (rules, the_lemmas) in
    as_walked (code.head c.args.part.now) (with_vars (i.field-0 ∷ []) (leaf (compiled.bare_name i.field-0))) (uses.head c.args.part.now) (with_vars (i.field-0 ∷ []) (leaf (uses.use_of i.field-0))) c.args.around.now c.args.w.now c.pass_name.new.w coded named
    (name_walked i.field-0 c.args.around.now c.args.w.now c.pass_name.new.w c.pass_name.ensures.stays c.pass_name.ensures.passed)

pub in_head-returns-in-Target : goal.in_head-returns-in-Target
unfolding expression statement code.function code.branch code.first code.head uses.expression uses.statement uses.function uses.branch uses.first uses.head
in_head-returns-in-Target t c =
    let i = c.in-Target in
    let coded : code.head c.args.part.now ≡ expression i.e = search (rules, the_lemmas) in
    let named : uses.head c.args.part.now ≡ uses.expression i.e = search (rules, the_lemmas) in
    as_walked (code.head c.args.part.now) (expression i.e) (uses.head c.args.part.now) (uses.expression i.e) c.args.around.now c.args.w.now c.in_expression.new.w coded named
    (c.in_expression.ensures)

pub in_case-returns : goal.in_case-returns
in_case-returns t c =
    let part = out-Case c.args.part.now in
    as_walked (code.branch c.args.part.now) (two (optional part.test) (in_turn part.body) branch_of) (uses.branch c.args.part.now) (two (optional_uses part.test) (in_turn_uses part.body) uses.both) c.args.around.now c.args.w.now c.in_statements.new.w (coded_branch c.args.part.now) (used_branch c.args.part.now)
    (walked_two (optional part.test) (in_turn part.body) (optional_uses part.test) (in_turn_uses part.body) branch_of c.args.around.now c.args.w.now c.in_optional.new.w c.in_statements.new.w c.in_optional.ensures c.in_statements.ensures)

pub in_function-returns : goal.in_function-returns
in_function-returns t c =
    function_walked c.args.f.now c.args.around.now c.begin_function-begun.result c.args.w.now c.begin_function-begun.new.w c.in_statements.new.w c.end_function.new.w c.begin_function-begun.ensures.stays c.begin_function-begun.ensures.begun c.begin_function-begun.ensures.slots
    (subst (λ ks. Walked (in_turn (out-FunctionTree c.args.f.now).body) (in_turn_uses (out-FunctionTree c.args.f.now).body) ks c.begin_function-begun.new.w c.in_statements.new.w) c.as_slice.ensures c.in_statements.ensures)
    c.end_function.ensures.stays c.end_function.ensures.ended

pub in_declaration-returns : goal.in_declaration-returns
in_declaration-returns t c =
    declaration_walked c.args.f.now c.args.around.now c.args.w.now c.declare.new.w c.in_function.new.w c.declare.ensures.stays c.declare.ensures.declared c.in_function.ensures

pub in_function_expression-returns-in-None : goal.in_function_expression-returns-in-None
in_function_expression-returns-in-None t c = unnamed_walked c.args.f.now c.args.around.now c.args.w.now c.in_function.new.w c.in-None.is c.in_function.ensures

pub in_function_expression-returns-in-Some : goal.in_function_expression-returns-in-Some
in_function_expression-returns-in-Some t c =
    named_walked c.args.f.now c.in-Some.field-0 c.args.around.now c.args.w.now c.next_scope.new.w c.with_scope-further.new.w c.in_function-in-Some.new.w c.with_scope-further.result c.in-Some.is c.next_scope.ensures.stays (λ f ns h. (c.next_scope.ensures.passed f ns h).0) c.with_scope-further.ensures.stays c.with_scope-further.ensures.holds c.with_scope-further.ensures.given
    (subst (λ ks. Walked (code.function c.args.f.now) (one (uses.function c.args.f.now) uses.declared_function) ks c.with_scope-further.new.w c.in_function-in-Some.new.w) c.as_slice.ensures c.in_function-in-Some.ensures)

pub in_variable-returns : goal.in_variable-returns
in_variable-returns t c name = variable_walked name c.args.e.now c.args.around.now c.args.w.now c.pass_name.new.w c.in_expression.new.w c.pass_name.ensures.stays c.pass_name.ensures.passed c.in_expression.ensures

pub in_caught-returns : goal.in_caught-returns
in_caught-returns t c name =
    caught_walked name c.args.handler.now c.args.around.now c.with_scope-further.result c.args.w.now c.next_scope.new.w c.with_scope-further.new.w c.without_declared-declared.new.w c.in_statements.new.w c.without_declared-declared.result
    c.next_scope.ensures.stays (λ f ns h. (c.next_scope.ensures.passed f ns h).0) c.with_scope-further.ensures.stays c.with_scope-further.ensures.holds c.with_scope-further.ensures.given c.without_declared-declared.ensures.stays c.without_declared-declared.ensures.taken
    (subst (λ ks. Walked (in_turn c.args.handler.now) (in_turn_uses c.args.handler.now) ks c.without_declared-declared.new.w c.in_statements.new.w) c.as_slice.ensures c.in_statements.ensures)

pub in_expression-returns-in-Num : goal.in_expression-returns-in-Num
unfolding expression statement code.function code.branch code.first code.head uses.expression uses.statement uses.function uses.branch uses.first uses.head
in_expression-returns-in-Num t c =
    let i = c.in-Num in
    let coded : expression c.args.e.now ≡ leaf (emit.constant (kind.Num i.field-0)) = search (rules, the_lemmas) in
    let named : uses.expression c.args.e.now ≡ leaf uses.none = search (rules, the_lemmas) in
    as_walked (expression c.args.e.now) (leaf (emit.constant (kind.Num i.field-0))) (uses.expression c.args.e.now) (leaf uses.none) c.args.around.now c.args.w.now c.args.w.now coded named
    (walked_leaf (emit.constant (kind.Num i.field-0)) c.args.around.now c.args.w.now)

pub in_expression-returns-in-Str : goal.in_expression-returns-in-Str
unfolding expression statement code.function code.branch code.first code.head uses.expression uses.statement uses.function uses.branch uses.first uses.head
in_expression-returns-in-Str t c =
    let i = c.in-Str in
    let coded : expression c.args.e.now ≡ leaf (emit.constant (kind.Str i.field-0)) = search (rules, the_lemmas) in
    let named : uses.expression c.args.e.now ≡ leaf uses.none = search (rules, the_lemmas) in
    as_walked (expression c.args.e.now) (leaf (emit.constant (kind.Str i.field-0))) (uses.expression c.args.e.now) (leaf uses.none) c.args.around.now c.args.w.now c.args.w.now coded named
    (walked_leaf (emit.constant (kind.Str i.field-0)) c.args.around.now c.args.w.now)

pub in_expression-returns-in-This : goal.in_expression-returns-in-This
unfolding expression statement code.function code.branch code.first code.head uses.expression uses.statement uses.function uses.branch uses.first uses.head
in_expression-returns-in-This t c =
    let i = c.in-This in
    let coded : expression c.args.e.now ≡ leaf (emit.constant kind.This) = search (rules, the_lemmas) in
    let named : uses.expression c.args.e.now ≡ leaf uses.none = search (rules, the_lemmas) in
    as_walked (expression c.args.e.now) (leaf (emit.constant kind.This)) (uses.expression c.args.e.now) (leaf uses.none) c.args.around.now c.args.w.now c.args.w.now coded named
    (walked_leaf (emit.constant kind.This) c.args.around.now c.args.w.now)

pub in_expression-returns-in-Null : goal.in_expression-returns-in-Null
unfolding expression statement code.function code.branch code.first code.head uses.expression uses.statement uses.function uses.branch uses.first uses.head
in_expression-returns-in-Null t c =
    let i = c.in-Null in
    let coded : expression c.args.e.now ≡ leaf (emit.constant kind.Null) = search (rules, the_lemmas) in
    let named : uses.expression c.args.e.now ≡ leaf uses.none = search (rules, the_lemmas) in
    as_walked (expression c.args.e.now) (leaf (emit.constant kind.Null)) (uses.expression c.args.e.now) (leaf uses.none) c.args.around.now c.args.w.now c.args.w.now coded named
    (walked_leaf (emit.constant kind.Null) c.args.around.now c.args.w.now)

pub in_expression-returns-in-Bool : goal.in_expression-returns-in-Bool
unfolding expression statement code.function code.branch code.first code.head uses.expression uses.statement uses.function uses.branch uses.first uses.head
in_expression-returns-in-Bool t c =
    let i = c.in-Bool in
    let coded : expression c.args.e.now ≡ leaf (emit.constant (kind.Bool i.field-0)) = search (rules, the_lemmas) in
    let named : uses.expression c.args.e.now ≡ leaf uses.none = search (rules, the_lemmas) in
    as_walked (expression c.args.e.now) (leaf (emit.constant (kind.Bool i.field-0))) (uses.expression c.args.e.now) (leaf uses.none) c.args.around.now c.args.w.now c.args.w.now coded named
    (walked_leaf (emit.constant (kind.Bool i.field-0)) c.args.around.now c.args.w.now)

pub in_statement-returns-in-Continue : goal.in_statement-returns-in-Continue
unfolding expression statement code.function code.branch code.first code.head uses.expression uses.statement uses.function uses.branch uses.first uses.head
in_statement-returns-in-Continue t c =
    let i = c.in-Continue in
    let coded : statement c.args.s.now ≡ leaf (step.ends_with (kind.Continue i.field-0)) = search (rules, the_lemmas) in
    let named : uses.statement c.args.s.now ≡ leaf uses.none = search (rules, the_lemmas) in
    as_walked (statement c.args.s.now) (leaf (step.ends_with (kind.Continue i.field-0))) (uses.statement c.args.s.now) (leaf uses.none) c.args.around.now c.args.w.now c.args.w.now coded named
    (walked_leaf (step.ends_with (kind.Continue i.field-0)) c.args.around.now c.args.w.now)

pub in_statement-returns-in-Break : goal.in_statement-returns-in-Break
unfolding expression statement code.function code.branch code.first code.head uses.expression uses.statement uses.function uses.branch uses.first uses.head
in_statement-returns-in-Break t c =
    let i = c.in-Break in
    let coded : statement c.args.s.now ≡ leaf (step.ends_with (kind.Break i.field-0)) = search (rules, the_lemmas) in
    let named : uses.statement c.args.s.now ≡ leaf uses.none = search (rules, the_lemmas) in
    as_walked (statement c.args.s.now) (leaf (step.ends_with (kind.Break i.field-0))) (uses.statement c.args.s.now) (leaf uses.none) c.args.around.now c.args.w.now c.args.w.now coded named
    (walked_leaf (step.ends_with (kind.Break i.field-0)) c.args.around.now c.args.w.now)

pub in_statement-returns-in-Empty : goal.in_statement-returns-in-Empty
unfolding expression statement code.function code.branch code.first code.head uses.expression uses.statement uses.function uses.branch uses.first uses.head
in_statement-returns-in-Empty t c =
    let i = c.in-Empty in
    let coded : statement c.args.s.now ≡ leaf (step.empty) = search (rules, the_lemmas) in
    let named : uses.statement c.args.s.now ≡ leaf uses.none = search (rules, the_lemmas) in
    as_walked (statement c.args.s.now) (leaf (step.empty)) (uses.statement c.args.s.now) (leaf uses.none) c.args.around.now c.args.w.now c.args.w.now coded named
    (walked_leaf (step.empty) c.args.around.now c.args.w.now)

pub in_statement-returns-in-None-finally : goal.in_statement-returns-in-None-finally
unfolding expression statement code.function code.branch code.first code.head uses.expression uses.statement uses.function uses.branch uses.first uses.head
in_statement-returns-in-None-finally t c =
    let i = c.in-Try in
    let coded : statement c.args.s.now ≡ three (in_turn i.body) (caught i.caught) (last i.finally) step.try_catch = search (rules, the_lemmas) in
    let named : uses.statement c.args.s.now ≡ three (in_turn_uses i.body) (caught_uses i.caught) (last_uses i.finally) (λ a b c. uses.both a (uses.both b c)) = search (rules, the_lemmas) in
    as_walked (statement c.args.s.now) (three (in_turn i.body) (caught i.caught) (last i.finally) step.try_catch) (uses.statement c.args.s.now) (three (in_turn_uses i.body) (caught_uses i.caught) (last_uses i.finally) (λ a b c. uses.both a (uses.both b c))) c.args.around.now c.args.w.now c.in_statements-in-Try.new.w coded named
    (try_walked i.body i.caught (None) i.finally (None) c.args.around.now c.args.w.now c.in_statements-in-Try.new.w c.in_statements-in-Try.new.w c.in_statements-in-Try.new.w c.in-None.is c.in-None-finally.is c.in_statements-in-Try.ensures (no_catch_walked c.args.around.now c.in_statements-in-Try.new.w) (no_last_walked c.args.around.now c.in_statements-in-Try.new.w))

pub in_statement-returns-in-Some-finally : goal.in_statement-returns-in-Some-finally
unfolding expression statement code.function code.branch code.first code.head uses.expression uses.statement uses.function uses.branch uses.first uses.head
in_statement-returns-in-Some-finally t c =
    let i = c.in-Try in
    let coded : statement c.args.s.now ≡ three (in_turn i.body) (caught i.caught) (last i.finally) step.try_catch = search (rules, the_lemmas) in
    let named : uses.statement c.args.s.now ≡ three (in_turn_uses i.body) (caught_uses i.caught) (last_uses i.finally) (λ a b c. uses.both a (uses.both b c)) = search (rules, the_lemmas) in
    as_walked (statement c.args.s.now) (three (in_turn i.body) (caught i.caught) (last i.finally) step.try_catch) (uses.statement c.args.s.now) (three (in_turn_uses i.body) (caught_uses i.caught) (last_uses i.finally) (λ a b c. uses.both a (uses.both b c))) c.args.around.now c.args.w.now c.in_statements-in-Some-finally.new.w coded named
    (try_walked i.body i.caught (None) i.finally (Some c.in-Some-finally.list) c.args.around.now c.args.w.now c.in_statements-in-Try.new.w c.in_statements-in-Try.new.w c.in_statements-in-Some-finally.new.w c.in-None.is c.in-Some-finally.is c.in_statements-in-Try.ensures (no_catch_walked c.args.around.now c.in_statements-in-Try.new.w) (last_walked c.in-Some-finally.list c.args.around.now c.in_statements-in-Try.new.w c.in_statements-in-Some-finally.new.w c.in_statements-in-Some-finally.ensures))

pub in_statement-returns-in-None-finally-2 : goal.in_statement-returns-in-None-finally-2
unfolding expression statement code.function code.branch code.first code.head uses.expression uses.statement uses.function uses.branch uses.first uses.head
in_statement-returns-in-None-finally-2 t c =
    let i = c.in-Try in
    let coded : statement c.args.s.now ≡ three (in_turn i.body) (caught i.caught) (last i.finally) step.try_catch = search (rules, the_lemmas) in
    let named : uses.statement c.args.s.now ≡ three (in_turn_uses i.body) (caught_uses i.caught) (last_uses i.finally) (λ a b c. uses.both a (uses.both b c)) = search (rules, the_lemmas) in
    as_walked (statement c.args.s.now) (three (in_turn i.body) (caught i.caught) (last i.finally) step.try_catch) (uses.statement c.args.s.now) (three (in_turn_uses i.body) (caught_uses i.caught) (last_uses i.finally) (λ a b c. uses.both a (uses.both b c))) c.args.around.now c.args.w.now c.in_caught.new.w coded named
    (try_walked i.body i.caught (Some (c.in-Some.field-0-0, c.in-Some.handler)) i.finally (None) c.args.around.now c.args.w.now c.in_statements-in-Try.new.w c.in_caught.new.w c.in_caught.new.w c.in-Some.is c.in-None-finally-2.is c.in_statements-in-Try.ensures (c.in_caught.ensures c.in-Some.field-0-0) (no_last_walked c.args.around.now c.in_caught.new.w))

pub in_statement-returns-in-Some-finally-2 : goal.in_statement-returns-in-Some-finally-2
unfolding expression statement code.function code.branch code.first code.head uses.expression uses.statement uses.function uses.branch uses.first uses.head
in_statement-returns-in-Some-finally-2 t c =
    let i = c.in-Try in
    let coded : statement c.args.s.now ≡ three (in_turn i.body) (caught i.caught) (last i.finally) step.try_catch = search (rules, the_lemmas) in
    let named : uses.statement c.args.s.now ≡ three (in_turn_uses i.body) (caught_uses i.caught) (last_uses i.finally) (λ a b c. uses.both a (uses.both b c)) = search (rules, the_lemmas) in
    as_walked (statement c.args.s.now) (three (in_turn i.body) (caught i.caught) (last i.finally) step.try_catch) (uses.statement c.args.s.now) (three (in_turn_uses i.body) (caught_uses i.caught) (last_uses i.finally) (λ a b c. uses.both a (uses.both b c))) c.args.around.now c.args.w.now c.in_statements-in-Some-finally-2.new.w coded named
    (try_walked i.body i.caught (Some (c.in-Some.field-0-0, c.in-Some.handler)) i.finally (Some c.in-Some-finally-2.list) c.args.around.now c.args.w.now c.in_statements-in-Try.new.w c.in_caught.new.w c.in_statements-in-Some-finally-2.new.w c.in-Some.is c.in-Some-finally-2.is c.in_statements-in-Try.ensures (c.in_caught.ensures c.in-Some.field-0-0) (last_walked c.in-Some-finally-2.list c.args.around.now c.in_caught.new.w c.in_statements-in-Some-finally-2.new.w c.in_statements-in-Some-finally-2.ensures))

pub in_elements-loop-i-preserved : goal.in_elements-loop-i-preserved
in_elements-loop-i-preserved t c =
    let x = c.index-list-i.result in
    let step : Walked (optional x) (optional_uses x) c.args.around.now c.loop-i.w c.match-list-i.w = elim c.match-list-i.branch [
      | in_elements-in-Some w ↦
          subst (λ v. Walked (optional x) (optional_uses x) c.args.around.now c.loop-i.w v) (sym w.w-is)
          (subst (λ (o : Option Expr). Walked (optional o) (optional_uses o) c.args.around.now c.loop-i.w w.in_expression.new.w) (sym w.in-Some.is)
          (walked_some (expression w.in-Some.e) (uses.expression w.in-Some.e) c.args.around.now c.loop-i.w w.in_expression.new.w w.in_expression.ensures))
      | in_elements-in_default w ↦
          subst (λ v. Walked (optional x) (optional_uses x) c.args.around.now c.loop-i.w v) (sym w.w-is)
          (subst (λ (o : Option Expr). Walked (optional o) (optional_uses o) c.args.around.now c.loop-i.w c.loop-i.w) (sym w.in_default.is) (walked_leaf None c.args.around.now c.loop-i.w))
    ] in
    completes_more (λ (l : List (Option Expr)). each_held (map (option_map expression) l)) (λ (l : List (Option Expr)). one (each_held (map (option_map uses.expression) l)) uses.all_held) c.args.around.now (c.loop-i.i + 1) c.loop-i.i c.as_slice-list.result.now x c.args.w.now c.loop-i.w c.match-list-i.w (omega arith) c.loop-i-test.true c.index-list-i.is c.loop-i.invariant
    (λ xs end h. walked_two (optional x) (each_held (map (option_map expression) xs)) (optional_uses x) (one (each_held (map (option_map uses.expression) xs)) uses.all_held) (λ y ys. y ∷ ys) c.args.around.now c.loop-i.w c.match-list-i.w end step h)

pub in_variables-loop-i-preserved : goal.in_variables-loop-i-preserved
in_variables-loop-i-preserved t c =
    let x = c.index-list-i.result in
    let step : (xs : List (List ℕ × Option Expr)) (end : Walk) → Walked (declared_in xs) (declared_uses xs) c.args.around.now c.match-variable.w end → Walked (declared_in (x ∷ xs)) (declared_uses (x ∷ xs)) c.args.around.now c.loop-i.w end = elim c.match-variable.branch [
      | in_variables-in-Some w ↦ (λ xs end h.
          declared_walked x w.in-Some.e w.in-Some.is xs c.args.around.now c.loop-i.w w.in_variable.new.w end (w.in_variable.ensures x.0)
          (subst (λ v. Walked (declared_in xs) (declared_uses xs) c.args.around.now v end) w.w-is h))
      | in_variables-in_default w ↦ (λ xs end h.
          undeclared_walked x w.in_default.is xs c.args.around.now c.loop-i.w end (subst (λ v. Walked (declared_in xs) (declared_uses xs) c.args.around.now v end) w.w-is h))
    ] in
    completes_more (λ (l : List (List ℕ × Option Expr)). declared_in l) (λ (l : List (List ℕ × Option Expr)). declared_uses l) c.args.around.now (c.loop-i.i + 1) c.loop-i.i c.as_slice-list.result.now x c.args.w.now c.loop-i.w c.match-variable.w (omega arith) c.loop-i-test.true c.index-list-i.is c.loop-i.invariant step
