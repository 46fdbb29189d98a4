use Rattle.std.proofs.Common.{◌≡◌, ℕ, suc, ◌+◌, ◌-◌, ◌≤◌, List, [], ◌∷◌, map, length, Option, None, Some, refl, sym, ap, subst, arith, rules, ◌∙◌}
use Rattle.std.specs.Option.{option_map, option_map_or}
use Rattle.std.proofs.lemmas.List.{drop_all}
use Rattle.njs_tree.specs.declared.tree.Expr.{Expr, the_lemmas}
use Rattle.njs_tree.specs.declared.tree.Stmt.{Stmt}
use Rattle.njs_tree.specs.declared.tree.Case.{Case}
use Rattle.njs_code.specs.declared.op.Kind.TheVariants as kind
use Rattle.njs_meaning.specs.Parts.{leaf, one, two, three, four, with_declaration}
use Rattle.njs_meaning.specs.Meaning.{declared_as}
use Rattle.njs_simul.specs.Emission.{value_size}
use Rattle.njs_simul.specs.EmissionOfStatements as step
use Rattle.njs_simul.specs.Compiled as compiled
use Rattle.njs_simul.specs.Compiled.{expression, statement}
use Rattle.njs_scope.specs.Uses as uses
use Rattle.njs_gen_expr.specs.Trees as code
use Rattle.njs_gen_stmt.specs.Sized.{counted}
use Rattle.njs_gen_stmt.specs.Statements.{WrotePart, WroteLabelled, WroteDefault, Within, InFront, optional, optional_uses, first, first_uses, in_turn, in_turn_uses, cases, cases_uses, caught, caught_uses, last, last_uses, otherwise, otherwise_uses, before_last, before_catch}
use Rattle.njs_gen_stmt.proofs.Nodes.{for_used}
use Rattle.njs_gen_stmt.proofs.Sizes.{test_size, update_size}
use Rattle.njs_gen_stmt.proofs.Optionals.{nothing_written, as_labelled}
use Rattle.njs_gen_stmt.proofs.Lists.{WroteStatements, WroteBodies, from_start, no_statements, statements_more, no_bodies, bodies_more, defaults_more}
use Rattle.njs_gen_stmt.proofs.Jumps.{body_written, body_default}
use Rattle.njs_gen_stmt.proofs.Loops.{while_written, do_written, for_written, for_in_written}
use Rattle.njs_gen_stmt.proofs.Ends.{turn_written, turn_ended, last_written, in_front_of_last, no_last, in_front_of_none, no_catch, in_front_of_no_catch, catching_written, catch_written, in_front_of_catch}
use Rattle.njs_gen_stmt.proofs.Branches.{if_written, switch_written, branches_written, branches_ended, try_written, last_ended, catch_ended, block_written, label_written}
use Rattle.njs_gen_stmt.proofs.statement.+statement.Goals as goal

pub statement-returns-in-Block-clause-written : goal.statement-returns-in-Block-clause-written
unfolding expression statement code.function code.branch code.first code.head uses.expression uses.statement uses.function uses.branch uses.first uses.head
statement-returns-in-Block-clause-written t c ls labelled =
    let i = c.in-Block in
    let coded : statement c.args.s.now ≡ one (in_turn i.list) step.block = search (rules, the_lemmas) in
    let named : uses.statement c.args.s.now ≡ in_turn_uses i.list = search (rules, the_lemmas) in
    as_labelled (statement c.args.s.now) (one (in_turn i.list) step.block) (uses.statement c.args.s.now) (in_turn_uses i.list) ls c.args.here c.args.w.now c.write.new.self coded named
    (block_written (in_turn i.list) (in_turn_uses i.list) c.args.here ls c.args.w.now c.statements.new.w c.write.new.self c.statements.ensures.written c.write.ensures.written)

pub statement-returns-in-Var-clause-written : goal.statement-returns-in-Var-clause-written
unfolding expression statement code.function code.branch code.first code.head uses.expression uses.statement uses.function uses.branch uses.first uses.head
statement-returns-in-Var-clause-written t c ls labelled =
    let i = c.in-Var in
    let coded : statement c.args.s.now ≡ one (compiled.declaring (map (λ v. (v.0, option_map expression v.1)) i.list)) step.statement_of = search (rules, the_lemmas) in
    let named : uses.statement c.args.s.now ≡ uses.declaring (map (λ v. (v.0, option_map uses.expression v.1)) i.list) = search (rules, the_lemmas) in
    as_labelled (statement c.args.s.now) (one (compiled.declaring (map (λ v. (v.0, option_map expression v.1)) i.list)) step.statement_of) (uses.statement c.args.s.now) (uses.declaring (map (λ v. (v.0, option_map uses.expression v.1)) i.list)) ls c.args.here c.args.w.now c.variables.new.w coded named
    (c.variables.ensures.written ls)

pub statement-returns-in-Empty-clause-written : goal.statement-returns-in-Empty-clause-written
unfolding expression statement code.function code.branch code.first code.head uses.expression uses.statement uses.function uses.branch uses.first uses.head
statement-returns-in-Empty-clause-written t c ls labelled =
    let i = c.in-Empty in
    let coded : statement c.args.s.now ≡ leaf step.empty = search (rules, the_lemmas) in
    let named : uses.statement c.args.s.now ≡ leaf uses.none = search (rules, the_lemmas) in
    as_labelled (statement c.args.s.now) (leaf step.empty) (uses.statement c.args.s.now) (leaf uses.none) ls c.args.here c.args.w.now c.empty.new.w coded named
    (c.empty.ensures.written ls)

pub statement-returns-in-Expr-clause-written : goal.statement-returns-in-Expr-clause-written
unfolding expression statement code.function code.branch code.first code.head uses.expression uses.statement uses.function uses.branch uses.first uses.head
statement-returns-in-Expr-clause-written t c ls labelled =
    let i = c.in-Expr in
    let coded : statement c.args.s.now ≡ one (expression i.e) (λ a. step.statement_of (step.evaluate a)) = search (rules, the_lemmas) in
    let named : uses.statement c.args.s.now ≡ uses.expression i.e = search (rules, the_lemmas) in
    as_labelled (statement c.args.s.now) (one (expression i.e) (λ a. step.statement_of (step.evaluate a))) (uses.statement c.args.s.now) (uses.expression i.e) ls c.args.here c.args.w.now c.expression.new.w coded named
    (c.expression.ensures.written ls)

pub statement-returns-in-If-clause-written : goal.statement-returns-in-If-clause-written
unfolding expression statement code.function code.branch code.first code.head uses.expression uses.statement uses.function uses.branch uses.first uses.head
statement-returns-in-If-clause-written t c ls labelled =
    let i = c.in-If in
    let coded : statement c.args.s.now ≡ three (expression i.t) (statement i.then) (otherwise i.other) step.if_else = search (rules, the_lemmas) in
    let named : uses.statement c.args.s.now ≡ three (uses.expression i.t) (uses.statement i.then) (otherwise_uses i.other) (λ a b c. uses.both a (uses.both b c)) = search (rules, the_lemmas) in
    as_labelled (statement c.args.s.now) (three (expression i.t) (statement i.then) (otherwise i.other) step.if_else) (uses.statement c.args.s.now) (three (uses.expression i.t) (uses.statement i.then) (otherwise_uses i.other) (λ a b c. uses.both a (uses.both b c))) ls c.args.here c.args.w.now c.write-in-If-2.new.self coded named
    (if_written (expression i.t) (statement i.then) (otherwise i.other) (uses.expression i.t) (uses.statement i.then) (otherwise_uses i.other) c.args.here ls c.address-past.result c.address-away.result c.args.w.now c.otherwise.new.w c.write-in-If.new.self c.unlabelled.new.w c.test.new.w c.write-in-If-2.new.self
    c.address-past.ensures c.otherwise.ensures.stays c.otherwise.ensures.written c.address-away.ensures c.write-in-If.ensures.written c.write-in-If.ensures.stays
    (subst (λ (x : Stmt). WroteLabelled [] (statement x) (uses.statement x) c.args.here c.write-in-If.new.self c.unlabelled.new.w) c.get.ensures c.unlabelled.ensures.written) c.unlabelled.ensures.stays c.test.ensures.written c.write-in-If-2.ensures.written)

pub statement-returns-in-Do-clause-written : goal.statement-returns-in-Do-clause-written
unfolding expression statement code.function code.branch code.first code.head uses.expression uses.statement uses.function uses.branch uses.first uses.head
statement-returns-in-Do-clause-written t c ls labelled =
    let i = c.in-Do in
    let coded : statement c.args.s.now ≡ two (statement i.body) (expression i.test) step.do_loop = search (rules, the_lemmas) in
    let named : uses.statement c.args.s.now ≡ two (uses.statement i.body) (uses.expression i.test) uses.both = search (rules, the_lemmas) in
    as_labelled (statement c.args.s.now) (two (statement i.body) (expression i.test) step.do_loop) (uses.statement c.args.s.now) (two (uses.statement i.body) (uses.expression i.test) uses.both) ls c.args.here c.args.w.now c.do_loop.new.w coded named
    (subst (λ (x : Stmt). WroteLabelled ls (two (statement x) (expression i.test) step.do_loop) (two (uses.statement x) (uses.expression i.test) uses.both) c.args.here c.args.w.now c.do_loop.new.w) c.get-in-Do.ensures (c.do_loop.ensures.written ls labelled))

pub statement-returns-in-While-clause-written : goal.statement-returns-in-While-clause-written
unfolding expression statement code.function code.branch code.first code.head uses.expression uses.statement uses.function uses.branch uses.first uses.head
statement-returns-in-While-clause-written t c ls labelled =
    let i = c.in-While in
    let coded : statement c.args.s.now ≡ two (expression i.test) (statement i.body) step.while_loop = search (rules, the_lemmas) in
    let named : uses.statement c.args.s.now ≡ two (uses.expression i.test) (uses.statement i.body) uses.both = search (rules, the_lemmas) in
    as_labelled (statement c.args.s.now) (two (expression i.test) (statement i.body) step.while_loop) (uses.statement c.args.s.now) (two (uses.expression i.test) (uses.statement i.body) uses.both) ls c.args.here c.args.w.now c.while_loop.new.w coded named
    (subst (λ (x : Stmt). WroteLabelled ls (two (expression i.test) (statement x) step.while_loop) (two (uses.expression i.test) (uses.statement x) uses.both) c.args.here c.args.w.now c.while_loop.new.w) c.get-in-While.ensures (c.while_loop.ensures.written ls labelled))

pub statement-returns-in-For-clause-written : goal.statement-returns-in-For-clause-written
unfolding expression statement code.function code.branch code.first code.head uses.expression uses.statement uses.function uses.branch uses.first uses.head
statement-returns-in-For-clause-written t c ls labelled =
    let i = c.in-For in
    let coded : statement c.args.s.now ≡ four (first i.first) (optional i.test) (optional i.update) (statement i.body) step.for_loop = search (rules, the_lemmas) in
    let named : uses.statement c.args.s.now ≡ four (first_uses i.first) (optional_uses i.test) (optional_uses i.update) (uses.statement i.body) (λ a b c d. uses.both a (uses.both b (uses.both c d))) = for_used c.args.s.now i.first i.test i.update i.body i.is in
    as_labelled (statement c.args.s.now) (four (first i.first) (optional i.test) (optional i.update) (statement i.body) step.for_loop) (uses.statement c.args.s.now) (four (first_uses i.first) (optional_uses i.test) (optional_uses i.update) (uses.statement i.body) (λ a b c d. uses.both a (uses.both b (uses.both c d)))) ls c.args.here c.args.w.now c.for_loop.new.w coded named
    (subst (λ (x : Stmt). WroteLabelled ls (four (first i.first) (optional i.test) (optional i.update) (statement x) step.for_loop) (four (first_uses i.first) (optional_uses i.test) (optional_uses i.update) (uses.statement x) (λ a b c d. uses.both a (uses.both b (uses.both c d)))) c.args.here c.args.w.now c.for_loop.new.w) c.get-in-For.ensures (c.for_loop.ensures.written ls labelled))

pub statement-returns-in-ForIn-clause-written : goal.statement-returns-in-ForIn-clause-written
unfolding expression statement code.function code.branch code.first code.head uses.expression uses.statement uses.function uses.branch uses.first uses.head
statement-returns-in-ForIn-clause-written t c ls labelled =
    let i = c.in-ForIn in
    let coded : statement c.args.s.now ≡ three (code.head i.head) (expression i.value) (statement i.body) step.for_in = search (rules, the_lemmas) in
    let named : uses.statement c.args.s.now ≡ three (uses.head i.head) (uses.expression i.value) (uses.statement i.body) (λ a b c. uses.both a (uses.both b c)) = search (rules, the_lemmas) in
    as_labelled (statement c.args.s.now) (three (code.head i.head) (expression i.value) (statement i.body) step.for_in) (uses.statement c.args.s.now) (three (uses.head i.head) (uses.expression i.value) (uses.statement i.body) (λ a b c. uses.both a (uses.both b c))) ls c.args.here c.args.w.now c.for_in.new.w coded named
    (subst (λ (x : Stmt). WroteLabelled ls (three (code.head i.head) (expression i.value) (statement x) step.for_in) (three (uses.head i.head) (uses.expression i.value) (uses.statement x) (λ a b c. uses.both a (uses.both b c))) c.args.here c.args.w.now c.for_in.new.w) c.get-in-ForIn.ensures (c.for_in.ensures.written ls labelled))

pub statement-returns-in-Continue-clause-written : goal.statement-returns-in-Continue-clause-written
unfolding expression statement code.function code.branch code.first code.head uses.expression uses.statement uses.function uses.branch uses.first uses.head
statement-returns-in-Continue-clause-written t c ls labelled =
    let i = c.in-Continue in
    let coded : statement c.args.s.now ≡ leaf (step.ends_with (kind.Continue i.label)) = search (rules, the_lemmas) in
    let named : uses.statement c.args.s.now ≡ leaf uses.none = search (rules, the_lemmas) in
    as_labelled (statement c.args.s.now) (leaf (step.ends_with (kind.Continue i.label))) (uses.statement c.args.s.now) (leaf uses.none) ls c.args.here c.args.w.now c.ends.new.w coded named
    (λ at first start n ops front s h. c.ends.ensures.written (kind.Continue i.label) ls (λ g. ap (λ l. kind.Continue l) (c.copy_held-label.ensures.copied g)) at first start n ops front s (c.copy_held-label.ensures.holds _ h))

pub statement-returns-in-Break-clause-written : goal.statement-returns-in-Break-clause-written
unfolding expression statement code.function code.branch code.first code.head uses.expression uses.statement uses.function uses.branch uses.first uses.head
statement-returns-in-Break-clause-written t c ls labelled =
    let i = c.in-Break in
    let coded : statement c.args.s.now ≡ leaf (step.ends_with (kind.Break i.label)) = search (rules, the_lemmas) in
    let named : uses.statement c.args.s.now ≡ leaf uses.none = search (rules, the_lemmas) in
    as_labelled (statement c.args.s.now) (leaf (step.ends_with (kind.Break i.label))) (uses.statement c.args.s.now) (leaf uses.none) ls c.args.here c.args.w.now c.ends-in-Break.new.w coded named
    (λ at first start n ops front s h. c.ends-in-Break.ensures.written (kind.Break i.label) ls (λ g. ap (λ l. kind.Break l) (c.copy_held-label-in-Break.ensures.copied g)) at first start n ops front s (c.copy_held-label-in-Break.ensures.holds _ h))

pub statement-returns-in-Return-clause-written : goal.statement-returns-in-Return-clause-written
unfolding expression statement code.function code.branch code.first code.head uses.expression uses.statement uses.function uses.branch uses.first uses.head
statement-returns-in-Return-clause-written t c ls labelled =
    let i = c.in-Return in
    let coded : statement c.args.s.now ≡ one (optional i.value) step.return = search (rules, the_lemmas) in
    let named : uses.statement c.args.s.now ≡ optional_uses i.value = search (rules, the_lemmas) in
    as_labelled (statement c.args.s.now) (one (optional i.value) step.return) (uses.statement c.args.s.now) (optional_uses i.value) ls c.args.here c.args.w.now c.returns.new.w coded named
    (c.returns.ensures.written ls)

pub statement-returns-in-Throw-clause-written : goal.statement-returns-in-Throw-clause-written
unfolding expression statement code.function code.branch code.first code.head uses.expression uses.statement uses.function uses.branch uses.first uses.head
statement-returns-in-Throw-clause-written t c ls labelled =
    let i = c.in-Throw in
    let coded : statement c.args.s.now ≡ one (expression i.value) step.throw_value = search (rules, the_lemmas) in
    let named : uses.statement c.args.s.now ≡ uses.expression i.value = search (rules, the_lemmas) in
    as_labelled (statement c.args.s.now) (one (expression i.value) step.throw_value) (uses.statement c.args.s.now) (uses.expression i.value) ls c.args.here c.args.w.now c.throws.new.w coded named
    (c.throws.ensures.written ls)

pub statement-returns-in-Switch-clause-written : goal.statement-returns-in-Switch-clause-written
unfolding expression statement code.function code.branch code.first code.head uses.expression uses.statement uses.function uses.branch uses.first uses.head
statement-returns-in-Switch-clause-written t c ls labelled =
    let i = c.in-Switch in
    let coded : statement c.args.s.now ≡ two (expression i.v) (cases i.cases) step.switch = search (rules, the_lemmas) in
    let named : uses.statement c.args.s.now ≡ two (uses.expression i.v) (cases_uses i.cases) uses.both = search (rules, the_lemmas) in
    as_labelled (statement c.args.s.now) (two (expression i.v) (cases i.cases) step.switch) (uses.statement c.args.s.now) (two (uses.expression i.v) (cases_uses i.cases) uses.both) ls c.args.here c.args.w.now c.write-in-Switch.new.self coded named
    (switch_written (expression i.v) (cases i.cases) (uses.expression i.v) (cases_uses i.cases) c.args.here ls c.args.w.now c.switch_branches.new.w c.value.new.w c.write-in-Switch.new.self c.switch_branches.ensures.written c.value.ensures.written c.write-in-Switch.ensures.written)

pub statement-returns-in-Label-clause-written : goal.statement-returns-in-Label-clause-written
unfolding expression statement code.function code.branch code.first code.head uses.expression uses.statement uses.function uses.branch uses.first uses.head
statement-returns-in-Label-clause-written t c ls labelled =
    let i = c.in-Label in
    let coded : statement c.args.s.now ≡ one (statement i.body) (step.labelled i.label) = search (rules, the_lemmas) in
    let named : uses.statement c.args.s.now ≡ uses.statement i.body = search (rules, the_lemmas) in
    as_labelled (statement c.args.s.now) (one (statement i.body) (step.labelled i.label)) (uses.statement c.args.s.now) (uses.statement i.body) ls c.args.here c.args.w.now c.write-in-Label.new.self coded named
    (label_written (statement i.body) (uses.statement i.body) c.args.here i.label ls c.args.w.now c.with_label-further.new.w c.statement.new.w c.write-in-Label.new.self c.with_label-further.ensures.holds
    (subst (λ (x : Stmt). WroteLabelled (i.label ∷ ls) (statement x) (uses.statement x) c.args.here c.with_label-further.new.w c.statement.new.w) c.get-in-Label.ensures
    (c.statement.ensures.written (i.label ∷ ls) (λ g. c.with_label-further.ensures.given g ∙ ap (λ more. i.label ∷ more) (labelled (c.with_label-further.ensures.stays g))))) c.write-in-Label.ensures.written)

pub statement-returns-clause-written : goal.statement-returns-clause-written
unfolding expression statement code.function code.branch code.first code.head uses.expression uses.statement uses.function uses.branch uses.first uses.head
statement-returns-clause-written t c ls labelled =
    let i = c.in-FunctionDecl in
    let coded : statement c.args.s.now ≡ with_declaration (code.function i.f) declared_as compiled.declaration = search (rules, the_lemmas) in
    let named : uses.statement c.args.s.now ≡ with_declaration (uses.function i.f) (λ own. declared_as own.made) uses.declared_function = search (rules, the_lemmas) in
    as_labelled (statement c.args.s.now) (with_declaration (code.function i.f) declared_as compiled.declaration) (uses.statement c.args.s.now) (with_declaration (uses.function i.f) (λ own. declared_as own.made) uses.declared_function) ls c.args.here c.args.w.now c.declaration.new.w coded named
    (c.declaration.ensures.written ls)

pub unlabelled-returns-clause-written : goal.unlabelled-returns-clause-written
unlabelled-returns-clause-written t c = c.statement.ensures.written [] (λ g. c.new-none.ensures)

pub statements-returns-clause-written : goal.statements-returns-clause-written
statements-returns-clause-written t c =
    let all = from_start c.loop-i.i c.as_slice-list.result.now c.args.list.now (omega arith) c.as_slice-list.ensures in
    subst (λ (list : List Stmt). WroteStatements list c.args.here c.args.w.now c.loop-i.w) all c.loop-i.invariant.1

pub statements-loop-i-preserved : goal.statements-loop-i-preserved
statements-loop-i-preserved t c = (
  λ g. c.loop-i.invariant.0 (c.unlabelled.ensures.stays g),
  statements_more (c.loop-i.i - 1) c.loop-i.i c.as_slice-list.result.now c.index-list-i.result c.args.here c.args.w.now c.loop-i.w c.unlabelled.new.w (omega arith) (omega arith) c.index-list-i.is c.loop-i.invariant.1 c.unlabelled.ensures.written,
)

pub statements-loop-i-init : goal.statements-loop-i-init
statements-loop-i-init t c =
    let all : length c.as_slice-list.result.now ≤ length c.as_slice-list.result.now = omega arith in
    (λ g. g, subst (λ (l : List Stmt). WroteStatements l c.args.here c.args.w.now c.args.w.now) (sym (drop_all (length c.as_slice-list.result.now) c.as_slice-list.result.now all)) (no_statements c.args.here c.args.w.now))

pub otherwise-returns-in-None-clause-written : goal.otherwise-returns-in-None-clause-written
otherwise-returns-in-None-clause-written t c =
    subst (λ (o : Option Stmt). WrotePart (one (otherwise o) step.optional) (otherwise_uses o) c.args.here c.args.w.now c.args.w.now) (sym c.in-None.is)
    (λ at first start n ops front s h. nothing_written c.args.w.now ops n front first h)

pub otherwise-returns-in-Some-clause-written : goal.otherwise-returns-in-Some-clause-written
otherwise-returns-in-Some-clause-written t c =
    subst (λ (o : Option Stmt). WrotePart (one (otherwise o) step.optional) (otherwise_uses o) c.args.here c.args.w.now c.unlabelled.new.w) (sym c.in-Some.is)
    (subst (λ (x : Stmt). WroteLabelled [] (statement x) (uses.statement x) c.args.here c.args.w.now c.unlabelled.new.w) c.get.ensures c.unlabelled.ensures.written)

pub turn-returns-clause-written : goal.turn-returns-clause-written
turn-returns-clause-written t c ls p labelled is =
    turn_written (code.statement c.args.body.now) (uses.statement c.args.body.now) c.args.here c.args.labels ls c.args.past p c.in-Some.inner c.args.w.now c.write.new.self c.unlabelled.new.w labelled is c.write.ensures.written
    (subst (λ r. Within c.write.new.self c.args.here r) c.in-Some.is c.ended.ensures) c.unlabelled.ensures.written

pub turn-returns-in_default-clause-written : goal.turn-returns-in_default-clause-written
turn-returns-in_default-clause-written t c ls p labelled is =
    turn_ended (code.statement c.args.body.now) (uses.statement c.args.body.now) c.args.here c.args.labels ls c.args.past p c.args.w.now c.write.new.self labelled is c.write.ensures.written
    (subst (λ r. Within c.write.new.self c.args.here r) c.in_default.is c.ended.ensures)

pub do_loop-returns-clause-written : goal.do_loop-returns-clause-written
do_loop-returns-clause-written t c ls labelled =
    let A = code.expression c.args.t.now in
    let B = code.statement c.args.body.now in
    let sized : (first : ℕ) → c.statement.result ≡ counted (0 + ((B.means first).size + suc (suc (value_size (A.means (first + B.size)))))) = λ first. omega (arith, c.statement.ensures first, c.value.ensures (first + B.size)) in
    do_written A B (uses.expression c.args.t.now) (uses.statement c.args.body.now) c.args.here ls c.args.labels c.address-past.result c.head-top.result c.statement.result
    c.args.w.now c.head-top.new.w c.write.new.self c.test.new.w c.turn.new.w c.write-2.new.self c.write-3.new.self labelled c.address-past.ensures c.head-top.ensures.stays c.head-top.ensures.holds c.head-top.ensures.given sized
    c.write.ensures.written c.write.ensures.stays c.test.ensures.written c.test.ensures.stays c.turn.ensures.written c.write-2.ensures.written c.write-3.ensures.written

pub while_loop-returns-clause-written : goal.while_loop-returns-clause-written
while_loop-returns-clause-written t c ls labelled =
    let A = code.expression c.args.t.now in
    let B = code.statement c.args.body.now in
    let sized : (first : ℕ) → c.statement.result ≡ counted (suc (value_size (A.means first)) + ((B.means (first + A.size)).size + 1)) = λ first. omega (arith, c.statement.ensures (first + A.size), c.value.ensures first) in
    while_written A B (uses.expression c.args.t.now) (uses.statement c.args.body.now) c.args.here ls c.args.labels c.address-past.result c.head-top.result c.statement.result
    c.args.w.now c.head-top.new.w c.write.new.self c.turn.new.w c.test.new.w c.write-2.new.self c.write-3.new.self labelled c.address-past.ensures c.head-top.ensures.stays c.head-top.ensures.holds c.head-top.ensures.given sized
    c.write.ensures.written c.write.ensures.stays c.turn.ensures.written c.turn.ensures.stays c.test.ensures.written c.write-2.ensures.written c.write-3.ensures.written

pub for_loop-returns-clause-written : goal.for_loop-returns-clause-written
for_loop-returns-clause-written t c ls labelled =
    let F = first c.args.part.now in
    let T = optional c.args.t.now in
    let P = optional c.args.update.now in
    let B = code.statement c.args.body.now in
    let sized : (start : ℕ) → c.statement.result ≡ counted ((step.tests_if_any (T.means (start + F.size))).size + ((B.means (start + ((F.size + T.size) + P.size))).size + suc (step.does_if_any (P.means (start + (F.size + T.size)))).size)) =
    λ start. omega (arith, c.statement.ensures (start + ((F.size + T.size) + P.size)), c.aside.ensures (start + F.size), c.aside-2.ensures (start + (F.size + T.size)), test_size (T.means (start + F.size)), update_size (P.means (start + (F.size + T.size)))) in
    for_written F T P B (first_uses c.args.part.now) (optional_uses c.args.t.now) (optional_uses c.args.update.now) (uses.statement c.args.body.now) c.args.here ls c.args.labels c.mark-end.result c.mark-middle.result c.address-past.result c.head-top.result c.statement.result
    c.args.w.now c.head-top.new.w c.write.new.self c.pass_statement.new.w c.update_if_any.new.w c.go_to.new.self c.turn.new.w c.go_to-2.new.self c.test_if_any.new.w c.write-2.new.self c.first_if_any.new.w c.write-3.new.self labelled
    c.mark-end.ensures c.address-past.ensures c.head-top.ensures.stays c.head-top.ensures.holds c.head-top.ensures.given sized c.write.ensures.written c.write.ensures.stays c.pass_statement.ensures.passed c.pass_statement.ensures.stays
    c.update_if_any.ensures.written c.update_if_any.ensures.stays c.mark-middle.ensures c.go_to.ensures.moved c.go_to.ensures.stays c.turn.ensures.written c.turn.ensures.stays c.go_to-2.ensures.moved c.go_to-2.ensures.stays
    c.test_if_any.ensures.written c.write-2.ensures.written c.first_if_any.ensures.written c.write-3.ensures.written

pub for_in-returns-clause-written : goal.for_in-returns-clause-written
for_in-returns-clause-written t c ls labelled =
    let H = code.head c.args.part.now in
    let X = code.expression c.args.v.now in
    let B = code.statement c.args.body.now in
    let sized : (first : ℕ) → c.statement.result ≡ counted ((H.means first).size + (3 + ((B.means (first + (H.size + X.size))).size + 2))) = λ first. omega (arith, c.statement.ensures (first + (H.size + X.size)), c.head.ensures first) in
    for_in_written H X B (uses.head c.args.part.now) (uses.expression c.args.v.now) (uses.statement c.args.body.now) c.args.here ls c.args.labels c.listing-inner.result c.deeper.result c.mark-behind.result c.mark-front.result c.address-past.result c.head-top.result c.statement.result
    c.args.w.now c.write.new.self c.head-top.new.w c.write-2.new.self c.write-3.new.self c.turn.new.w c.pass_expression.new.w c.next_name.new.w c.write-4.new.self c.write-5.new.self c.write-6.new.self c.go_to.new.self c.value.new.w c.go_to-2.new.self c.write-7.new.self labelled
    c.listing-inner.ensures c.deeper.ensures c.write.ensures.written c.write.ensures.stays c.address-past.ensures c.head-top.ensures.stays c.head-top.ensures.holds c.head-top.ensures.given sized
    c.write-2.ensures.written c.write-2.ensures.stays c.write-3.ensures.written c.write-3.ensures.stays c.turn.ensures.written c.turn.ensures.stays c.mark-behind.ensures c.pass_expression.ensures.passed c.pass_expression.ensures.stays
    c.next_name.ensures.written c.next_name.ensures.stays c.mark-front.ensures c.write-4.ensures.written c.write-4.ensures.stays c.write-5.ensures.written c.write-5.ensures.stays c.write-6.ensures.written c.write-6.ensures.stays
    c.go_to.ensures.moved c.go_to.ensures.stays c.value.ensures.written c.value.ensures.stays c.go_to-2.ensures.moved c.write-7.ensures.written

pub bodies-returns-clause-written : goal.bodies-returns-clause-written
bodies-returns-clause-written t c =
    let all = from_start c.loop-i.i c.as_slice-list.result.now c.args.list.now (omega arith) c.as_slice-list.ensures in
    subst (λ (list : List Case). WroteBodies list c.args.here c.args.w.now c.loop-i.w) all c.loop-i.invariant.1

pub bodies-returns-clause-default : goal.bodies-returns-clause-default
bodies-returns-clause-default t c =
    let all = from_start c.loop-i.i c.as_slice-list.result.now c.args.list.now (omega arith) c.as_slice-list.ensures in
    subst (λ (list : List Case). WroteDefault (cases list) (cases_uses list) c.args.here c.args.w.now c.loop-i.w c.loop-i.default) all c.loop-i.invariant.2

pub bodies-loop-i-preserved : goal.bodies-loop-i-preserved
bodies-loop-i-preserved t c = (
  λ g. c.loop-i.invariant.0 (c.branch_body-default.ensures.stays g),
  bodies_more (c.loop-i.i - 1) c.loop-i.i c.as_slice-list.result.now c.index-list-i.result c.args.here c.args.w.now c.loop-i.w c.branch_body-default.new.w (omega arith) (omega arith) c.index-list-i.is c.loop-i.invariant.1 c.branch_body-default.ensures.written,
  defaults_more (c.loop-i.i - 1) c.loop-i.i c.as_slice-list.result.now c.index-list-i.result c.args.here c.args.w.now c.loop-i.w c.branch_body-default.new.w c.loop-i.default c.branch_body-default.result (omega arith) (omega arith) c.index-list-i.is c.branch_body-default.ensures.stays c.loop-i.invariant.1 c.loop-i.invariant.2 c.branch_body-default.ensures.default,
)

pub bodies-loop-i-init : goal.bodies-loop-i-init
bodies-loop-i-init t c =
    let all : length c.as_slice-list.result.now ≤ length c.as_slice-list.result.now = omega arith in
    let none = sym (drop_all (length c.as_slice-list.result.now) c.as_slice-list.result.now all) in (
      λ g. g,
      subst (λ (l : List Case). WroteBodies l c.args.here c.args.w.now c.args.w.now) none (no_bodies c.args.here c.args.w.now),
      subst (λ (l : List Case). WroteDefault (cases l) (cases_uses l) c.args.here c.args.w.now c.args.w.now c.address-default.result) none
          (λ at first start n ops front s g h. c.address-default.ensures _ g h),
    )

pub branch_body-returns-in-None-clause-written : goal.branch_body-returns-in-None-clause-written
branch_body-returns-in-None-clause-written t c =
    body_written c.args.case.now c.args.here c.args.w.now c.statements.new.w c.pass_test.new.w c.statements.ensures.written c.pass_test.ensures.passed

pub branch_body-returns-in-None-clause-default : goal.branch_body-returns-in-None-clause-default
branch_body-returns-in-None-clause-default t c =
    body_default c.args.case.now c.args.here c.args.w.now c.statements.new.w c.pass_test.new.w c.address-begin.result c.args.default c.address-begin.result c.statements.ensures.written c.address-begin.ensures c.pass_test.ensures.stays
    (subst (λ (o : Option Expr). c.address-begin.result ≡ option_map_or (λ test. c.args.default) o c.address-begin.result) (sym c.in-None.is) refl)

pub branch_body-returns-in-Some-clause-written : goal.branch_body-returns-in-Some-clause-written
branch_body-returns-in-Some-clause-written t c =
    body_written c.args.case.now c.args.here c.args.w.now c.statements.new.w c.pass_test.new.w c.statements.ensures.written c.pass_test.ensures.passed

pub branch_body-returns-in-Some-clause-default : goal.branch_body-returns-in-Some-clause-default
branch_body-returns-in-Some-clause-default t c =
    body_default c.args.case.now c.args.here c.args.w.now c.statements.new.w c.pass_test.new.w c.address-begin.result c.args.default c.args.default c.statements.ensures.written c.address-begin.ensures c.pass_test.ensures.stays
    (subst (λ (o : Option Expr). c.args.default ≡ option_map_or (λ test. c.args.default) o c.address-begin.result) (sym c.in-Some.is) refl)

pub switch_branches-returns-clause-written : goal.switch_branches-returns-clause-written
switch_branches-returns-clause-written t c =
    branches_written (cases c.args.list.now) (cases_uses c.args.list.now) c.args.here c.in-Some.inner c.deeper.result c.mark-behind.result c.address-end.result c.bodies-default.result
    c.args.w.now c.write.new.self c.bodies-default.new.w c.write-2.new.self c.write-3.new.self c.go_to.new.self c.jumps.new.w c.mark-behind.ensures c.write.ensures.written c.write.ensures.stays
    (subst (λ r. Within c.write.new.self c.args.here r) c.in-Some.is c.ended.ensures) c.address-end.ensures c.bodies-default.ensures.written c.bodies-default.ensures.default c.bodies-default.ensures.stays
    c.write-2.ensures.written c.write-2.ensures.stays c.write-3.ensures.written c.deeper.ensures c.write-3.ensures.stays c.go_to.ensures.moved c.go_to.ensures.stays c.jumps.ensures.written

pub switch_branches-returns-in_default-clause-written : goal.switch_branches-returns-in_default-clause-written
switch_branches-returns-in_default-clause-written t c =
    branches_ended (cases c.args.list.now) (cases_uses c.args.list.now) c.args.here c.args.w.now c.write.new.self c.write.ensures.written (subst (λ r. Within c.write.new.self c.args.here r) c.in_default.is c.ended.ensures)

pub last_block-returns-clause-written : goal.last_block-returns-clause-written
last_block-returns-clause-written t c = last_written c.args.list.now c.args.here c.waiting.result c.waiting-2.result c.args.w.now c.write.new.self c.statements.new.w c.write-2.new.self c.waiting.ensures c.waiting-2.ensures c.write.ensures.written c.statements.ensures.written c.write-2.ensures.written

pub last_block-returns-clause-inside : goal.last_block-returns-clause-inside
last_block-returns-clause-inside t c =
    in_front_of_last c.args.list.now c.args.here c.args.w.now c.write-2.new.self c.ended.result (last_written c.args.list.now c.args.here c.waiting.result c.waiting-2.result c.args.w.now c.write.new.self c.statements.new.w c.write-2.new.self c.waiting.ensures c.waiting-2.ensures c.write.ensures.written c.statements.ensures.written c.write-2.ensures.written) c.ended.ensures

pub catch_block-returns-clause-written : goal.catch_block-returns-clause-written
catch_block-returns-clause-written t c =
    catch_written c.args.name.now c.args.handler.now c.args.here c.in_catch-within.result c.deeper.result c.address-past.result c.args.w.now c.write-3.new.self c.write-4.new.self c.address-past.ensures (λ g. c.write.ensures.stays (c.statements.ensures.stays (c.copy-name.ensures.stays (c.write-2.ensures.stays (c.write-3.ensures.stays g)))))
    (catching_written c.args.name.now c.args.handler.now c.args.here c.in_catch-within.result c.deeper.result c.copy-name.result c.args.w.now c.write.new.self c.statements.new.w c.copy-name.new.self c.write-2.new.self c.write-3.new.self
    (c.in_catch-within.ensures c.args.name.now) c.deeper.ensures c.write.ensures.written c.statements.ensures.written c.copy-name.ensures.holds c.copy-name.ensures.copied c.write-2.ensures.written c.write-3.ensures.written) c.write-4.ensures.written

pub catch_block-returns-clause-inside : goal.catch_block-returns-clause-inside
catch_block-returns-clause-inside t c =
    in_front_of_catch c.args.name.now c.args.handler.now c.args.here c.in_catch-within.result c.deeper.result c.args.w.now c.write-3.new.self c.write-4.new.self c.ended-inner.result c.write-4.ensures.stays
    (catching_written c.args.name.now c.args.handler.now c.args.here c.in_catch-within.result c.deeper.result c.copy-name.result c.args.w.now c.write.new.self c.statements.new.w c.copy-name.new.self c.write-2.new.self c.write-3.new.self
    (c.in_catch-within.ensures c.args.name.now) c.deeper.ensures c.write.ensures.written c.statements.ensures.written c.copy-name.ensures.holds c.copy-name.ensures.copied c.write-2.ensures.written c.write-3.ensures.written) c.ended-inner.ensures

pub statement-returns-in-None-caught-clause-written : goal.statement-returns-in-None-caught-clause-written
unfolding expression statement code.function code.branch code.first code.head uses.expression uses.statement uses.function uses.branch uses.first uses.head
statement-returns-in-None-caught-clause-written t c ls labelled =
    let i = c.in-Try in
    let coded : statement c.args.s.now ≡ three (in_turn i.body) (caught i.caught) (last i.finally) step.try_catch = search (rules, the_lemmas) in
    let named : uses.statement c.args.s.now ≡ three (in_turn_uses i.body) (caught_uses i.caught) (last_uses i.finally) (λ a b c. uses.both a (uses.both b c)) = search (rules, the_lemmas) in
    as_labelled (statement c.args.s.now) (three (in_turn i.body) (caught i.caught) (last i.finally) step.try_catch) (uses.statement c.args.s.now) (three (in_turn_uses i.body) (caught_uses i.caught) (last_uses i.finally) (λ a b c. uses.both a (uses.both b c))) ls c.args.here c.args.w.now c.write-in-None-caught.new.self coded named
    (subst (λ (y : Option (List Stmt)). WroteLabelled ls (three (in_turn i.body) (caught i.caught) (last y) step.try_catch) (three (in_turn_uses i.body) (caught_uses i.caught) (last_uses y) (λ a b c. uses.both a (uses.both b c))) c.args.here c.args.w.now c.write-in-None-caught.new.self) (sym c.in-None.is) (subst (λ (x : Option (List ℕ × List Stmt)). WroteLabelled ls (three (in_turn i.body) (caught x) (last None) step.try_catch) (three (in_turn_uses i.body) (caught_uses x) (last_uses None) (λ a b c. uses.both a (uses.both b c))) c.args.here c.args.w.now c.write-in-None-caught.new.self) (sym c.in-None-caught.is) (try_written (in_turn i.body) (caught None) (last None) (in_turn_uses i.body) (caught_uses None) (last_uses None) c.args.here ls c.args.here c.args.here c.args.w.now c.args.w.now c.args.w.now c.statements-in-None-caught.new.w c.write-in-None-caught.new.self (no_last c.args.here c.args.w.now) (in_front_of_none c.args.here c.args.w.now) (no_catch c.args.here c.args.w.now) (in_front_of_no_catch c.args.here c.args.w.now) c.statements-in-None-caught.ensures.written c.write-in-None-caught.ensures.written)))

pub statement-returns-in-None-clause-written : goal.statement-returns-in-None-clause-written
unfolding expression statement code.function code.branch code.first code.head uses.expression uses.statement uses.function uses.branch uses.first uses.head
statement-returns-in-None-clause-written t c ls labelled =
    let i = c.in-Try in
    let coded : statement c.args.s.now ≡ three (in_turn i.body) (caught i.caught) (last i.finally) step.try_catch = search (rules, the_lemmas) in
    let named : uses.statement c.args.s.now ≡ three (in_turn_uses i.body) (caught_uses i.caught) (last_uses i.finally) (λ a b c. uses.both a (uses.both b c)) = search (rules, the_lemmas) in
    as_labelled (statement c.args.s.now) (three (in_turn i.body) (caught i.caught) (last i.finally) step.try_catch) (uses.statement c.args.s.now) (three (in_turn_uses i.body) (caught_uses i.caught) (last_uses i.finally) (λ a b c. uses.both a (uses.both b c))) ls c.args.here c.args.w.now c.write-in-Some-caught.new.self coded named
    (subst (λ (y : Option (List Stmt)). WroteLabelled ls (three (in_turn i.body) (caught i.caught) (last y) step.try_catch) (three (in_turn_uses i.body) (caught_uses i.caught) (last_uses y) (λ a b c. uses.both a (uses.both b c))) c.args.here c.args.w.now c.write-in-Some-caught.new.self) (sym c.in-None.is) (subst (λ (x : Option (List ℕ × List Stmt)). WroteLabelled ls (three (in_turn i.body) (caught x) (last None) step.try_catch) (three (in_turn_uses i.body) (caught_uses x) (last_uses None) (λ a b c. uses.both a (uses.both b c))) c.args.here c.args.w.now c.write-in-Some-caught.new.self) (sym c.in-Some-caught.is) (try_written (in_turn i.body) (caught (Some (c.in-Some-caught.name, c.in-Some-caught.handler))) (last None) (in_turn_uses i.body) (caught_uses (Some (c.in-Some-caught.name, c.in-Some-caught.handler))) (last_uses None) c.args.here ls c.args.here c.in-Some-catch_block.inner c.args.w.now c.args.w.now c.catch_block.new.w c.statements-in-Some-caught.new.w c.write-in-Some-caught.new.self (no_last c.args.here c.args.w.now) (in_front_of_none c.args.here c.args.w.now) c.catch_block.ensures.written (subst (λ r. InFront before_catch (caught (Some (c.in-Some-caught.name, c.in-Some-caught.handler))) (caught_uses (Some (c.in-Some-caught.name, c.in-Some-caught.handler))) c.args.here c.args.w.now c.catch_block.new.w r) c.in-Some-catch_block.is c.catch_block.ensures.inside) c.statements-in-Some-caught.ensures.written c.write-in-Some-caught.ensures.written)))

pub statement-returns-in_default-clause-written : goal.statement-returns-in_default-clause-written
unfolding expression statement code.function code.branch code.first code.head uses.expression uses.statement uses.function uses.branch uses.first uses.head
statement-returns-in_default-clause-written t c ls labelled =
    let i = c.in-Try in
    let coded : statement c.args.s.now ≡ three (in_turn i.body) (caught i.caught) (last i.finally) step.try_catch = search (rules, the_lemmas) in
    let named : uses.statement c.args.s.now ≡ three (in_turn_uses i.body) (caught_uses i.caught) (last_uses i.finally) (λ a b c. uses.both a (uses.both b c)) = search (rules, the_lemmas) in
    as_labelled (statement c.args.s.now) (three (in_turn i.body) (caught i.caught) (last i.finally) step.try_catch) (uses.statement c.args.s.now) (three (in_turn_uses i.body) (caught_uses i.caught) (last_uses i.finally) (λ a b c. uses.both a (uses.both b c))) ls c.args.here c.args.w.now c.catch_block.new.w coded named
    (subst (λ (y : Option (List Stmt)). WroteLabelled ls (three (in_turn i.body) (caught i.caught) (last y) step.try_catch) (three (in_turn_uses i.body) (caught_uses i.caught) (last_uses y) (λ a b c. uses.both a (uses.both b c))) c.args.here c.args.w.now c.catch_block.new.w) (sym c.in-None.is) (subst (λ (x : Option (List ℕ × List Stmt)). WroteLabelled ls (three (in_turn i.body) (caught x) (last None) step.try_catch) (three (in_turn_uses i.body) (caught_uses x) (last_uses None) (λ a b c. uses.both a (uses.both b c))) c.args.here c.args.w.now c.catch_block.new.w) (sym c.in-Some-caught.is) (catch_ended (in_turn i.body) (caught (Some (c.in-Some-caught.name, c.in-Some-caught.handler))) (last None) (in_turn_uses i.body) (caught_uses (Some (c.in-Some-caught.name, c.in-Some-caught.handler))) (last_uses None) c.args.here ls c.args.here c.args.w.now c.args.w.now c.catch_block.new.w (no_last c.args.here c.args.w.now) (in_front_of_none c.args.here c.args.w.now) c.catch_block.ensures.written (subst (λ r. InFront before_catch (caught (Some (c.in-Some-caught.name, c.in-Some-caught.handler))) (caught_uses (Some (c.in-Some-caught.name, c.in-Some-caught.handler))) c.args.here c.args.w.now c.catch_block.new.w r) c.in_default.is c.catch_block.ensures.inside))))

pub statement-returns-in_default-last_block-clause-written : goal.statement-returns-in_default-last_block-clause-written
unfolding expression statement code.function code.branch code.first code.head uses.expression uses.statement uses.function uses.branch uses.first uses.head
statement-returns-in_default-last_block-clause-written t c ls labelled =
    let i = c.in-Try in
    let coded : statement c.args.s.now ≡ three (in_turn i.body) (caught i.caught) (last i.finally) step.try_catch = search (rules, the_lemmas) in
    let named : uses.statement c.args.s.now ≡ three (in_turn_uses i.body) (caught_uses i.caught) (last_uses i.finally) (λ a b c. uses.both a (uses.both b c)) = search (rules, the_lemmas) in
    as_labelled (statement c.args.s.now) (three (in_turn i.body) (caught i.caught) (last i.finally) step.try_catch) (uses.statement c.args.s.now) (three (in_turn_uses i.body) (caught_uses i.caught) (last_uses i.finally) (λ a b c. uses.both a (uses.both b c))) ls c.args.here c.args.w.now c.last_block.new.w coded named
    (subst (λ (y : Option (List Stmt)). WroteLabelled ls (three (in_turn i.body) (caught i.caught) (last y) step.try_catch) (three (in_turn_uses i.body) (caught_uses i.caught) (last_uses y) (λ a b c. uses.both a (uses.both b c))) c.args.here c.args.w.now c.last_block.new.w) (sym c.in-Some.is) (last_ended (in_turn i.body) (caught i.caught) (last (Some c.in-Some.list)) (in_turn_uses i.body) (caught_uses i.caught) (last_uses (Some c.in-Some.list)) c.args.here ls c.args.w.now c.last_block.new.w c.last_block.ensures.written (subst (λ r. InFront before_last (last (Some c.in-Some.list)) (last_uses (Some c.in-Some.list)) c.args.here c.args.w.now c.last_block.new.w r) c.in_default-last_block.is c.last_block.ensures.inside)))

pub statement-returns-in-None-caught-2-clause-written : goal.statement-returns-in-None-caught-2-clause-written
unfolding expression statement code.function code.branch code.first code.head uses.expression uses.statement uses.function uses.branch uses.first uses.head
statement-returns-in-None-caught-2-clause-written t c ls labelled =
    let i = c.in-Try in
    let coded : statement c.args.s.now ≡ three (in_turn i.body) (caught i.caught) (last i.finally) step.try_catch = search (rules, the_lemmas) in
    let named : uses.statement c.args.s.now ≡ three (in_turn_uses i.body) (caught_uses i.caught) (last_uses i.finally) (λ a b c. uses.both a (uses.both b c)) = search (rules, the_lemmas) in
    as_labelled (statement c.args.s.now) (three (in_turn i.body) (caught i.caught) (last i.finally) step.try_catch) (uses.statement c.args.s.now) (three (in_turn_uses i.body) (caught_uses i.caught) (last_uses i.finally) (λ a b c. uses.both a (uses.both b c))) ls c.args.here c.args.w.now c.write-in-None-caught-2.new.self coded named
    (subst (λ (y : Option (List Stmt)). WroteLabelled ls (three (in_turn i.body) (caught i.caught) (last y) step.try_catch) (three (in_turn_uses i.body) (caught_uses i.caught) (last_uses y) (λ a b c. uses.both a (uses.both b c))) c.args.here c.args.w.now c.write-in-None-caught-2.new.self) (sym c.in-Some.is) (subst (λ (x : Option (List ℕ × List Stmt)). WroteLabelled ls (three (in_turn i.body) (caught x) (last (Some c.in-Some.list)) step.try_catch) (three (in_turn_uses i.body) (caught_uses x) (last_uses (Some c.in-Some.list)) (λ a b c. uses.both a (uses.both b c))) c.args.here c.args.w.now c.write-in-None-caught-2.new.self) (sym c.in-None-caught-2.is) (try_written (in_turn i.body) (caught None) (last (Some c.in-Some.list)) (in_turn_uses i.body) (caught_uses None) (last_uses (Some c.in-Some.list)) c.args.here ls c.in-Some-last_block.outer c.in-Some-last_block.outer c.args.w.now c.last_block.new.w c.last_block.new.w c.statements-in-None-caught-2.new.w c.write-in-None-caught-2.new.self c.last_block.ensures.written (subst (λ r. InFront before_last (last (Some c.in-Some.list)) (last_uses (Some c.in-Some.list)) c.args.here c.args.w.now c.last_block.new.w r) c.in-Some-last_block.is c.last_block.ensures.inside) (no_catch c.in-Some-last_block.outer c.last_block.new.w) (in_front_of_no_catch c.in-Some-last_block.outer c.last_block.new.w) c.statements-in-None-caught-2.ensures.written c.write-in-None-caught-2.ensures.written)))

pub statement-returns-in-Try-clause-written : goal.statement-returns-in-Try-clause-written
unfolding expression statement code.function code.branch code.first code.head uses.expression uses.statement uses.function uses.branch uses.first uses.head
statement-returns-in-Try-clause-written t c ls labelled =
    let i = c.in-Try in
    let coded : statement c.args.s.now ≡ three (in_turn i.body) (caught i.caught) (last i.finally) step.try_catch = search (rules, the_lemmas) in
    let named : uses.statement c.args.s.now ≡ three (in_turn_uses i.body) (caught_uses i.caught) (last_uses i.finally) (λ a b c. uses.both a (uses.both b c)) = search (rules, the_lemmas) in
    as_labelled (statement c.args.s.now) (three (in_turn i.body) (caught i.caught) (last i.finally) step.try_catch) (uses.statement c.args.s.now) (three (in_turn_uses i.body) (caught_uses i.caught) (last_uses i.finally) (λ a b c. uses.both a (uses.both b c))) ls c.args.here c.args.w.now c.write-in-Some-caught-2.new.self coded named
    (subst (λ (y : Option (List Stmt)). WroteLabelled ls (three (in_turn i.body) (caught i.caught) (last y) step.try_catch) (three (in_turn_uses i.body) (caught_uses i.caught) (last_uses y) (λ a b c. uses.both a (uses.both b c))) c.args.here c.args.w.now c.write-in-Some-caught-2.new.self) (sym c.in-Some.is) (subst (λ (x : Option (List ℕ × List Stmt)). WroteLabelled ls (three (in_turn i.body) (caught x) (last (Some c.in-Some.list)) step.try_catch) (three (in_turn_uses i.body) (caught_uses x) (last_uses (Some c.in-Some.list)) (λ a b c. uses.both a (uses.both b c))) c.args.here c.args.w.now c.write-in-Some-caught-2.new.self) (sym c.in-Some-caught-2.is) (try_written (in_turn i.body) (caught (Some (c.in-Some-caught-2.name, c.in-Some-caught-2.handler))) (last (Some c.in-Some.list)) (in_turn_uses i.body) (caught_uses (Some (c.in-Some-caught-2.name, c.in-Some-caught-2.handler))) (last_uses (Some c.in-Some.list)) c.args.here ls c.in-Some-last_block.outer c.in-Some-catch_block-2.inner c.args.w.now c.last_block.new.w c.catch_block-in-Some-caught-2.new.w c.statements-in-Some-caught-2.new.w c.write-in-Some-caught-2.new.self c.last_block.ensures.written (subst (λ r. InFront before_last (last (Some c.in-Some.list)) (last_uses (Some c.in-Some.list)) c.args.here c.args.w.now c.last_block.new.w r) c.in-Some-last_block.is c.last_block.ensures.inside) c.catch_block-in-Some-caught-2.ensures.written (subst (λ r. InFront before_catch (caught (Some (c.in-Some-caught-2.name, c.in-Some-caught-2.handler))) (caught_uses (Some (c.in-Some-caught-2.name, c.in-Some-caught-2.handler))) c.in-Some-last_block.outer c.last_block.new.w c.catch_block-in-Some-caught-2.new.w r) c.in-Some-catch_block-2.is c.catch_block-in-Some-caught-2.ensures.inside) c.statements-in-Some-caught-2.ensures.written c.write-in-Some-caught-2.ensures.written)))

pub statement-returns-in_default-catch_block-clause-written : goal.statement-returns-in_default-catch_block-clause-written
unfolding expression statement code.function code.branch code.first code.head uses.expression uses.statement uses.function uses.branch uses.first uses.head
statement-returns-in_default-catch_block-clause-written t c ls labelled =
    let i = c.in-Try in
    let coded : statement c.args.s.now ≡ three (in_turn i.body) (caught i.caught) (last i.finally) step.try_catch = search (rules, the_lemmas) in
    let named : uses.statement c.args.s.now ≡ three (in_turn_uses i.body) (caught_uses i.caught) (last_uses i.finally) (λ a b c. uses.both a (uses.both b c)) = search (rules, the_lemmas) in
    as_labelled (statement c.args.s.now) (three (in_turn i.body) (caught i.caught) (last i.finally) step.try_catch) (uses.statement c.args.s.now) (three (in_turn_uses i.body) (caught_uses i.caught) (last_uses i.finally) (λ a b c. uses.both a (uses.both b c))) ls c.args.here c.args.w.now c.catch_block-in-Some-caught-2.new.w coded named
    (subst (λ (y : Option (List Stmt)). WroteLabelled ls (three (in_turn i.body) (caught i.caught) (last y) step.try_catch) (three (in_turn_uses i.body) (caught_uses i.caught) (last_uses y) (λ a b c. uses.both a (uses.both b c))) c.args.here c.args.w.now c.catch_block-in-Some-caught-2.new.w) (sym c.in-Some.is) (subst (λ (x : Option (List ℕ × List Stmt)). WroteLabelled ls (three (in_turn i.body) (caught x) (last (Some c.in-Some.list)) step.try_catch) (three (in_turn_uses i.body) (caught_uses x) (last_uses (Some c.in-Some.list)) (λ a b c. uses.both a (uses.both b c))) c.args.here c.args.w.now c.catch_block-in-Some-caught-2.new.w) (sym c.in-Some-caught-2.is) (catch_ended (in_turn i.body) (caught (Some (c.in-Some-caught-2.name, c.in-Some-caught-2.handler))) (last (Some c.in-Some.list)) (in_turn_uses i.body) (caught_uses (Some (c.in-Some-caught-2.name, c.in-Some-caught-2.handler))) (last_uses (Some c.in-Some.list)) c.args.here ls c.in-Some-last_block.outer c.args.w.now c.last_block.new.w c.catch_block-in-Some-caught-2.new.w c.last_block.ensures.written (subst (λ r. InFront before_last (last (Some c.in-Some.list)) (last_uses (Some c.in-Some.list)) c.args.here c.args.w.now c.last_block.new.w r) c.in-Some-last_block.is c.last_block.ensures.inside) c.catch_block-in-Some-caught-2.ensures.written (subst (λ r. InFront before_catch (caught (Some (c.in-Some-caught-2.name, c.in-Some-caught-2.handler))) (caught_uses (Some (c.in-Some-caught-2.name, c.in-Some-caught-2.handler))) c.in-Some-last_block.outer c.last_block.new.w c.catch_block-in-Some-caught-2.new.w r) c.in_default-catch_block.is c.catch_block-in-Some-caught-2.ensures.inside))))
