use Rattle.std.proofs.Common.{◌≡◌, map, Option, Some, sym, subst, rules}
use Rattle.std.specs.Option.{option_map}
use Rattle.njs_tree.specs.declared.tree.Expr.{the_lemmas}
use Rattle.njs_tree.specs.declared.tree.ForFirst.{ForFirst}
use Rattle.njs_meaning.specs.Parts.{one, held}
use Rattle.njs_simul.specs.EmissionOfStatements as step
use Rattle.njs_simul.specs.Compiled as compiled
use Rattle.njs_simul.specs.Compiled.{expression, statement}
use Rattle.njs_scope.specs.Uses as uses
use Rattle.njs_gen_expr.specs.Trees as code
use Rattle.njs_gen_stmt.specs.Statements.{WrotePart, first, first_uses}
use Rattle.njs_gen_stmt.proofs.Optionals.{nothing_written, as_first}
use Rattle.njs_gen_stmt.proofs.parts.first_if_any.Goals as goal

pub returns-in-None-clause-written : goal.returns-in-None-clause-written
returns-in-None-clause-written c =
    subst (λ (o : Option ForFirst). WrotePart (one (first o) step.first_of) (first_uses o) c.args.here c.args.w.now c.args.w.now) (sym c.in-None.is)
    (λ at first start n ops front s h. nothing_written c.args.w.now ops n front first h)

pub returns-in-Some-Var-clause-written : goal.returns-in-Some-Var-clause-written
unfolding expression statement code.first uses.expression uses.statement uses.first
returns-in-Some-Var-clause-written c =
    let list = c.in-Some-Var.list in
    let coded : first c.args.part.now ≡ held (Some (compiled.declaring (map (λ v. (v.0, option_map expression v.1)) list))) = search (rules, the_lemmas) in
    let named : first_uses c.args.part.now ≡ uses.held_of (Some (uses.declaring (map (λ v. (v.0, option_map uses.expression v.1)) list))) = search (rules, the_lemmas) in
    as_first (first c.args.part.now) (held (Some (compiled.declaring (map (λ v. (v.0, option_map expression v.1)) list)))) (first_uses c.args.part.now) (uses.held_of (Some (uses.declaring (map (λ v. (v.0, option_map uses.expression v.1)) list)))) c.args.here c.args.w.now c.declare.new.w coded named
    c.declare.ensures.written

pub returns-in-Some-Expr-clause-written : goal.returns-in-Some-Expr-clause-written
unfolding expression statement code.first uses.expression uses.statement uses.first
returns-in-Some-Expr-clause-written c =
    let e = c.in-Some-Expr.e in
    let coded : first c.args.part.now ≡ held (Some (one (expression e) step.evaluate)) = search (rules, the_lemmas) in
    let named : first_uses c.args.part.now ≡ uses.held_of (Some (uses.expression e)) = search (rules, the_lemmas) in
    as_first (first c.args.part.now) (held (Some (one (expression e) step.evaluate))) (first_uses c.args.part.now) (uses.held_of (Some (uses.expression e))) c.args.here c.args.w.now c.evaluate.new.w coded named
    c.evaluate.ensures.written
