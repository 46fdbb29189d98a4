use Rattle.std.proofs.Common.{◌≡◌, ◌+◌, ◌++◌, sym, ap, subst, arith, ◌∙◌}
use Rattle.njs_tree.specs.declared.tree.Case.{out-Case}
use Rattle.njs_code.specs.declared.op.Address.{Address}
use Rattle.njs_meaning.specs.Parts.{two}
use Rattle.njs_simul.specs.EmissionOfStatements as step
use Rattle.njs_scope.specs.Uses as uses
use Rattle.njs_gen_expr.specs.Written.{IsGoing}
use Rattle.njs_gen_expr.proofs.Drafts.{split}
use Rattle.njs_gen_stmt.specs.Sized.{counted}
use Rattle.njs_gen_stmt.specs.Statements.{optional, optional_uses, first, in_turn, in_turn_uses}
use Rattle.njs_simul.specs.Compiled.{Of_branch}
use Rattle.njs_gen_stmt.proofs.Jumps.{branch_of, coded_branch, used_branch, JumpWritten}
use Rattle.njs_gen_stmt.proofs.switch.jump.Goals as goal

pub returns-clause-begins : goal.returns-clause-begins
returns-clause-begins c first n g is =
    let part = out-Case c.args.case.now in
    let size = step.in_turn_size ((in_turn part.body).means (first + (optional part.test).size)) in
    let sized : c.statements.result ≡ counted size = omega (arith, c.statements.ensures (first + (optional part.test).size)) in
    let told = c.in_front-begin.ensures.given size sized (c.pass_statements.ensures.stays (c.jump_if_any.ensures.stays g)) in
    let known : c.in_front-begin.result ≡ record { 0 = size + n } = told ∙ ap (λ (b : Address). record { 0 = size + b.0 }) is in
    subst (λ (b : Of_branch). c.in_front-begin.result ≡ record { 0 = step.in_turn_size (b.means first).body + n }) (sym (coded_branch c.args.case.now)) known

pub returns-clause-written : goal.returns-clause-written
returns-clause-written c =
    let part = out-Case c.args.case.now in
    let told : JumpWritten (two (optional part.test) (in_turn part.body) branch_of) (two (optional_uses part.test) (in_turn_uses part.body) uses.both) c.args.here c.args.behind c.args.w.now c.jump_if_any.new.w =
    λ at first start n b ops front is s h.
    (let A = optional part.test in
    let B = in_turn part.body in
    let U = optional_uses part.test in
    let V = in_turn_uses part.body in
    let size = step.in_turn_size (B.means (first + A.size)) in
    let ua = (U.means start).places at.names in
    let ub = (V.means (start + U.size)).places at.names in
    let h0 = c.in_front-begin.ensures.holds _ (split c.args.w.now ops n front ua ub first A.size B.size h) in
    let h1 = c.pass_statements.ensures.passed at.names (first + A.size) (start + U.size) n ops (front ++ ua) h0 in
    let sized : c.statements.result ≡ counted size = omega (arith, c.statements.ensures (first + A.size)) in
    let begins : IsGoing c.pass_statements.new.w → c.in_front-begin.result ≡ record { 0 = size + b } = λ g.
    (c.in_front-begin.ensures.given size sized (c.pass_statements.ensures.stays g) ∙ ap (λ (x : Address). record { 0 = size + x.0 }) (is (c.in_front-begin.ensures.stays (c.pass_statements.ensures.stays g)))) in
    c.jump_if_any.ensures.written (record { 0 = size + b }) begins at first start n ops front s h1) in
    subst (λ (x : Of_branch). JumpWritten x (uses.branch c.args.case.now) c.args.here c.args.behind c.args.w.now c.jump_if_any.new.w) (sym (coded_branch c.args.case.now))
    (subst (λ (x : uses.Of_part). JumpWritten (two (optional part.test) (in_turn part.body) branch_of) x c.args.here c.args.behind c.args.w.now c.jump_if_any.new.w) (sym (used_branch c.args.case.now)) told)
