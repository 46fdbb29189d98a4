use Rattle.std.proofs.Common.{◌+◌, [], ◌++◌, refl}
use Rattle.njs_code.specs.declared.op.Kind.TheVariants as kind
use Rattle.njs_simul.specs.Emission.{deeper, op}
use Rattle.njs_simul.specs.EmissionOfStatements as step
use Rattle.njs_gen_expr.specs.Written.{draft}
use Rattle.njs_gen_stmt.specs.Statements.{first, in_turn, in_turn_uses}
use Rattle.njs_simul.specs.Sizes.{declared_size, arguments_size, function_size}
use Rattle.njs_gen_stmt.specs.Functions.{told_all}
use Rattle.njs_tree.specs.declared.tree.FunctionTree.{out-FunctionTree}
use Rattle.njs_gen_stmt.proofs.Functions.{begun, finished}
use Rattle.njs_gen_stmt.proofs.function.function_ops.Goals as goal

pub returns : goal.returns
returns c around first start inside placed is =
    let k = c.args.known in
    let body = (out-FunctionTree c.args.f.now).body in
    let B = in_turn body in
    let coded = B.means first in
    let at = step.at_start around in
    let ds = told_all k.declared.now in
    let s = c.at_start-here.ensures around in
    let used = ((in_turn_uses body).means start).places around in
    let h0 = begun c.new-w.result used k.places.now c.args.behind (first + B.size) c.new-w.ensures placed is in
    let last = op kind.Return (deeper 1 at) [] in
    let h1 = c.write.ensures.written kind.Return (deeper 1 at) (draft [] 0 ([] ++ used) (first + B.size)) (λ g. refl) (c.deeper.ensures at s) h0 in
    let ended = op kind.Undefined at last in
    let h2 = c.write-2.ensures.written kind.Undefined at (draft last 1 ([] ++ used) (first + B.size)) (λ g. refl) s h1 in
    let h3 = c.statements.ensures.written at first start 2 ended [] s h2 in
    let written = step.in_turn coded at ended in
    let h4 = c.take_arguments.ensures.written at (draft written (step.in_turn_size coded + 2) [] first) inside s h3 in
    let taken = step.with_arguments k.takes_arguments at written in
    let h5 = c.declare_functions.ensures.written at (draft taken (arguments_size k.takes_arguments + (step.in_turn_size coded + 2)) [] first) inside s h4 in
    finished c.finish.result (draft (step.declared ds at taken) (declared_size ds + (arguments_size k.takes_arguments + (step.in_turn_size coded + 2))) [] first) (function_size ds k.takes_arguments coded) refl
    (c.finish.ensures.written (draft (step.declared ds at taken) (declared_size ds + (arguments_size k.takes_arguments + (step.in_turn_size coded + 2))) [] first) h5)
