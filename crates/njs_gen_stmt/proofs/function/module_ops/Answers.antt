use Rattle.std.proofs.Common.{suc, ◌+◌, [], ◌++◌, refl}
use Rattle.njs_code.specs.declared.op.Kind.TheVariants as kind
use Rattle.njs_simul.specs.Emission.{deeper, op}
use Rattle.njs_simul.specs.EmissionOfStatements as step
use Rattle.njs_scope.specs.Uses as uses
use Rattle.njs_gen_expr.specs.Written.{draft}
use Rattle.njs_gen_stmt.specs.Statements.{first}
use Rattle.njs_simul.specs.Sizes.{declared_size, items_size, body_size}
use Rattle.njs_gen_stmt.specs.Functions.{told_all}
use Rattle.njs_simul.specs.Compiled.{items_part, items_in_turn}
use Rattle.njs_gen_stmt.proofs.Functions.{begun, finished}
use Rattle.njs_gen_stmt.proofs.function.module_ops.Goals as goal

pub returns : goal.returns
returns c around first start inside placed is =
    let k = c.args.known in
    let B = items_part c.args.list.now in
    let coded = B.means first in
    let at = step.at_start around in
    let ds = told_all k.declared.now in
    let s = c.at_start-here.ensures around in
    let used = ((uses.items_part c.args.list.now).means start).places around in
    let h0 = begun c.new-w.result used k.places.now c.args.behind (first + B.size) c.new-w.ensures placed is in
    let last = op kind.Return (deeper 1 at) [] in
    let h1 = c.write.ensures.written kind.Return (deeper 1 at) (draft [] 0 ([] ++ used) (first + B.size)) (λ g. refl) (c.deeper.ensures at s) h0 in
    let h2 = c.items.ensures.written (deeper 1 at) first start 1 last [] (c.deeper-2.ensures at s) h1 in
    let written = items_in_turn coded (deeper 1 at) last in
    let h3 = c.write-2.ensures.written kind.Undefined at (draft written (items_size coded + 1) [] first) (λ g. refl) s h2 in
    let ready = op kind.Undefined at written in
    let h4 = c.declare_functions.ensures.written at (draft ready (suc (items_size coded + 1)) [] first) inside s h3 in
    finished c.finish.result (draft (step.declared ds at ready) (declared_size ds + suc (items_size coded + 1)) [] first) (body_size ds coded) refl
    (c.finish.ensures.written (draft (step.declared ds at ready) (declared_size ds + suc (items_size coded + 1)) [] first) h4)
