use Rattle.std.proofs.Common.{◌≡◌, suc, ◌+◌, true, refl, sym, subst, arith, rules}
use Rattle.njs_code.specs.declared.op.Kind.TheVariants as kind
use Rattle.njs_simul.specs.Emission.{op}
use Rattle.njs_simul.specs.EmissionOfStatements as step
use Rattle.njs_gen_expr.specs.Written.{Draft, Holds}
use Rattle.njs_gen_expr.proofs.Drafts.{recount}
use Rattle.njs_simul.specs.Sizes.{arguments_size}
use Rattle.njs_meaning.specs.Functions.{arguments_name}
use Rattle.njs_gen_stmt.proofs.function.take_arguments.Goals as goal

pub returns-then-takes_arguments-clause-written : goal.returns-then-takes_arguments-clause-written
returns-then-takes_arguments-clause-written c at d inside s h =
    let is : c.args.takes_arguments ≡ true = search (rules, c.if-takes_arguments) in
    let name = arguments_name in
    let bound : Draft = record d { ops = step.bind name at d.ops; count = 2 + d.count } in
    let h1 = subst (λ n. Holds c.bind_own.new.w (record d { ops = step.bind n at d.ops; count = 2 + d.count })) c.arguments-name.ensures (c.bind_own.ensures.written at d inside s h) in
    let h2 = c.write.ensures.written kind.Arguments at bound (λ g. refl) s h1 in
    let taken = recount c.write.new.self (op kind.Arguments at (step.bind name at d.ops)) (suc (2 + d.count)) (3 + d.count) d.places d.functions (omega arith) h2 in
    subst (λ b. Holds c.write.new.self (record d { ops = step.with_arguments b at d.ops; count = arguments_size b + d.count })) (sym is) taken
