use Rattle.std.proofs.Common.{suc, refl, ap, rules}
use Rattle.njs_code.specs.declared.op.Kind.TheVariants as kind
use Rattle.std.specs.Prelude.{pos}
use Rattle.std.specs.Str.{chars}
use Rattle.njs_simul.specs.Emission.{op, deeper}
use Rattle.njs_props.specs.Names.{length_name}
use Rattle.njs_gen_expr.specs.Written.{Draft}
use Rattle.njs_gen_expr.proofs.operators.with_length.Goals as goal

pub returns-clause-written : goal.returns-clause-written
unfolding chars
returns-clause-written c at d s h =
    let n = c.args.length in
    let o1 = op kind.Drop (deeper 2 at) d.ops in
    let o2 = op kind.Put (deeper 4 at) o1 in
    let o3 = op (kind.Num (pos n)) (deeper 3 at) o2 in
    let o4 = op (kind.Str length_name) (deeper 2 at) o3 in
    let d1 : Draft = record d { ops = o1; count = suc d.count } in
    let d2 : Draft = record d { ops = o2; count = suc (suc d.count) } in
    let d3 : Draft = record d { ops = o3; count = suc (suc (suc d.count)) } in
    let d4 : Draft = record d { ops = o4; count = suc (suc (suc (suc d.count))) } in
    let h1 = c.write.ensures.written kind.Drop (deeper 2 at) d (λ g. refl) (c.deeper.ensures at s) h in
    let h2 = c.write-2.ensures.written kind.Put (deeper 4 at) d1 (λ g. refl) (c.deeper-2.ensures at s) h1 in
    let h3 = c.write-3.ensures.written (kind.Num (pos n)) (deeper 3 at) d2 (λ g. let told = c.integer-number.ensures.given g in search (rules, told)) (c.deeper-3.ensures at s) (c.integer-number.ensures.holds d2 h2) in
    let h4 = c.write-4.ensures.written (kind.Str length_name) (deeper 2 at) d3 (λ g. ap (λ t. kind.Str t) c.fixed.ensures) (c.deeper-4.ensures at s) h3 in
    c.write-5.ensures.written (kind.Tuck 0) (deeper 1 at) d4 (λ g. refl) (c.deeper-5.ensures at s) h4
