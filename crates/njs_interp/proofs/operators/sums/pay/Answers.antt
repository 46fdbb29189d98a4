use Rattle.std.proofs.Common.{◌≡◌, ◌+◌, ◌/◌, ◌++◌, true, length, arith, sym, ap, ◌∙◌}
use Rattle.std.specs.Prelude.{◌||◌}
use Rattle.njs_tree.specs.declared.tree.BinaryOp.TheVariants.{Add}
use Rattle.njs_meaning.specs.Numbers.{text_of}
use Rattle.njs_meaning.specs.Operators.{binary_of, is_text}
use Rattle.njs_interp.proofs.Paying.{pays_charged, joined_is, or_left, or_right}
use Rattle.njs_interp.proofs.operators.sums.pay.Goals as goal
use Rattle.njs_interp.proofs.operators.sums.pay.Goals.{else-not-is_text-via-then-not-is_text+else-not-is_text-2, else-not-is_text-via-else-not-is_text}

pub returns-clause-told : goal.returns-clause-told
returns-clause-told g c = λ known p q s shown shown₂ stands.
    let h = c.args.machine.now in
    let some : (is_text p || is_text q) ≡ true =
    elim c.else-not-is_text.branch [
      | else-not-is_text-via-then-not-is_text+else-not-is_text-2 w ↦ or_right (is_text p) (is_text q) (sym (w.is_text-then-not-is_text.ensures h.texts q shown₂) ∙ w.if-not-is_text-2.false)
      | else-not-is_text-via-else-not-is_text w ↦ or_left (is_text p) (is_text q) (sym (c.is_text.ensures h.texts p shown) ∙ w.if-not-is_text.false)
    ]
    in
    let long : c.in-Ok.length ≡ length (text_of p ++ text_of q) = c.in-Ok.ensures.length p q shown shown₂ in
    pays_charged (g.C.Caller.stands c.charge.new.self known h) (g.C.Caller.ticks_of c.charge.new.self) (1 + c.in-Ok.length / 64) (g.C.Caller.ticks_of c.args.caller.now) c.charge.result (binary_of Add p q) (text_of p ++ text_of q) s
    (joined_is p q c.in-Ok.length some long (omega arith)) (ap (λ n. 1 + n / 64) long) (g.met.C.Caller.ticks_are c.args.caller.now known h s stands) c.charge.ensures.ok c.charge.ensures.err (c.charge.ensures.stands known h s stands)
