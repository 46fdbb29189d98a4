use Rattle.std.proofs.Common.{sym, subst}
use Rattle.njs_members.specs.Gains.{GainsTexts}
use Rattle.njs_members.proofs.Gained.{gains-nothing, gains-text}
use Rattle.njs_interp.proofs.operators.plain.text_value.Goals as goal

pub returns-in-Ok-clause-texts : goal.returns-in-Ok-clause-texts
returns-in-Ok-clause-texts c = gains-text c.args.machine.now c.add_text.new.self c.args.text c.sizes-sizes.ensures.fits c.in-Ok.ensures.ok

pub returns-in-Err-clause-texts : goal.returns-in-Err-clause-texts
returns-in-Err-clause-texts c = subst (GainsTexts c.args.machine.now) (sym c.in-Err.ensures.err) (gains-nothing c.args.machine.now)
