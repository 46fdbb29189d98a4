use Rattle.std.proofs.Common.{sym, subst}
use Rattle.njs_members.specs.Gains.{GainsTexts}
use Rattle.njs_members.proofs.Gained.{gains-nothing, gains-text}
use Rattle.njs_interp.proofs.failing.add_name.Goals as goal

pub returns-in_err-id-clause-texts : goal.returns-in_err-id-clause-texts
returns-in_err-id-clause-texts c = subst (GainsTexts c.args.machine.now) (sym c.in_err-id.ensures.err) (gains-nothing c.args.machine.now)

pub returns-clause-texts : goal.returns-clause-texts
returns-clause-texts c = gains-text c.args.machine.now c.add_text.new.self c.in-Ok.copy c.sizes-sizes.ensures.fits c.in_ok-id.ensures.ok
