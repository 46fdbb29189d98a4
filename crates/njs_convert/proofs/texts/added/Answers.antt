use Rattle.njs_convert.proofs.Grown.{Extends-refl}
use Rattle.njs_convert.proofs.ShownTexts.{added_answer, extends_answer}
use Rattle.njs_convert.proofs.texts.added.Goals as goal

pub returns-in_err-text-clause-extends : goal.returns-in_err-text-clause-extends
returns-in_err-text-clause-extends c = Extends-refl c.args.machine.now

pub returns-clause-text : goal.returns-clause-text
returns-clause-text c = added_answer c.args.machine.now c.add_text.new.self c.args.value c.in_ok-text.text c.add_text.result c.sizes-sizes.ensures.fits c.requires c.in_ok-text.ensures c.add_text.ensures.number c.add_text.ensures.ok

pub returns-clause-extends : goal.returns-clause-extends
returns-clause-extends c = extends_answer c.args.machine.now c.add_text.new.self c.in_ok-text.text c.add_text.result c.add_text.ensures.ok c.add_text.ensures.err
