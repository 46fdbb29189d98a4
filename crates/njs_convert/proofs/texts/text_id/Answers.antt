use Rattle.njs_convert.proofs.Grown.{Extends-refl}
use Rattle.njs_convert.proofs.texts.text_id.Goals as goal

pub returns-in-Str-clause-extends : goal.returns-in-Str-clause-extends
returns-in-Str-clause-extends c = Extends-refl c.args.machine.now
