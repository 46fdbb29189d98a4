use Rattle.dict_model.proofs.Validity.{valid_without}
use Rattle.dict_model.proofs.change.change.Goals as goal

pub returns-in-Delete-clause-valid : goal.returns-in-Delete-clause-valid
returns-in-Delete-clause-valid c = rw c.remove.ensures (valid_without c.args.spec.now c.in-Delete.key c.args.entries.now.items c.args.moment c.requires.valid)
