use Rattle.njs_interp.proofs.invoke.ByClosureAgain.again.Goals as goal

pub returns-clause-agrees : goal.returns-clause-agrees
returns-clause-agrees g c = ((c.requires.may _ _ _ _ _ _ _ _ c.requires.fits c.requires.callee c.requires.way c.requires.args).1 _ _ _ _ _ c.call.ensures).agrees

pub returns-clause-fits : goal.returns-clause-fits
returns-clause-fits g c = ((c.requires.may _ _ _ _ _ _ _ _ c.requires.fits c.requires.callee c.requires.way c.requires.args).1 _ _ _ _ _ c.call.ensures).fits

pub returns-clause-grows : goal.returns-clause-grows
returns-clause-grows g c = ((c.requires.may _ _ _ _ _ _ _ _ c.requires.fits c.requires.callee c.requires.way c.requires.args).1 _ _ _ _ _ c.call.ensures).grows

pub returns-clause-value : goal.returns-clause-value
returns-clause-value g c = ((c.requires.may _ _ _ _ _ _ _ _ c.requires.fits c.requires.callee c.requires.way c.requires.args).1 _ _ _ _ _ c.call.ensures).value

pub returns-clause-spent : goal.returns-clause-spent
returns-clause-spent g c = ((c.requires.may _ _ _ _ _ _ _ _ c.requires.fits c.requires.callee c.requires.way c.requires.args).1 _ _ _ _ _ c.call.ensures).spent

pub returns-clause-steps : goal.returns-clause-steps
returns-clause-steps g c = ((c.requires.may _ _ _ _ _ _ _ _ c.requires.fits c.requires.callee c.requires.way c.requires.args).1 _ _ _ _ _ c.call.ensures).steps
