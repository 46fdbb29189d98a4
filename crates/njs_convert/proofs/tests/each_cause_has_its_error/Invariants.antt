use Rattle.njs_convert.proofs.tests.each_cause_has_its_error.Given as goal

-- the counter's own ledger
abbrev pub ghosts-thrown : goal.ghosts-thrown
ghosts-thrown g a = record { name = a.blank.name; parts = a.blank.parts }
