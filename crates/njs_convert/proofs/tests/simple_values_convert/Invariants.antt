use Rattle.njs_convert.proofs.tests.simple_values_convert.Given as goal

-- the counter's own ledger
abbrev pub ghosts-simple : goal.ghosts-simple
ghosts-simple g a = record { name = a.blank.name; parts = a.blank.parts }
