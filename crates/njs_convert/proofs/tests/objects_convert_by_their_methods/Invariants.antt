use Rattle.njs_convert.proofs.tests.objects_convert_by_their_methods.Given as goal

-- the counter's own ledger
abbrev pub ghosts-called : goal.ghosts-called
ghosts-called g a = record { name = a.blank.name; parts = a.blank.parts }
