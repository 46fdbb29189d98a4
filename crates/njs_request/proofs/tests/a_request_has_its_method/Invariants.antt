use Rattle.njs_request.proofs.tests.a_request_has_its_method.Given as goal

-- the counter's own ledger
abbrev pub ghosts-entry_objects : goal.ghosts-entry_objects
ghosts-entry_objects g a = record { name = a.blank.name; parts = a.blank.parts }
