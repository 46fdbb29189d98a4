use Rattle.njs_request.proofs.tests.there_is_one_answer.Given as goal

-- the counter's own ledger
abbrev pub ghosts-second_call : goal.ghosts-second_call
ghosts-second_call g a = record { name = a.blank.name; parts = a.blank.parts }
