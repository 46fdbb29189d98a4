use Rattle.njs_request.proofs.tests.what_is_no_answer_is_refused.Given as goal

-- the counter's own ledger
abbrev pub ghosts-refusals : goal.ghosts-refusals
ghosts-refusals g a = record { name = a.blank.name; parts = a.blank.parts }
