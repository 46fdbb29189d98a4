use Rattle.njs_request.proofs.tests.a_call_takes_a_tick.Given as goal

-- the counter's own ledger
abbrev pub ghosts-spent : goal.ghosts-spent
ghosts-spent g a = record { name = a.blank.name; parts = a.blank.parts }
