use Rattle.njs_convert.proofs.tests.what_stops_a_call_stops_the_conversion.Given as goal

-- the counter's own ledger
abbrev pub ghosts-stopped : goal.ghosts-stopped
ghosts-stopped g a = record { name = a.blank.name; parts = a.blank.parts }
