use Rattle.njsd.proofs.tests.the_thousandth_request_closes.Given as goal

-- the counter's own ledger
abbrev pub ghosts-outcome : goal.ghosts-outcome
ghosts-outcome g a = record { name = a.blank.name; parts = a.blank.parts }
