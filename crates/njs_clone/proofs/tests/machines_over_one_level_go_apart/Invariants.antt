use Rattle.njs_clone.proofs.tests.machines_over_one_level_go_apart.Given as goal

-- the counter's own ledger
abbrev pub ghosts-two_machines : goal.ghosts-two_machines
ghosts-two_machines g a = record { name = a.blank.name; parts = a.blank.parts }
