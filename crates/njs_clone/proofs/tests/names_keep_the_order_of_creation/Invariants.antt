use Rattle.njs_clone.proofs.tests.names_keep_the_order_of_creation.Given as goal

-- the counter's own ledger
abbrev pub ghosts-scene : goal.ghosts-scene
ghosts-scene g a = record { name = a.blank.name; parts = a.blank.parts }
