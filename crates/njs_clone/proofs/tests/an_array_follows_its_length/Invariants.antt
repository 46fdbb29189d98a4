use Rattle.njs_clone.proofs.tests.an_array_follows_its_length.Given as goal

-- the counter's own ledger
abbrev pub ghosts-scene : goal.ghosts-scene
ghosts-scene g a = record { name = a.blank.name; parts = a.blank.parts }
