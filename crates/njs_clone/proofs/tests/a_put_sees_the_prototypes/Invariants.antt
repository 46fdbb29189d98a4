use Rattle.njs_clone.proofs.tests.a_put_sees_the_prototypes.Given as goal

-- the counter's own ledger
abbrev pub ghosts-scene : goal.ghosts-scene
ghosts-scene g a = record { name = a.blank.name; parts = a.blank.parts }
