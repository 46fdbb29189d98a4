use Rattle.njs_convert.proofs.tests.a_host_is_lent.Given as goal

-- the counter's own ledger
abbrev pub ghosts-hosts : goal.ghosts-hosts
ghosts-hosts g a = record { name = a.blank.name; parts = a.blank.parts }
