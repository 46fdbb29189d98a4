use Rattle.njs_request.proofs.tests.a_text_is_the_body.Given as goal

-- the counter's own ledger
abbrev pub ghosts-bodies : goal.ghosts-bodies
ghosts-bodies g a = record { name = a.blank.name; parts = a.blank.parts }
