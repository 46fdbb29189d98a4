use Rattle.dict_lock.specs.Known.{number_of}
use Rattle.dict_lock.specs.Views.{entry_by}
use Rattle.dict_lock.proofs.zone.Zone.call.Given as goal

abbrev pub ghosts-commit : goal.ghosts-commit
ghosts-commit g a = record { entry = entry_by (number_of a.seat.now.me.0.own) a.op.value a.reading a.reply.now }
