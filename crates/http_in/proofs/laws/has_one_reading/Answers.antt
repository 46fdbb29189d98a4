use Rattle.http_in.proofs.Fronts.{one_front}
use Rattle.http_in.proofs.Readings.{one_reading}
use Rattle.http_in.proofs.laws.has_one_reading.Goals as goal

pub returns-clause-reading : goal.returns-clause-reading
returns-clause-reading c = one_reading

pub returns-clause-front : goal.returns-clause-front
returns-clause-front c = one_front
