use Rattle.http_out.proofs.Reading.{has_one_reading-law}
use Rattle.http_out.proofs.law.has_one_reading.Goals as goal

pub returns : goal.returns
returns c = has_one_reading-law
