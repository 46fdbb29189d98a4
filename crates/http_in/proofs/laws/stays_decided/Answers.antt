use Rattle.http_in.proofs.Fronts.{keeps_requests, keeps_refusals}
use Rattle.http_in.proofs.laws.stays_decided.Goals as goal

pub returns-clause-requests : goal.returns-clause-requests
returns-clause-requests c = keeps_requests

pub returns-clause-refusals : goal.returns-clause-refusals
returns-clause-refusals c = keeps_refusals
