use Rattle.http_in.proofs.Readings.{joins_requests, ends_at_last, ends_at_refusal}
use Rattle.http_in.proofs.laws.answers_join.Goals as goal

pub returns-clause-requests : goal.returns-clause-requests
returns-clause-requests c = joins_requests

pub returns-clause-last : goal.returns-clause-last
returns-clause-last c = ends_at_last

pub returns-clause-refusal : goal.returns-clause-refusal
returns-clause-refusal c = ends_at_refusal
