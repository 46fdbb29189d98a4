use Rattle.njs_clone.proofs.Walks.{chain_ends, behind_ends, target_ends, constructor_ends, outwards_ends}
use Rattle.njs_clone.proofs.laws.walks_come_to_their_ends.Goals as goal

pub returns-clause-plain : goal.returns-clause-plain
returns-clause-plain c heap ends = record {
  chain = chain_ends heap.objects ends.prototypes;
  behind = behind_ends heap.objects ends.prototypes;
  target = target_ends heap.objects ends.targets;
  constructor = λ program. constructor_ends heap.objects program ends.targets;
  outwards = outwards_ends heap.scopes ends.scopes;
}

pub returns-clause-numbered : goal.returns-clause-numbered
returns-clause-numbered c heap ends = chain_ends heap.objects ends.prototypes
