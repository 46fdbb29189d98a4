-- What a plain zone stands for.
use Rattle.dict_model.specs.declared.operation.ZoneSpec.{ZoneSpec}
use Rattle.dict_model.specs.Zone.{State}

pub record Zone : Type 0 where
  pub spec : ZoneSpec
  pub state : State
