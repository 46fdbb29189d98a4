-- What plain dictionaries stand for.
use Rattle.std.specs.Prelude.{List}
use Rattle.dict_model.specs.declared.operation.ZoneSpec.{ZoneSpec}
use Rattle.dict_model.specs.declared.operation.Entry.{Entry}

-- a zone, and the calls that it was asked
pub record OwnList : Type 0 where
  pub spec : ZoneSpec
  pub own : List Entry

pub record OwnLists : Type 0 where
  pub specs : List ZoneSpec
  pub own : List (List Entry)
