-- What is stored, told by the reply.
use Rattle.std.specs.Prelude.{ℕ, ℤ, Bool, true, false, List, Option, Some, None}
use Rattle.dict_model.specs.declared.operation.DictValue.TheVariants as values
use Rattle.dict_model.specs.declared.operation.DictReply.{DictReply}
use Rattle.dict_model.specs.declared.operation.DictReply.TheVariants as replies
use Rattle.dict_model.specs.declared.operation.ZoneSpec.{ZoneSpec}
use Rattle.dict_model.specs.declared.operation.Kept.{Kept}
use Rattle.dict_model.specs.Zone.{State, stored}

abbrev pub is_yes : DictReply → Bool
is_yes replies.Yes = true
is_yes _ = false

abbrev pub number_answered : DictReply → Option ℤ
number_answered (replies.Number n) = Some n
number_answered _ = None

abbrev pub if_stored : ZoneSpec → State → List ℕ → Option ℤ → List Kept
if_stored spec s key None = s.entries
if_stored spec s key (Some n) = stored spec s key (values.Num n)
