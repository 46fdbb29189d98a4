-- Objects as plain data (ECMA-262 5.1 §8.6).
use Rattle.std.specs.Prelude.{ℕ, List, Option, Bool}
use Rattle.njs_value.specs.declared.Class.{Class}
use Rattle.njs_value.specs.declared.ObjId.{ObjId}

-- an object, over the kind of its properties and the kind of its inner part: its class, its prototype or none, whether
-- it takes new properties, its properties by name in order of creation, and what it is beside them (§8.6.2)
pub record Object (P I : Type 0) : Type 0 where
  pub class : Class
  pub prototype : Option ObjId
  pub extensible : Bool
  pub props : List (List ℕ × P)
  pub inner : I
