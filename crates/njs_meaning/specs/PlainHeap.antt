-- The plain heap: objects and scopes as lists, values by content (ECMA-262 5.1 §8.6, §10.2).
use Rattle.std.specs.Prelude.{ℕ, List, map, Option, Some, None, Bool}
use Rattle.std.specs.Option.{option_map}
use Rattle.njs_value.specs.Ends.{Ends}
use Rattle.njs_value.specs.Object.{Object}
use Rattle.njs_value.specs.declared.Row.{Row}
use Rattle.njs_value.specs.declared.ScopeId.{ScopeId}
use Rattle.njs_value.specs.declared.ObjId.{ObjId}
use Rattle.njs_props.specs.declared.map.Property.{Property}
use Rattle.njs_meaning.specs.Values.{PlainValue}

-- what an object is beside its properties: nothing more, a function of a script by its module, its place there and the
-- scope that it was made in (§13.2), a built-in function by its row (§15), a bound function by its target, its `this` and
-- its first arguments (§15.3.4.5), or a dictionary by the number of its zone
pub data PlainInner : Type 0 where
  Plain : PlainInner
  Script : ℕ → ℕ → ScopeId → PlainInner
  BuiltIn : Row → PlainInner
  Bound : ObjId → PlainValue → List PlainValue → PlainInner
  ZoneNumber : ℕ → PlainInner

abbrev pub PlainObject : Type 0
PlainObject = Object (Property PlainValue) PlainInner

-- a name of a scope with its value, and whether it can be assigned (§10.2.1.1)
pub record Variable : Type 0 where
  pub name : List ℕ
  pub value : PlainValue
  pub assignable : Bool

pub record PlainScope : Type 0 where
  pub parent : Option ScopeId
  pub variables : List Variable

pub record PlainHeap : Type 0 where
  pub objects : List PlainObject
  pub scopes : List PlainScope

-- where a bound function leads
abbrev pub bound_target : PlainInner → Option ℕ
bound_target Plain = None
bound_target (Script unit code scope) = None
bound_target (BuiltIn row) = None
bound_target (Bound target this args) = Some target.0
bound_target (ZoneNumber zone) = None

-- every chain of prototypes, of scopes and of bound functions ends
pub record HasEnds (heap : PlainHeap) : Type 0 where
  pub prototypes : Ends (map (λ o. option_map (λ up. up.0) o.prototype) heap.objects)
  pub targets : Ends (map (λ o. bound_target o.inner) heap.objects)
  pub scopes : Ends (map (λ s. option_map (λ up. up.0) s.parent) heap.scopes)
