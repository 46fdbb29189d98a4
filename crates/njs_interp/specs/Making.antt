-- Functions that are made on a heap (ECMA-262 5.1 §13.2).
use Rattle.std.specs.Prelude.{◌≡◌, ℕ, ◌≤◌, List, [], ◌∷◌, length, Option, Some, true, false, pos, codes, slice_get}
use Rattle.njs_value.specs.declared.Desc.{Desc}
use Rattle.njs_value.specs.declared.ObjId.{ObjId}
use Rattle.njs_value.specs.declared.ScopeId.{ScopeId}
use Rattle.njs_value.specs.declared.Value.{Value}
use Rattle.njs_value.specs.declared.Value.TheVariants as value
use Rattle.njs_props.specs.Names.{length_name}
use Rattle.njs_props.specs.declared.map.Property.{Property}
use Rattle.njs_shared.specs.declared.object.Inner.{Inner}
use Rattle.njs_shared.specs.declared.object.Inner.TheVariants as inner
use Rattle.njs_shared.specs.Heap.{Heap, HeapObject}
use Rattle.njs_meaning.specs.Errors.{hidden}
use Rattle.njs_meaning.specs.Functions.{no_flags, with_function}
use Rattle.njs_meaning.specs.PlainHeap.{Script}
use Rattle.njs_meaning.specs.State.{State, Outcome, Gives}
use Rattle.njs_meaning.specs.Primitives.{Undefined}
use Rattle.njs_meaning.specs.Scopes.{fixed, with_scope, with_variable}
use Rattle.njs_meaning.specs.Values.{PlainValue, Simple, ObjectAt}
use Rattle.njs_clone.specs.Content.{content}
use Rattle.njs_convert.specs.FirstHeap.{StandsFor}
use Rattle.njs_interp.specs.Plain.{heap_of}
use Rattle.njs_interp.specs.Acts.{OnHeap}
use Rattle.njs_interp.specs.Grown.{Widens}

-- the properties that the object of a function begins with, and those of the object under its `prototype`
abbrev pub length_props : ℕ → List (List ℕ × Property Value)
length_props params = (length_name, record { value = value.Num (pos params); flags = no_flags }) ∷ []

abbrev pub constructor_props : ObjId → List (List ℕ × Property Value)
constructor_props function = (codes "constructor", record { value = value.Obj function; flags = hidden }) ∷ []

abbrev pub prototype_desc : ObjId → Desc Value
prototype_desc p = record { value = Some (value.Obj p); writable = Some true; enumerable = Some false; configurable = Some false }

-- a function that is made, without the tick that it costs
abbrev pub made_function : ℕ → ℕ → ℕ → ScopeId → State → Outcome PlainValue
made_function unit number params scope s = Gives (ObjectAt (length s.objects)) (with_function params (Script unit number scope) s)

-- a further object is the function, or ordinary
abbrev pub IsMade : ℕ → ℕ → ScopeId → Inner → Type 0
IsMade unit number scope inner.Plain = Unit {0}
IsMade unit number scope (inner.Script u n s) = (u ≡ unit) × (n ≡ number) × (s ≡ scope)
IsMade unit number scope (inner.BuiltIn row) = ⊥
IsMade unit number scope (inner.Bound target this args) = ⊥
IsMade unit number scope (inner.ZoneNumber zone) = ⊥

-- the scopes stay, and each further object is the function that was made, or ordinary
pub record MakesFunction (unit number : ℕ) (scope : ScopeId) (old new : Heap) : Type 0 where
  pub widens : Widens old new
  pub scopes : new.scopes ≡ old.scopes
  pub fresh : (at : ℕ) (object : HeapObject) → slice_get new.objects at ≡ Some object → length old.objects ≤ at → IsMade unit number scope object.inner

-- the scope of a function's own name comes last, below another
pub record MakesScope (parent : ScopeId) (old new : Heap) : Type 0 where
  pub there : slice_get new.scopes (length old.scopes) ≡ Some (record { parent = Some parent; slots = value.Undefined ∷ [] })
  pub by : (name : List ℕ) (s : State) → StandsFor old (heap_of s) → OnHeap new s (with_scope parent (fixed name (Simple Undefined) ∷ []) s)

-- the name in such a scope has a value
pub record NamesFunction (at : ℕ) (function : Value) (old new : Heap) : Type 0 where
  pub by : (name : List ℕ) (parent : Option ScopeId) (v : PlainValue) (s : State) → StandsFor old (heap_of s)
      → slice_get s.scopes at ≡ Some (record { parent = parent; variables = fixed name v ∷ [] })
      → OnHeap new s (record s { scopes = with_variable name (content old.texts function) s.scopes at })
