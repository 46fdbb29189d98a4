-- Functions that are made where they stand, in a scope of their own name where they have one (ECMA-262 5.1 §13).
use Rattle.std.specs.Prelude.{◌≡◌, ℕ, ◌-◌, ◌<◌, List, [], ◌∷◌, length, Option, Some, None, nat_lt, slice_get, Result, if◌then◌else◌}
use Rattle.njs_value.specs.declared.ScopeId.{ScopeId}
use Rattle.njs_value.specs.declared.Value.{Value}
use Rattle.njs_shared.specs.declared.object.Scope.{Scope}
use Rattle.njs_shared.specs.Heap.{Heap}
use Rattle.njs_clone.specs.Scopes.{slot_count}
use Rattle.njs_code.specs.Valid.{slots_outwards, closure_slots}
use Rattle.njs_meaning.specs.Primitives.{Undefined}
use Rattle.njs_meaning.specs.PlainHeap.{Script}
use Rattle.njs_meaning.specs.Values.{PlainValue, Simple, ObjectAt}
use Rattle.njs_meaning.specs.State.{State, Outcome, Gives, Spent}
use Rattle.njs_meaning.specs.Scopes.{fixed, next_scope, with_scope, with_variable}
use Rattle.njs_meaning.specs.Functions.{with_function}
use Rattle.njs_convert.specs.FirstHeap.{StandsFor}
use Rattle.njs_convert.specs.declared.stop.Stop.{Stop}
use Rattle.njs_interp.specs.Plain.{heap_of}
use Rattle.njs_interp.specs.Acts.{OnHeap, Unanswered}
use Rattle.njs_interp.specs.Sits.{SlotsFrom}
use Rattle.njs_interp.specs.Outcomes.{Tells}
use Rattle.njs_interp.specs.Making.{NamesFunction}

-- the scope in which it is made, and the state with that scope
abbrev pub scope_in : Option (List ℕ) → ScopeId → State → ScopeId
scope_in None parent s = parent
scope_in (Some name) parent s = next_scope s

abbrev pub scoped : Option (List ℕ) → ScopeId → State → State
scoped None parent s = s
scoped (Some name) parent s = with_scope parent (fixed name (Simple Undefined) ∷ []) s

-- the name gets its value
abbrev pub with_name_in : Option (List ℕ) → ScopeId → PlainValue → State → State
with_name_in None scope f s = s
with_name_in (Some name) scope f s = record s { scopes = with_variable name f s.scopes scope.0 }

-- the function, in its scope
abbrev pub made_named : ℕ → ℕ → ℕ → ScopeId → Option (List ℕ) → State → Outcome PlainValue
made_named unit number params scope name s =
    Gives (ObjectAt (length s.objects)) (with_name_in name scope (ObjectAt (length s.objects)) (with_function params (Script unit number scope) s))

-- all of it, with the tick that it costs
abbrev pub made_closure : ℕ → ℕ → ℕ → ScopeId → Option (List ℕ) → State → Outcome PlainValue
made_closure unit number params parent name s =
    if nat_lt s.ticks 1 then Spent (scoped name parent s)
    else made_named unit number params (scope_in name parent s) name (record (scoped name parent s) { ticks = s.ticks - 1 })

-- a scope has the name as its only one
abbrev pub HasName : Option (List ℕ) → ScopeId → State → Type 0
HasName None scope s = Unit {0}
HasName (Some name) scope s = (parent : Option ScopeId) × (v : PlainValue) × (slice_get s.scopes scope.0 ≡ Some (record { parent = parent; variables = fixed name v ∷ [] }))

-- a scope of the machine has a slot for a name
abbrev pub HasSlotFor : Option (List ℕ) → Heap → ScopeId → Type 0
HasSlotFor None h scope = Unit {0}
HasSlotFor (Some name) h scope = 0 < slot_count h.scopes scope.0

-- so that name has the function as its value
abbrev pub NamesIn : Option (List ℕ) → ScopeId → Value → Heap → Heap → Type 0
NamesIn None scope function old new = new ≡ old
NamesIn (Some name) scope function old new = NamesFunction scope.0 function old new

-- the scopes that a function counts on are those from a scope outwards, behind one of its name
pub record CountedIn (counts : ℕ → ℕ → Option (List ℕ)) (unit number : ℕ) (name : Option (List ℕ)) (scopes : List Scope) (parent : ScopeId) : Type 0 where
  pub slots : List ℕ
  pub count : ℕ
  pub counted : counts unit number ≡ Some (closure_slots slots count name)
  pub there : SlotsFrom (slots_outwards slots count) scopes parent.0

-- the scope in which a function is made stands, with the slots that the function counts on
pub record ScopeFor (name : Option (List ℕ)) (parent : ScopeId) (old new : Heap) (scope : ScopeId) : Type 0 where
  pub within : scope.0 < length new.scopes
  pub slot : HasSlotFor name new scope
  pub by : (s : State) → StandsFor old (heap_of s) → OnHeap new s (scoped name parent s)
  pub is : (s : State) → StandsFor old (heap_of s) → scope ≡ scope_in name parent s
  pub named : (s : State) → StandsFor old (heap_of s) → HasName name scope (scoped name parent s)
  pub from : (slots : List ℕ) (scopes : ℕ) → SlotsFrom (slots_outwards slots scopes) old.scopes parent.0 → SlotsFrom (closure_slots slots scopes name) new.scopes scope.0

-- a function is made in a scope that may have its name
pub record MakesNamed (unit number params : ℕ) (scope : ScopeId) (name : Option (List ℕ)) (old new : Heap) (r : Result Value Stop) : Type 0 where
  pub by : (s : State) → StandsFor old (heap_of s) → HasName name scope s → Tells (OnHeap new s) (Unanswered s) new.texts r (made_named unit number params scope name s)
