-- What the code of a program counts on in a state: the names of the scopes that its functions stand in (ECMA-262 5.1 §10.2, §13.2).
use Rattle.std.specs.Prelude.{◌≡◌, ℕ, ◌<◌, ◌≤◌, List, [], ◌∷◌, Some, None, slice_get}
use Rattle.njs_value.specs.declared.ScopeId.{ScopeId}
use Rattle.njs_meaning.specs.Values.{PlainValue}
use Rattle.njs_meaning.specs.PlainHeap.{PlainObject, PlainScope, PlainInner, Plain, Script, BuiltIn, Bound, ZoneNumber}
use Rattle.njs_meaning.specs.Places.{Bindings, Around, bindings_of}
use Rattle.njs_meaning.specs.State.{State, Outcome, Gives, Throws, Spent, Asks}
use Rattle.njs_meaning.specs.Running.{Calls}

-- a scope with these names
pub record HasNames (bindings : Bindings) (scopes : List PlainScope) (at : ℕ) : Type 0 where
  pub scope : PlainScope
  pub there : slice_get scopes at ≡ Some scope
  pub names : bindings_of scope.variables ≡ bindings

-- the scopes from this one outwards have these names; the outermost is the first
abbrev pub Scoped : Around → List PlainScope → ℕ → Type 0
Scoped [] scopes at = ⊥
Scoped (names ∷ []) scopes at = (at ≡ 0) × (has : HasNames names scopes at) × (has.scope.parent ≡ None)
Scoped (names ∷ (next ∷ rest)) scopes at =
    (has : HasNames names scopes at) × (up : ScopeId) × (has.scope.parent ≡ Some up) × (up.0 < at) × Scoped (next ∷ rest) scopes up.0

-- the names of the scopes around each function of each module
abbrev pub Names : Type 0
Names = ℕ → ℕ → Around

abbrev pub FitsInner : Names → PlainInner → List PlainScope → Type 0
FitsInner env Plain scopes = Unit {0}
FitsInner env (Script unit number scope) scopes = Scoped (env unit number) scopes scope.0
FitsInner env (BuiltIn row) scopes = Unit {0}
FitsInner env (Bound target this args) scopes = Unit {0}
FitsInner env (ZoneNumber zone) scopes = Unit {0}

-- every function stands in scopes with the names around it
pub record Good (env : Names) (s : State) : Type 0 where
  pub each : (at : ℕ) (o : PlainObject) → slice_get s.objects at ≡ Some o → FitsInner env o.inner s.scopes

-- each scope keeps its names and the scope around it, and ticks only fall
pub record SameScope (scope : PlainScope) (scopes : List PlainScope) (at : ℕ) : Type 0 where
  pub now : PlainScope
  pub there : slice_get scopes at ≡ Some now
  pub names : bindings_of now.variables ≡ bindings_of scope.variables
  pub parent : now.parent ≡ scope.parent

pub record Keeps (s t : State) : Type 0 where
  pub scopes : (at : ℕ) (scope : PlainScope) → slice_get s.scopes at ≡ Some scope → SameScope scope t.scopes at
  pub ticks : t.ticks ≤ s.ticks

pub record Fares (env : Names) (s t : State) : Type 0 where
  pub keeps : Keeps s t
  pub good : Good env t

-- so does whatever comes of it
abbrev pub Fared : {A : Type 0} → Names → State → Outcome A → Type 0
Fared env s (Gives a t) = Fares env s t
Fared env s (Throws v t) = Fares env s t
Fared env s (Spent t) = Fares env s t
Fared env s (Asks zone op t) = Fares env s t

-- calls lead from good states to good states
pub record CallsFare (env : Names) (calls : Calls) : Type 0 where
  pub call : (f this : PlainValue) (args : List PlainValue) (s : State) → Good env s → Fared env s (calls.call f this args s)
  pub construct : (f : PlainValue) (args : List PlainValue) (s : State) → Good env s → Fared env s (calls.construct f args s)
