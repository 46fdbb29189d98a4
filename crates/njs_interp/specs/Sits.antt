-- What stands at an operation: as much as it counts on, all of it of the machine, and the scopes with their slots.
use Rattle.std.specs.Prelude.{◌≡◌, ℕ, ◌≤◌, List, [], ◌∷◌, ◌++◌, length, replicate, ◌+◌, Some, slice_get}
use Rattle.std.specs.List.{AllByRecursion}
use Rattle.njs_value.specs.declared.ScopeId.{ScopeId}
use Rattle.njs_shared.specs.declared.object.Scope.{Scope}
use Rattle.njs_shared.specs.Heap.{Heap, Sizes, sizes}
use Rattle.njs_shared.specs.Fits.{FitsValue}
use Rattle.njs_code.specs.declared.op.Depth.{Depth}
use Rattle.njs_code.specs.declared.op.Op.{Op}
use Rattle.njs_code.specs.declared.code.FunctionCode.{FunctionCode}
use Rattle.njs_code.specs.Effects.{operands_taken, scopes_needed, lists_needed, endings_taken}
use Rattle.njs_code.specs.Facts.{Names}
use Rattle.njs_interp.specs.declared.stacks.Ending.{Ending}
use Rattle.njs_interp.specs.declared.stacks.Ending.TheVariants as ending
use Rattle.njs_interp.specs.declared.stacks.Stacks.{Stacks}

-- a scope with at least so many slots
pub record HasSlots (count : ℕ) (scopes : List Scope) (at : ℕ) : Type 0 where
  pub scope : Scope
  pub there : slice_get scopes at ≡ Some scope
  pub slots : count ≤ length scope.slots

-- the scopes from this one outwards have so many slots; the outermost is the first
abbrev pub SlotsFrom : List ℕ → List Scope → ℕ → Type 0
SlotsFrom [] scopes at = ⊥
SlotsFrom (count ∷ []) scopes at = (at ≡ 0) × HasSlots count scopes at
SlotsFrom (count ∷ (next ∷ rest)) scopes at =
    (has : HasSlots count scopes at) × (up : ScopeId) × (has.scope.parent ≡ Some up) × SlotsFrom (next ∷ rest) scopes up.0

-- the scopes that were entered in a call of a function with these slots: the call's own last, and each of the others with one slot
abbrev pub Entered : List ℕ → List Scope → List ScopeId → Type 0
Entered slots scopes [] = ⊥
Entered slots scopes (own ∷ []) = SlotsFrom slots scopes own.0
Entered slots scopes (at ∷ (next ∷ rest)) = SlotsFrom (replicate (length rest + 1) 1 ++ slots) scopes at.0 × Entered slots scopes (next ∷ rest)

abbrev pub FitsEnding : Sizes → Ending → Type 0
FitsEnding n ending.Normal = Unit {0}
FitsEnding n (ending.Returned v) = FitsValue n v
FitsEnding n (ending.Broken label) = Unit {0}
FitsEnding n (ending.Continued label) = Unit {0}
FitsEnding n (ending.Thrown v) = FitsValue n v

-- what stands is as deep as this, and of the heap
pub record Sits (h : Heap) (slots : List ℕ) (depth : Depth) (st : Stacks) : Type 0 where
  pub operands : length st.operands ≡ depth.operands
  pub scopes : length st.scopes ≡ depth.scopes
  pub lists : length st.lists.items ≡ depth.lists
  pub endings : length st.endings ≡ depth.endings
  pub values : AllByRecursion (FitsValue (sizes h)) st.operands
  pub listed : AllByRecursion (λ l. FitsValue (sizes h) l.value) st.lists.items
  pub ended : AllByRecursion (FitsEnding (sizes h)) st.endings
  pub entered : Entered slots h.scopes st.scopes

-- an operation with all that it takes, needs and names
pub record Ready (functions : List FunctionCode) (f : FunctionCode) (op : Op) (h : Heap) (st : Stacks) : Type 0 where
  pub sits : Sits h f.slots op.depth st
  pub operands : operands_taken op.kind ≤ op.depth.operands
  pub scopes : scopes_needed op.kind ≤ op.depth.scopes
  pub lists : lists_needed op.kind ≤ op.depth.lists
  pub endings : endings_taken op.kind ≤ op.depth.endings
  pub names : Names functions f.slots op.depth.scopes op.kind
