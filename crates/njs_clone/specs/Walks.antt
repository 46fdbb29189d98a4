-- Walks along prototypes, bound functions and scopes that come to their ends.
use Rattle.std.specs.Prelude.{◌≡◌, ℕ, ◌+◌, length}
use Rattle.njs_shared.specs.Heap.{Heap}
use Rattle.njs_meaning.specs.PlainHeap.{PlainHeap}
use Rattle.njs_meaning.specs.Chains.{chain}
use Rattle.njs_meaning.specs.Operations.{target_of, behind}
use Rattle.njs_meaning.specs.Functions.{Program, is_constructor}
use Rattle.njs_meaning.specs.Scopes.{outwards}

-- a walk of as many steps as there are objects or scopes comes to its end: more steps find nothing more
pub record WalksEnd (heap : PlainHeap) : Type 0 where
  pub chain : (more at : ℕ) → chain (length heap.objects + more) heap.objects at ≡ chain (length heap.objects) heap.objects at
  pub behind : (more at : ℕ) → behind (length heap.objects + more) heap.objects at ≡ behind (length heap.objects) heap.objects at
  pub target : (more at : ℕ) → target_of (length heap.objects + more) heap.objects at ≡ target_of (length heap.objects) heap.objects at
  pub constructor : (program : Program) (more at : ℕ) → is_constructor program (length heap.objects + more) heap.objects at ≡ is_constructor program (length heap.objects) heap.objects at
  pub outwards : (more at : ℕ) → outwards (length heap.scopes + more) heap.scopes at ≡ outwards (length heap.scopes) heap.scopes at

-- so does the walk along the prototypes of a heap with numbered texts
abbrev pub ChainsEnd : Heap → Type 0
ChainsEnd heap = (more at : ℕ) → chain (length heap.objects + more) heap.objects at ≡ chain (length heap.objects) heap.objects at
