-- What is promised of the names that `for in` goes through.
use Rattle.std.specs.Prelude.{◌≡◌, ℕ, List, [], ◌∷◌, ◌++◌}
use Rattle.njs_shared.specs.Heap.{Heap}
use Rattle.njs_code.specs.declared.op.Address.{Address}
use Rattle.njs_code.specs.declared.op.Kind.TheVariants as kind
use Rattle.njs_code.specs.declared.op.Op.{Op}
use Rattle.njs_meaning.specs.State.{State}
use Rattle.njs_convert.specs.FirstHeap.{StandsFor}
use Rattle.njs_simul.specs.Stacks as plain
use Rattle.njs_simul.specs.Stacks.{Frame}
use Rattle.njs_simul.specs.Step.{Action, Goes, act, from}
use Rattle.njs_interp.specs.declared.lists.More.{More}
use Rattle.njs_interp.specs.declared.lists.More.TheVariants as more
use Rattle.njs_interp.specs.declared.stacks.Listing.{Listing}
use Rattle.njs_interp.specs.declared.stacks.Stacks.{Stacks}
use Rattle.njs_interp.specs.Plain.{heap_of, plain_stacks}

abbrev pub more_of : List (List ℕ) → More
more_of [] = more.None
more_of (name ∷ names) = more.Name

-- on where a name is left, and else at an address
abbrev pub goes_by : Frame → List Op → Address → List Op → plain.Stacks → State → More → Action
goes_by frame code to rest st s more.Name = Goes rest st s
goes_by frame code to rest st s more.None = Goes (from frame code to.0) st s

-- names were skipped: the answer says where the operation goes on, in every state that the heap stands for
pub record ActsOnNames (to : Address) (h : Heap) (before after : Stacks) (r : More) : Type 0 where
  pub by : (frame : Frame) (code rest : List Op) (s : State) → StandsFor h (heap_of s)
      → act frame code (kind.MoreNames to) rest (plain_stacks h.texts before) s ≡ goes_by frame code to rest (plain_stacks h.texts after) s r

-- a list comes on top, and nothing else changes
pub record AddsList (listing : Listing) (before after : Stacks) : Type 0 where
  pub operands : after.operands ≡ before.operands
  pub scopes : after.scopes ≡ before.scopes
  pub lists : after.lists.items ≡ before.lists.items ++ listing ∷ []
  pub endings : after.endings ≡ before.endings
