-- Names that are taken from the list on top.
use Rattle.std.specs.Prelude.{◌≡◌, ℕ, List, ◌∷◌, reverse, drop, slice_get, Option, Some, None}
use Rattle.njs_meaning.specs.Primitives.{Undefined, Characters}
use Rattle.njs_meaning.specs.Values.{PlainValue, Simple}
use Rattle.njs_interp.specs.declared.stacks.Listing.{Listing}
use Rattle.njs_interp.specs.declared.stacks.Stacks.{Stacks}

-- a name as an operand; where there is none, it is undefined
abbrev pub named_by : Option (List ℕ) → PlainValue
named_by None = Simple Undefined
named_by (Some name) = Simple (Characters name)

-- the list on top has lost its first name, if it had one, and nothing else has changed
pub record NameTaken (before after : Stacks) (name : Option (List ℕ)) : Type 0 where
  pub listing : Listing
  pub left : Listing
  pub below : List Listing
  pub lists_before : reverse before.lists.items ≡ listing ∷ below
  pub lists_after : reverse after.lists.items ≡ left ∷ below
  pub value : left.value ≡ listing.value
  pub names : reverse left.names.items ≡ drop 1 (reverse listing.names.items)
  pub next : name ≡ slice_get (reverse listing.names.items) 0
  pub rest : after ≡ record before { lists = after.lists }
