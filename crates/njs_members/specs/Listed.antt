-- The names that `for in` lists, object by object (ECMA-262 5.1 §12.6.4).
use Rattle.std.specs.Prelude.{ℕ, List, [], ◌∷◌, ◌++◌, Bool, not, ◌&&◌}
use Rattle.std.specs.List.{list_any}
use Rattle.njs_props.specs.Names.{same_name}
use Rattle.njs_props.specs.Props.{names_of}
use Rattle.njs_shared.specs.Heap.{Heap, HeapObject}
use Rattle.njs_clone.specs.Content.{content}
use Rattle.njs_clone.specs.StandsFor.{mapped_object, content_inner}
use Rattle.njs_meaning.specs.Values.{PlainValue, Simple, ObjectAt}
use Rattle.njs_meaning.specs.PlainHeap.{PlainObject}
use Rattle.njs_meaning.specs.Chains.{chain}
use Rattle.njs_meaning.specs.Members.{own_indices, own_names, is_enumerable}

-- an object of a heap, by content
abbrev pub plain_object : Heap → HeapObject → PlainObject
plain_object heap o = mapped_object (content heap.texts) (content_inner heap.texts) o

-- the names that a value has itself, beside those of objects: those that are listed, and all
abbrev pub indices_of : PlainValue → List (List ℕ)
indices_of (Simple p) = own_indices p
indices_of (ObjectAt o) = []

abbrev pub own_names_of : PlainValue → List (List ℕ)
own_names_of (Simple p) = own_names p
own_names_of (ObjectAt o) = []

-- the names of objects, one after another
abbrev pub all_names : List PlainObject → List (List ℕ)
all_names [] = []
all_names (o ∷ os) = names_of o.props ++ all_names os

-- the names that a value and the first objects on a chain hide
abbrev pub hidden_by : PlainValue → List PlainObject → ℕ → ℕ → List (List ℕ)
hidden_by v objects start depth = own_names_of v ++ all_names (chain depth objects start)

-- a name is listed of an object
abbrev pub is_visible : List (List ℕ) → PlainObject → List ℕ → Bool
is_visible hidden o name = is_enumerable name o && not (list_any (same_name name) hidden)
