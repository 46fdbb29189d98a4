-- The objects of a heap by content, one after another along their prototypes.
use Rattle.std.proofs.Common.{◌≡◌, ℕ, suc, ◌<◌, List, Option, Some, None, Bool, true, false, ap, refl, sym, ◌∙◌, slice_get, length, is_some}
use Rattle.std.specs.Option.{option_map}
use Rattle.std.proofs.lemmas.Option.{slice_get-map}
use Rattle.std.proofs.lemmas.List.{length-map}
use Rattle.std.specs.Borrow.{Bor}
use Rattle.njs_value.specs.declared.Flags.{Flags}
use Rattle.njs_props.specs.Props.{property, property_lent}
use Rattle.njs_props.specs.declared.map.Property.{Property}
use Rattle.njs_value.specs.declared.ObjId.{ObjId}
use Rattle.njs_value.specs.declared.Value.{Value}
use Rattle.njs_shared.specs.Heap.{Heap, HeapObject}
use Rattle.njs_clone.specs.Content.{content}
use Rattle.njs_clone.specs.StandsFor.{mapped, plain_objects}
use Rattle.njs_clone.proofs.Mapped.{property-mapped}
use Rattle.njs_clone.proofs.Chains.{found_from, found_here, found_nowhere, found_above}
use Rattle.njs_meaning.specs.Chains.{own}
use Rattle.njs_members.specs.Listed.{plain_object}

-- a property that is lent is there where it is in the list
pub lent-some : (r : Option (Bor Value × Flags)) (q : Option (Property Value)) → option_map property_lent r ≡ q → is_some q ≡ is_some r
lent-some None q is = ap is_some (sym is)
lent-some (Some p) q is = ap is_some (sym is)

module _ (h : Heap) where
  pub plain-at : (at : ℕ) (o : HeapObject) → slice_get h.objects at ≡ Some o → slice_get (plain_objects h) at ≡ Some (plain_object h o)
  plain-at at o there = slice_get-map (plain_object h) h.objects at ∙ ap (option_map (plain_object h)) there

  pub plain-count : length (plain_objects h) ≡ length h.objects
  plain-count = length-map h.objects (plain_object h)

  -- what an object has under a name
  owned : (name : List ℕ) (o : HeapObject) (p : Property Value) → property name o.props ≡ Some p → own name (plain_object h o) ≡ Some (mapped (content h.texts) p)
  owned name o p is = property-mapped (content h.texts) name o.props ∙ ap (option_map (mapped (content h.texts))) is

  unowned : (name : List ℕ) (o : HeapObject) → property name o.props ≡ None → own name (plain_object h o) ≡ None
  unowned name o is = property-mapped (content h.texts) name o.props ∙ ap (option_map (mapped (content h.texts))) is

  abbrev pub found_by : List ℕ → ℕ → ℕ → Bool
  found_by name n at = is_some (found_from (own name) (plain_objects h) n at)

  pub by-here : (name : List ℕ) (n at : ℕ) (o : HeapObject) → 0 < n → slice_get h.objects at ≡ Some o → is_some (property name o.props) ≡ true → found_by name n at ≡ true
  by-here name n at o some there has = by (property name o.props) refl has
    where
      by : (r : Option (Property Value)) → property name o.props ≡ r → is_some r ≡ true → found_by name n at ≡ true
      by None is has = cc
      by (Some p) is has = ap is_some (found_here (own name) (plain_objects h) n at (plain_object h o) (mapped (content h.texts) p) some (plain-at at o there) (owned name o p is))

  absent : (name : List ℕ) (o : HeapObject) (r : Option (Property Value)) → property name o.props ≡ r → is_some r ≡ false → property name o.props ≡ None
  absent name o None is none = is
  absent name o (Some p) is none = cc

  pub by-nowhere : (name : List ℕ) (n at : ℕ) (o : HeapObject) → slice_get h.objects at ≡ Some o → is_some (property name o.props) ≡ false → o.prototype ≡ None → found_by name n at ≡ false
  by-nowhere name n at o there none last =
      ap is_some (found_nowhere (own name) (plain_objects h) n at (plain_object h o) (plain-at at o there) (unowned name o (absent name o (property name o.props) refl none)) last)

  pub by-above : (name : List ℕ) (n m at : ℕ) (o : HeapObject) (up : ObjId) → n ≡ suc m → slice_get h.objects at ≡ Some o → is_some (property name o.props) ≡ false → o.prototype ≡ Some up → found_by name m up.0 ≡ found_by name n at
  by-above name n m at o up more there none above =
      ap is_some (found_above (own name) (plain_objects h) n m at (plain_object h o) up more (plain-at at o there) (unowned name o (absent name o (property name o.props) refl none)) above)
