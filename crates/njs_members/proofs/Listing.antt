-- The names that hide others.
use Rattle.std.proofs.Common.{◌≡◌, ℕ, zero, suc, ◌+◌, ◌<◌, ◌≤◌, List, [], ◌∷◌, ◌++◌, Option, Some, None, Bool, true, false, not, cond, ap, refl, sym, ◌∙◌, slice_get, length, is_some, arith}
use Rattle.std.specs.Prelude.{◌||◌, ◌&&◌}
use Rattle.std.specs.Fmt.{decimal}
use Rattle.std.specs.List.{list_any}
use Rattle.std.specs.Option.{option_map, option_map_or, option_and_then}
use Rattle.std.proofs.lemmas.Bool.{false_from_ne_true}
use Rattle.std.proofs.lemmas.List.Folds.{list_any-append}
use Rattle.std.proofs.lemmas.Slice.Eq.{bytes_eq-Decides}
use Rattle.njs_props.specs.Names.{length_name, same_name, index_of}
use Rattle.njs_props.specs.Props.{property, names_of}
use Rattle.njs_props.specs.declared.map.Property.{Property}
use Rattle.njs_props.proofs.Indices.{index_of-decimal, NamesIndex-index_of}
use Rattle.njs_value.specs.declared.Value.{Value}
use Rattle.njs_shared.specs.Heap.{Heap, HeapObject}
use Rattle.njs_clone.specs.Content.{content}
use Rattle.njs_clone.specs.StandsFor.{mapped}
use Rattle.njs_clone.proofs.Mapped.{property-mapped}
use Rattle.njs_meaning.specs.Primitives.{Undefined, Null, Truth, Number, Characters}
use Rattle.njs_meaning.specs.Values.{PlainValue, Simple, ObjectAt, length_value}
use Rattle.njs_meaning.specs.PlainHeap.{PlainObject}
use Rattle.njs_meaning.specs.Properties.{Properties}
use Rattle.njs_meaning.specs.Chains.{first_found, own}
use Rattle.njs_meaning.specs.Members.{character_at, text_member, index_names, is_enumerable}
use Rattle.njs_members.specs.Listed.{plain_object, own_names_of, all_names, is_visible}
use Rattle.njs_members.specs.Own.{own_of, IsShort}

differs : (a b : List ℕ) → (a ≡ b → ⊥) → same_name a b ≡ false
differs a b other = false_from_ne_true (same_name a b) (λ e. other ((bytes_eq-Decides a b).0 e))

agrees : (a b : List ℕ) → a ≡ b → same_name a b ≡ true
agrees a b same = (bytes_eq-Decides a b).1 same

-- ---- the indices of a text

module _ (name : List ℕ) where
  abbrev among : ℕ → List ℕ → Bool
  among k text = list_any (same_name name) (index_names k text)

  -- a name that is an index
  module _ (i : ℕ) (is : name ≡ decimal i) (small : i < 4294967295) where
    other_index : (k : ℕ) → k < 4294967295 → (k ≡ i → ⊥) → name ≡ decimal k → ⊥
    other_index k few other same =
        let both : Some i ≡ Some k = sym (index_of-decimal i small) ∙ ap index_of (sym is ∙ same) ∙ index_of-decimal k few in
        let equal : k ≡ i = cc in
        other equal

    listed : (k : ℕ) (text : List ℕ) (j : ℕ) → k + j ≡ i → k + length text ≤ 4294967295 → among k text ≡ is_some (slice_get text j)
    listed k [] j e few = refl
    listed k (c ∷ text) zero e few =
        let same : i ≡ k = omega arith in
        ap (λ b. b || among (k + 1) text) (agrees name (decimal k) (is ∙ ap decimal same))
    listed k (c ∷ text) (suc j) e few =
        ap (λ b. b || among (k + 1) text) (differs name (decimal k) (other_index k (omega arith) (λ same. omega arith)))
        ∙ listed (k + 1) text j (omega arith) (omega arith)

  -- a name that is none
  unlisted : ((i : ℕ) → i < 4294967295 → name ≡ decimal i → ⊥) → (k : ℕ) (text : List ℕ) → k + length text ≤ 4294967295 → among k text ≡ false
  unlisted none k [] few = refl
  unlisted none k (c ∷ text) few =
      ap (λ b. b || among (k + 1) text) (differs name (decimal k) (none k (omega arith))) ∙ unlisted none (k + 1) text (omega arith)

  there_same : {A B : Type 0} (f : A → B) (r : Option A) → is_some (option_map f r) ≡ is_some r
  there_same f None = refl
  there_same f (Some x) = refl

  indices_are : (text : List ℕ) → length text ≤ 1048576 → (r : Option ℕ) → index_of name ≡ r → among 0 text ≡ is_some (option_and_then (character_at text) r)
  indices_are text few None e = unlisted (NamesIndex-index_of name None e) 0 text (omega arith)
  indices_are text few (Some i) e =
      let spelled = NamesIndex-index_of name (Some i) e in
      listed i spelled.0 spelled.1 0 text i (omega arith) (omega arith) ∙ sym (there_same (λ c. Simple (Characters (c ∷ []))) (slice_get text i))

  text-names : (text : List ℕ) → length text ≤ 1048576 → list_any (same_name name) (index_names 0 text ++ length_name ∷ []) ≡ is_some (text_member name text)
  text-names text few =
      list_any-append (same_name name) (index_names 0 text) (length_name ∷ [])
      ∙ ap (λ b. b || (same_name name length_name || false)) (indices_are text few (index_of name) refl)
      ∙ by (same_name name length_name) (option_and_then (character_at text) (index_of name))
    where
      by : (b : Bool) (r : Option PlainValue) → (is_some r || (b || false)) ≡ is_some (cond b (Some (length_value (length text))) r)
      by true None = refl
      by true (Some v) = refl
      by false None = refl
      by false (Some v) = refl

  pub own-names : (v : PlainValue) → IsShort v → is_some (own_of name v) ≡ list_any (same_name name) (own_names_of v)
  own-names (Simple Undefined) short = refl
  own-names (Simple Null) short = refl
  own-names (Simple (Truth b)) short = refl
  own-names (Simple (Number n)) short = refl
  own-names (Simple (Characters text)) short = sym (text-names text short)
  own-names (ObjectAt o) short = refl

  -- ---- the names of objects

  names_there : (es : Properties PlainValue) → list_any (same_name name) (names_of es) ≡ is_some (property name es)
  names_there [] = refl
  names_there (e ∷ es) = ap (λ b. same_name name e.0 || b) (names_there es) ∙ by (same_name name e.0) (property name es)
    where
      by : (b : Bool) (r : Option (Property PlainValue)) → (b || is_some r) ≡ is_some (cond b (Some e.1) r)
      by true r = refl
      by false r = refl

  names_found : (os : List PlainObject) → list_any (same_name name) (all_names os) ≡ is_some (first_found (own name) os)
  names_found [] = refl
  names_found (o ∷ os) =
      list_any-append (same_name name) (names_of o.props) (all_names os)
      ∙ ap (λ b. b || list_any (same_name name) (all_names os)) (names_there o.props)
      ∙ ap (λ b. is_some (property name o.props) || b) (names_found os)
      ∙ by (property name o.props) (first_found (own name) os)
    where
      by : (r q : Option (Property PlainValue)) → (is_some r || is_some q) ≡ is_some (option_map_or (λ p. Some p) r q)
      by None q = refl
      by (Some p) q = refl

  pub hidden-behind : (v : PlainValue) (os : List PlainObject) (r : Bool) → list_any (same_name name) (own_names_of v) ≡ false → r ≡ is_some (first_found (own name) os)
      → r ≡ list_any (same_name name) (own_names_of v ++ all_names os)
  hidden-behind v os r none found =
      found ∙ sym (names_found os) ∙ sym (list_any-append (same_name name) (own_names_of v) (all_names os) ∙ ap (λ b. b || list_any (same_name name) (all_names os)) none)

  -- ---- the names that are listed

  enumerable_same : (h : Heap) (o : HeapObject) → is_enumerable name (plain_object h o) ≡ option_map_or (λ p. p.flags.enumerable) (property name o.props) false
  enumerable_same h o = ap (λ r. option_map_or (λ (p : Property PlainValue). p.flags.enumerable) r false) (property-mapped (content h.texts) name o.props) ∙ by (property name o.props)
    where
      by : (r : Option (Property Value)) → option_map_or (λ (p : Property PlainValue). p.flags.enumerable) (option_map (mapped (content h.texts)) r) false ≡ option_map_or (λ (p : Property Value). p.flags.enumerable) r false
      by None = refl
      by (Some p) = refl

  pub visible-is : (h : Heap) (o : HeapObject) (hidden : List (List ℕ)) (e b : Bool) → e ≡ option_map_or (λ (p : Property Value). p.flags.enumerable) (property name o.props) false → e ≡ b
      → is_visible hidden (plain_object h o) name ≡ (b && not (list_any (same_name name) hidden))
  visible-is h o hidden e b told is = ap (λ b. b && not (list_any (same_name name) hidden)) (enumerable_same h o ∙ sym told ∙ is)
