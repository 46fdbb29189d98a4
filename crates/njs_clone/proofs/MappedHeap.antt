-- The operations on an object among others commute with a map of the values.
use Rattle.std.proofs.Common.{◌≡◌, ℕ, zero, suc, List, [], ◌∷◌, ◌++◌, Option, Some, None, Bool, true, false, not, cond, ap, refl, sym, ◌∙◌, slice_get, slice_set, length, map, if◌then◌else◌}
use Rattle.std.specs.Option.{option_map, option_map_or, option_and_then}
use Rattle.std.proofs.lemmas.Option.{slice_get-map}
use Rattle.std.proofs.lemmas.List.{length-map}
use Rattle.njs_value.specs.Object.{Object}
use Rattle.njs_value.specs.declared.Class.{Class}
use Rattle.njs_value.specs.declared.Desc.{Desc}
use Rattle.njs_value.specs.declared.Flags.{Flags}
use Rattle.njs_value.specs.declared.ObjId.{ObjId}
use Rattle.njs_props.specs.declared.map.Property.{Property}
use Rattle.njs_props.specs.Names.{in_key_order}
use Rattle.njs_props.specs.Props.{property}
use Rattle.njs_meaning.specs.Properties.{Properties, Change, done, delete}
use Rattle.njs_meaning.specs.Chains.{chain, first_found, own, own_read, own_at, nearest, get, keys, small_letters, is_headers_in}
use Rattle.njs_meaning.specs.Objects.{put, define, gives_other, first_props, change_at, with_props, with_stopped, put_at, define_at, delete_at, with_new_object}
use Rattle.njs_clone.specs.StandsFor.{mapped, mapped_all, mapped_change, mapped_desc, mapped_object}
use Rattle.njs_clone.proofs.Mapped.{property-mapped, names_of-mapped, put-mapped, define-mapped, delete-mapped, first_props-mapped}

slice_set-map : {A B : Type 0} (h : A → B) (xs : List A) (i : ℕ) (x : A) → slice_set (map h xs) i (h x) ≡ map h (slice_set xs i x)
slice_set-map h [] i x = refl
slice_set-map h (y ∷ ys) zero x = refl
slice_set-map h (y ∷ ys) (suc i) x = ap (λ t. h y ∷ t) (slice_set-map h ys i x)

map-push : {A B : Type 0} (h : A → B) (xs : List A) (x : A) → map h xs ++ h x ∷ [] ≡ map h (xs ++ x ∷ [])
map-push h [] x = refl
map-push h (y ∷ ys) x = ap (λ t. h y ∷ t) (map-push h ys x)

module _ {V W I J : Type 0} (f : V → W) (g : I → J) where
  abbrev see : Object (Property V) I → Object (Property W) J
  see o = mapped_object f g o

  chain-mapped : (n : ℕ) (objects : List (Object (Property V) I)) (at : ℕ) → chain n (map (mapped_object f g) objects) at ≡ map (mapped_object f g) (chain n objects at)
  chain-mapped zero objects at = refl
  chain-mapped (suc n) objects at =
      ap (λ r. option_map_or (λ (o : Object (Property W) J). o ∷ option_map_or (λ (up : ObjId). chain n (map (mapped_object f g) objects) up.0) o.prototype []) r []) (slice_get-map (mapped_object f g) objects at)
      ∙ by (slice_get objects at) (chain-mapped n objects)
    where
      up_by : (p : Option ObjId) → ((up : ℕ) → chain n (map (mapped_object f g) objects) up ≡ map (mapped_object f g) (chain n objects up))
          → option_map_or (λ (up : ObjId). chain n (map (mapped_object f g) objects) up.0) p [] ≡ map (mapped_object f g) (option_map_or (λ (up : ObjId). chain n objects up.0) p [])
      up_by None rest = refl
      up_by (Some up) rest = rest up.0

      by : (r : Option (Object (Property V) I)) → ((up : ℕ) → chain n (map (mapped_object f g) objects) up ≡ map (mapped_object f g) (chain n objects up))
          → option_map_or (λ (o : Object (Property W) J). o ∷ option_map_or (λ (up : ObjId). chain n (map (mapped_object f g) objects) up.0) o.prototype []) (option_map (mapped_object f g) r) []
          ≡ map (mapped_object f g) (option_map_or (λ (o : Object (Property V) I). o ∷ option_map_or (λ (up : ObjId). chain n objects up.0) o.prototype []) r [])
      by None rest = refl
      by (Some o) rest = ap (λ t. mapped_object f g o ∷ t) (up_by o.prototype rest)

  found-mapped : (look : Object (Property V) I → Option (Property V)) (look' : Object (Property W) J → Option (Property W)) (same : (o : Object (Property V) I) → look' (mapped_object f g o) ≡ option_map (mapped f) (look o))
      (os : List (Object (Property V) I)) → first_found look' (map (mapped_object f g) os) ≡ option_map (mapped f) (first_found look os)
  found-mapped look look' same [] = refl
  found-mapped look look' same (o ∷ os) =
      ap (λ r. option_map_or (λ p. Some p) r (first_found look' (map (mapped_object f g) os))) (same o) ∙ by (look o) (found-mapped look look' same os)
    where
      by : (r : Option (Property V)) → first_found look' (map (mapped_object f g) os) ≡ option_map (mapped f) (first_found look os)
          → option_map_or (λ p. Some p) (option_map (mapped f) r) (first_found look' (map (mapped_object f g) os)) ≡ option_map (mapped f) (option_map_or (λ p. Some p) r (first_found look os))
      by None rest = rest
      by (Some p) rest = refl

  along : (look : Object (Property V) I → Option (Property V)) (look' : Object (Property W) J → Option (Property W)) (same : (o : Object (Property V) I) → look' (mapped_object f g o) ≡ option_map (mapped f) (look o))
      (objects : List (Object (Property V) I)) (at : ℕ)
      → first_found look' (chain (length (map (mapped_object f g) objects)) (map (mapped_object f g) objects) at) ≡ option_map (mapped f) (first_found look (chain (length objects) objects at))
  along look look' same objects at =
      ap (λ n. first_found look' (chain n (map (mapped_object f g) objects) at)) (length-map objects (mapped_object f g))
      ∙ ap (first_found look') (chain-mapped (length objects) objects at) ∙ found-mapped look look' same (chain (length objects) objects at)

  pub nearest-mapped : (name : List ℕ) (objects : List (Object (Property V) I)) (at : ℕ) → nearest name (map (mapped_object f g) objects) at ≡ option_map (mapped f) (nearest name objects at)
  nearest-mapped name objects at = along (own name) (own name) (λ o. property-mapped f name o.props) objects at

  value_same : (missing : V) (missing' : W) → missing' ≡ f missing → (r : Option (Property V)) → option_map_or (λ p. p.value) (option_map (mapped f) r) missing' ≡ f (option_map_or (λ p. p.value) r missing)
  value_same missing missing' same None = same
  value_same missing missing' same (Some p) = refl

  pub get-mapped : (missing : V) (missing' : W) → missing' ≡ f missing → (name : List ℕ) (objects : List (Object (Property V) I)) (at : ℕ) → get missing' name (map (mapped_object f g) objects) at ≡ f (get missing name objects at)
  get-mapped missing missing' same name objects at =
      ap (λ r. option_map_or (λ (p : Property W). p.value) r missing') (along (own_read name) (own_read name) (λ o. property-mapped f (if is_headers_in o.class then small_letters name else name) o.props) objects at)
      ∙ value_same missing missing' same (first_found (own_read name) (chain (length objects) objects at))

  pub own_at-mapped : (name : List ℕ) (objects : List (Object (Property V) I)) (at : ℕ) → own_at name (map (mapped_object f g) objects) at ≡ option_map (mapped f) (own_at name objects at)
  own_at-mapped name objects at = ap (option_and_then (own name)) (slice_get-map (mapped_object f g) objects at) ∙ by (slice_get objects at)
    where
      by : (r : Option (Object (Property V) I)) → option_and_then (own name) (option_map (mapped_object f g) r) ≡ option_map (mapped f) (option_and_then (own name) r)
      by None = refl
      by (Some o) = property-mapped f name o.props

  pub keys-mapped : (o : Object (Property V) I) → keys (mapped_object f g o) ≡ keys o
  keys-mapped o = ap in_key_order (names_of-mapped f o.props)

  change_at-mapped : (h : Object (Property V) I → Change V) (h' : Object (Property W) J → Change W) (same : (o : Object (Property V) I) → h' (mapped_object f g o) ≡ mapped_change f (h o))
      (objects : List (Object (Property V) I)) (at : ℕ) → change_at h' (map (mapped_object f g) objects) at ≡ mapped_change f (change_at h objects at)
  change_at-mapped h h' same objects at = ap (λ r. option_map_or h' r (done [])) (slice_get-map (mapped_object f g) objects at) ∙ by (slice_get objects at)
    where
      by : (r : Option (Object (Property V) I)) → option_map_or h' (option_map (mapped_object f g) r) (done []) ≡ mapped_change f (option_map_or h r (done []))
      by None = refl
      by (Some o) = same o

  pub delete_at-mapped : (name : List ℕ) (objects : List (Object (Property V) I)) (at : ℕ) → delete_at name (map (mapped_object f g) objects) at ≡ mapped_change f (delete_at name objects at)
  delete_at-mapped name objects at = change_at-mapped (λ o. delete name o.props) (λ o. delete name o.props) (λ o. delete-mapped f name o.props) objects at

  pub with_props-mapped : (objects : List (Object (Property V) I)) (at : ℕ) (props : Properties V) → with_props (map (mapped_object f g) objects) at (mapped_all f props) ≡ map (mapped_object f g) (with_props objects at props)
  with_props-mapped objects at props =
      ap (λ r. option_map_or (λ (o : Object (Property W) J). slice_set (map (mapped_object f g) objects) at (record o { props = mapped_all f props })) r (map (mapped_object f g) objects)) (slice_get-map (mapped_object f g) objects at) ∙ by (slice_get objects at)
    where
      by : (r : Option (Object (Property V) I)) → option_map_or (λ (o : Object (Property W) J). slice_set (map (mapped_object f g) objects) at (record o { props = mapped_all f props })) (option_map (mapped_object f g) r) (map (mapped_object f g) objects)
          ≡ map (mapped_object f g) (option_map_or (λ (o : Object (Property V) I). slice_set objects at (record o { props = props })) r objects)
      by None = refl
      by (Some o) = slice_set-map (mapped_object f g) objects at (record o { props = props })

  pub with_stopped-mapped : (objects : List (Object (Property V) I)) (at : ℕ) → with_stopped (map (mapped_object f g) objects) at ≡ map (mapped_object f g) (with_stopped objects at)
  with_stopped-mapped objects at =
      ap (λ r. option_map_or (λ (o : Object (Property W) J). slice_set (map (mapped_object f g) objects) at (record o { extensible = false })) r (map (mapped_object f g) objects)) (slice_get-map (mapped_object f g) objects at) ∙ by (slice_get objects at)
    where
      by : (r : Option (Object (Property V) I)) → option_map_or (λ (o : Object (Property W) J). slice_set (map (mapped_object f g) objects) at (record o { extensible = false })) (option_map (mapped_object f g) r) (map (mapped_object f g) objects)
          ≡ map (mapped_object f g) (option_map_or (λ (o : Object (Property V) I). slice_set objects at (record o { extensible = false })) r objects)
      by None = refl
      by (Some o) = slice_set-map (mapped_object f g) objects at (record o { extensible = false })

  flags_same : (r : Option (Property V)) → option_map (λ p. p.flags) (option_map (mapped f) r) ≡ option_map (λ p. p.flags) r
  flags_same None = refl
  flags_same (Some p) = refl

  module _ (given : V → Option ℕ) (given' : W → Option ℕ) (same_given : (v : V) → given' (f v) ≡ given v) (stored : V → ℕ) (stored' : W → ℕ) (same_stored : (v : V) → stored' (f v) ≡ stored v)
      (written : ℕ → V) (written' : ℕ → W) (same_written : (n : ℕ) → written' n ≡ f (written n)) where
    pub put_at-mapped : (name : List ℕ) (v : V) (objects : List (Object (Property V) I)) (at : ℕ)
        → put_at given' stored' written' name (f v) (map (mapped_object f g) objects) at ≡ mapped_change f (put_at given stored written name v objects at)
    put_at-mapped name v objects at =
        ap (λ r. change_at (λ (o : Object (Property W) J). put stored' written' (given' (f v)) o.class o.extensible r name (f v) o.props) (map (mapped_object f g) objects) at)
        (ap (option_map (λ (p : Property W). p.flags)) (nearest-mapped name objects at) ∙ flags_same (nearest name objects at))
        ∙ ap (λ l. change_at (λ (o : Object (Property W) J). put stored' written' l o.class o.extensible (option_map (λ p. p.flags) (nearest name objects at)) name (f v) o.props) (map (mapped_object f g) objects) at) (same_given v)
        ∙ change_at-mapped (λ o. put stored written (given v) o.class o.extensible (option_map (λ p. p.flags) (nearest name objects at)) name v o.props) _
        (λ o. put-mapped f stored stored' same_stored written written' same_written (given v) o.class o.extensible (option_map (λ p. p.flags) (nearest name objects at)) name v o.props) objects at

    given_by : (r : Option V) → option_and_then given' (option_map f r) ≡ option_and_then given r
    given_by None = refl
    given_by (Some v) = same_given v

    module _ (missing : V) (missing' : W) (same_missing : missing' ≡ f missing) (same : V → V → Bool) (same' : W → W → Bool) (same_same : (v w : V) → same' (f v) (f w) ≡ same v w) where
      other_by : (r : Option V) (p : V) → option_map_or (λ v. not (same' v (f p))) (option_map f r) false ≡ option_map_or (λ v. not (same v p)) r false
      other_by None p = refl
      other_by (Some v) p = ap not (same_same v p)

      other_mapped : (d : Desc V) (r : Option (Property V)) → gives_other same' (mapped_desc f d) (option_map (mapped f) r) ≡ gives_other same d r
      other_mapped d None = refl
      other_mapped d (Some p) = other_by d.value p.value

      pub define_at-mapped : (name : List ℕ) (d : Desc V) (objects : List (Object (Property V) I)) (at : ℕ)
          → define_at given' stored' written' missing' same' name (mapped_desc f d) (map (mapped_object f g) objects) at ≡ mapped_change f (define_at given stored written missing same name d objects at)
      define_at-mapped name d objects at =
          change_at-mapped (λ o. define stored written missing (option_and_then given d.value) (gives_other same d (property name o.props)) o.class o.extensible name d o.props) _
          (λ o. ap (λ r. define stored' written' missing' (option_and_then given' (option_map f d.value)) (gives_other same' (mapped_desc f d) r) o.class o.extensible name (mapped_desc f d) (mapped_all f o.props)) (property-mapped f name o.props)
          ∙ ap (λ b. define stored' written' missing' (option_and_then given' (option_map f d.value)) b o.class o.extensible name (mapped_desc f d) (mapped_all f o.props)) (other_mapped d (property name o.props))
          ∙ ap (λ l. define stored' written' missing' l (gives_other same d (property name o.props)) o.class o.extensible name (mapped_desc f d) (mapped_all f o.props)) (given_by d.value)
          ∙ define-mapped f stored stored' same_stored written written' same_written missing missing' same_missing (option_and_then given d.value) (gives_other same d (property name o.props)) o.class o.extensible name d o.props)
          objects at

    pub created-mapped : (class : Class) (prototype : Option ObjId) (inner : I) (objects : List (Object (Property V) I))
        → with_new_object written' class prototype (g inner) (map (mapped_object f g) objects) ≡ map (mapped_object f g) (with_new_object written class prototype inner objects)
    created-mapped class prototype inner objects =
        ap (λ ps. map (mapped_object f g) objects ++ record { class = class; prototype = prototype; extensible = true; props = ps; inner = g inner } ∷ []) (first_props-mapped f stored stored' same_stored written written' same_written class)
        ∙ map-push (mapped_object f g) objects (record { class = class; prototype = prototype; extensible = true; props = first_props written class; inner = inner })
