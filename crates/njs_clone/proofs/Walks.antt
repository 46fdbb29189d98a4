-- Each walk of the definitions comes to its end within the steps that its way has.
use Rattle.std.proofs.Common.{◌≡◌, ℕ, zero, suc, ◌+◌, List, [], ◌∷◌, Option, Some, None, Bool, false, ap, refl, ◌∙◌, subst, length, map, slice_get, arith}
use Rattle.std.proofs.lemmas.List.{length-map}
use Rattle.std.proofs.lemmas.Option.{slice_get-map}
use Rattle.std.specs.Option.{option_map, option_map_or, option_and_then}
use Rattle.njs_value.specs.Ends.{Ends}
use Rattle.njs_value.specs.Object.{Object}
use Rattle.njs_value.specs.declared.ObjId.{ObjId}
use Rattle.njs_value.specs.declared.ScopeId.{ScopeId}
use Rattle.njs_meaning.specs.PlainHeap.{PlainInner, PlainObject, PlainScope, Plain, Script, BuiltIn, Bound, ZoneNumber, bound_target}
use Rattle.njs_meaning.specs.Chains.{chain}
use Rattle.njs_meaning.specs.Operations.{target_of, behind}
use Rattle.njs_meaning.specs.Functions.{Program, is_constructor, constructs_inner}
use Rattle.njs_meaning.specs.Scopes.{outwards}
use Rattle.njs_clone.proofs.Steps.{EndsWithin, all_end}

-- no step but those that are left
more_of : (n more : ℕ) → suc n + more ≡ suc (n + more)
more_of n more = omega arith

-- the way of each item of a list, whose length has as many steps as it
module _ {X : Type 0} (f : X → Option ℕ) (xs : List X) where
  way_at : (at : ℕ) (x : X) (next : ℕ) → slice_get xs at ≡ Some x → f x ≡ Some next → slice_get (map f xs) at ≡ Some (Some next)
  way_at at x next there leads = slice_get-map f xs at ∙ ap (option_map f) there ∙ ap (λ r. Some r) leads

  no_way : (at : ℕ) → slice_get (map f xs) at ≡ None → slice_get xs at ≡ None
  no_way at none = by (slice_get xs at) refl
    where
      by : (r : Option X) → slice_get xs at ≡ r → r ≡ None
      by None is = refl
      by (Some x) is = let there : slice_get (map f xs) at ≡ Some (f x) = slice_get-map f xs at ∙ ap (option_map f) is in cc

  ways_end : Ends (map f xs) → (at : ℕ) → EndsWithin (map f xs) (length xs) at
  ways_end ends at = subst (λ n. EndsWithin (map f xs) n at) (length-map xs f) (all_end (map f xs) ends at)

-- ---- prototypes

module _ {P I : Type 0} (objects : List (Object P I)) where
  abbrev up_of : Object P I → Option ℕ
  up_of o = option_map (λ up. up.0) o.prototype

  chain_none : (n at : ℕ) → slice_get objects at ≡ None → chain n objects at ≡ []
  chain_none zero at none = refl
  chain_none (suc n) at none = ap (λ r. option_map_or (λ (o : Object P I). o ∷ option_map_or (λ up. chain n objects up.0) o.prototype []) r []) none

  chain_opened : (n more at : ℕ) → EndsWithin (map up_of objects) n at → chain (n + more) objects at ≡ chain n objects at
  chain_opened zero more at ends = chain_none (zero + more) at (no_way up_of objects at ends)
  chain_opened (suc n) more at ends =
      ap (λ k. chain k objects at) (more_of n more) ∙ by (slice_get objects at) refl (λ up found. chain_opened n more up (ends up found))
    where
      up_by : (o : Object P I) (r : Option ObjId) → o.prototype ≡ r → slice_get objects at ≡ Some o
          → ((up : ℕ) → slice_get (map up_of objects) at ≡ Some (Some up) → chain (n + more) objects up ≡ chain n objects up)
          → option_map_or (λ (up : ObjId). chain (n + more) objects up.0) r [] ≡ option_map_or (λ (up : ObjId). chain n objects up.0) r []
      up_by o None leads there rest = refl
      up_by o (Some up) leads there rest = rest up.0 (way_at up_of objects at o up.0 there (ap (option_map (λ (up : ObjId). up.0)) leads))

      by : (r : Option (Object P I)) → slice_get objects at ≡ r
          → ((up : ℕ) → slice_get (map up_of objects) at ≡ Some (Some up) → chain (n + more) objects up ≡ chain n objects up)
          → option_map_or (λ (o : Object P I). o ∷ option_map_or (λ up. chain (n + more) objects up.0) o.prototype []) r []
          ≡ option_map_or (λ (o : Object P I). o ∷ option_map_or (λ up. chain n objects up.0) o.prototype []) r []
      by None there rest = refl
      by (Some o) there rest = ap (λ os. o ∷ os) (up_by o o.prototype refl there rest)

  pub chain_ends : Ends (map up_of objects) → (more at : ℕ) → chain (length objects + more) objects at ≡ chain (length objects) objects at
  chain_ends ends more at = chain_opened (length objects) more at (ways_end up_of objects ends at)

-- ---- prototypes and targets of the plain heap

up_found : (r : Option PlainObject) (up : ObjId) → option_and_then (λ o. o.prototype) r ≡ Some up → option_map (λ o. option_map (λ up. up.0) o.prototype) r ≡ Some (Some up.0)
up_found None up is = cc
up_found (Some o) up is = ap (λ r. Some (option_map (λ (up : ObjId). up.0) r)) is

target_found : (r : Option PlainObject) (next : ℕ) → option_and_then (λ o. bound_target o.inner) r ≡ Some next → option_map (λ o. bound_target o.inner) r ≡ Some (Some next)
target_found None next is = cc
target_found (Some o) next is = ap (λ r. Some r) is

module _ (objects : List PlainObject) where
  abbrev plain_up : PlainObject → Option ℕ
  plain_up o = option_map (λ up. up.0) o.prototype

  abbrev plain_target : PlainObject → Option ℕ
  plain_target o = bound_target o.inner

  behind_none : (n at : ℕ) → slice_get objects at ≡ None → behind n objects at ≡ []
  behind_none zero at none = refl
  behind_none (suc n) at none = ap (λ r. option_map_or (λ up. up.0 ∷ behind n objects up.0) (option_and_then (λ (o : PlainObject). o.prototype) r) []) none

  behind_opened : (n more at : ℕ) → EndsWithin (map plain_up objects) n at → behind (n + more) objects at ≡ behind n objects at
  behind_opened zero more at ends = behind_none (zero + more) at (no_way plain_up objects at ends)
  behind_opened (suc n) more at ends =
      ap (λ k. behind k objects at) (more_of n more) ∙ by (option_and_then (λ (o : PlainObject). o.prototype) (slice_get objects at)) refl (λ up found. behind_opened n more up (ends up found))
    where
      by : (r : Option ObjId) → option_and_then (λ (o : PlainObject). o.prototype) (slice_get objects at) ≡ r
          → ((up : ℕ) → slice_get (map plain_up objects) at ≡ Some (Some up) → behind (n + more) objects up ≡ behind n objects up)
          → option_map_or (λ (up : ObjId). up.0 ∷ behind (n + more) objects up.0) r [] ≡ option_map_or (λ (up : ObjId). up.0 ∷ behind n objects up.0) r []
      by None is rest = refl
      by (Some up) is rest = ap (λ ups. up.0 ∷ ups) (rest up.0 (slice_get-map plain_up objects at ∙ up_found (slice_get objects at) up is))

  pub behind_ends : Ends (map plain_up objects) → (more at : ℕ) → behind (length objects + more) objects at ≡ behind (length objects) objects at
  behind_ends ends more at = behind_opened (length objects) more at (ways_end plain_up objects ends at)

  target_none : (n at : ℕ) → slice_get objects at ≡ None → target_of n objects at ≡ at
  target_none zero at none = refl
  target_none (suc n) at none = ap (λ r. option_map_or (target_of n objects) (option_and_then (λ (o : PlainObject). bound_target o.inner) r) at) none

  target_opened : (n more at : ℕ) → EndsWithin (map plain_target objects) n at → target_of (n + more) objects at ≡ target_of n objects at
  target_opened zero more at ends = target_none (zero + more) at (no_way plain_target objects at ends)
  target_opened (suc n) more at ends =
      ap (λ k. target_of k objects at) (more_of n more)
      ∙ by (option_and_then (λ (o : PlainObject). bound_target o.inner) (slice_get objects at)) refl (λ next found. target_opened n more next (ends next found))
    where
      by : (r : Option ℕ) → option_and_then (λ (o : PlainObject). bound_target o.inner) (slice_get objects at) ≡ r
          → ((next : ℕ) → slice_get (map plain_target objects) at ≡ Some (Some next) → target_of (n + more) objects next ≡ target_of n objects next)
          → option_map_or (target_of (n + more) objects) r at ≡ option_map_or (target_of n objects) r at
      by None is rest = refl
      by (Some next) is rest = rest next (slice_get-map plain_target objects at ∙ target_found (slice_get objects at) next is)

  pub target_ends : Ends (map plain_target objects) → (more at : ℕ) → target_of (length objects + more) objects at ≡ target_of (length objects) objects at
  target_ends ends more at = target_opened (length objects) more at (ways_end plain_target objects ends at)

  module _ (program : Program) where
    constructor_none : (n at : ℕ) → slice_get objects at ≡ None → is_constructor program n objects at ≡ false
    constructor_none zero at none = refl
    constructor_none (suc n) at none = ap (λ r. option_map_or (λ (o : PlainObject). constructs_inner program (is_constructor program n objects) o.inner) r false) none

    -- a bound function goes by its target, and no other by anything behind it
    inner_same : (c d : ℕ → Bool) (i : PlainInner) → ((next : ℕ) → bound_target i ≡ Some next → c next ≡ d next) → constructs_inner program c i ≡ constructs_inner program d i
    inner_same c d Plain same = refl
    inner_same c d (Script unit code scope) same = refl
    inner_same c d (BuiltIn row) same = refl
    inner_same c d (Bound target this args) same = same target.0 refl
    inner_same c d (ZoneNumber zone) same = refl

    constructor_opened : (n more at : ℕ) → EndsWithin (map plain_target objects) n at → is_constructor program (n + more) objects at ≡ is_constructor program n objects at
    constructor_opened zero more at ends = constructor_none (zero + more) at (no_way plain_target objects at ends)
    constructor_opened (suc n) more at ends =
        ap (λ k. is_constructor program k objects at) (more_of n more) ∙ by (slice_get objects at) refl (λ next found. constructor_opened n more next (ends next found))
      where
        by : (r : Option PlainObject) → slice_get objects at ≡ r
            → ((next : ℕ) → slice_get (map plain_target objects) at ≡ Some (Some next) → is_constructor program (n + more) objects next ≡ is_constructor program n objects next)
            → option_map_or (λ (o : PlainObject). constructs_inner program (is_constructor program (n + more) objects) o.inner) r false
            ≡ option_map_or (λ (o : PlainObject). constructs_inner program (is_constructor program n objects) o.inner) r false
        by None there rest = refl
        by (Some o) there rest =
            inner_same (is_constructor program (n + more) objects) (is_constructor program n objects) o.inner (λ next leads. rest next (way_at plain_target objects at o next there leads))

    pub constructor_ends : Ends (map plain_target objects) → (more at : ℕ) → is_constructor program (length objects + more) objects at ≡ is_constructor program (length objects) objects at
    constructor_ends ends more at = constructor_opened (length objects) more at (ways_end plain_target objects ends at)

-- ---- scopes

module _ (scopes : List PlainScope) where
  abbrev out_of : PlainScope → Option ℕ
  out_of s = option_map (λ up. up.0) s.parent

  outwards_none : (n at : ℕ) → slice_get scopes at ≡ None → outwards n scopes at ≡ []
  outwards_none zero at none = refl
  outwards_none (suc n) at none = ap (λ r. option_map_or (λ (s : PlainScope). at ∷ option_map_or (λ up. outwards n scopes up.0) s.parent []) r []) none

  outwards_opened : (n more at : ℕ) → EndsWithin (map out_of scopes) n at → outwards (n + more) scopes at ≡ outwards n scopes at
  outwards_opened zero more at ends = outwards_none (zero + more) at (no_way out_of scopes at ends)
  outwards_opened (suc n) more at ends =
      ap (λ k. outwards k scopes at) (more_of n more) ∙ by (slice_get scopes at) refl (λ up found. outwards_opened n more up (ends up found))
    where
      up_by : (s : PlainScope) (r : Option ScopeId) → s.parent ≡ r → slice_get scopes at ≡ Some s
          → ((up : ℕ) → slice_get (map out_of scopes) at ≡ Some (Some up) → outwards (n + more) scopes up ≡ outwards n scopes up)
          → option_map_or (λ (up : ScopeId). outwards (n + more) scopes up.0) r [] ≡ option_map_or (λ (up : ScopeId). outwards n scopes up.0) r []
      up_by s None leads there rest = refl
      up_by s (Some up) leads there rest = rest up.0 (way_at out_of scopes at s up.0 there (ap (option_map (λ (up : ScopeId). up.0)) leads))

      by : (r : Option PlainScope) → slice_get scopes at ≡ r
          → ((up : ℕ) → slice_get (map out_of scopes) at ≡ Some (Some up) → outwards (n + more) scopes up ≡ outwards n scopes up)
          → option_map_or (λ (s : PlainScope). at ∷ option_map_or (λ up. outwards (n + more) scopes up.0) s.parent []) r []
          ≡ option_map_or (λ (s : PlainScope). at ∷ option_map_or (λ up. outwards n scopes up.0) s.parent []) r []
      by None there rest = refl
      by (Some s) there rest = ap (λ ups. at ∷ ups) (up_by s s.parent refl there rest)

  pub outwards_ends : Ends (map out_of scopes) → (more at : ℕ) → outwards (length scopes + more) scopes at ≡ outwards (length scopes) scopes at
  outwards_ends ends more at = outwards_opened (length scopes) more at (ways_end out_of scopes ends at)
