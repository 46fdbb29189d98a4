-- The scope that a call begins with: its first slots have the arguments.
use Rattle.std.proofs.Common.{◌≡◌, ℕ, zero, suc, ◌+◌, ◌<◌, ◌≤◌, List, [], ◌∷◌, ◌++◌, length, map, replicate, Option, Some, None, slice_get, slice_set, ap, refl, sym, ◌∙◌, subst, arith, inl, inr, add-one, length-append}
use Rattle.std.specs.Option.{option_map_or}
use Rattle.std.proofs.lemmas.List.{map-append, length-map}
use Rattle.std.proofs.lemmas.Option.{slice_get_cases}
use Rattle.njs_value.specs.declared.ScopeId.{ScopeId}
use Rattle.njs_value.specs.declared.Value.{Value}
use Rattle.njs_value.specs.declared.Value.TheVariants.{Undefined}
use Rattle.njs_shared.specs.declared.object.Scope.{Scope}
use Rattle.njs_shared.specs.Heap.{Heap, sizes}
use Rattle.njs_shared.specs.Fits.{FitsValue}
use Rattle.njs_clone.specs.Content.{content}
use Rattle.njs_clone.specs.Scopes.{slot_count, with_slot, with_new_scope}
use Rattle.njs_meaning.specs.PlainHeap.{Variable}
use Rattle.njs_meaning.specs.Primitives as primitive
use Rattle.njs_meaning.specs.Scopes.{with_scope}
use Rattle.njs_meaning.specs.State.{State}
use Rattle.njs_meaning.specs.Values.{Simple}
use Rattle.njs_convert.specs.FirstHeap.{StandsFor, slots_of, nameless}
use Rattle.njs_simul.proofs.Kept.{pushed_last}
use Rattle.njs_interp.specs.Plain.{heap_of}
use Rattle.njs_interp.specs.Sits.{SlotsFrom}
use Rattle.njs_interp.specs.Grown.{Grown}
use Rattle.njs_interp.specs.Calling.{filled, scope_filled}
use Rattle.njs_interp.proofs.Entering.{push_set, Grown-scope}
use Rattle.njs_interp.proofs.Kept.{FitsValue-widened, SlotsFrom-widened}
use Rattle.njs_interp.proofs.Parameters.{filled_content}

-- nothing stands past the end of a list
pub past-end : {A : Type 0} (xs : List A) (i : ℕ) → slice_get xs i ≡ None → length xs ≤ i
past-end xs i none = elim ((slice_get_cases xs i).1) [
  | inl found ↦ (let never : None ≡ Some found.0 = sym none ∙ found.2 in cc)
  | inr past ↦ past.0
]

-- ---- slots

module _ {V : Type 0} (none : V) where
  filled_none : (n : ℕ) (args : List V) → filled none n 0 args ≡ replicate n none
  filled_none zero args = refl
  filled_none (suc n) args = ap (λ vs. none ∷ vs) (filled_none n args)

  filled_count : (n params : ℕ) (args : List V) → length (filled none n params args) ≡ n
  filled_count zero params args = refl
  filled_count (suc n) zero args = ap suc (filled_count n zero args)
  filled_count (suc n) (suc params) [] = ap suc (filled_count n params [])
  filled_count (suc n) (suc params) (v ∷ args) = ap suc (filled_count n params args)

  -- one argument more
  filled_set : (n i : ℕ) (args : List V) (v : V) → i < n → slice_get args i ≡ Some v → slice_set (filled none n i args) i v ≡ filled none n (suc i) args
  filled_set zero i args v within there = absurd (omega (arith, within))
  filled_set (suc n) zero [] v within there = cc
  filled_set (suc n) zero (w ∷ args) v within there =
      let same : w ≡ v = cc in
      ap (λ vs. v ∷ vs) (filled_none n (w ∷ args) ∙ sym (filled_none n args)) ∙ ap (λ x. x ∷ filled none n 0 args) (sym same)
  filled_set (suc n) (suc i) [] v within there = cc
  filled_set (suc n) (suc i) (w ∷ args) v within there = ap (λ vs. w ∷ vs) (filled_set n i args v (omega (arith, within)) there)

  -- no argument is left
  pub filled_all : (n i params : ℕ) (args : List V) → i ≤ params → length args ≤ i → filled none n i args ≡ filled none n params args
  filled_all zero i params args most all = refl
  filled_all (suc n) zero zero args most all = refl
  filled_all (suc n) zero (suc params) [] most all = ap (λ vs. none ∷ vs) (filled_all n zero params [] (omega arith) (omega arith))
  filled_all (suc n) zero (suc params) (v ∷ args) most all = absurd (omega (arith, all))
  filled_all (suc n) (suc i) zero args most all = absurd (omega (arith, most))
  filled_all (suc n) (suc i) (suc params) [] most all = ap (λ vs. none ∷ vs) (filled_all n i params [] (omega (arith, most)) (omega arith))
  filled_all (suc n) (suc i) (suc params) (v ∷ args) most all = ap (λ vs. v ∷ vs) (filled_all n i params args (omega (arith, most)) (omega (arith, all)))

-- ---- the heap with the scope

pub new-filled : (old mid : Heap) (parent : ScopeId) (n : ℕ) (args : List Value) → mid ≡ record old { scopes = with_new_scope (Some parent) n old.scopes }
    → mid ≡ record old { scopes = old.scopes ++ scope_filled parent n 0 args ∷ [] }
new-filled old mid parent n args is = is ∙ ap (λ vs. record old { scopes = old.scopes ++ record { parent = Some parent; slots = vs } ∷ [] }) (sym (filled_none Undefined n args))

module _ (old mid : Heap) (parent : ScopeId) (n i : ℕ) (args : List Value) (is : mid ≡ record old { scopes = old.scopes ++ scope_filled parent n i args ∷ [] }) where
  pub filled-grown : Grown old mid
  filled-grown = Grown-scope old mid (scope_filled parent n i args) is

  pub filled-within : (at : ℕ) → at ≡ length old.scopes → at < length mid.scopes
  filled-within at place = omega (arith, place, ap (λ (h : Heap). length h.scopes) is, length-append old.scopes (scope_filled parent n i args ∷ []))

  filled_scope : slice_get mid.scopes (length old.scopes) ≡ Some (scope_filled parent n i args)
  filled_scope = ap (λ (h : Heap). slice_get h.scopes (length old.scopes)) is ∙ pushed_last old.scopes (scope_filled parent n i args)

  pub filled-slot : (at : ℕ) → at ≡ length old.scopes → i < n → i < slot_count mid.scopes at
  filled-slot at place within =
      let count : slot_count mid.scopes at ≡ n =
      ap (slot_count mid.scopes) place ∙ ap (λ (found : Option Scope). option_map_or (λ (s : Scope). length s.slots) found 0) filled_scope ∙ filled_count Undefined n i args
      in
      omega (arith, count, within)

  pub filled-value : (v : Value) → FitsValue (sizes old) v → FitsValue (sizes mid) v
  filled-value v fits = FitsValue-widened old mid filled-grown.widens v fits

  pub filled-next : (new : Heap) (at : ℕ) (v : Value) → at ≡ length old.scopes → i < n → slice_get args i ≡ Some v → new ≡ record mid { scopes = with_slot at i v mid.scopes }
      → new ≡ record old { scopes = old.scopes ++ scope_filled parent n (i + 1) args ∷ [] }
  filled-next new at v place within there put =
      let made : Scope = scope_filled parent n (suc i) args in
      let set : with_slot at i v mid.scopes ≡ old.scopes ++ scope_filled parent n (i + 1) args ∷ [] =
      ap (λ k. with_slot k i v mid.scopes) place
      ∙ ap (λ (found : Option Scope). option_map_or (λ (s : Scope). slice_set mid.scopes (length old.scopes) (record s { slots = slice_set s.slots i v })) found mid.scopes) filled_scope
      ∙ ap (λ (h : Heap). slice_set h.scopes (length old.scopes) (record { parent = Some parent; slots = slice_set (filled Undefined n i args) i v })) is
      ∙ push_set old.scopes (scope_filled parent n i args) (record { parent = Some parent; slots = slice_set (filled Undefined n i args) i v })
      ∙ ap (λ vs. old.scopes ++ record { parent = Some parent; slots = vs } ∷ []) (filled_set Undefined n i args v within there)
      ∙ ap (λ k. old.scopes ++ scope_filled parent n k args ∷ []) (sym (add-one i))
      in
      put ∙ ap (λ (h : Heap). record h { scopes = with_slot at i v mid.scopes }) is ∙ ap (λ (ss : List Scope). record old { scopes = ss }) set

  -- the states that it stands for
  pub filled-stands : (variables : List Variable) (s : State) → map (λ (v : Variable). v.value) variables ≡ filled (Simple primitive.Undefined) n i (map (content old.texts) args)
      → StandsFor old (heap_of s) → StandsFor mid (heap_of (with_scope parent variables s))
  filled-stands variables s values stands =
      subst (λ (h : Heap). StandsFor h (heap_of (with_scope parent variables s))) (sym is) (record {
        objects = stands.objects;
        scopes =
            map-append (slots_of old.texts) old.scopes (scope_filled parent n i args ∷ [])
            ∙ ap (λ l. l ++ (Some parent, map (content old.texts) (filled Undefined n i args)) ∷ []) stands.scopes
            ∙ ap (λ vs. map nameless s.scopes ++ (Some parent, vs) ∷ []) (filled_content old.texts n i args ∙ sym values)
            ∙ sym (map-append nameless s.scopes (record { parent = Some parent; variables = variables } ∷ []));
      })

  -- a call may begin in it
  pub filled-slots : (at : ℕ) (around : List ℕ) → at ≡ length old.scopes → SlotsFrom around old.scopes parent.0 → SlotsFrom (n ∷ around) mid.scopes at
  filled-slots at [] place h = absurd h
  filled-slots at (next ∷ rest) place h = (
    record { scope = scope_filled parent n i args; there = ap (slice_get mid.scopes) place ∙ filled_scope; slots = omega (arith, filled_count Undefined n i args) },
    parent,
    refl,
    SlotsFrom-widened old mid filled-grown.widens (next ∷ rest) parent.0 h,
  )

-- the number of the scope in a state
pub counted-scopes : (h : Heap) (s : State) → StandsFor h (heap_of s) → length h.scopes ≡ length s.scopes
counted-scopes h s stands = sym (length-map h.scopes (slots_of h.texts)) ∙ ap length stands.scopes ∙ length-map s.scopes nameless
