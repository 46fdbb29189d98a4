-- A name is found where its place says.
use Rattle.std.proofs.Common.{◌≡◌, ℕ, zero, suc, ◌<◌, List, [], ◌∷◌, length, Option, Some, None, Bool, true, false, is_some, if◌then◌else◌, refl, sym, ap, ◌∙◌, subst, arith}
use Rattle.std.specs.Prelude.{slice_get, slice_set}
use Rattle.std.specs.Option.{option_map, option_map_or, option_and_then}
use Rattle.std.proofs.lemmas.Option.{slice_get_within}
use Rattle.njs_value.specs.declared.Cause.TheVariants.{ReadOnly}
use Rattle.njs_value.specs.declared.ScopeId.{ScopeId}
use Rattle.njs_props.specs.Names.{same_name}
use Rattle.njs_code.specs.declared.op.Op.{Op}
use Rattle.njs_meaning.specs.declared.place.Place.{Place}
use Rattle.njs_meaning.specs.declared.place.Place.TheVariants.{Slot, Global, Nowhere}
use Rattle.njs_meaning.specs.Primitives.{Undefined}
use Rattle.njs_meaning.specs.Values.{PlainValue, Simple}
use Rattle.njs_meaning.specs.PlainHeap.{PlainScope, Variable}
use Rattle.njs_meaning.specs.State.{State, Outcome, Gives}
use Rattle.njs_meaning.specs.Errors.{throw}
use Rattle.njs_meaning.specs.Running.{throw_not_defined}
use Rattle.njs_meaning.specs.Scopes.{Found, found_in, find, outwards, variable, with_value, with_variable, read_name, assign_name, assign_found}
use Rattle.njs_meaning.specs.References.{Named, is_unbound}
use Rattle.njs_meaning.specs.Places.{Bindings, Around, bindings_of, slot_of, place_in, outward}
use Rattle.njs_simul.specs.Stacks.{Stacks, Frame, inner, context, push}
use Rattle.njs_simul.specs.Step.{Action, Goes, ancestor, value_at, with_slot_value, with_value_at, in_slot, act, on, finish}
use Rattle.njs_simul.specs.Emission.{load, store, value_for_type}
use Rattle.njs_simul.specs.Fits.{Scoped}

-- ---- a name in one scope

-- a variable was found that stands in this slot, and a value put to its name goes there
record InSlot (variables : List Variable) (slot : ℕ) (assignable : Bool) (found : Option Variable) (put : PlainValue → List Variable) : Type 0 where
  pub variable : Variable
  pub is : found ≡ Some variable
  pub there : slice_get variables slot ≡ Some variable
  pub assigns : variable.assignable ≡ assignable
  pub puts : (v : PlainValue) → put v ≡ slice_set variables slot (record variable { value = v })

abbrev InScope : List Variable → Option (ℕ × Bool) → Option Variable → (PlainValue → List Variable) → Type 0
InScope variables None found put = found ≡ None
InScope variables (Some p) found put = InSlot variables p.0 p.1 found put

further_in : (same : Bool) (v : Variable) (vs : List Variable) (slot : Option (ℕ × Bool)) (found : Option Variable) (put : PlainValue → List Variable)
    → InScope vs slot found put
    → InScope (v ∷ vs) (if same then Some (zero, v.assignable) else option_map (λ p. (suc p.0, p.1)) slot) (if same then Some v else found)
    (λ w. if same then record v { value = w } ∷ vs else v ∷ put w)
further_in true v vs slot found put h = record { variable = v; is = refl; there = refl; assigns = refl; puts = λ w. refl }
further_in false v vs None found put h = h
further_in false v vs (Some p) found put h =
    record { variable = h.variable; is = h.is; there = h.there; assigns = h.assigns; puts = λ w. ap (λ us. v ∷ us) (h.puts w) }

in_scope : (name : List ℕ) (variables : List Variable) → InScope variables (slot_of name (bindings_of variables)) (variable name variables) (λ w. with_value name w variables)
in_scope name [] = refl
in_scope name (v ∷ vs) = further_in (same_name name v.name) v vs (slot_of name (bindings_of vs)) (variable name vs) (λ w. with_value name w vs) (in_scope name vs)

-- the same by the names alone
in_names : (name : List ℕ) (names : Bindings) (variables : List Variable) → bindings_of variables ≡ names
    → InScope variables (slot_of name names) (variable name variables) (λ w. with_value name w variables)
in_names name names variables e =
    subst (λ (bs : Bindings). InScope variables (slot_of name bs) (variable name variables) (λ w. with_value name w variables)) e (in_scope name variables)

-- ---- a name in a chain of scopes

-- what was found stands in this slot of the scope with this number, and a value put to the name goes there
pub record AtSlot (name : List ℕ) (scopes : List PlainScope) (at slot : ℕ) (assignable : Bool) (found : Option Found) : Type 0 where
  pub variable : Variable
  pub is : found ≡ Some (record { scope = at; variable = variable })
  pub value : value_at scopes at slot ≡ variable.value
  pub assigns : variable.assignable ≡ assignable
  pub puts : (v : PlainValue) → with_variable name v scopes at ≡ with_value_at scopes at slot v

-- what was found from the scope with this number outwards stands where the place says
abbrev pub AtPlace : List ℕ → List PlainScope → ℕ → Place → Option Found → Type 0
AtPlace name scopes at (Slot up slot assignable) found = AtSlot name scopes (ancestor up scopes at) slot assignable found
AtPlace name scopes at (Global slot assignable) found = AtSlot name scopes 0 slot assignable found
AtPlace name scopes at Nowhere found = found ≡ None

-- the nearest scope's variable, if it has one
abbrev nearest : ℕ → Option Variable → Option Found → Option Found
nearest at here above = option_map_or (λ v. Some (record { scope = at; variable = v })) here above

module _ (name : List ℕ) (scopes : List PlainScope) (at : ℕ) (scope : PlainScope) (there : slice_get scopes at ≡ Some scope) where
  at_slot : (slot : ℕ) (assignable : Bool) (here : Option Variable) (above : Option Found)
      → InSlot scope.variables slot assignable here (λ w. with_value name w scope.variables)
      → AtSlot name scopes at slot assignable (nearest at here above)
  at_slot slot assignable here above h = record {
    variable = h.variable;
    is = ap (λ o. nearest at o above) h.is;
    value = ap (λ o. option_map_or (λ v. v.value) (option_and_then (λ scope. slice_get scope.variables slot) o) (Simple Undefined)) there
        ∙ ap (λ o. option_map_or (λ v. v.value) o (Simple Undefined)) h.there;
    assigns = h.assigns;
    puts = λ w.
        ap (λ o. option_map_or (λ scope. slice_set scopes at (record scope { variables = with_value name w scope.variables })) o scopes) there
        ∙ ap (λ us. slice_set scopes at (record scope { variables = us })) (h.puts w
        ∙ sym (ap (λ o. option_map_or (λ v. slice_set scope.variables slot (record v { value = w })) o scope.variables) h.there))
        ∙ sym (ap (λ o. option_map_or (λ scope. slice_set scopes at (record scope { variables = with_slot_value slot w scope.variables })) o scopes) there);
  }

  -- the chain begins with this scope
  begins : (fuel : ℕ) → found_in name scopes (outwards (suc fuel) scopes at)
      ≡ nearest at (variable name scope.variables) (found_in name scopes (option_map_or (λ up. outwards fuel scopes up.0) scope.parent []))
  begins fuel =
      ap (λ o. found_in name scopes (option_map_or (λ scope. at ∷ option_map_or (λ up. outwards fuel scopes up.0) scope.parent []) o [])) there
      ∙ ap (λ o. nearest at (option_and_then (λ scope. variable name scope.variables) o) (found_in name scopes (option_map_or (λ up. outwards fuel scopes up.0) scope.parent []))) there

  -- what stands so many scopes further out than the scope around this one
  further_up : (up : ScopeId) (n : ℕ) → scope.parent ≡ Some up → ancestor n scopes up.0 ≡ ancestor (suc n) scopes at
  further_up up n parent =
      sym (ap (λ o. option_map_or (λ scope. option_map_or (λ p. ancestor n scopes p.0) scope.parent at) o at) there
      ∙ ap (λ o. option_map_or (λ (p : ScopeId). ancestor n scopes p.0) o at) parent)

  -- the place in the scopes around, seen from this one
  seen_from : (up : ScopeId) (place : Place) (found : Option Found) → scope.parent ≡ Some up → AtPlace name scopes up.0 place found → AtPlace name scopes at (outward place) found
  seen_from up (Slot n slot assignable) found parent h = subst (λ k. AtSlot name scopes k slot assignable found) (further_up up n parent) h
  seen_from up (Global slot assignable) found parent h = h
  seen_from up Nowhere found parent h = h

  nearest_place : (up : ScopeId) (slot : Option (ℕ × Bool)) (place : Place) (here : Option Variable) (above : Option Found) → scope.parent ≡ Some up
      → InScope scope.variables slot here (λ w. with_value name w scope.variables) → AtPlace name scopes up.0 place above
      → AtPlace name scopes at (option_map_or (λ p. Slot zero p.0 p.1) slot (outward place)) (nearest at here above)
  nearest_place up None place here above parent h k =
      subst (λ o. AtPlace name scopes at (outward place) o) (sym (ap (λ o. nearest at o above) h)) (seen_from up place above parent k)
  nearest_place up (Some p) place here above parent h k = at_slot p.0 p.1 here above h

  last_place : (slot : Option (ℕ × Bool)) (here : Option Variable) → at ≡ 0 → InScope scope.variables slot here (λ w. with_value name w scope.variables)
      → AtPlace name scopes at (option_map_or (λ p. Global p.0 p.1) slot Nowhere) (nearest at here None)
  last_place None here first h = ap (λ o. nearest at o None) h
  last_place (Some p) here first h = subst (λ k. AtSlot name scopes k p.0 p.1 (nearest at here None)) first (at_slot p.0 p.1 here None h)

-- steps along the chain are enough where there are more of them than the scope's number, since numbers fall outwards
pub stands : (names : Around) (fuel : ℕ) (name : List ℕ) (scopes : List PlainScope) (at : ℕ) → Scoped names scopes at → at < fuel
    → AtPlace name scopes at (place_in name names) (found_in name scopes (outwards fuel scopes at))
stands names zero name scopes at scoped enough = absurd (omega arith)
stands [] (suc fuel) name scopes at scoped enough = absurd scoped
stands (names ∷ []) (suc fuel) name scopes at scoped enough =
    let has = scoped.1 in
    subst (λ (o : Option Found). AtPlace name scopes at (place_in name (names ∷ [])) o)
    (sym (begins name scopes at has.scope has.there fuel
    ∙ ap (λ o. nearest at (variable name has.scope.variables) (found_in name scopes (option_map_or (λ (up : ScopeId). outwards fuel scopes up.0) o []))) scoped.2))
    (last_place name scopes at has.scope has.there (slot_of name names) (variable name has.scope.variables) scoped.0 (in_names name names has.scope.variables has.names))
stands (names ∷ (next ∷ rest)) (suc fuel) name scopes at scoped enough =
    let has = scoped.0 in
    let lower : scoped.1.0 < fuel = omega (arith, scoped.3) in
    subst (λ (o : Option Found). AtPlace name scopes at (place_in name (names ∷ (next ∷ rest))) o)
    (sym (begins name scopes at has.scope has.there fuel
    ∙ ap (λ o. nearest at (variable name has.scope.variables) (found_in name scopes (option_map_or (λ (up : ScopeId). outwards fuel scopes up.0) o []))) scoped.2))
    (nearest_place name scopes at has.scope has.there scoped.1 (slot_of name names) (place_in name (next ∷ rest)) (variable name has.scope.variables)
    (found_in name scopes (outwards fuel scopes scoped.1.0)) scoped.2 (in_names name names has.scope.variables has.names)
    (stands (next ∷ rest) fuel name scopes scoped.1.0 scoped.4 lower))

-- a scope with names is one of the scopes
pub scope_within : (names : Around) (scopes : List PlainScope) (at : ℕ) → Scoped names scopes at → at < length scopes
scope_within [] scopes at scoped = absurd scoped
scope_within (names ∷ []) scopes at scoped = slice_get_within scopes at scoped.1.scope scoped.1.there
scope_within (names ∷ (next ∷ rest)) scopes at scoped = slice_get_within scopes at scoped.0.scope scoped.0.there

-- a name is found where its place says
pub found_at_place : (names : Around) (name : List ℕ) (scopes : List PlainScope) (at : ScopeId) → Scoped names scopes at.0
    → AtPlace name scopes at.0 (place_in name names) (find name scopes at)
found_at_place names name scopes at scoped = stands names (length scopes) name scopes at.0 scoped (scope_within names scopes at.0 scoped)

-- ---- what the operations do

module _ (frame : Frame) (code : List Op) (name : List ℕ) (rest : List Op) (st : Stacks) (s : State) where
  -- the value of what was found, and the same for `typeof`
  abbrev value_found : Option Found → Outcome PlainValue
  value_found found = option_map_or (λ found. Gives found.variable.value s) found (throw_not_defined name s)

  abbrev typed_found : Option Found → Outcome PlainValue
  typed_found found = if (if is_some found then false else true) then Gives (Simple Undefined) s else value_found found

  load_slot : (at slot : ℕ) (assignable : Bool) (found : Option Found) (answer : Option Found → Outcome PlainValue)
      → ((one : Found) → answer (Some one) ≡ Gives one.variable.value s) → AtSlot name s.scopes at slot assignable found
      → Goes rest (push (value_at s.scopes at slot) st) s ≡ finish rest st (answer found)
  load_slot at slot assignable found answer gives h =
      ap (λ v. Goes rest (push v st) s) h.value
      ∙ ap (λ o. finish rest st o) (sym (gives (record { scope = at; variable = h.variable })))
      ∙ ap (λ o. finish rest st (answer o)) (sym h.is)

  load_place : (place : Place) (found : Option Found) → AtPlace name s.scopes (inner st.scopes) place found
      → act frame code (load name place) rest st s ≡ finish rest st (value_found found)
  load_place (Slot up slot assignable) found h = load_slot (ancestor up s.scopes (inner st.scopes)) slot assignable found value_found (λ one. refl) h
  load_place (Global slot assignable) found h = load_slot 0 slot assignable found value_found (λ one. refl) h
  load_place Nowhere found h = ap (λ o. finish rest st (value_found o)) (sym h)

  type_place : (place : Place) (found : Option Found) → AtPlace name s.scopes (inner st.scopes) place found
      → act frame code (value_for_type name place) rest st s ≡ finish rest st (typed_found found)
  type_place (Slot up slot assignable) found h = load_slot (ancestor up s.scopes (inner st.scopes)) slot assignable found typed_found (λ one. refl) h
  type_place (Global slot assignable) found h = load_slot 0 slot assignable found typed_found (λ one. refl) h
  type_place Nowhere found h = ap (λ o. finish rest st (typed_found o)) (sym h)

  module _ (v : PlainValue) where
    -- the value is put to what was found, and the code goes on
    abbrev assigned_found : Option Found → Outcome PlainValue
    assigned_found found = option_map_or (λ found. assign_found name v found s) found (throw_not_defined name s)

    abbrev on_assigned : Outcome PlainValue → Action
    on_assigned o = on o (push v st) (λ w t. Goes rest (push w st) t)

    assigned_slot : (at slot : ℕ) (assignable : Bool) (found : Option Found) → AtSlot name s.scopes at slot assignable found
        → on_assigned (if assignable then Gives v (in_slot at slot v s) else throw ReadOnly s) ≡ on_assigned (assigned_found found)
    assigned_slot at slot assignable found h =
        ap (λ (scopes : List PlainScope). on_assigned (if assignable then Gives v (record s { scopes = scopes }) else throw ReadOnly s)) (sym (h.puts v))
        ∙ ap (λ (b : Bool). on_assigned (if b then Gives v (record s { scopes = with_variable name v s.scopes at }) else throw ReadOnly s)) (sym h.assigns)
        ∙ ap (λ o. on_assigned (assigned_found o)) (sym h.is)

    store_place : (place : Place) (found : Option Found) → AtPlace name s.scopes (inner st.scopes) place found
        → act frame code (store name place) rest (push v st) s ≡ on_assigned (assigned_found found)
    store_place (Slot up slot true) found h = assigned_slot (ancestor up s.scopes (inner st.scopes)) slot true found h
    store_place (Slot up slot false) found h = assigned_slot (ancestor up s.scopes (inner st.scopes)) slot false found h
    store_place (Global slot true) found h = assigned_slot 0 slot true found h
    store_place (Global slot false) found h = assigned_slot 0 slot false found h
    store_place Nowhere found h = ap (λ o. on_assigned (assigned_found o)) (sym h)

module _ (frame : Frame) (code : List Op) (names : Around) (name : List ℕ) (rest : List Op) (st : Stacks) (s : State) where
  -- a name's value
  pub load_acts : Scoped names s.scopes (inner st.scopes)
      → act frame code (load name (place_in name names)) rest st s ≡ finish rest st (read_name name (context frame st) s)
  load_acts scoped =
      load_place frame code name rest st s (place_in name names) (find name s.scopes (context frame st).scope)
      (found_at_place names name s.scopes (context frame st).scope scoped)

  -- the value that `typeof` asks of a name
  pub type_acts : Scoped names s.scopes (inner st.scopes)
      → act frame code (value_for_type name (place_in name names)) rest st s
      ≡ finish rest st (if is_unbound (Named name) (context frame st) s then Gives (Simple Undefined) s else read_name name (context frame st) s)
  type_acts scoped =
      type_place frame code name rest st s (place_in name names) (find name s.scopes (context frame st).scope)
      (found_at_place names name s.scopes (context frame st).scope scoped)

  -- a value is put to a name, and stays
  pub store_acts : (v : PlainValue) → Scoped names s.scopes (inner st.scopes)
      → act frame code (store name (place_in name names)) rest (push v st) s
      ≡ on (assign_name name v (context frame st) s) (push v st) (λ w t. Goes rest (push w st) t)
  store_acts v scoped =
      store_place frame code name rest st s v (place_in name names) (find name s.scopes (context frame st).scope)
      (found_at_place names name s.scopes (context frame st).scope scoped)
