-- References, scopes, lists and endings in valid code.
use Rattle.std.proofs.Common.{◌≡◌, ℕ, zero, suc, ◌+◌, ◌-◌, ◌<◌, ◌≤◌, List, [], ◌∷◌, length, Bool, true, false, Option, Some, None, refl, ap, ◌∙◌, if◌then◌else◌, slice_get, arith}
use Rattle.std.specs.Option.{option_map, option_map_or}
use Rattle.std.proofs.lemmas.Bool.{lt-ltb}
use Rattle.njs_props.specs.Names.{same_name}
use Rattle.njs_tree.specs.declared.tree.UnaryOp.TheVariants as sign
use Rattle.njs_code.specs.declared.op.Depth.{Depth}
use Rattle.njs_code.specs.declared.op.Failure.TheVariants as failure
use Rattle.njs_code.specs.declared.op.Kind.{Kind}
use Rattle.njs_code.specs.declared.op.Kind.TheVariants as kind
use Rattle.njs_code.specs.declared.op.Op.{Op}
use Rattle.njs_code.specs.declared.code.FunctionCode.{FunctionCode}
use Rattle.njs_code.specs.Effects.{operands_taken, scopes_needed, lists_needed, endings_taken, jump_of, past_of, depth_left, depth_next}
use Rattle.njs_code.specs.Valid.{jump_valid, past_valid, outermost, slots_outwards, is_slot, names_valid}
use Rattle.njs_code.specs.Facts.{IsWithin}
use Rattle.njs_meaning.specs.declared.place.Place.{Place}
use Rattle.njs_meaning.specs.declared.place.Place.TheVariants.{Slot, Global, Nowhere}
use Rattle.njs_meaning.specs.Places.{Bindings, Around, slot_of, place_in, outward}
use Rattle.njs_simul.specs.Emission.{Here, op, deeper, Form, IsValue, IsName, IsMember, width, load, store, value_for_type, fetch, fetch_kept, assign_to, method, delete_at, type_of}
use Rattle.njs_simul.specs.EmissionOfStatements.{slots_of, listing, in_catch, waiting}
use Rattle.njs_simul.specs.Checks.{Same, Fits, Well, is_free, is_simple}
use Rattle.njs_simul.proofs.Runs.{next}
use Rattle.njs_simul.proofs.ValidSteps.{starts_same, end_within, step_well, named_well, free_names, simple_well}

-- ---- the places of names

abbrev SlotFits : Bindings → Option (ℕ × Bool) → Type 0
SlotFits names None = Unit {0}
SlotFits names (Some p) = p.0 < length names

slot_later : (same : Bool) (name : List ℕ) (b : List ℕ × Bool) (bs : Bindings) (o : Option (ℕ × Bool)) → SlotFits bs o
    → SlotFits (b ∷ bs) (if same then Some (zero, b.1) else option_map (λ p. (suc p.0, p.1)) o)
slot_later true name b bs o h = omega arith
slot_later false name b bs None h = tt
slot_later false name b bs (Some p) h = omega (arith, h)

slot_fits : (name : List ℕ) (names : Bindings) → SlotFits names (slot_of name names)
slot_fits name [] = tt
slot_fits name (b ∷ bs) = slot_later (same_name name b.0) name b bs (slot_of name bs) (slot_fits name bs)

abbrev pub PlaceFits : Around → Place → Type 0
PlaceFits names (Slot up slot a) = is_slot slot (slice_get (slots_of names) up) ≡ true
PlaceFits names (Global slot a) = is_slot slot (outermost (slots_of names)) ≡ true
PlaceFits names Nowhere = Unit {0}

-- the outermost scope is the same from one further in
pub outer_later : (n : ℕ) (slots : List ℕ) → 1 ≤ length slots → outermost (n ∷ slots) ≡ outermost slots
outer_later n slots some =
    let place : length (n ∷ slots) - 1 ≡ suc (length slots - 1) = omega (arith, some) in
    ap (slice_get (n ∷ slots)) place

global_fits : (names : Bindings) (o : Option (ℕ × Bool)) → SlotFits names o → PlaceFits (names ∷ []) (option_map_or (λ p. Global p.0 p.1) o Nowhere)
global_fits names None h = tt
global_fits names (Some p) h = lt-ltb p.0 (length names) h

outward_fits : (names further : Bindings) (rest : Around) (place : Place) → PlaceFits (further ∷ rest) place → PlaceFits (names ∷ further ∷ rest) (outward place)
outward_fits names further rest (Slot up slot a) h = h
outward_fits names further rest (Global slot a) h =
    ap (is_slot slot) (outer_later (length names) (slots_of (further ∷ rest)) (omega arith)) ∙ h
outward_fits names further rest Nowhere h = tt

nearest_fits : (names further : Bindings) (rest : Around) (o : Option (ℕ × Bool)) (place : Place) → SlotFits names o → PlaceFits (further ∷ rest) place
    → PlaceFits (names ∷ further ∷ rest) (option_map_or (λ p. Slot zero p.0 p.1) o (outward place))
nearest_fits names further rest None place h k = outward_fits names further rest place k
nearest_fits names further rest (Some p) place h k = lt-ltb p.0 (length names) h

pub place_fits : (name : List ℕ) (names : Around) → PlaceFits names (place_in name names)
place_fits name [] = tt
place_fits name (names ∷ []) = global_fits names (slot_of name names) (slot_fits name names)
place_fits name (names ∷ further ∷ rest) =
    nearest_fits names further rest (slot_of name names) (place_in name (further ∷ rest)) (slot_fits name names) (place_fits name (further ∷ rest))

module _ (functions : List FunctionCode) (f : FunctionCode) where
  -- ---- references

  slot_so : (here : Here) (up slot : ℕ) → Fits f here → is_slot slot (slice_get (slots_of here.names) up) ≡ true → is_slot slot (slice_get (slots_outwards f.slots here.depth.scopes) up) ≡ true
  slot_so here up slot fits h = ap (λ slots. is_slot slot (slice_get slots up)) fits.slots ∙ h

  outer_so : (here : Here) (slot : ℕ) → Fits f here → is_slot slot (outermost (slots_of here.names)) ≡ true → is_slot slot (outermost f.slots) ≡ true
  outer_so here slot fits h = ap (is_slot slot) fits.outer ∙ h

  load_at : (name : List ℕ) (place : Place) (here : Here) (rest : List Op) → Fits f here → PlaceFits here.names place → Well functions f (deeper 1 here) rest → Well functions f here (op (load name place) here rest)
  unfolding is_simple names_valid
  load_at name (Slot up slot a) here rest fits h well = named_well functions f (kind.Load up slot) 0 1 here rest refl refl refl (omega arith) fits (slot_so here up slot fits h) well
  load_at name (Global slot a) here rest fits h well = named_well functions f (kind.LoadGlobal slot) 0 1 here rest refl refl refl (omega arith) fits (outer_so here slot fits h) well
  load_at name Nowhere here rest fits h well = simple_well functions f (kind.Fail (failure.NotDefined name)) 0 1 refl here rest fits well

  pub load_well : (name : List ℕ) (here : Here) (rest : List Op) → Fits f here → Well functions f (deeper 1 here) rest → Well functions f here (op (load name (place_in name here.names)) here rest)
  load_well name here rest fits well = load_at name (place_in name here.names) here rest fits (place_fits name here.names) well

  store_at : (name : List ℕ) (place : Place) (here : Here) (rest : List Op) → Fits f here → PlaceFits here.names place → Well functions f (deeper 1 here) rest → Well functions f (deeper 1 here) (op (store name place) (deeper 1 here) rest)
  unfolding is_simple names_valid
  store_at name (Slot up slot true) here rest fits h well = named_well functions f (kind.Store up slot) 1 1 here rest refl refl refl (omega arith) fits (slot_so here up slot fits h) well
  store_at name (Slot up slot false) here rest fits h well = simple_well functions f (kind.Fail failure.ReadOnly) 1 1 refl here rest fits well
  store_at name (Global slot true) here rest fits h well = named_well functions f (kind.StoreGlobal slot) 1 1 here rest refl refl refl (omega arith) fits (outer_so here slot fits h) well
  store_at name (Global slot false) here rest fits h well = simple_well functions f (kind.Fail failure.ReadOnly) 1 1 refl here rest fits well
  store_at name Nowhere here rest fits h well = simple_well functions f (kind.Fail (failure.NotDefined name)) 1 1 refl here rest fits well

  type_at : (name : List ℕ) (place : Place) (here : Here) (rest : List Op) → Fits f here → PlaceFits here.names place → Well functions f (deeper 1 here) rest → Well functions f here (op (value_for_type name place) here rest)
  unfolding is_simple
  type_at name (Slot up slot a) here rest fits h well = load_at name (Slot up slot a) here rest fits h well
  type_at name (Global slot a) here rest fits h well = load_at name (Global slot a) here rest fits h well
  type_at name Nowhere here rest fits h well = simple_well functions f kind.Undefined 0 1 refl here rest fits well

  pub fetch_well : (form : Form) (here : Here) (rest : List Op) → Fits f here → Well functions f (deeper 1 here) rest → Well functions f (deeper (width form) here) (fetch form here rest)
  unfolding is_simple
  fetch_well IsValue here rest fits well = well
  fetch_well (IsName name) here rest fits well = load_well name here rest fits well
  fetch_well IsMember here rest fits well = simple_well functions f kind.Get 2 1 refl here rest fits well

  pub kept_well : (form : Form) (here : Here) (rest : List Op) → Fits f here → Well functions f (deeper (suc (width form)) here) rest → Well functions f (deeper (width form) here) (fetch_kept form here rest)
  unfolding is_simple
  kept_well IsValue here rest fits well = simple_well functions f (kind.Tuck 0) 1 2 refl here rest fits well
  kept_well (IsName name) here rest fits well = load_well name here rest fits well
  kept_well IsMember here rest fits well = simple_well functions f kind.GetKept 2 3 refl here rest fits well

  pub assign_well : (form : Form) (here : Here) (rest : List Op) → Fits f here → Well functions f (deeper 1 here) rest → Well functions f (deeper (suc (width form)) here) (assign_to form here rest)
  unfolding is_simple
  assign_well IsValue here rest fits well = simple_well functions f kind.Nip 2 1 refl here rest fits well
  assign_well (IsName name) here rest fits well = store_at name (place_in name here.names) here rest fits (place_fits name here.names) well
  assign_well IsMember here rest fits well = simple_well functions f kind.Put 3 1 refl here rest fits well

  pub method_well : (form : Form) (here : Here) (rest : List Op) → Fits f here → Well functions f (deeper 2 here) rest → Well functions f (deeper (width form) here) (method form here rest)
  unfolding is_simple
  method_well IsValue here rest fits well = simple_well functions f kind.Receiver 1 2 refl here rest fits well
  method_well (IsName name) here rest fits well =
      load_well name here (op kind.Receiver (deeper 1 here) rest) fits (simple_well functions f kind.Receiver 1 2 refl here rest fits well)
  method_well IsMember here rest fits well = simple_well functions f kind.Method 2 2 refl here rest fits well

  pub delete_well : (form : Form) (here : Here) (rest : List Op) → Fits f here → Well functions f (deeper 1 here) rest → Well functions f (deeper (width form) here) (delete_at form here rest)
  unfolding is_simple
  delete_well IsValue here rest fits well =
      simple_well functions f kind.Drop 1 0 refl here (op (kind.Bool true) here rest) fits (simple_well functions f (kind.Bool true) 0 1 refl here rest fits well)
  delete_well (IsName name) here rest fits well = simple_well functions f (kind.Bool true) 0 1 refl here rest fits well
  delete_well IsMember here rest fits well = simple_well functions f kind.DeleteMember 2 1 refl here rest fits well

  pub type_well : (form : Form) (here : Here) (rest : List Op) → Fits f here → Well functions f (deeper 1 here) rest → Well functions f (deeper (width form) here) (type_of form here rest)
  unfolding is_simple
  type_well IsValue here rest fits well = simple_well functions f (kind.Unary sign.TypeOf) 1 1 refl here rest fits well
  type_well (IsName name) here rest fits well =
      type_at name (place_in name here.names) here (op (kind.Unary sign.TypeOf) (deeper 1 here) rest) fits (place_fits name here.names)
      (simple_well functions f (kind.Unary sign.TypeOf) 1 1 refl here rest fits well)
  type_well IsMember here rest fits well =
      simple_well functions f kind.Get 2 1 refl here (op (kind.Unary sign.TypeOf) (deeper 1 here) rest) fits
      (simple_well functions f (kind.Unary sign.TypeOf) 1 1 refl here rest fits well)

  -- ---- scopes, lists and endings

  -- an operation that changes what stands, in the same part of the code
  pub odd_well : (k : Kind) (here : Here) (names names' : Around) (d d' : Depth) (rest : List Op)
      → operands_taken k ≤ d.operands → scopes_needed k ≤ d.scopes → lists_needed k ≤ d.lists → endings_taken k ≤ d.endings
      → Same d' (depth_next k d) → IsWithin here.depth (depth_left k d) → jump_of k ≡ None → past_of k ≡ None → is_free k ≡ true → Fits f here
      → Well functions f (record { names = names'; depth = d'; around = here.around }) rest
      → Well functions f (record { names = names; depth = d; around = here.around }) (op k (record { names = names; depth = d; around = here.around }) rest)
  odd_well k here names names' d d' rest o s l e same within jump past free fits well ends =
      let at : Here = record { names = names; depth = d; around = here.around } in
      let this : Op = record { kind = k; depth = d; around = here.around } in
      let after = next f.ops this rest ends in let w = well after in
      step_well functions f k at rest after w.further (record {
        operands = o;
        scopes = s;
        lists = l;
        endings = e;
        names = free_names functions f f.slots d.scopes k free;
        next = λ goes. starts_same rest d' (depth_next k d) same w.starts;
        jump = ap (λ j. jump_valid f.ops (length rest + 1) this j) jump;
        past = ap (λ p. past_valid f.ops (length rest + 1) this p) past;
        around = λ to is. end_within f.ops to.0 here.depth (depth_left k d) within (fits.around to is);
      }) w.valid

  pub lists_well : (here : Here) (rest : List Op) → Fits f here → Well functions f (listing here) rest → Well functions f (deeper 1 here) (op kind.ListNames (deeper 1 here) rest)
  unfolding is_simple
  lists_well here rest fits well =
      odd_well kind.ListNames here here.names here.names (deeper 1 here).depth (listing here).depth rest (omega arith) fits.scopes (omega arith) (omega arith)
      (omega arith) (omega arith) refl refl refl fits well

  pub drops_list_well : (here : Here) (rest : List Op) → Fits f here → Well functions f here rest → Well functions f (listing here) (op kind.DropList (listing here) rest)
  unfolding is_simple
  drops_list_well here rest fits well =
      odd_well kind.DropList here here.names here.names (listing here).depth here.depth rest (omega arith) fits.scopes (omega arith) (omega arith)
      (omega arith) (omega arith) refl refl refl fits well

  pub enter_well : (name : List ℕ) (here : Here) (rest : List Op) → Fits f here → Well functions f (in_catch name here) rest → Well functions f (deeper 1 here) (op (kind.Enter name) (deeper 1 here) rest)
  unfolding is_simple
  enter_well name here rest fits well =
      odd_well (kind.Enter name) here here.names (((name, true) ∷ []) ∷ here.names) (deeper 1 here).depth (in_catch name here).depth rest (omega arith) fits.scopes (omega arith) (omega arith)
      (omega arith) (omega arith) refl refl refl fits well

  pub leave_well : (name : List ℕ) (here : Here) (rest : List Op) → Fits f here → Well functions f here rest → Well functions f (in_catch name here) (op kind.Leave (in_catch name here) rest)
  unfolding is_simple
  leave_well name here rest fits well =
      let scopes = fits.scopes in
      odd_well kind.Leave here (((name, true) ∷ []) ∷ here.names) here.names (in_catch name here).depth here.depth rest (omega arith) (omega (arith, scopes)) (omega arith) (omega arith)
      (omega arith) (omega arith) refl refl refl fits well

  pub finally_well : (here : Here) (rest : List Op) → Fits f here → Well functions f (waiting here) rest → Well functions f here (op kind.Finally here rest)
  unfolding is_simple
  finally_well here rest fits well =
      odd_well kind.Finally here here.names here.names here.depth (waiting here).depth rest (omega arith) fits.scopes (omega arith) (omega arith)
      (omega arith) (omega arith) refl refl refl fits well

  pub resume_well : (here : Here) (rest : List Op) → Fits f here → Well functions f here rest → Well functions f (waiting here) (op kind.Resume (waiting here) rest)
  unfolding is_simple
  resume_well here rest fits well =
      odd_well kind.Resume here here.names here.names (waiting here).depth here.depth rest (omega arith) fits.scopes (omega arith) (omega arith)
      (omega arith) (omega arith) refl refl refl fits well
