-- The code of functions and of the bodies of modules is valid, by that of what stands in them.
use Rattle.std.proofs.Common.{◌≡◌, ℕ, ◌≤◌, List, [], ◌∷◌, ◌++◌, length, map, Bool, true, false, ◌&&◌, ◌||◌, nat_le, Option, Some, None, refl, ap, sym, subst, ◌∙◌, if◌then◌else◌, slice_get, arith, bytes_eq}
use Rattle.std.specs.List.{list_any}
use Rattle.std.proofs.lemmas.Bool.{false≢true, true≢false, and_from, or_parts, false_from_ne_true, le-leb}
use Rattle.std.proofs.lemmas.List.{append_assoc}
use Rattle.std.proofs.lemmas.Slice.Eq.{bytes_eq-Decides}
use Rattle.njs_tree.specs.Early.{repeats}
use Rattle.njs_code.specs.declared.op.Depth.{Depth}
use Rattle.njs_code.specs.declared.op.Kind.TheVariants as kind
use Rattle.njs_code.specs.declared.op.Op.{Op}
use Rattle.njs_code.specs.declared.code.FunctionCode.{FunctionCode}
use Rattle.njs_code.specs.Valid.{carries, at_entry, begins, params_fit, part_valid, function_valid, names_valid, ops_valid, outermost, stands_in}
use Rattle.njs_meaning.specs.Places.{Around, assignable}
use Rattle.njs_meaning.specs.Functions.{arguments_name, each_once, scope_names}
use Rattle.njs_meaning.specs.Parts.{Declared}
use Rattle.njs_simul.specs.Emission.{Here, op, deeper, Coded, value}
use Rattle.njs_simul.specs.EmissionOfStatements.{CodedStatement, CodedPart, declared, with_arguments, at_start, function_body, function_code, slots_of}
use Rattle.njs_simul.specs.Compiled.{items_in_turn, body_of}
use Rattle.njs_simul.specs.Checks.{Starts, Fits, Well, Checks, CodedChecked, StatementChecked, is_simple}
use Rattle.njs_simul.proofs.Runs.{next}
use Rattle.njs_simul.proofs.ValidSteps.{same_is, step_well, simple_well}
use Rattle.njs_simul.proofs.ValidPlaces.{fits_deeper, count_map}
use Rattle.njs_simul.proofs.ValidExpressions.{All, value_at, closure_at}
use Rattle.njs_simul.proofs.ValidStatements.{in_turn_checks, bind_well}

none_some : {A : Type 0} (o : Option A) (x : A) → o ≡ None → o ≡ Some x → ⊥
none_some o x none some = let e : None ≡ Some x = sym none ∙ some in absurd cc

-- a declared function stands in these scopes
abbrev pub DeclaredIn : List FunctionCode → Around → Declared → Type 0
DeclaredIn functions names d = stands_in (slice_get functions d.number) (slots_of names) ≡ true

module _ (functions : List FunctionCode) (names : Around) where
  declared_checks : (ds : List Declared) → All (DeclaredIn functions names) ds → Checks functions names (declared ds) 0
  declared_checks [] t f here rest same fits well = well
  declared_checks (d ∷ ds) t f here rest same fits well =
      closure_at functions names f here same fits None d.number d.params _ t.0 (bind_well functions names d.name f here _ fits (declared_checks ds t.1 f here rest same fits well))

  arguments_checks : (b : Bool) → Checks functions names (with_arguments b) 0
  unfolding is_simple
  arguments_checks false f here rest same fits well = well
  arguments_checks true f here rest same fits well = simple_well functions f kind.Arguments 0 1 refl here _ fits (bind_well functions names arguments_name f here rest fits well)

  -- the last operation of a function
  last_well : (f : FunctionCode) (here : Here) → here.around ≡ None → Fits f here → Well functions f (deeper 1 here) (op kind.Return (deeper 1 here) [])
  unfolding is_simple names_valid ops_valid
  last_well f here none fits ends =
      step_well functions f kind.Return (deeper 1 here) [] (next f.ops _ [] ends) (λ to is. absurd (none_some here.around to none is)) (record {
        operands = omega arith;
        scopes = fits.scopes;
        lists = omega arith;
        endings = omega arith;
        names = refl;
        next = λ goes. absurd (false≢true goes);
        jump = refl;
        past = refl;
        around = λ to is. absurd (none_some here.around to none is);
      }) refl

  -- as a call begins
  starting_fits : (f : FunctionCode) → f.slots ≡ slots_of names → 1 ≤ length names → Fits f (at_start names)
  starting_fits f slots some = record {
    scopes = omega arith;
    slots = slots;
    outer = ap outermost slots;
    some = some;
    around = λ to is. absurd (none_some None to refl is);
  }

  first_carried : (ops : List Op) (depth : Depth) → Starts ops depth → carries (slice_get ops 0) depth ≡ true
  first_carried [] depth h = absurd h
  first_carried (o ∷ ops) depth h = same_is o.depth depth h

  pub part_so : (f : FunctionCode) → params_fit f.params (slice_get f.slots 0) ≡ true → Well functions f (at_start names) f.ops → part_valid functions f ≡ true
  unfolding part_valid
  part_so f params well =
      let s = well ([], refl) in
      and_from (params_fit f.params (slice_get f.slots 0) && begins f.ops) (ops_valid functions f f.ops)
      (and_from (params_fit f.params (slice_get f.slots 0)) (begins f.ops) params (first_carried f.ops at_entry s.starts)) s.valid

  -- ---- functions

  pub function_well : (f : FunctionCode) (ds : List Declared) (b : Bool) (cs : List CodedStatement) → f.slots ≡ slots_of names → 1 ≤ length names
      → All (DeclaredIn functions names) ds → All (StatementChecked functions names) cs → Well functions f (at_start names) (function_body ds b cs (at_start names) [])
  unfolding is_simple
  function_well f ds b cs slots some all t =
      let here = at_start names in let fits = starting_fits f slots some in
      declared_checks ds all f here _ refl fits (arguments_checks b f here _ refl fits (in_turn_checks functions names cs t f here _ refl fits
      (simple_well functions f kind.Undefined 0 1 refl here _ fits (last_well f here refl fits))))

  -- ---- bodies of modules

  -- an item, which stands on the value that is exported
  abbrev pub ItemChecked : CodedPart → Type 0
  ItemChecked c = (f : FunctionCode) (here : Here) (rest : List Op) → here.names ≡ names → Fits f here → Well functions f (deeper 1 here) rest → Well functions f (deeper 1 here) (c.emit (deeper 1 here) rest)

  pub statement_item_checked : (c : CodedStatement) → StatementChecked functions names c → ItemChecked (record { size = c.size; emit = c.emit [] })
  statement_item_checked c t f here rest same fits well = (t.with_labels []).checks f (deeper 1 here) rest same (fits_deeper functions f 1 here fits) well

  pub export_item_checked : (c : Coded) (size : ℕ) → CodedChecked functions names c → ItemChecked (record { size = size; emit = λ here rest. value c here (op kind.Nip (deeper 1 here) rest) })
  unfolding is_simple
  export_item_checked c size t f here rest same fits well = value_at functions names f here same fits c 1 _ t (simple_well functions f kind.Nip 2 1 refl here rest fits well)

  items_well : (cs : List CodedPart) → All ItemChecked cs → (f : FunctionCode) (here : Here) (rest : List Op) → here.names ≡ names → Fits f here → Well functions f (deeper 1 here) rest → Well functions f (deeper 1 here) (items_in_turn cs (deeper 1 here) rest)
  items_well [] t f here rest same fits well = well
  items_well (c ∷ cs) t f here rest same fits well = t.0 f here _ same fits (items_well cs t.1 f here rest same fits well)

  pub body_well : (f : FunctionCode) (ds : List Declared) (cs : List CodedPart) → f.slots ≡ slots_of names → 1 ≤ length names
      → All (DeclaredIn functions names) ds → All ItemChecked cs → Well functions f (at_start names) (body_of ds cs (at_start names) [])
  unfolding is_simple
  body_well f ds cs slots some all t =
      let here = at_start names in let fits = starting_fits f slots some in
      declared_checks ds all f here _ refl fits (simple_well functions f kind.Undefined 0 1 refl here _ fits
      (items_well cs t f here _ refl fits (last_well f here refl fits)))

-- ---- parameters

same_back : (a b : List ℕ) → bytes_eq a b ≡ false → bytes_eq b a ≡ false
same_back a b h =
    false_from_ne_true (bytes_eq b a) (λ is. false≢true (sym h ∙ (bytes_eq-Decides a b).1 (sym ((bytes_eq-Decides b a).0 is))))

or_none : (a b : Bool) → a ≡ false → b ≡ false → (a || b) ≡ false
or_none true b p q = p
or_none false b p q = q

abbrev Apart : List (List ℕ) → List ℕ → Type 0
Apart names name = list_any (bytes_eq name) names ≡ false

none_before : (before : List (List ℕ)) (name : List ℕ) (names : List (List ℕ)) → All (Apart (name ∷ names)) before → list_any (bytes_eq name) before ≡ false
none_before [] name names h = refl
none_before (b ∷ before) name names h =
    or_none (bytes_eq name b) (list_any (bytes_eq name) before) (same_back b name (or_parts (bytes_eq b name) (list_any (bytes_eq b) names) h.0).0) (none_before before name names h.1)

apart_later : (before : List (List ℕ)) (name : List ℕ) (names : List (List ℕ)) → All (Apart (name ∷ names)) before → All (Apart names) before
apart_later [] name names h = tt
apart_later (b ∷ before) name names h = ((or_parts (bytes_eq b name) (list_any (bytes_eq b) names) h.0).1, apart_later before name names h.1)

longer_if : (b : Bool) (xs ys : List (List ℕ)) (n : ℕ) → b ≡ false → n ≤ length ys → n ≤ length (if b then xs else ys)
longer_if true xs ys n is h = absurd (true≢false is)
longer_if false xs ys n is h = h

once_longer : (before params more : List (List ℕ)) → All (Apart params) before → repeats params ≡ false → length params ≤ length (each_once before (params ++ more))
once_longer before [] more h none = omega arith
once_longer before (name ∷ params) more h none =
    let p = or_parts (list_any (bytes_eq name) params) (repeats params) none in
    let later = once_longer (name ∷ before) params more (p.0, apart_later before name params h) p.1 in
    longer_if (list_any (bytes_eq name) before) (each_once before (params ++ more)) (name ∷ each_once (name ∷ before) (params ++ more)) (length (name ∷ params))
    (none_before before name params h) (omega (arith, later))

pub params_in : (params : List (List ℕ)) (ds : List Declared) (b : Bool) (vs : List (List ℕ)) → repeats params ≡ false → length params ≤ length (scope_names params ds b vs)
params_in params ds b vs none =
    let named : List (List ℕ) = map (λ d. d.name) ds in let own : List (List ℕ) = if b then arguments_name ∷ [] else [] in
    subst (λ xs. length params ≤ length (each_once [] xs)) (sym (append_assoc (params ++ named) own vs ∙ append_assoc params named (own ++ vs))) (once_longer [] params (named ++ (own ++ vs)) tt none)

-- a function's code
pub function_code_valid : (functions : List FunctionCode) (params : List (List ℕ)) (ds : List Declared) (b : Bool) (vs : List (List ℕ)) (cs : List CodedStatement) (around : Around)
    → repeats params ≡ false → 1 ≤ length around
    → All (DeclaredIn functions (assignable (scope_names params ds b vs) ∷ around)) ds → All (StatementChecked functions (assignable (scope_names params ds b vs) ∷ around)) cs
    → function_valid functions (function_code (length params) (scope_names params ds b vs) ds b cs around) ≡ true
function_code_valid functions params ds b vs cs around none some all t =
    let own = scope_names params ds b vs in
    let names = assignable own ∷ around in
    let f = function_code (length params) own ds b cs around in
    let count : length (slots_of names) ≡ length names = count_map functions f length names in
    let own_count : length (assignable own) ≡ length own = count_map functions f (λ (name : List ℕ). (name, true)) own in
    let fit = params_in params ds b vs none in
    and_from (nat_le 2 (length f.slots)) (part_valid functions f) (le-leb 2 (length f.slots) (omega (arith, count, some)))
    (part_so functions names f (le-leb (length params) (length (assignable own)) (omega (arith, own_count, fit)))
    (function_well functions names f ds b cs refl (omega arith) all t))
