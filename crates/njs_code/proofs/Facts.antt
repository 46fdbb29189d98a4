-- What the test of code tells.
use Rattle.std.proofs.Common.{◌≡◌, ℕ, ◌+◌, ◌-◌, ◌<◌, ◌≤◌, zero, suc, ℤ, pos, neg_ℤ, int_le, inl, inr, Bool, true, false, not, ◌&&◌, ◌||◌, nat_eq, nat_lt, nat_le, T, if◌then◌else◌, List, [], ◌∷◌, length, slice_get, Option, Some, None, refl, ap, sym, subst, ◌∙◌, arith}
use lib.Signed.{le_z_yes}
use Rattle.std.specs.List.{list_all}
use Rattle.std.proofs.lemmas.Bool.{false≢true, and_parts, or_cases, ltb-true, leb-true, eqb-true}
use Rattle.std.proofs.lemmas.Option.{slice_get_within}
use Rattle.std.proofs.lemmas.Slice.Eq.{bytes_eq-Decides}
use Rattle.njs_value.specs.Number.{IsSafe}
use Rattle.njs_code.specs.declared.op.Address.{Address}
use Rattle.njs_code.specs.declared.op.Depth.{Depth}
use Rattle.njs_code.specs.declared.op.Kind.{Kind}
use Rattle.njs_code.specs.declared.op.Kind.TheVariants as kind
use Rattle.njs_code.specs.declared.op.Op.{Op}
use Rattle.njs_code.specs.declared.code.FunctionCode.{FunctionCode}
use Rattle.njs_code.specs.declared.code.Code.{Code}
use Rattle.njs_code.specs.Effects.{operands_taken, scopes_needed, lists_needed, endings_taken, goes_on, jump_of, past_of, is_ending, depth_left, depth_next, depth_at_jump}
use Rattle.njs_code.specs.Valid.{op_at, same_depth, covers, holds, carries, next_valid, is_charge, charges, jump_valid, past_valid, ends_part, around_valid, slots_outwards, outermost, is_slot, slots_behind, stands_in, closure_slots, is_safe, names_valid, op_valid, ops_valid, at_entry, begins, params_fit, part_valid, function_valid, body_valid, is_valid}
use Rattle.njs_code.specs.Facts.{StandsAt, IsWithin, NextStands, JumpStands, PastStands, EndStands, HasSlot, HasFunction, Names, OpRule, Begins, HasParams, PartRule, FunctionRule, CodeRule}

four : (a b c d : Bool) → (a && b && c && d) ≡ true → (a ≡ true) × (b ≡ true) × (c ≡ true) × (d ≡ true)
four true true true d h = (refl, refl, refl, h)
four true true false d h = absurd (false≢true h)
four true false c d h = absurd (false≢true h)
four false b c d h = absurd (false≢true h)

same_depth_is : (a b : Depth) → same_depth a b ≡ true → a ≡ b
same_depth_is a b h =
    let p = four (nat_eq a.operands b.operands) (nat_eq a.scopes b.scopes) (nat_eq a.lists b.lists) (nat_eq a.endings b.endings) h in
    λ i. record {
      operands = eqb-true a.operands b.operands p.0 i;
      scopes = eqb-true a.scopes b.scopes p.1 i;
      lists = eqb-true a.lists b.lists p.2 i;
      endings = eqb-true a.endings b.endings p.3 i;
    }

covers_is : (depth other : Depth) → covers depth other ≡ true → IsWithin other depth
covers_is depth other h =
    let p = four (nat_le other.operands depth.operands) (nat_le other.scopes depth.scopes) (nat_le other.lists depth.lists) (nat_le other.endings depth.endings) h in
    record {
      operands = leb-true other.operands depth.operands p.0;
      scopes = leb-true other.scopes depth.scopes p.1;
      lists = leb-true other.lists depth.lists p.2;
      endings = leb-true other.endings depth.endings p.3;
    }

some_if : {A : Type 0} (b : Bool) (o : Option A) (x : A) → (if b then o else None) ≡ Some x → (b ≡ true) × (o ≡ Some x)
some_if true o x h = (refl, h)
some_if false o x h = absurd cc

op_at_stands : (ops : List Op) (at : ℕ) (op : Op) → op_at ops at ≡ Some op → StandsAt ops at op
op_at_stands ops at op h =
    let p = some_if (nat_le at (length ops)) (slice_get ops (length ops - at)) op h in
    let le = leb-true at (length ops) p.0 in
    record { index = length ops - at; counted = omega arith; found = p.1 }

-- an operation that is there
Carries : Option Op → Depth → Type 0
Carries o depth = (op : Op) × (o ≡ Some op) × (op.depth ≡ depth)

carries_is : (o : Option Op) (depth : Depth) → carries o depth ≡ true → Carries o depth
unfolding Carries
carries_is None depth h = absurd (false≢true h)
carries_is (Some op) depth h = (op, refl, same_depth_is op.depth depth h)

next_is : (ops : List Op) (i : ℕ) (op : Op) → i < length ops → next_valid ops (length ops - i) op ≡ true → goes_on op.kind ≡ true → NextStands ops i (depth_next op.kind op.depth)
unfolding Carries
next_is ops i op h valid on =
    let test : Bool = carries (op_at ops (length ops - i - 1)) (depth_next op.kind op.depth) in
    let there : test ≡ true = ap (λ b. not b || test) (sym on) ∙ valid in
    let found = carries_is (op_at ops (length ops - i - 1)) (depth_next op.kind op.depth) there in
    let stands = op_at_stands ops (length ops - i - 1) found.0 found.1 in
    let place : stands.index ≡ i + 1 = omega (arith, stands.counted) in
    record { op = found.0; found = ap (slice_get ops) (sym place) ∙ stands.found; depth_same = found.2 }

charge_is : (k : Kind) → is_charge k ≡ true → k ≡ kind.Charge
unfolding is_charge
charge_is kind.Charge h = refl
charge_is _ h = absurd (false≢true h)

charges_is : (o : Option Op) (op : Op) → o ≡ Some op → charges o ≡ true → op.kind ≡ kind.Charge
charges_is o op e h = charge_is op.kind (ap charges (sym e) ∙ h)

jump_is : (ops : List Op) (from : ℕ) (op : Op) (to : Address) → jump_valid ops from op (Some to) ≡ true → JumpStands ops from to.0 (depth_at_jump op.kind op.depth)
unfolding Carries
jump_is ops from op to valid =
    let parts = and_parts (carries (op_at ops to.0) (depth_at_jump op.kind op.depth)) (nat_lt to.0 from || charges (op_at ops to.0)) valid in
    let found = carries_is (op_at ops to.0) (depth_at_jump op.kind op.depth) parts.0 in
    record {
      op = found.0;
      stands = op_at_stands ops to.0 found.0 found.1;
      depth_same = found.2;
      charges = λ back. elim (or_cases (nat_lt to.0 from) (charges (op_at ops to.0)) parts.1) [
        | inl further ↦ absurd (omega (arith, back, ltb-true to.0 from further))
        | inr charge ↦ charges_is (op_at ops to.0) found.0 found.1 charge
      ];
    }

past_is : (ops : List Op) (from : ℕ) (op : Op) (to : Address) → past_valid ops from op (Some to) ≡ true → PastStands ops from to.0 op.depth
unfolding Carries
past_is ops from op to valid =
    let parts = and_parts (nat_lt to.0 from) (carries (op_at ops to.0) op.depth) valid in
    let found = carries_is (op_at ops to.0) op.depth parts.1 in
    record {
      op = found.0;
      stands = op_at_stands ops to.0 found.0 found.1;
      depth_same = found.2;
      further = ltb-true to.0 from parts.0;
    }

-- an operation that ends a part of the code
Ends : Option Op → Depth → Type 0
Ends o left = (op : Op) × (o ≡ Some op) × (is_ending op.kind ≡ true) × IsWithin op.depth left

ends_is : (o : Option Op) (left : Depth) → ends_part o left ≡ true → Ends o left
unfolding Ends
ends_is None left h = absurd (false≢true h)
ends_is (Some op) left h =
    let parts = and_parts (is_ending op.kind) (covers left op.depth) h in
    (op, refl, parts.0, covers_is left op.depth parts.1)

around_is : (ops : List Op) (from : ℕ) (op : Op) (to : Address) → around_valid ops from op (Some to) ≡ true → EndStands ops from to.0 (depth_left op.kind op.depth)
unfolding Ends
around_is ops from op to valid =
    let parts = and_parts (nat_lt to.0 from) (ends_part (op_at ops to.0) (depth_left op.kind op.depth)) valid in
    let found = ends_is (op_at ops to.0) (depth_left op.kind op.depth) parts.1 in
    record {
      op = found.0;
      stands = op_at_stands ops to.0 found.0 found.1;
      further = ltb-true to.0 from parts.0;
      ending = found.2;
      within = found.3;
    }

slot_is : (slot : ℕ) (scope : Option ℕ) → is_slot slot scope ≡ true → HasSlot scope slot
slot_is slot None h = absurd (false≢true h)
slot_is slot (Some count) h = record { count = count; scope_is = refl; below = ltb-true slot count h }

-- the first is some scope, and the others are these
Behind : List ℕ → List ℕ → Type 0
Behind slots around = (own : ℕ) × (slots ≡ own ∷ around)

behind_is : (slots around : List ℕ) → slots_behind slots around ≡ true → Behind slots around
unfolding Behind
behind_is [] around h = absurd (false≢true h)
behind_is (own ∷ rest) around h = (own, ap (λ list. own ∷ list) ((bytes_eq-Decides rest around).0 h))

-- a function whose scopes behind its own are these
Function : Option FunctionCode → List ℕ → Type 0
Function o around = (f : FunctionCode) × (o ≡ Some f) × (slots_behind f.slots around ≡ true)

function_is : (o : Option FunctionCode) (around : List ℕ) → stands_in o around ≡ true → Function o around
unfolding Function
function_is None around h = absurd (false≢true h)
function_is (Some f) around h = (f, refl, h)

has_function : (functions : List FunctionCode) (number : ℕ) (around : List ℕ) → stands_in (slice_get functions number) around ≡ true → HasFunction functions number around
unfolding Function Behind
has_function functions number around h =
    let found = function_is (slice_get functions number) around h in
    let behind = behind_is found.0.slots around found.2 in
    record { code = found.0; found = found.1; own = behind.0; slots_same = behind.1 }

safe_is : (n : ℤ) → is_safe n ≡ true → IsSafe n
safe_is n h =
    let parts = and_parts (int_le (neg_ℤ (pos 9007199254740991)) n) (int_le n (pos 9007199254740991)) h in
    record { low = le_z_yes (subst T (sym parts.0) tt); high = le_z_yes (subst T (sym parts.1) tt) }

names_is : (functions : List FunctionCode) (slots : List ℕ) (scopes : ℕ) (k : Kind) → names_valid functions slots scopes k ≡ true → Names functions slots scopes k
unfolding names_valid Names
names_is functions slots scopes (kind.Num number) h = safe_is number h
names_is functions slots scopes (kind.Load up slot) h = slot_is slot (slice_get (slots_outwards slots scopes) up) h
names_is functions slots scopes (kind.Store up slot) h = slot_is slot (slice_get (slots_outwards slots scopes) up) h
names_is functions slots scopes (kind.LoadGlobal slot) h = slot_is slot (outermost slots) h
names_is functions slots scopes (kind.StoreGlobal slot) h = slot_is slot (outermost slots) h
names_is functions slots scopes (kind.Closure number params name) h = has_function functions number (closure_slots slots scopes name) h
names_is functions slots scopes _ h = tt

-- the parts of the test of an operation
record OpTests (functions : List FunctionCode) (f : FunctionCode) (at : ℕ) (op : Op) : Type 0 where
  held : holds op.kind op.depth ≡ true
  names : names_valid functions f.slots op.depth.scopes op.kind ≡ true
  next : next_valid f.ops at op ≡ true
  jump : jump_valid f.ops at op (jump_of op.kind) ≡ true
  past : past_valid f.ops at op (past_of op.kind) ≡ true
  around : around_valid f.ops at op op.around ≡ true

op_tests : (functions : List FunctionCode) (f : FunctionCode) (at : ℕ) (op : Op) → op_valid functions f at op ≡ true → OpTests functions f at op
unfolding op_valid
op_tests functions f at op h =
    let first_four : Bool = holds op.kind op.depth && names_valid functions f.slots op.depth.scopes op.kind && next_valid f.ops at op && jump_valid f.ops at op (jump_of op.kind) in
    let past : Bool = past_valid f.ops at op (past_of op.kind) in
    let all = and_parts (first_four && past) (around_valid f.ops at op op.around) h in
    let five = and_parts first_four past all.0 in
    let parts = four (holds op.kind op.depth) (names_valid functions f.slots op.depth.scopes op.kind) (next_valid f.ops at op) (jump_valid f.ops at op (jump_of op.kind)) five.0 in
    record { held = parts.0; names = parts.1; next = parts.2; jump = parts.3; past = five.1; around = all.1 }

op_rule : (functions : List FunctionCode) (f : FunctionCode) (i : ℕ) (op : Op) → i < length f.ops → op_valid functions f (length f.ops - i) op ≡ true → OpRule functions f i op
op_rule functions f i op h valid =
    let at : ℕ = length f.ops - i in
    let tests = op_tests functions f at op valid in
    let depth = op.depth in
    let held = four (nat_le (operands_taken op.kind) depth.operands) (nat_le (scopes_needed op.kind) depth.scopes) (nat_le (lists_needed op.kind) depth.lists) (nat_le (endings_taken op.kind) depth.endings) tests.held in
    record {
      operands = leb-true (operands_taken op.kind) depth.operands held.0;
      scopes = leb-true (scopes_needed op.kind) depth.scopes held.1;
      lists = leb-true (lists_needed op.kind) depth.lists held.2;
      endings = leb-true (endings_taken op.kind) depth.endings held.3;
      names = names_is functions f.slots depth.scopes op.kind tests.names;
      next = next_is f.ops i op h tests.next;
      jump = λ to e. jump_is f.ops at op to (ap (jump_valid f.ops at op) (sym e) ∙ tests.jump);
      past = λ to e. past_is f.ops at op to (ap (past_valid f.ops at op) (sym e) ∙ tests.past);
      around = λ to e. around_is f.ops at op to (ap (around_valid f.ops at op) (sym e) ∙ tests.around);
    }

-- each operation of a list that is valid
op_of : (functions : List FunctionCode) (f : FunctionCode) (ops : List Op) (i : ℕ) (op : Op) → ops_valid functions f ops ≡ true → slice_get ops i ≡ Some op → op_valid functions f (length ops - i) op ≡ true
unfolding ops_valid
op_of functions f [] i op valid e = absurd cc
op_of functions f (first ∷ rest) zero op valid e =
    let here = (and_parts (op_valid functions f (length rest + 1) first) (ops_valid functions f rest) valid).0 in
    let same : first ≡ op = cc in
    let at : length (first ∷ rest) - zero ≡ length rest + 1 = omega arith in
    rw at (subst (λ o. op_valid functions f (length rest + 1) o ≡ true) same here)
op_of functions f (first ∷ rest) (suc i) op valid e =
    let behind = (and_parts (op_valid functions f (length rest + 1) first) (ops_valid functions f rest) valid).1 in
    let at : length (first ∷ rest) - suc i ≡ length rest - i = omega arith in
    rw at (op_of functions f rest i op behind e)

begins_is : (ops : List Op) → begins ops ≡ true → Begins ops
unfolding Carries
begins_is ops h =
    let found = carries_is (slice_get ops 0) at_entry h in
    record { first = found.0; found = found.1; depth_same = found.2 }

-- the own scope, with a slot for each parameter
Fits : Option ℕ → ℕ → Type 0
Fits o params = (own : ℕ) × (o ≡ Some own) × (params ≤ own)

fits_is : (o : Option ℕ) (params : ℕ) → params_fit params o ≡ true → Fits o params
unfolding Fits
fits_is None params h = absurd (false≢true h)
fits_is (Some own) params h = (own, refl, leb-true params own h)

params_is : (slots : List ℕ) (params : ℕ) → params_fit params (slice_get slots 0) ≡ true → HasParams slots params
unfolding Fits
params_is slots params h =
    let found = fits_is (slice_get slots 0) params h in
    record { own = found.0; found = found.1; fit = found.2 }

part_rule : (functions : List FunctionCode) (f : FunctionCode) → part_valid functions f ≡ true → PartRule functions f
unfolding part_valid
part_rule functions f h =
    let all = and_parts (params_fit f.params (slice_get f.slots 0) && begins f.ops) (ops_valid functions f f.ops) h in
    let head = and_parts (params_fit f.params (slice_get f.slots 0)) (begins f.ops) all.0 in
    record {
      params = params_is f.slots f.params head.0;
      begins = begins_is f.ops head.1;
      ops = λ i op e. op_rule functions f i op (slice_get_within f.ops i op e) (op_of functions f f.ops i op all.1 e);
    }

function_rule : (functions : List FunctionCode) (f : FunctionCode) → function_valid functions f ≡ true → FunctionRule functions f
function_rule functions f h =
    let parts = and_parts (nat_le 2 (length f.slots)) (part_valid functions f) h in
    record { slots = leb-true 2 (length f.slots) parts.0; part = part_rule functions f parts.1 }

-- what passes at each item passes at one
item_of : {A : Type 0} (test : A → Bool) (xs : List A) (k : ℕ) (x : A) → list_all test xs ≡ true → slice_get xs k ≡ Some x → test x ≡ true
item_of test [] k x all e = absurd cc
item_of test (y ∷ ys) zero x all e =
    let same : y ≡ x = cc in
    subst (λ o. test o ≡ true) same (and_parts (test y) (list_all test ys) all).0
item_of test (y ∷ ys) (suc k) x all e = item_of test ys k x (and_parts (test y) (list_all test ys) all).1 e

pub code_rule : (code : Code) → is_valid code ≡ true → CodeRule code
unfolding is_valid
code_rule code h =
    let all = and_parts (body_valid code.functions code.body) (list_all (function_valid code.functions) code.functions) h in
    let body = and_parts (nat_eq (length code.body.slots) 2) (part_valid code.functions code.body) all.0 in
    record {
      body_slots = eqb-true (length code.body.slots) 2 body.0;
      body = part_rule code.functions code.body body.1;
      functions = λ k f e. function_rule code.functions f (item_of (function_valid code.functions) code.functions k f all.1 e);
    }
