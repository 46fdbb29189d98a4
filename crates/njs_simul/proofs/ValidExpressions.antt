-- The code of each expression is valid, by that of its parts.
use Rattle.std.proofs.Common.{◌≡◌, ℕ, zero, suc, ◌+◌, ◌≤◌, List, [], ◌∷◌, length, pos, Bool, true, false, not, ◌||◌, nat_eq, nat_le, Option, Some, None, refl, ap, subst, ◌∙◌, ℤ, arith, slice_get}
use Rattle.std.proofs.lemmas.Bool.{and_from, eq-eqb, le-leb}
use Rattle.njs_tree.specs.declared.tree.BinaryOp.{BinaryOp}
use Rattle.njs_tree.specs.declared.tree.LogicalOp.{LogicalOp}
use Rattle.njs_tree.specs.declared.tree.UnaryOp.{UnaryOp}
use Rattle.njs_tree.specs.declared.tree.UnaryOp.TheVariants as sign
use Rattle.njs_tree.specs.declared.tree.UpdateOp.{UpdateOp}
use Rattle.std.specs.Fmt.{decimal}
use Rattle.njs_code.specs.declared.op.Kind.{Kind}
use Rattle.njs_code.specs.declared.op.Kind.TheVariants as kind
use Rattle.njs_code.specs.declared.op.Op.{Op}
use Rattle.njs_code.specs.declared.code.FunctionCode.{FunctionCode}
use Rattle.njs_code.specs.Effects.{operands_taken, operands_given, goes_on}
use Rattle.njs_code.specs.Valid.{is_safe, stands_in, closure_slots, names_valid}
use Rattle.njs_props.specs.Names.{length_name}
use Rattle.njs_meaning.specs.Places.{Around}
use Rattle.njs_meaning.specs.Meaning.{Made}
use Rattle.njs_simul.specs.Emission as emit
use Rattle.njs_simul.specs.Emission.{Here, Emits, op, address, on, deeper, Form, IsValue, IsName, IsMember, width, fetch, Coded, coded, value, value_size, values, values_size, elements, elements_size, fields, fields_size, with_length, begun}
use Rattle.njs_simul.specs.EmissionOfStatements.{slots_of}
use Rattle.njs_simul.specs.Compiled.{in_own_name}
use Rattle.njs_simul.specs.Laws.{Front, Writes}
use Rattle.njs_simul.specs.Checks.{Fits, Well, Checks, CodedChecked, leads, is_simple, is_jump}
use Rattle.njs_simul.proofs.Steps.{front_none, front_op, front_then, front_count, begun_writes}
use Rattle.njs_simul.proofs.Sequences.{kept_front, assign_front, assign_writes, method_writes, delete_writes, type_writes, value_writes}
use Rattle.njs_simul.proofs.ValidSteps.{on_is, named_well, simple_well, jump_well}
use Rattle.njs_simul.proofs.ValidNames.{fetch_well, kept_well, assign_well, method_well, delete_well, type_well}
use Rattle.njs_simul.proofs.ValidPlaces.{fits_deeper}

-- ---- lists of what is so

abbrev pub All : {A : Type 0} → (A → Type 0) → List A → Type 0
All R [] = Unit {0}
All R (a ∷ xs) = R a × All R xs

-- what may be missing
abbrev pub Perhaps : {A : Type 0} → (A → Type 0) → Option A → Type 0
Perhaps R None = Unit {0}
Perhaps R (Some a) = R a

-- with a name
abbrev pub Called : {A N : Type 0} → (A → Type 0) → N × A → Type 0
Called R p = R p.1

-- ---- counts of operands

on_suc : (n k : ℕ) → suc (on n k) ≡ on n (suc k)
on_suc zero k = refl
on_suc (suc n) k = ap suc (on_suc n k)

sums : (a b n : ℕ) → a + suc (b + n) ≡ a + suc b + n
sums a b n = omega arith

or_so : (b c : Bool) → c ≡ true → (not b || c) ≡ true
or_so true c h = h
or_so false c h = refl

pub leads_so : (k : Kind) (n m : ℕ) → operands_taken k ≤ n → n + operands_given k ≡ m + operands_taken k → leads k n m ≡ true
unfolding leads
leads_so k n m takes leaves =
    and_from (nat_le (operands_taken k) n) (not (goes_on k) || nat_eq (n + operands_given k) (m + operands_taken k)) (le-leb (operands_taken k) n takes)
    (or_so (goes_on k) (nat_eq (n + operands_given k) (m + operands_taken k)) (eq-eqb (n + operands_given k) (m + operands_taken k) leaves))

module _ (functions : List FunctionCode) (names : Around) where
  abbrev pub IsChecked : Coded → Type 0
  IsChecked c = CodedChecked functions names c

  -- ---- what is written

  pub then_value : (c : Coded) (here : Here) (n : ℕ) (middle rest : List Op) → IsChecked c → Front n middle rest → Front (value_size c + n) (value c here middle) rest
  then_value c here n middle rest t f = front_then (value_size c) n (value c here middle) middle rest (value_writes c t.writes here middle) f

  pub then_target : (c : Coded) (here : Here) (n : ℕ) (middle rest : List Op) → IsChecked c → Front n middle rest → Front (c.size + n) (c.target here middle) rest
  then_target c here n middle rest t f = front_then c.size n (c.target here middle) middle rest (t.writes here middle) f

  pub one : (o : Op) (rest : List Op) → Front 1 (o ∷ rest) rest
  one o rest = front_op 0 o rest rest (front_none rest)

  -- ---- parts of expressions

  module _ (f : FunctionCode) (here : Here) (same : here.names ≡ names) (fits : Fits f here) where
    pub value_at : (c : Coded) (n : ℕ) (rest : List Op) → IsChecked c → Well functions f (deeper (suc n) here) rest → Well functions f (deeper n here) (value c (deeper n here) rest)
    value_at c n rest t well =
        let deep = fits_deeper functions f n here fits in
        t.checks f (deeper n here) (fetch c.form (deeper n here) rest) same deep (fetch_well functions f c.form (deeper n here) rest deep well)

    pub values_at : (cs : List Coded) (m : ℕ) (rest : List Op) → All IsChecked cs → Well functions f (deeper (on (length cs) m) here) rest → Well functions f (deeper m here) (values cs (deeper m here) rest)
    values_at [] m rest t well = well
    values_at (c ∷ cs) m rest t well =
        value_at c m (values cs (deeper (suc m) here) rest) t.0
        (values_at cs (suc m) rest t.1 (subst (λ n. Well functions f (deeper n here) rest) (on_suc (length cs) m) well))

    pub elements_at : (cs : List (Option Coded)) (i : ℕ) (rest : List Op) → All (Perhaps IsChecked) cs → Well functions f (deeper 1 here) rest → Well functions f (deeper 1 here) (elements i cs here rest)
    unfolding is_simple
    elements_at [] i rest t well = well
    elements_at (None ∷ cs) i rest t well = elements_at cs (i + 1) rest t.1 well
    elements_at (Some c ∷ cs) i rest t well =
        let others = elements (i + 1) cs here rest in
        value_at c 1 (op (kind.Define (decimal i)) (deeper 2 here) others) t.0
        (simple_well functions f (kind.Define (decimal i)) 2 1 refl here others fits (elements_at cs (i + 1) rest t.1 well))

    pub fields_at : (cs : List (List ℕ × Coded)) (rest : List Op) → All (Called IsChecked) cs → Well functions f (deeper 1 here) rest → Well functions f (deeper 1 here) (fields cs here rest)
    unfolding is_simple
    fields_at [] rest t well = well
    fields_at (c ∷ cs) rest t well =
        let others = fields cs here rest in
        value_at c.1 1 (op (kind.Define c.0) (deeper 2 here) others) t.0
        (simple_well functions f (kind.Define c.0) 2 1 refl here others fits (fields_at cs rest t.1 well))

    pub number_at : (z : ℤ) (n : ℕ) (rest : List Op) → is_safe z ≡ true → Well functions f (deeper (suc n) here) rest → Well functions f (deeper n here) (op (kind.Num z) (deeper n here) rest)
    unfolding is_simple names_valid
    number_at z n rest safe well =
        named_well functions f (kind.Num z) n (suc n) here rest refl (leads_so (kind.Num z) n (suc n) (omega arith) (omega arith)) refl (omega arith) fits safe well

    closure_names : (name : Option (List ℕ)) → closure_slots f.slots here.depth.scopes name ≡ slots_of (in_own_name name names)
    closure_names None = fits.slots ∙ ap slots_of same
    closure_names (Some name) = ap (λ slots. 1 ∷ slots) (fits.slots ∙ ap slots_of same)

    pub closure_at : (name : Option (List ℕ)) (number params : ℕ) (rest : List Op) → stands_in (slice_get functions number) (slots_of (in_own_name name names)) ≡ true
        → Well functions f (deeper 1 here) rest → Well functions f here (op (kind.Closure number params name) here rest)
    unfolding is_simple names_valid
    closure_at name number params rest there well =
        named_well functions f (kind.Closure number params name) 0 1 here rest refl refl refl (omega arith) fits
        (ap (stands_in (slice_get functions number)) (closure_names name) ∙ there) well

    pub length_at : (n : ℕ) (rest : List Op) → is_safe (pos n) ≡ true → Well functions f (deeper 1 here) rest → Well functions f (deeper 1 here) (with_length n here rest)
    unfolding is_simple
    length_at n rest safe well =
        let drops = op kind.Drop (deeper 2 here) rest in
        let puts = op kind.Put (deeper 4 here) drops in
        let number = op (kind.Num (pos n)) (deeper 3 here) puts in
        let name = op (kind.Str length_name) (deeper 2 here) number in
        simple_well functions f (kind.Tuck 0) 1 2 refl here name fits
        (simple_well functions f (kind.Str length_name) 2 3 refl here number fits
        (number_at (pos n) 3 puts safe
        (simple_well functions f kind.Put 4 2 refl here drops fits
        (simple_well functions f kind.Drop 2 1 refl here rest fits well))))

  -- ---- what takes a tick as it begins

  pub begun_checks : (emit : Emits) (gives : ℕ) → Checks functions names emit gives → Checks functions names (begun emit) gives
  unfolding is_simple
  begun_checks emit gives h f here rest same fits well = simple_well functions f kind.Charge 0 0 refl here (emit here rest) fits (h f here rest same fits well)

  pub coded_checked : (count : ℕ) (emit : Emits) → Writes count emit → Checks functions names emit 1 → IsChecked (coded count emit)
  coded_checked count emit writes checks = record { writes = begun_writes count emit writes; checks = begun_checks emit 1 checks }

  -- ---- one operation

  constant_checked : (k : Kind) → is_simple k 0 1 ≡ true → IsChecked (emit.constant k)
  constant_checked k h = coded_checked 1 (op k) (λ here rest. one _ rest) (λ f here rest same fits well. simple_well functions f k 0 1 h here rest fits well)

  pub text_checked : (text : List ℕ) → IsChecked (emit.constant (kind.Str text))
  unfolding is_simple
  text_checked text = constant_checked (kind.Str text) refl

  pub null_checked : IsChecked (emit.constant kind.Null)
  unfolding is_simple
  null_checked = constant_checked kind.Null refl

  pub truth_checked : (b : Bool) → IsChecked (emit.constant (kind.Bool b))
  unfolding is_simple
  truth_checked b = constant_checked (kind.Bool b) refl

  pub this_checked : IsChecked (emit.constant kind.This)
  unfolding is_simple
  this_checked = constant_checked kind.This refl

  pub number_checked : (z : ℤ) → is_safe z ≡ true → IsChecked (emit.constant (kind.Num z))
  number_checked z safe = coded_checked 1 (op (kind.Num z)) (λ here rest. one _ rest) (λ f here rest same fits well. number_at f here same fits z 0 rest safe well)

  pub name_checked : (text : List ℕ) → IsChecked (emit.name text)
  unfolding is_simple
  name_checked text = record {
    writes = λ here rest. one _ rest;
    checks = λ f here rest same fits well. simple_well functions f kind.Charge 0 0 refl here rest fits well;
  }

  -- a function, which stands in these scopes
  pub function_checked : (made : Made) → stands_in (slice_get functions made.number) (slots_of (in_own_name made.name names)) ≡ true → IsChecked (emit.function made)
  function_checked made there = coded_checked 1 _ (λ here rest. one _ rest) (λ f here rest same fits well. closure_at f here same fits made.name made.number made.params rest there well)

  -- ---- operators

  pub comma_checked : (ca cb : Coded) → IsChecked ca → IsChecked cb → IsChecked (emit.comma ca cb)
  unfolding is_simple
  comma_checked ca cb ta tb = coded_checked _ _
      (λ here rest. then_value ca here _ _ rest ta (front_op (value_size cb) _ _ rest (value_writes cb tb.writes here rest)))
      (λ f here rest same fits well.
      value_at f here same fits ca 0 _ ta (simple_well functions f kind.Drop 1 0 refl here _ fits (value_at f here same fits cb 0 rest tb well)))

  assign_checked : (ca cb : Coded) → IsChecked ca → IsChecked cb → IsChecked (emit.assign ca cb)
  assign_checked ca cb ta tb = coded_checked _ _
      (λ here rest. then_target ca here _ _ rest ta (then_value cb (deeper (width ca.form) here) 1 _ rest tb (assign_writes ca.form here rest)))
      (λ f here rest same fits well.
      ta.checks f here _ same fits (value_at f here same fits cb (width ca.form) _ tb (assign_well functions f ca.form here rest fits well)))

  binary_on : (g : BinaryOp) (form : Form) → is_simple (kind.Binary g) (suc (suc (width form))) (suc (width form)) ≡ true
  unfolding is_simple
  binary_on g IsValue = refl
  binary_on g (IsName name) = refl
  binary_on g IsMember = refl

  assign_by_checked : (g : BinaryOp) (ca cb : Coded) → IsChecked ca → IsChecked cb → IsChecked (emit.assign_by g ca cb)
  assign_by_checked g ca cb ta tb = coded_checked _ _
      (λ here rest. then_target ca here _ _ rest ta (kept_front ca.form here _ _ rest
      (then_value cb (deeper (suc (width ca.form)) here) 2 _ rest tb (front_op 1 _ _ rest (assign_writes ca.form here rest)))))
      (λ f here rest same fits well.
      ta.checks f here _ same fits (kept_well functions f ca.form here _ fits (value_at f here same fits cb (suc (width ca.form)) _ tb
      (simple_well functions f (kind.Binary g) (suc (suc (width ca.form))) (suc (width ca.form)) (binary_on g ca.form) here _ fits (assign_well functions f ca.form here rest fits well)))))

  pub assignment_checked : (g : Option BinaryOp) (ca cb : Coded) → IsChecked ca → IsChecked cb → IsChecked (emit.assignment g ca cb)
  assignment_checked None ca cb ta tb = assign_checked ca cb ta tb
  assignment_checked (Some g) ca cb ta tb = assign_by_checked g ca cb ta tb

  pub conditional_checked : (ca cb cd : Coded) → IsChecked ca → IsChecked cb → IsChecked cd → IsChecked (emit.conditional ca cb cd)
  unfolding is_simple is_jump
  conditional_checked ca cb cd ta tb td = coded_checked _ _
      (λ here rest. then_value ca here _ _ rest ta (front_op _ _ _ rest (then_value cb here _ _ rest tb (front_op _ _ _ rest (value_writes cd td.writes here rest)))))
      (λ f here rest same fits well.
      let other = value cd here rest in
      let jump = op (kind.Jump (address rest)) (deeper 1 here) other in
      let other_well = value_at f here same fits cd 0 rest td well in
      value_at f here same fits ca 0 _ ta
      (jump_well functions f (kind.JumpFalse (address other)) 1 0 0 refl _ here (value cb here jump) other refl (omega arith) fits (then_value cb here 1 jump other tb (one _ other))
      (value_at f here same fits cb 0 jump tb
      (jump_well functions f (kind.Jump (address rest)) 1 0 1 refl _ here other rest refl (omega arith) fits (value_writes cd td.writes here rest) other_well well))
      other_well))

  pub either_checked : (g : LogicalOp) (ca cb : Coded) → IsChecked ca → IsChecked cb → IsChecked (emit.either g ca cb)
  unfolding is_simple is_jump
  either_checked g ca cb ta tb = coded_checked _ _
      (λ here rest. then_value ca here _ _ rest ta (front_op _ _ _ rest (value_writes cb tb.writes here rest)))
      (λ f here rest same fits well.
      value_at f here same fits ca 0 _ ta
      (jump_well functions f (kind.JumpLogical g (address rest)) 1 0 1 refl _ here (value cb here rest) rest refl (omega arith) fits (value_writes cb tb.writes here rest)
      (value_at f here same fits cb 0 rest tb well) well))

  pub both_checked : (g : BinaryOp) (ca cb : Coded) → IsChecked ca → IsChecked cb → IsChecked (emit.both g ca cb)
  unfolding is_simple
  both_checked g ca cb ta tb = coded_checked _ _
      (λ here rest. then_value ca here _ _ rest ta (then_value cb (deeper 1 here) 1 _ rest tb (one _ rest)))
      (λ f here rest same fits well.
      value_at f here same fits ca 0 _ ta (value_at f here same fits cb 1 _ tb (simple_well functions f (kind.Binary g) 2 1 refl here rest fits well)))

  unary_checked : (g : UnaryOp) (ca : Coded) → IsChecked ca → IsChecked (coded (value_size ca + 1) (λ here rest. value ca here (op (kind.Unary g) (deeper 1 here) rest)))
  unfolding is_simple
  unary_checked g ca ta = coded_checked _ _ (λ here rest. then_value ca here 1 _ rest ta (one _ rest))
      (λ f here rest same fits well. value_at f here same fits ca 0 _ ta (simple_well functions f (kind.Unary g) 1 1 refl here rest fits well))

  pub sole_checked : (g : UnaryOp) (ca : Coded) → IsChecked ca → IsChecked (emit.sole g ca)
  sole_checked sign.Delete ca ta = coded_checked _ _ (λ here rest. then_target ca here _ _ rest ta (delete_writes ca.form here rest))
      (λ f here rest same fits well. ta.checks f here _ same fits (delete_well functions f ca.form here rest fits well))
  sole_checked sign.TypeOf ca ta = coded_checked _ _ (λ here rest. then_target ca here _ _ rest ta (type_writes ca.form here rest))
      (λ f here rest same fits well. ta.checks f here _ same fits (type_well functions f ca.form here rest fits well))
  sole_checked sign.Void ca ta = unary_checked sign.Void ca ta
  sole_checked sign.Plus ca ta = unary_checked sign.Plus ca ta
  sole_checked sign.Minus ca ta = unary_checked sign.Minus ca ta
  sole_checked sign.BitNot ca ta = unary_checked sign.BitNot ca ta
  sole_checked sign.Not ca ta = unary_checked sign.Not ca ta

  -- the new number goes into the reference
  before_at : (g : UpdateOp) (form : Form) (f : FunctionCode) (here : Here) (rest : List Op) → Fits f here → Well functions f (deeper (suc (width form)) here) rest
      → Well functions f (deeper (suc (width form)) here) (op kind.ToNumber (deeper (suc (width form)) here) (op (kind.Step g) (deeper (suc (width form)) here) rest))
  unfolding is_simple
  before_at g IsValue f here rest fits well = simple_well functions f kind.ToNumber 2 2 refl here _ fits (simple_well functions f (kind.Step g) 2 2 refl here rest fits well)
  before_at g (IsName name) f here rest fits well = simple_well functions f kind.ToNumber 1 1 refl here _ fits (simple_well functions f (kind.Step g) 1 1 refl here rest fits well)
  before_at g IsMember f here rest fits well = simple_well functions f kind.ToNumber 3 3 refl here _ fits (simple_well functions f (kind.Step g) 3 3 refl here rest fits well)

  -- the old one stays below
  behind_at : (g : UpdateOp) (form : Form) (f : FunctionCode) (here : Here) (rest : List Op) → Fits f here → Well functions f (deeper (suc (width form)) (deeper 1 here)) rest
      → Well functions f (deeper (suc (width form)) here) (op kind.ToNumber (deeper (suc (width form)) here)
      (op (kind.Tuck (width form)) (deeper (suc (width form)) here) (op (kind.Step g) (deeper (suc (suc (width form))) here) rest)))
  unfolding is_simple
  behind_at g IsValue f here rest fits well =
      simple_well functions f kind.ToNumber 2 2 refl here _ fits (simple_well functions f (kind.Tuck 1) 2 3 refl here _ fits (simple_well functions f (kind.Step g) 3 3 refl here rest fits well))
  behind_at g (IsName name) f here rest fits well =
      simple_well functions f kind.ToNumber 1 1 refl here _ fits (simple_well functions f (kind.Tuck 0) 1 2 refl here _ fits (simple_well functions f (kind.Step g) 2 2 refl here rest fits well))
  behind_at g IsMember f here rest fits well =
      simple_well functions f kind.ToNumber 3 3 refl here _ fits (simple_well functions f (kind.Tuck 2) 3 4 refl here _ fits (simple_well functions f (kind.Step g) 4 4 refl here rest fits well))

  pub stepping_checked : (g : UpdateOp) (prefix : Bool) (ca : Coded) → IsChecked ca → IsChecked (emit.stepping g prefix ca)
  unfolding is_simple
  stepping_checked g true ca ta = coded_checked _ _
      (λ here rest. then_target ca here 4 _ rest ta (kept_front ca.form here 3 _ rest (front_op 2 _ _ rest (front_op 1 _ _ rest (assign_writes ca.form here rest)))))
      (λ f here rest same fits well.
      ta.checks f here _ same fits (kept_well functions f ca.form here _ fits (before_at g ca.form f here _ fits (assign_well functions f ca.form here rest fits well))))
  stepping_checked g false ca ta = coded_checked _ _
      (λ here rest. then_target ca here 6 _ rest ta (kept_front ca.form here 5 _ rest (front_op 4 _ _ rest (front_op 3 _ _ rest (front_op 2 _ _ rest
      (assign_front ca.form (deeper 1 here) 1 _ rest (one _ rest)))))))
      (λ f here rest same fits well.
      ta.checks f here _ same fits (kept_well functions f ca.form here _ fits (behind_at g ca.form f here _ fits
      (assign_well functions f ca.form (deeper 1 here) _ (fits_deeper functions f 1 here fits) (simple_well functions f kind.Drop 2 1 refl here rest fits well)))))

  -- ---- calls

  values_writes : (cs : List Coded) → All IsChecked cs → Writes (values_size cs) (values cs)
  values_writes [] t here rest = front_none rest
  values_writes (c ∷ cs) t here rest = then_value c here _ _ rest t.0 (values_writes cs t.1 (deeper 1 here) rest)

  pub calling_checked : (ca : Coded) (cs : List Coded) → IsChecked ca → All IsChecked cs → IsChecked (emit.calling ca cs)
  unfolding is_simple names_valid
  calling_checked ca cs ta ts = coded_checked _ _
      (λ here rest. then_target ca here _ _ rest ta (front_then _ _ _ _ rest (method_writes ca.form here _) (front_then _ 1 _ _ rest (values_writes cs ts (deeper 2 here) _) (one _ rest))))
      (λ f here rest same fits well.
      let n = length cs in
      let e = on_is n 2 in
      ta.checks f here _ same fits (method_well functions f ca.form here _ fits (values_at f here same fits cs 2 _ ts
      (named_well functions f (kind.Call n) (on n 2) 1 here rest refl (leads_so (kind.Call n) (on n 2) 1 (omega (arith, e)) (omega (arith, e))) refl (omega arith) fits refl well))))

  pub making_checked : (ca : Coded) (cs : List Coded) → IsChecked ca → All IsChecked cs → IsChecked (emit.making ca cs)
  unfolding is_simple names_valid
  making_checked ca cs ta ts = coded_checked _ _
      (λ here rest. then_value ca here _ _ rest ta (front_then _ 1 _ _ rest (values_writes cs ts (deeper 1 here) _) (one _ rest)))
      (λ f here rest same fits well.
      let n = length cs in
      let e = on_is n 1 in
      value_at f here same fits ca 0 _ ta (values_at f here same fits cs 1 _ ts
      (named_well functions f (kind.New n) (on n 1) 1 here rest refl (leads_so (kind.New n) (on n 1) 1 (omega (arith, e)) (omega (arith, e))) refl (omega arith) fits refl well)))

  -- ---- members

  pub member_checked : (ca : Coded) (name : List ℕ) → IsChecked ca → IsChecked (emit.member ca name)
  unfolding is_simple
  member_checked ca name ta = record {
    writes = begun_writes _ _ (λ here rest. then_value ca here 2 _ rest ta (front_op 1 _ _ rest (one _ rest)));
    checks = begun_checks _ 2 (λ f here rest same fits well.
        value_at f here same fits ca 0 _ ta (simple_well functions f kind.Base 1 1 refl here _ fits (simple_well functions f (kind.Str name) 1 2 refl here rest fits well)));
  }

  pub index_checked : (ca cb : Coded) → IsChecked ca → IsChecked cb → IsChecked (emit.index ca cb)
  unfolding is_simple
  index_checked ca cb ta tb = record {
    writes = begun_writes _ _ (λ here rest. then_value ca here _ _ rest ta (then_value cb (deeper 1 here) 1 _ rest tb (one _ rest)));
    checks = begun_checks _ 2 (λ f here rest same fits well.
        value_at f here same fits ca 0 _ ta (value_at f here same fits cb 1 _ tb (simple_well functions f kind.Key 2 2 refl here rest fits well)));
  }

  -- ---- arrays and objects

  elements_writes : (cs : List (Option Coded)) → All (Perhaps IsChecked) cs → (i : ℕ) (here : Here) (n : ℕ) (middle rest : List Op) → Front n middle rest
      → Front (elements_size cs + n) (elements i cs here middle) rest
  elements_writes [] t i here n middle rest f = front_count n (0 + n) middle rest (omega arith) f
  elements_writes (None ∷ cs) t i here n middle rest f = elements_writes cs t.1 (i + 1) here n middle rest f
  elements_writes (Some c ∷ cs) t i here n middle rest f =
      front_count _ _ _ rest (sums (value_size c) (elements_size cs) n)
      (then_value c (deeper 1 here) _ _ rest t.0 (front_op _ _ _ rest (elements_writes cs t.1 (i + 1) here n middle rest f)))

  pub array_checked : (cs : List (Option Coded)) → is_safe (pos (length cs)) ≡ true → All (Perhaps IsChecked) cs → IsChecked (emit.array cs)
  unfolding is_simple
  array_checked cs safe ts = coded_checked _ _
      (λ here rest. front_op _ _ _ rest (elements_writes cs ts 0 here 5 _ rest (front_op 4 _ _ rest (front_op 3 _ _ rest (front_op 2 _ _ rest (front_op 1 _ _ rest (one _ rest)))))))
      (λ f here rest same fits well.
      simple_well functions f kind.NewArray 0 1 refl here _ fits (elements_at f here same fits cs 0 _ ts (length_at f here same fits (length cs) rest safe well)))

  fields_writes : (cs : List (List ℕ × Coded)) → All (Called IsChecked) cs → (here : Here) (rest : List Op) → Front (fields_size cs) (fields cs here rest) rest
  fields_writes [] t here rest = front_none rest
  fields_writes (c ∷ cs) t here rest = then_value c.1 (deeper 1 here) _ _ rest t.0 (front_op _ _ _ rest (fields_writes cs t.1 here rest))

  pub object_checked : (cs : List (List ℕ × Coded)) → All (Called IsChecked) cs → IsChecked (emit.object cs)
  unfolding is_simple
  object_checked cs ts = coded_checked _ _
      (λ here rest. front_op _ _ _ rest (fields_writes cs ts here rest))
      (λ f here rest same fits well. simple_well functions f kind.NewObject 0 1 refl here _ fits (fields_at f here same fits cs rest ts well))
