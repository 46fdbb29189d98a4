-- What the groups of operators mean, and what they keep of a state where calls do.
use Rattle.std.proofs.Common.{◌≡◌, ℕ, ℤ, List, ◌++◌, length, Bool, true, false, cond, not, Some, None, Result, Ok, Err, refl, sym, ap, ◌∙◌, subst, pos, ◌+ℤ◌, ◌-ℤ◌, ◌*ℤ◌}
use Rattle.std.specs.Prelude.{◌||◌, nat_le, int_rem, if◌then◌else◌, int_div}
use Rattle.std.specs.Ordering.{int_eq}
use Rattle.std.specs.Option.{option_map_or}
use Rattle.njs_tree.specs.declared.tree.BinaryOp.{BinaryOp}
use Rattle.njs_tree.specs.declared.tree.BinaryOp.TheVariants as op
use Rattle.njs_tree.specs.declared.tree.UnaryOp.{UnaryOp}
use Rattle.njs_tree.specs.declared.tree.UnaryOp.TheVariants as sign
use Rattle.njs_value.specs.declared.Cause.TheVariants.{NotNumber, OutOfRange, Fraction, DivideByZero, TextTooLong}
use Rattle.njs_meaning.specs.declared.level.Hint.TheVariants as hint
use Rattle.njs_meaning.specs.Primitives.{Primitive, Undefined, Null, Truth, Number, Characters}
use Rattle.njs_meaning.specs.Values.{PlainValue, Simple, is_same}
use Rattle.njs_meaning.specs.Numbers.{is_safe, number_of, text_of}
use Rattle.njs_meaning.specs.Operators.{Answer, binary_of, unary_of, safe, numbers_of, is_text, joined, sum, on_number as number_answer, on_numbers as numbers_answer, quotient, remainder}
use Rattle.njs_meaning.specs.State.{State, Call, and_then}
use Rattle.njs_meaning.specs.Errors.{name_of}
use Rattle.njs_meaning.specs.Operations.{answered, paid, on_primitives, added, on_numbers, equals, truth, instance_of, is_in, binary}
use Rattle.njs_interp.specs.declared.operators.groups.Group.TheVariants as group
use Rattle.njs_ops.specs.declared.values.OpValue.{OpValue}
use Rattle.njs_ops.specs.declared.values.OpStop.{OpStop}
use Rattle.njs_ops.specs.declared.values.OpStop.TheVariants as stop
use Rattle.njs_ops.specs.Values.{AnswersIfRoom}
use Rattle.njs_interp.specs.Alone.{group_of, NamesNothing}

-- ---- groups

pub numbers_are : (call : Call) (f : BinaryOp) (a b : PlainValue) (s : State) → group_of f ≡ group.Numbers → binary call f a b s ≡ on_numbers call f a b s
numbers_are call op.BitOr a b s e = refl
numbers_are call op.BitXor a b s e = refl
numbers_are call op.BitAnd a b s e = refl
numbers_are call op.Eq a b s e = cc
numbers_are call op.Ne a b s e = cc
numbers_are call op.StrictEq a b s e = cc
numbers_are call op.StrictNe a b s e = cc
numbers_are call op.Lt a b s e = cc
numbers_are call op.Gt a b s e = cc
numbers_are call op.Le a b s e = cc
numbers_are call op.Ge a b s e = cc
numbers_are call op.InstanceOf a b s e = cc
numbers_are call op.In a b s e = cc
numbers_are call op.Shl a b s e = refl
numbers_are call op.Shr a b s e = refl
numbers_are call op.UShr a b s e = refl
numbers_are call op.Add a b s e = cc
numbers_are call op.Sub a b s e = refl
numbers_are call op.Mul a b s e = refl
numbers_are call op.Div a b s e = refl
numbers_are call op.Rem a b s e = refl

pub relation_is : (call : Call) (f : BinaryOp) (a b : PlainValue) (s : State) → group_of f ≡ group.Relation → binary call f a b s ≡ on_primitives call hint.Number (binary_of f) a b s
relation_is call op.BitOr a b s e = cc
relation_is call op.BitXor a b s e = cc
relation_is call op.BitAnd a b s e = cc
relation_is call op.Eq a b s e = cc
relation_is call op.Ne a b s e = cc
relation_is call op.StrictEq a b s e = cc
relation_is call op.StrictNe a b s e = cc
relation_is call op.Lt a b s e = refl
relation_is call op.Gt a b s e = refl
relation_is call op.Le a b s e = refl
relation_is call op.Ge a b s e = refl
relation_is call op.InstanceOf a b s e = cc
relation_is call op.In a b s e = cc
relation_is call op.Shl a b s e = cc
relation_is call op.Shr a b s e = cc
relation_is call op.UShr a b s e = cc
relation_is call op.Add a b s e = cc
relation_is call op.Sub a b s e = cc
relation_is call op.Mul a b s e = cc
relation_is call op.Div a b s e = cc
relation_is call op.Rem a b s e = cc

pub sum_is : (call : Call) (f : BinaryOp) (a b : PlainValue) (s : State) → group_of f ≡ group.Sum → binary call f a b s ≡ added call a b s
sum_is call op.BitOr a b s e = cc
sum_is call op.BitXor a b s e = cc
sum_is call op.BitAnd a b s e = cc
sum_is call op.Eq a b s e = cc
sum_is call op.Ne a b s e = cc
sum_is call op.StrictEq a b s e = cc
sum_is call op.StrictNe a b s e = cc
sum_is call op.Lt a b s e = cc
sum_is call op.Gt a b s e = cc
sum_is call op.Le a b s e = cc
sum_is call op.Ge a b s e = cc
sum_is call op.InstanceOf a b s e = cc
sum_is call op.In a b s e = cc
sum_is call op.Shl a b s e = cc
sum_is call op.Shr a b s e = cc
sum_is call op.UShr a b s e = cc
sum_is call op.Add a b s e = refl
sum_is call op.Sub a b s e = cc
sum_is call op.Mul a b s e = cc
sum_is call op.Div a b s e = cc
sum_is call op.Rem a b s e = cc

pub equality_is : (call : Call) (f : BinaryOp) (a b : PlainValue) (s : State) → group_of f ≡ group.Equality → binary call f a b s ≡ and_then (equals call a b s) truth
equality_is call op.BitOr a b s e = cc
equality_is call op.BitXor a b s e = cc
equality_is call op.BitAnd a b s e = cc
equality_is call op.Eq a b s e = refl
equality_is call op.Ne a b s e = cc
equality_is call op.StrictEq a b s e = cc
equality_is call op.StrictNe a b s e = cc
equality_is call op.Lt a b s e = cc
equality_is call op.Gt a b s e = cc
equality_is call op.Le a b s e = cc
equality_is call op.Ge a b s e = cc
equality_is call op.InstanceOf a b s e = cc
equality_is call op.In a b s e = cc
equality_is call op.Shl a b s e = cc
equality_is call op.Shr a b s e = cc
equality_is call op.UShr a b s e = cc
equality_is call op.Add a b s e = cc
equality_is call op.Sub a b s e = cc
equality_is call op.Mul a b s e = cc
equality_is call op.Div a b s e = cc
equality_is call op.Rem a b s e = cc

pub inequality_is : (call : Call) (f : BinaryOp) (a b : PlainValue) (s : State) → group_of f ≡ group.Inequality → binary call f a b s ≡ and_then (equals call a b s) (λ e. truth (not e))
inequality_is call op.BitOr a b s e = cc
inequality_is call op.BitXor a b s e = cc
inequality_is call op.BitAnd a b s e = cc
inequality_is call op.Eq a b s e = cc
inequality_is call op.Ne a b s e = refl
inequality_is call op.StrictEq a b s e = cc
inequality_is call op.StrictNe a b s e = cc
inequality_is call op.Lt a b s e = cc
inequality_is call op.Gt a b s e = cc
inequality_is call op.Le a b s e = cc
inequality_is call op.Ge a b s e = cc
inequality_is call op.InstanceOf a b s e = cc
inequality_is call op.In a b s e = cc
inequality_is call op.Shl a b s e = cc
inequality_is call op.Shr a b s e = cc
inequality_is call op.UShr a b s e = cc
inequality_is call op.Add a b s e = cc
inequality_is call op.Sub a b s e = cc
inequality_is call op.Mul a b s e = cc
inequality_is call op.Div a b s e = cc
inequality_is call op.Rem a b s e = cc

pub identity_is : (call : Call) (f : BinaryOp) (a b : PlainValue) (s : State) → group_of f ≡ group.Identity → binary call f a b s ≡ truth (is_same a b) s
identity_is call op.BitOr a b s e = cc
identity_is call op.BitXor a b s e = cc
identity_is call op.BitAnd a b s e = cc
identity_is call op.Eq a b s e = cc
identity_is call op.Ne a b s e = cc
identity_is call op.StrictEq a b s e = refl
identity_is call op.StrictNe a b s e = cc
identity_is call op.Lt a b s e = cc
identity_is call op.Gt a b s e = cc
identity_is call op.Le a b s e = cc
identity_is call op.Ge a b s e = cc
identity_is call op.InstanceOf a b s e = cc
identity_is call op.In a b s e = cc
identity_is call op.Shl a b s e = cc
identity_is call op.Shr a b s e = cc
identity_is call op.UShr a b s e = cc
identity_is call op.Add a b s e = cc
identity_is call op.Sub a b s e = cc
identity_is call op.Mul a b s e = cc
identity_is call op.Div a b s e = cc
identity_is call op.Rem a b s e = cc

pub difference_is : (call : Call) (f : BinaryOp) (a b : PlainValue) (s : State) → group_of f ≡ group.Difference → binary call f a b s ≡ truth (not (is_same a b)) s
difference_is call op.BitOr a b s e = cc
difference_is call op.BitXor a b s e = cc
difference_is call op.BitAnd a b s e = cc
difference_is call op.Eq a b s e = cc
difference_is call op.Ne a b s e = cc
difference_is call op.StrictEq a b s e = cc
difference_is call op.StrictNe a b s e = refl
difference_is call op.Lt a b s e = cc
difference_is call op.Gt a b s e = cc
difference_is call op.Le a b s e = cc
difference_is call op.Ge a b s e = cc
difference_is call op.InstanceOf a b s e = cc
difference_is call op.In a b s e = cc
difference_is call op.Shl a b s e = cc
difference_is call op.Shr a b s e = cc
difference_is call op.UShr a b s e = cc
difference_is call op.Add a b s e = cc
difference_is call op.Sub a b s e = cc
difference_is call op.Mul a b s e = cc
difference_is call op.Div a b s e = cc
difference_is call op.Rem a b s e = cc

pub instance_is : (call : Call) (f : BinaryOp) (a b : PlainValue) (s : State) → group_of f ≡ group.Instance → binary call f a b s ≡ instance_of a b s
instance_is call op.BitOr a b s e = cc
instance_is call op.BitXor a b s e = cc
instance_is call op.BitAnd a b s e = cc
instance_is call op.Eq a b s e = cc
instance_is call op.Ne a b s e = cc
instance_is call op.StrictEq a b s e = cc
instance_is call op.StrictNe a b s e = cc
instance_is call op.Lt a b s e = cc
instance_is call op.Gt a b s e = cc
instance_is call op.Le a b s e = cc
instance_is call op.Ge a b s e = cc
instance_is call op.InstanceOf a b s e = refl
instance_is call op.In a b s e = cc
instance_is call op.Shl a b s e = cc
instance_is call op.Shr a b s e = cc
instance_is call op.UShr a b s e = cc
instance_is call op.Add a b s e = cc
instance_is call op.Sub a b s e = cc
instance_is call op.Mul a b s e = cc
instance_is call op.Div a b s e = cc
instance_is call op.Rem a b s e = cc

pub member_is : (call : Call) (f : BinaryOp) (a b : PlainValue) (s : State) → group_of f ≡ group.Member → binary call f a b s ≡ is_in call a b s
member_is call op.BitOr a b s e = cc
member_is call op.BitXor a b s e = cc
member_is call op.BitAnd a b s e = cc
member_is call op.Eq a b s e = cc
member_is call op.Ne a b s e = cc
member_is call op.StrictEq a b s e = cc
member_is call op.StrictNe a b s e = cc
member_is call op.Lt a b s e = cc
member_is call op.Gt a b s e = cc
member_is call op.Le a b s e = cc
member_is call op.Ge a b s e = cc
member_is call op.InstanceOf a b s e = cc
member_is call op.In a b s e = refl
member_is call op.Shl a b s e = cc
member_is call op.Shr a b s e = cc
member_is call op.UShr a b s e = cc
member_is call op.Add a b s e = cc
member_is call op.Sub a b s e = cc
member_is call op.Mul a b s e = cc
member_is call op.Div a b s e = cc
member_is call op.Rem a b s e = cc

-- ---- answers

-- no text
abbrev NoText : Answer → Type 0
NoText (Ok Undefined) = Unit {0}
NoText (Ok Null) = Unit {0}
NoText (Ok (Truth b)) = Unit {0}
NoText (Ok (Number n)) = Unit {0}
NoText (Ok (Characters t)) = ⊥
NoText (Err cause) = Unit {0}

pub paid_plain : (a : Answer) (s : State) → NoText a → paid a s ≡ answered a s
paid_plain (Ok Undefined) s free = refl
paid_plain (Ok Null) s free = refl
paid_plain (Ok (Truth b)) s free = refl
paid_plain (Ok (Number n)) s free = refl
paid_plain (Ok (Characters t)) s free = absurd free
paid_plain (Err cause) s free = refl

safe_plain : (n : ℤ) → NoText (safe n)
safe_plain n = elim (is_safe n) as (λ b. NoText (if b then Ok (Number n) else Err OutOfRange)) [ true ↦ tt | false ↦ tt ]

numbers_plain : (f : ℤ → ℤ → Answer) → ((n m : ℤ) → NoText (f n m)) → (p q : Primitive) → NoText (numbers_answer f p q)
numbers_plain f each p q = elim (numbers_of p q) as (λ r. NoText (option_map_or (λ (w : ℤ × ℤ). f w.0 w.1) r (Err NotNumber))) [ None ↦ tt | Some w ↦ each w.0 w.1 ]

-- numbers are added where no value is a text
pub sum_numbers : (p q : Primitive) (s : State) → (is_text p || is_text q) ≡ false → paid (binary_of op.Add p q) s ≡ answered (binary_of op.Add p q) s
sum_numbers p q s none =
    let added_are : sum p q ≡ numbers_answer (λ a b. safe (a +ℤ b)) p q = ap (λ b. if b then joined (text_of p) (text_of q) else numbers_answer (λ a b. safe (a +ℤ b)) p q) none in
    ap (λ a. paid a s) added_are ∙ paid_plain (numbers_answer (λ a b. safe (a +ℤ b)) p q) s (numbers_plain (λ a b. safe (a +ℤ b)) (λ n m. safe_plain (n +ℤ m)) p q) ∙ ap (λ a. answered a s) (sym added_are)

-- else texts are joined
pub sum_texts : (p q : Primitive) (b : Bool) → (is_text p || is_text q) ≡ true → nat_le (length (text_of p ++ text_of q)) 1048576 ≡ b
    → binary_of op.Add p q ≡ cond b (Ok (Characters (text_of p ++ text_of q))) (Err TextTooLong)
sum_texts p q b some fits =
    ap (λ b. if b then joined (text_of p) (text_of q) else numbers_answer (λ a b. safe (a +ℤ b)) p q) some
    ∙ ap (λ b. if b then Ok (Characters (text_of p ++ text_of q)) else Err TextTooLong) fits

-- two numbers ask no caller, and cost nothing
pub of_numbers : (call : Call) (f : BinaryOp) (n m : ℤ) (s : State) → binary call f (Simple (Number n)) (Simple (Number m)) s ≡ answered (binary_of f (Number n) (Number m)) s
of_numbers call op.BitOr n m s = refl
of_numbers call op.BitXor n m s = refl
of_numbers call op.BitAnd n m s = refl
of_numbers call op.Eq n m s = refl
of_numbers call op.Ne n m s = refl
of_numbers call op.StrictEq n m s = refl
of_numbers call op.StrictNe n m s = refl
of_numbers call op.Lt n m s = refl
of_numbers call op.Gt n m s = refl
of_numbers call op.Le n m s = refl
of_numbers call op.Ge n m s = refl
of_numbers call op.InstanceOf n m s = refl
of_numbers call op.In n m s = refl
of_numbers call op.Shl n m s = refl
of_numbers call op.Shr n m s = refl
of_numbers call op.UShr n m s = refl
of_numbers call op.Add n m s = sum_numbers (Number n) (Number m) s refl
of_numbers call op.Sub n m s = refl
of_numbers call op.Mul n m s = refl
of_numbers call op.Div n m s = refl
of_numbers call op.Rem n m s = refl

-- ---- causes

-- a value, or a cause without a name
abbrev Nameless : Answer → Type 0
Nameless (Ok p) = Unit {0}
Nameless (Err cause) = name_of cause ≡ None

safe_nameless : (n : ℤ) → Nameless (safe n)
safe_nameless n = elim (is_safe n) as (λ b. Nameless (if b then Ok (Number n) else Err OutOfRange)) [ true ↦ tt | false ↦ refl ]

numbers_nameless : (f : ℤ → ℤ → Answer) → ((n m : ℤ) → Nameless (f n m)) → (p q : Primitive) → Nameless (numbers_answer f p q)
numbers_nameless f each p q = elim (numbers_of p q) as (λ r. Nameless (option_map_or (λ (w : ℤ × ℤ). f w.0 w.1) r (Err NotNumber))) [ None ↦ refl | Some w ↦ each w.0 w.1 ]

joined_nameless : (a b : List ℕ) → Nameless (joined a b)
joined_nameless a b = elim (nat_le (length (a ++ b)) 1048576) as (λ t. Nameless (if t then Ok (Characters (a ++ b)) else Err TextTooLong)) [ true ↦ tt | false ↦ refl ]

sum_nameless : (p q : Primitive) → Nameless (sum p q)
sum_nameless p q =
    elim (is_text p || is_text q) as (λ b. Nameless (if b then joined (text_of p) (text_of q) else numbers_answer (λ a b. safe (a +ℤ b)) p q))
    [ true ↦ joined_nameless (text_of p) (text_of q) | false ↦ numbers_nameless (λ a b. safe (a +ℤ b)) (λ n m. safe_nameless (n +ℤ m)) p q ]

divided_nameless : (a b : ℤ) → Nameless (quotient a b)
divided_nameless a b =
    elim (int_eq b (pos 0)) as (λ z. Nameless (if z then Err DivideByZero else if int_eq (int_rem a b) (pos 0) then Ok (Number (int_div a b)) else Err Fraction)) [
      | true ↦ refl
      | false ↦ elim (int_eq (int_rem a b) (pos 0)) as (λ z. Nameless (if z then Ok (Number (int_div a b)) else Err Fraction)) [ true ↦ tt | false ↦ refl ]
    ]

remainder_nameless : (a b : ℤ) → Nameless (remainder a b)
remainder_nameless a b = elim (int_eq b (pos 0)) as (λ z. Nameless (if z then Err DivideByZero else Ok (Number (int_rem a b)))) [ true ↦ refl | false ↦ tt ]

pub binary_nameless : (f : BinaryOp) (p q : Primitive) → Nameless (binary_of f p q)
binary_nameless op.BitOr p q = numbers_nameless _ (λ n m. tt) p q
binary_nameless op.BitXor p q = numbers_nameless _ (λ n m. tt) p q
binary_nameless op.BitAnd p q = numbers_nameless _ (λ n m. tt) p q
binary_nameless op.Eq p q = tt
binary_nameless op.Ne p q = tt
binary_nameless op.StrictEq p q = tt
binary_nameless op.StrictNe p q = tt
binary_nameless op.Lt p q = tt
binary_nameless op.Gt p q = tt
binary_nameless op.Le p q = tt
binary_nameless op.Ge p q = tt
binary_nameless op.InstanceOf p q = refl
binary_nameless op.In p q = refl
binary_nameless op.Shl p q = numbers_nameless _ (λ n m. tt) p q
binary_nameless op.Shr p q = numbers_nameless _ (λ n m. tt) p q
binary_nameless op.UShr p q = numbers_nameless _ (λ n m. tt) p q
binary_nameless op.Add p q = sum_nameless p q
binary_nameless op.Sub p q = numbers_nameless (λ a b. safe (a -ℤ b)) (λ n m. safe_nameless (n -ℤ m)) p q
binary_nameless op.Mul p q = numbers_nameless (λ a b. safe (a *ℤ b)) (λ n m. safe_nameless (n *ℤ m)) p q
binary_nameless op.Div p q = numbers_nameless quotient divided_nameless p q
binary_nameless op.Rem p q = numbers_nameless remainder remainder_nameless p q

number_nameless : (f : ℤ → Answer) → ((n : ℤ) → Nameless (f n)) → (p : Primitive) → Nameless (number_answer f p)
number_nameless f each p = elim (number_of p) as (λ r. Nameless (option_map_or f r (Err NotNumber))) [ None ↦ refl | Some n ↦ each n ]

pub unary_nameless : (f : UnaryOp) (p : Primitive) → Nameless (unary_of f p)
unary_nameless sign.Delete p = tt
unary_nameless sign.Void p = tt
unary_nameless sign.TypeOf p = tt
unary_nameless sign.Plus p = number_nameless _ (λ n. tt) p
unary_nameless sign.Minus p = number_nameless _ (λ n. tt) p
unary_nameless sign.BitNot p = number_nameless _ (λ n. tt) p
unary_nameless sign.Not p = tt

-- so is what answers it
pub names_nothing : (a : Answer) (r : Result OpValue OpStop) → Nameless a → AnswersIfRoom a r → NamesNothing r
names_nothing a (Ok v) nameless is = tt
names_nothing a (Err (stop.Throw cause)) nameless is = subst Nameless is nameless
names_nothing a (Err stop.NoMemory) nameless is = tt
