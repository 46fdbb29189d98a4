-- How many operands the operations take and give that ask a caller.
use Rattle.std.proofs.Common.{◌≡◌, ◌<◌, ◌∷◌, length, refl, sym, subst, arith}
use Rattle.njs_value.specs.declared.TextId.{TextId}
use Rattle.njs_value.specs.declared.Value.{Value}
use Rattle.njs_value.specs.declared.Value.TheVariants as value
use Rattle.njs_shared.specs.Heap.{Heap, sizes}
use Rattle.njs_shared.specs.Fits.{FitsValue}
use Rattle.njs_code.specs.declared.op.Op.{Op}
use Rattle.njs_code.specs.declared.code.FunctionCode.{FunctionCode}
use Rattle.njs_tree.specs.declared.tree.BinaryOp.{BinaryOp}
use Rattle.njs_tree.specs.declared.tree.UnaryOp.{UnaryOp}
use Rattle.njs_code.specs.declared.op.Kind.{Kind}
use Rattle.njs_code.specs.declared.op.Kind.TheVariants as kind
use Rattle.njs_code.specs.Effects.{depth_left, depth_next, operands_taken, scopes_taken, lists_taken, endings_taken, operands_given, scopes_given, lists_given, endings_given}
use Rattle.njs_interp.specs.declared.stacks.Stacks.{Stacks}
use Rattle.njs_interp.specs.Sits.{Sits}
use Rattle.njs_interp.specs.Operands.{Takes, Gives}
use Rattle.njs_interp.proofs.Kept.{Sits-operands}

pub binary_takes : (f : BinaryOp) (k : Kind) → k ≡ kind.Binary f → Takes k 2
unfolding operands_taken scopes_taken lists_taken endings_taken
binary_takes f k is = subst (λ k. Takes k 2) (sym is) (record { operands = refl; scopes = refl; lists = refl; endings = refl })

pub binary_gives : (f : BinaryOp) (k : Kind) → k ≡ kind.Binary f → Gives k 1
unfolding operands_given scopes_given lists_given endings_given
binary_gives f k is = subst (λ k. Gives k 1) (sym is) (record { operands = refl; scopes = refl; lists = refl; endings = refl })

pub unary_takes : (f : UnaryOp) (k : Kind) → k ≡ kind.Unary f → Takes k 1
unfolding operands_taken scopes_taken lists_taken endings_taken
unary_takes f k is = subst (λ k. Takes k 1) (sym is) (record { operands = refl; scopes = refl; lists = refl; endings = refl })

pub unary_gives : (f : UnaryOp) (k : Kind) → k ≡ kind.Unary f → Gives k 1
unfolding operands_given scopes_given lists_given endings_given
unary_gives f k is = subst (λ k. Gives k 1) (sym is) (record { operands = refl; scopes = refl; lists = refl; endings = refl })

pub to_number_takes : (k : Kind) → k ≡ kind.ToNumber → Takes k 1
unfolding operands_taken scopes_taken lists_taken endings_taken
to_number_takes k is = subst (λ k. Takes k 1) (sym is) (record { operands = refl; scopes = refl; lists = refl; endings = refl })

pub to_number_gives : (k : Kind) → k ≡ kind.ToNumber → Gives k 1
unfolding operands_given scopes_given lists_given endings_given
to_number_gives k is = subst (λ k. Gives k 1) (sym is) (record { operands = refl; scopes = refl; lists = refl; endings = refl })

pub key_takes : (k : Kind) → k ≡ kind.Key → Takes k 2
unfolding operands_taken scopes_taken lists_taken endings_taken
key_takes k is = subst (λ k. Takes k 2) (sym is) (record { operands = refl; scopes = refl; lists = refl; endings = refl })

pub key_gives : (k : Kind) → k ≡ kind.Key → Gives k 2
unfolding operands_given scopes_given lists_given endings_given
key_gives k is = subst (λ k. Gives k 2) (sym is) (record { operands = refl; scopes = refl; lists = refl; endings = refl })

pub charge_takes : (k : Kind) → k ≡ kind.Charge → Takes k 0
unfolding operands_taken scopes_taken lists_taken endings_taken
charge_takes k is = subst (λ k. Takes k 0) (sym is) (record { operands = refl; scopes = refl; lists = refl; endings = refl })

pub charge_gives : (k : Kind) → k ≡ kind.Charge → Gives k 0
unfolding operands_given scopes_given lists_given endings_given
charge_gives k is = subst (λ k. Gives k 0) (sym is) (record { operands = refl; scopes = refl; lists = refl; endings = refl })

-- a base and a name on top of what an operation left
pub member_leaves : (f : FunctionCode) (op : Op) (h : Heap) (st : Stacks) (base : Value) (name : TextId) → Gives op.kind 2 → Sits h f.slots (depth_left op.kind op.depth) st → FitsValue (sizes h) base → name.0 < length h.texts
    → Sits h f.slots (depth_next op.kind op.depth) (record st { operands = value.Str name ∷ (base ∷ st.operands) })
member_leaves f op h st base name gives sits fits within =
    Sits-operands h f.slots (depth_left op.kind op.depth) (depth_next op.kind op.depth) st (value.Str name ∷ (base ∷ st.operands)) (omega (arith, sits.operands, gives.operands)) (omega (arith, gives.scopes)) (omega (arith, gives.lists))
    (omega (arith, gives.endings)) (within, (fits, sits.values)) sits
