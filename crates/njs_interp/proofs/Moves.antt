-- How many operands each operation takes and gives.
use Rattle.std.proofs.Common.{◌≡◌, ℕ, List, Option, Bool, ℤ, refl, sym, subst}
use Rattle.njs_tree.specs.declared.tree.LogicalOp.{LogicalOp}
use Rattle.njs_tree.specs.declared.tree.UpdateOp.{UpdateOp}
use Rattle.njs_code.specs.declared.op.Address.{Address}
use Rattle.njs_code.specs.declared.op.Failure.{Failure}
use Rattle.njs_code.specs.declared.op.Kind.{Kind}
use Rattle.njs_code.specs.declared.op.Kind.TheVariants as kind
use Rattle.njs_code.specs.Effects.{operands_taken, scopes_taken, lists_taken, endings_taken, operands_given, scopes_given, lists_given, endings_given}
use Rattle.njs_code.specs.Effects.{operands_at_jump}
use Rattle.njs_interp.specs.Jumps.{GivesAtJump}
use Rattle.njs_interp.specs.Operands.{Takes, Gives}

pub undefined_takes : (k : Kind) → k ≡ kind.Undefined → Takes k 0
unfolding operands_taken scopes_taken lists_taken endings_taken
undefined_takes k is = subst (λ k. Takes k 0) (sym is) (record { operands = refl; scopes = refl; lists = refl; endings = refl })

pub undefined_gives : (k : Kind) → k ≡ kind.Undefined → Gives k 1
unfolding operands_given scopes_given lists_given endings_given
undefined_gives k is = subst (λ k. Gives k 1) (sym is) (record { operands = refl; scopes = refl; lists = refl; endings = refl })

pub null_takes : (k : Kind) → k ≡ kind.Null → Takes k 0
unfolding operands_taken scopes_taken lists_taken endings_taken
null_takes k is = subst (λ k. Takes k 0) (sym is) (record { operands = refl; scopes = refl; lists = refl; endings = refl })

pub null_gives : (k : Kind) → k ≡ kind.Null → Gives k 1
unfolding operands_given scopes_given lists_given endings_given
null_gives k is = subst (λ k. Gives k 1) (sym is) (record { operands = refl; scopes = refl; lists = refl; endings = refl })

pub truth_takes : (b : Bool) (k : Kind) → k ≡ kind.Bool b → Takes k 0
unfolding operands_taken scopes_taken lists_taken endings_taken
truth_takes b k is = subst (λ k. Takes k 0) (sym is) (record { operands = refl; scopes = refl; lists = refl; endings = refl })

pub truth_gives : (b : Bool) (k : Kind) → k ≡ kind.Bool b → Gives k 1
unfolding operands_given scopes_given lists_given endings_given
truth_gives b k is = subst (λ k. Gives k 1) (sym is) (record { operands = refl; scopes = refl; lists = refl; endings = refl })

pub number_takes : (n : ℤ) (k : Kind) → k ≡ kind.Num n → Takes k 0
unfolding operands_taken scopes_taken lists_taken endings_taken
number_takes n k is = subst (λ k. Takes k 0) (sym is) (record { operands = refl; scopes = refl; lists = refl; endings = refl })

pub number_gives : (n : ℤ) (k : Kind) → k ≡ kind.Num n → Gives k 1
unfolding operands_given scopes_given lists_given endings_given
number_gives n k is = subst (λ k. Gives k 1) (sym is) (record { operands = refl; scopes = refl; lists = refl; endings = refl })

pub text_takes : (t : List ℕ) (k : Kind) → k ≡ kind.Str t → Takes k 0
unfolding operands_taken scopes_taken lists_taken endings_taken
text_takes t k is = subst (λ k. Takes k 0) (sym is) (record { operands = refl; scopes = refl; lists = refl; endings = refl })

pub text_gives : (t : List ℕ) (k : Kind) → k ≡ kind.Str t → Gives k 1
unfolding operands_given scopes_given lists_given endings_given
text_gives t k is = subst (λ k. Gives k 1) (sym is) (record { operands = refl; scopes = refl; lists = refl; endings = refl })

pub this_takes : (k : Kind) → k ≡ kind.This → Takes k 0
unfolding operands_taken scopes_taken lists_taken endings_taken
this_takes k is = subst (λ k. Takes k 0) (sym is) (record { operands = refl; scopes = refl; lists = refl; endings = refl })

pub this_gives : (k : Kind) → k ≡ kind.This → Gives k 1
unfolding operands_given scopes_given lists_given endings_given
this_gives k is = subst (λ k. Gives k 1) (sym is) (record { operands = refl; scopes = refl; lists = refl; endings = refl })

pub drop_top_takes : (k : Kind) → k ≡ kind.Drop → Takes k 1
unfolding operands_taken scopes_taken lists_taken endings_taken
drop_top_takes k is = subst (λ k. Takes k 1) (sym is) (record { operands = refl; scopes = refl; lists = refl; endings = refl })

pub drop_top_gives : (k : Kind) → k ≡ kind.Drop → Gives k 0
unfolding operands_given scopes_given lists_given endings_given
drop_top_gives k is = subst (λ k. Gives k 0) (sym is) (record { operands = refl; scopes = refl; lists = refl; endings = refl })

pub nip_takes : (k : Kind) → k ≡ kind.Nip → Takes k 2
unfolding operands_taken scopes_taken lists_taken endings_taken
nip_takes k is = subst (λ k. Takes k 2) (sym is) (record { operands = refl; scopes = refl; lists = refl; endings = refl })

pub nip_gives : (k : Kind) → k ≡ kind.Nip → Gives k 1
unfolding operands_given scopes_given lists_given endings_given
nip_gives k is = subst (λ k. Gives k 1) (sym is) (record { operands = refl; scopes = refl; lists = refl; endings = refl })

pub receiver_takes : (k : Kind) → k ≡ kind.Receiver → Takes k 1
unfolding operands_taken scopes_taken lists_taken endings_taken
receiver_takes k is = subst (λ k. Takes k 1) (sym is) (record { operands = refl; scopes = refl; lists = refl; endings = refl })

pub receiver_gives : (k : Kind) → k ≡ kind.Receiver → Gives k 2
unfolding operands_given scopes_given lists_given endings_given
receiver_gives k is = subst (λ k. Gives k 2) (sym is) (record { operands = refl; scopes = refl; lists = refl; endings = refl })

pub step_takes : (op : UpdateOp) (k : Kind) → k ≡ kind.Step op → Takes k 1
unfolding operands_taken scopes_taken lists_taken endings_taken
step_takes op k is = subst (λ k. Takes k 1) (sym is) (record { operands = refl; scopes = refl; lists = refl; endings = refl })

pub step_gives : (op : UpdateOp) (k : Kind) → k ≡ kind.Step op → Gives k 1
unfolding operands_given scopes_given lists_given endings_given
step_gives op k is = subst (λ k. Gives k 1) (sym is) (record { operands = refl; scopes = refl; lists = refl; endings = refl })

pub load_takes : (up slot : ℕ) (k : Kind) → k ≡ kind.Load up slot → Takes k 0
unfolding operands_taken scopes_taken lists_taken endings_taken
load_takes up slot k is = subst (λ k. Takes k 0) (sym is) (record { operands = refl; scopes = refl; lists = refl; endings = refl })

pub load_gives : (up slot : ℕ) (k : Kind) → k ≡ kind.Load up slot → Gives k 1
unfolding operands_given scopes_given lists_given endings_given
load_gives up slot k is = subst (λ k. Gives k 1) (sym is) (record { operands = refl; scopes = refl; lists = refl; endings = refl })

pub load_global_takes : (slot : ℕ) (k : Kind) → k ≡ kind.LoadGlobal slot → Takes k 0
unfolding operands_taken scopes_taken lists_taken endings_taken
load_global_takes slot k is = subst (λ k. Takes k 0) (sym is) (record { operands = refl; scopes = refl; lists = refl; endings = refl })

pub load_global_gives : (slot : ℕ) (k : Kind) → k ≡ kind.LoadGlobal slot → Gives k 1
unfolding operands_given scopes_given lists_given endings_given
load_global_gives slot k is = subst (λ k. Gives k 1) (sym is) (record { operands = refl; scopes = refl; lists = refl; endings = refl })

pub store_takes : (up slot : ℕ) (k : Kind) → k ≡ kind.Store up slot → Takes k 1
unfolding operands_taken scopes_taken lists_taken endings_taken
store_takes up slot k is = subst (λ k. Takes k 1) (sym is) (record { operands = refl; scopes = refl; lists = refl; endings = refl })

pub store_gives : (up slot : ℕ) (k : Kind) → k ≡ kind.Store up slot → Gives k 1
unfolding operands_given scopes_given lists_given endings_given
store_gives up slot k is = subst (λ k. Gives k 1) (sym is) (record { operands = refl; scopes = refl; lists = refl; endings = refl })

pub store_global_takes : (slot : ℕ) (k : Kind) → k ≡ kind.StoreGlobal slot → Takes k 1
unfolding operands_taken scopes_taken lists_taken endings_taken
store_global_takes slot k is = subst (λ k. Takes k 1) (sym is) (record { operands = refl; scopes = refl; lists = refl; endings = refl })

pub store_global_gives : (slot : ℕ) (k : Kind) → k ≡ kind.StoreGlobal slot → Gives k 1
unfolding operands_given scopes_given lists_given endings_given
store_global_gives slot k is = subst (λ k. Gives k 1) (sym is) (record { operands = refl; scopes = refl; lists = refl; endings = refl })

pub jump_takes : (to : Address) (k : Kind) → k ≡ kind.Jump to → Takes k 0
unfolding operands_taken scopes_taken lists_taken endings_taken
jump_takes to k is = subst (λ k. Takes k 0) (sym is) (record { operands = refl; scopes = refl; lists = refl; endings = refl })

pub jump_false_takes : (to : Address) (k : Kind) → k ≡ kind.JumpFalse to → Takes k 1
unfolding operands_taken scopes_taken lists_taken endings_taken
jump_false_takes to k is = subst (λ k. Takes k 1) (sym is) (record { operands = refl; scopes = refl; lists = refl; endings = refl })

pub jump_false_gives : (to : Address) (k : Kind) → k ≡ kind.JumpFalse to → Gives k 0
unfolding operands_given scopes_given lists_given endings_given
jump_false_gives to k is = subst (λ k. Gives k 0) (sym is) (record { operands = refl; scopes = refl; lists = refl; endings = refl })

pub jump_logical_takes : (op : LogicalOp) (to : Address) (k : Kind) → k ≡ kind.JumpLogical op to → Takes k 1
unfolding operands_taken scopes_taken lists_taken endings_taken
jump_logical_takes op to k is = subst (λ k. Takes k 1) (sym is) (record { operands = refl; scopes = refl; lists = refl; endings = refl })

pub jump_logical_gives : (op : LogicalOp) (to : Address) (k : Kind) → k ≡ kind.JumpLogical op to → Gives k 0
unfolding operands_given scopes_given lists_given endings_given
jump_logical_gives op to k is = subst (λ k. Gives k 0) (sym is) (record { operands = refl; scopes = refl; lists = refl; endings = refl })

pub jump_same_takes : (to : Address) (k : Kind) → k ≡ kind.JumpSame to → Takes k 2
unfolding operands_taken scopes_taken lists_taken endings_taken
jump_same_takes to k is = subst (λ k. Takes k 2) (sym is) (record { operands = refl; scopes = refl; lists = refl; endings = refl })

pub jump_same_gives : (to : Address) (k : Kind) → k ≡ kind.JumpSame to → Gives k 1
unfolding operands_given scopes_given lists_given endings_given
jump_same_gives to k is = subst (λ k. Gives k 1) (sym is) (record { operands = refl; scopes = refl; lists = refl; endings = refl })

pub end_body_takes : (labels : List (List ℕ)) (past : Address) (k : Kind) → k ≡ kind.EndBody labels past → Takes k 0
unfolding operands_taken scopes_taken lists_taken endings_taken
end_body_takes labels past k is = subst (λ k. Takes k 0) (sym is) (record { operands = refl; scopes = refl; lists = refl; endings = refl })

pub end_body_gives : (labels : List (List ℕ)) (past : Address) (k : Kind) → k ≡ kind.EndBody labels past → Gives k 0
unfolding operands_given scopes_given lists_given endings_given
end_body_gives labels past k is = subst (λ k. Gives k 0) (sym is) (record { operands = refl; scopes = refl; lists = refl; endings = refl })

pub end_switch_takes : (k : Kind) → k ≡ kind.EndSwitch → Takes k 0
unfolding operands_taken scopes_taken lists_taken endings_taken
end_switch_takes k is = subst (λ k. Takes k 0) (sym is) (record { operands = refl; scopes = refl; lists = refl; endings = refl })

pub end_switch_gives : (k : Kind) → k ≡ kind.EndSwitch → Gives k 0
unfolding operands_given scopes_given lists_given endings_given
end_switch_gives k is = subst (λ k. Gives k 0) (sym is) (record { operands = refl; scopes = refl; lists = refl; endings = refl })

pub end_block_takes : (k : Kind) → k ≡ kind.EndBlock → Takes k 0
unfolding operands_taken scopes_taken lists_taken endings_taken
end_block_takes k is = subst (λ k. Takes k 0) (sym is) (record { operands = refl; scopes = refl; lists = refl; endings = refl })

pub end_block_gives : (k : Kind) → k ≡ kind.EndBlock → Gives k 1
unfolding operands_given scopes_given lists_given endings_given
end_block_gives k is = subst (λ k. Gives k 1) (sym is) (record { operands = refl; scopes = refl; lists = refl; endings = refl })

pub return_takes : (k : Kind) → k ≡ kind.Return → Takes k 1
unfolding operands_taken scopes_taken lists_taken endings_taken
return_takes k is = subst (λ k. Takes k 1) (sym is) (record { operands = refl; scopes = refl; lists = refl; endings = refl })

pub throw_takes : (k : Kind) → k ≡ kind.Throw → Takes k 1
unfolding operands_taken scopes_taken lists_taken endings_taken
throw_takes k is = subst (λ k. Takes k 1) (sym is) (record { operands = refl; scopes = refl; lists = refl; endings = refl })

pub break_takes : (label : Option (List ℕ)) (k : Kind) → k ≡ kind.Break label → Takes k 0
unfolding operands_taken scopes_taken lists_taken endings_taken
break_takes label k is = subst (λ k. Takes k 0) (sym is) (record { operands = refl; scopes = refl; lists = refl; endings = refl })

pub continue_takes : (label : Option (List ℕ)) (k : Kind) → k ≡ kind.Continue label → Takes k 0
unfolding operands_taken scopes_taken lists_taken endings_taken
continue_takes label k is = subst (λ k. Takes k 0) (sym is) (record { operands = refl; scopes = refl; lists = refl; endings = refl })

pub fail_takes : (failure : Failure) (k : Kind) → k ≡ kind.Fail failure → Takes k 0
unfolding operands_taken scopes_taken lists_taken endings_taken
fail_takes failure k is = subst (λ k. Takes k 0) (sym is) (record { operands = refl; scopes = refl; lists = refl; endings = refl })

pub jump_at_jump : (to : Address) (k : Kind) → k ≡ kind.Jump to → GivesAtJump k 0
unfolding operands_at_jump
jump_at_jump to k is = subst (λ k. GivesAtJump k 0) (sym is) (record { operands = refl })

pub jump_false_at_jump : (to : Address) (k : Kind) → k ≡ kind.JumpFalse to → GivesAtJump k 0
unfolding operands_at_jump
jump_false_at_jump to k is = subst (λ k. GivesAtJump k 0) (sym is) (record { operands = refl })

pub jump_same_at_jump : (to : Address) (k : Kind) → k ≡ kind.JumpSame to → GivesAtJump k 0
unfolding operands_at_jump
jump_same_at_jump to k is = subst (λ k. GivesAtJump k 0) (sym is) (record { operands = refl })

pub jump_logical_at_jump : (op : LogicalOp) (to : Address) (k : Kind) → k ≡ kind.JumpLogical op to → GivesAtJump k 1
unfolding operands_at_jump
jump_logical_at_jump op to k is = subst (λ k. GivesAtJump k 1) (sym is) (record { operands = refl })
