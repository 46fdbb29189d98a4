-- Where operations go on.
use Rattle.std.proofs.Common.{◌≡◌, true, Some, ap}
use Rattle.njs_tree.specs.declared.tree.LogicalOp.{LogicalOp}
use Rattle.njs_code.specs.declared.op.Address.{Address}
use Rattle.njs_code.specs.declared.op.Kind.{Kind}
use Rattle.njs_code.specs.declared.op.Kind.TheVariants as kind
use Rattle.njs_code.specs.Effects.{goes_on, jump_of}

pub jump_goes : (to : Address) (k : Kind) → k ≡ kind.Jump to → jump_of k ≡ Some to
unfolding jump_of
jump_goes to k is = ap jump_of is

pub jump_false_goes : (to : Address) (k : Kind) → k ≡ kind.JumpFalse to → jump_of k ≡ Some to
unfolding jump_of
jump_false_goes to k is = ap jump_of is

pub jump_false_on : (to : Address) (k : Kind) → k ≡ kind.JumpFalse to → goes_on k ≡ true
unfolding goes_on
jump_false_on to k is = ap goes_on is

pub jump_logical_goes : (op : LogicalOp) (to : Address) (k : Kind) → k ≡ kind.JumpLogical op to → jump_of k ≡ Some to
unfolding jump_of
jump_logical_goes op to k is = ap jump_of is

pub jump_logical_on : (op : LogicalOp) (to : Address) (k : Kind) → k ≡ kind.JumpLogical op to → goes_on k ≡ true
unfolding goes_on
jump_logical_on op to k is = ap goes_on is

pub jump_same_goes : (to : Address) (k : Kind) → k ≡ kind.JumpSame to → jump_of k ≡ Some to
unfolding jump_of
jump_same_goes to k is = ap jump_of is

pub jump_same_on : (to : Address) (k : Kind) → k ≡ kind.JumpSame to → goes_on k ≡ true
unfolding goes_on
jump_same_on to k is = ap goes_on is

pub more_names_goes : (to : Address) (k : Kind) → k ≡ kind.MoreNames to → jump_of k ≡ Some to
unfolding jump_of
more_names_goes to k is = ap jump_of is

pub more_names_on : (to : Address) (k : Kind) → k ≡ kind.MoreNames to → goes_on k ≡ true
unfolding goes_on
more_names_on to k is = ap goes_on is

pub resume_on : (k : Kind) → k ≡ kind.Resume → goes_on k ≡ true
unfolding goes_on
resume_on k is = ap goes_on is
