-- How the operations are sorted.
use Rattle.std.proofs.Common.{◌≡◌, ℕ, ℤ, List, Bool, Option, true, Result, Ok, Err, refl, sym, ap, subst}
use Rattle.njs_tree.specs.declared.tree.BinaryOp.{BinaryOp}
use Rattle.njs_tree.specs.declared.tree.UnaryOp.{UnaryOp}
use Rattle.njs_tree.specs.declared.tree.UpdateOp.{UpdateOp}
use Rattle.njs_tree.specs.declared.tree.LogicalOp.{LogicalOp}
use Rattle.njs_code.specs.declared.op.Address.{Address}
use Rattle.njs_code.specs.declared.op.Failure.{Failure}
use Rattle.njs_code.specs.declared.op.Kind.{Kind}
use Rattle.njs_code.specs.declared.op.Kind.TheVariants as kind
use Rattle.njs_code.specs.Effects.{goes_on}
use Rattle.njs_convert.specs.declared.stop.Stop.{Stop}
use Rattle.njs_interp.specs.declared.families.Family.{Family}
use Rattle.njs_interp.specs.declared.families.Family.TheVariants as family
use Rattle.njs_interp.specs.Dispatch.{Continues, family_of}

-- the operations that ask a caller are these
pub asked_are : (k : Kind) → family_of k ≡ family.Asked
    → (k ≡ kind.Charge → ⊥)
    → (k ≡ kind.Key → ⊥)
    → ((op : BinaryOp) → k ≡ kind.Binary op → ⊥)
    → ((op : UnaryOp) → k ≡ kind.Unary op → ⊥)
    → (k ≡ kind.ToNumber → ⊥)
    → (k ≡ kind.ListNames → ⊥)
    → ⊥
unfolding family_of
asked_are kind.Charge is n0 n1 n2 n3 n4 n5 = n0 refl
asked_are kind.Undefined is n0 n1 n2 n3 n4 n5 = cc
asked_are kind.Null is n0 n1 n2 n3 n4 n5 = cc
asked_are (kind.Bool x0) is n0 n1 n2 n3 n4 n5 = cc
asked_are (kind.Num x0) is n0 n1 n2 n3 n4 n5 = cc
asked_are (kind.Str x0) is n0 n1 n2 n3 n4 n5 = cc
asked_are kind.This is n0 n1 n2 n3 n4 n5 = cc
asked_are (kind.Load x0 x1) is n0 n1 n2 n3 n4 n5 = cc
asked_are (kind.Store x0 x1) is n0 n1 n2 n3 n4 n5 = cc
asked_are (kind.LoadGlobal x0) is n0 n1 n2 n3 n4 n5 = cc
asked_are (kind.StoreGlobal x0) is n0 n1 n2 n3 n4 n5 = cc
asked_are (kind.Fail x0) is n0 n1 n2 n3 n4 n5 = cc
asked_are kind.Base is n0 n1 n2 n3 n4 n5 = cc
asked_are kind.Key is n0 n1 n2 n3 n4 n5 = n1 refl
asked_are kind.Get is n0 n1 n2 n3 n4 n5 = cc
asked_are kind.GetKept is n0 n1 n2 n3 n4 n5 = cc
asked_are kind.Method is n0 n1 n2 n3 n4 n5 = cc
asked_are kind.Put is n0 n1 n2 n3 n4 n5 = cc
asked_are kind.DeleteMember is n0 n1 n2 n3 n4 n5 = cc
asked_are (kind.Binary x0) is n0 n1 n2 n3 n4 n5 = n2 x0 refl
asked_are (kind.Unary x0) is n0 n1 n2 n3 n4 n5 = n3 x0 refl
asked_are kind.ToNumber is n0 n1 n2 n3 n4 n5 = n4 refl
asked_are (kind.Step x0) is n0 n1 n2 n3 n4 n5 = cc
asked_are (kind.Tuck x0) is n0 n1 n2 n3 n4 n5 = cc
asked_are kind.Drop is n0 n1 n2 n3 n4 n5 = cc
asked_are kind.Nip is n0 n1 n2 n3 n4 n5 = cc
asked_are kind.Receiver is n0 n1 n2 n3 n4 n5 = cc
asked_are (kind.Jump x0) is n0 n1 n2 n3 n4 n5 = cc
asked_are (kind.JumpFalse x0) is n0 n1 n2 n3 n4 n5 = cc
asked_are (kind.JumpLogical x0 x1) is n0 n1 n2 n3 n4 n5 = cc
asked_are (kind.JumpSame x0) is n0 n1 n2 n3 n4 n5 = cc
asked_are (kind.Call x0) is n0 n1 n2 n3 n4 n5 = cc
asked_are (kind.New x0) is n0 n1 n2 n3 n4 n5 = cc
asked_are kind.NewArray is n0 n1 n2 n3 n4 n5 = cc
asked_are kind.NewObject is n0 n1 n2 n3 n4 n5 = cc
asked_are (kind.Define x0) is n0 n1 n2 n3 n4 n5 = cc
asked_are (kind.Closure x0 x1 x2) is n0 n1 n2 n3 n4 n5 = cc
asked_are kind.Arguments is n0 n1 n2 n3 n4 n5 = cc
asked_are kind.ListNames is n0 n1 n2 n3 n4 n5 = n5 refl
asked_are (kind.MoreNames x0) is n0 n1 n2 n3 n4 n5 = cc
asked_are kind.NextName is n0 n1 n2 n3 n4 n5 = cc
asked_are kind.DropList is n0 n1 n2 n3 n4 n5 = cc
asked_are (kind.Enter x0) is n0 n1 n2 n3 n4 n5 = cc
asked_are kind.Leave is n0 n1 n2 n3 n4 n5 = cc
asked_are kind.Return is n0 n1 n2 n3 n4 n5 = cc
asked_are (kind.Break x0) is n0 n1 n2 n3 n4 n5 = cc
asked_are (kind.Continue x0) is n0 n1 n2 n3 n4 n5 = cc
asked_are kind.Throw is n0 n1 n2 n3 n4 n5 = cc
asked_are (kind.EndBody x0 x1) is n0 n1 n2 n3 n4 n5 = cc
asked_are kind.EndSwitch is n0 n1 n2 n3 n4 n5 = cc
asked_are kind.EndBlock is n0 n1 n2 n3 n4 n5 = cc
asked_are kind.Finally is n0 n1 n2 n3 n4 n5 = cc
asked_are kind.Resume is n0 n1 n2 n3 n4 n5 = cc

-- the operations that put a value on top are these
pub constants_are : (k : Kind) → family_of k ≡ family.Constant
    → (k ≡ kind.Undefined → ⊥)
    → (k ≡ kind.Null → ⊥)
    → ((b : Bool) → k ≡ kind.Bool b → ⊥)
    → ((n : ℤ) → k ≡ kind.Num n → ⊥)
    → ((text : List ℕ) → k ≡ kind.Str text → ⊥)
    → (k ≡ kind.This → ⊥)
    → ⊥
unfolding family_of
constants_are kind.Charge is n0 n1 n2 n3 n4 n5 = cc
constants_are kind.Undefined is n0 n1 n2 n3 n4 n5 = n0 refl
constants_are kind.Null is n0 n1 n2 n3 n4 n5 = n1 refl
constants_are (kind.Bool x0) is n0 n1 n2 n3 n4 n5 = n2 x0 refl
constants_are (kind.Num x0) is n0 n1 n2 n3 n4 n5 = n3 x0 refl
constants_are (kind.Str x0) is n0 n1 n2 n3 n4 n5 = n4 x0 refl
constants_are kind.This is n0 n1 n2 n3 n4 n5 = n5 refl
constants_are (kind.Load x0 x1) is n0 n1 n2 n3 n4 n5 = cc
constants_are (kind.Store x0 x1) is n0 n1 n2 n3 n4 n5 = cc
constants_are (kind.LoadGlobal x0) is n0 n1 n2 n3 n4 n5 = cc
constants_are (kind.StoreGlobal x0) is n0 n1 n2 n3 n4 n5 = cc
constants_are (kind.Fail x0) is n0 n1 n2 n3 n4 n5 = cc
constants_are kind.Base is n0 n1 n2 n3 n4 n5 = cc
constants_are kind.Key is n0 n1 n2 n3 n4 n5 = cc
constants_are kind.Get is n0 n1 n2 n3 n4 n5 = cc
constants_are kind.GetKept is n0 n1 n2 n3 n4 n5 = cc
constants_are kind.Method is n0 n1 n2 n3 n4 n5 = cc
constants_are kind.Put is n0 n1 n2 n3 n4 n5 = cc
constants_are kind.DeleteMember is n0 n1 n2 n3 n4 n5 = cc
constants_are (kind.Binary x0) is n0 n1 n2 n3 n4 n5 = cc
constants_are (kind.Unary x0) is n0 n1 n2 n3 n4 n5 = cc
constants_are kind.ToNumber is n0 n1 n2 n3 n4 n5 = cc
constants_are (kind.Step x0) is n0 n1 n2 n3 n4 n5 = cc
constants_are (kind.Tuck x0) is n0 n1 n2 n3 n4 n5 = cc
constants_are kind.Drop is n0 n1 n2 n3 n4 n5 = cc
constants_are kind.Nip is n0 n1 n2 n3 n4 n5 = cc
constants_are kind.Receiver is n0 n1 n2 n3 n4 n5 = cc
constants_are (kind.Jump x0) is n0 n1 n2 n3 n4 n5 = cc
constants_are (kind.JumpFalse x0) is n0 n1 n2 n3 n4 n5 = cc
constants_are (kind.JumpLogical x0 x1) is n0 n1 n2 n3 n4 n5 = cc
constants_are (kind.JumpSame x0) is n0 n1 n2 n3 n4 n5 = cc
constants_are (kind.Call x0) is n0 n1 n2 n3 n4 n5 = cc
constants_are (kind.New x0) is n0 n1 n2 n3 n4 n5 = cc
constants_are kind.NewArray is n0 n1 n2 n3 n4 n5 = cc
constants_are kind.NewObject is n0 n1 n2 n3 n4 n5 = cc
constants_are (kind.Define x0) is n0 n1 n2 n3 n4 n5 = cc
constants_are (kind.Closure x0 x1 x2) is n0 n1 n2 n3 n4 n5 = cc
constants_are kind.Arguments is n0 n1 n2 n3 n4 n5 = cc
constants_are kind.ListNames is n0 n1 n2 n3 n4 n5 = cc
constants_are (kind.MoreNames x0) is n0 n1 n2 n3 n4 n5 = cc
constants_are kind.NextName is n0 n1 n2 n3 n4 n5 = cc
constants_are kind.DropList is n0 n1 n2 n3 n4 n5 = cc
constants_are (kind.Enter x0) is n0 n1 n2 n3 n4 n5 = cc
constants_are kind.Leave is n0 n1 n2 n3 n4 n5 = cc
constants_are kind.Return is n0 n1 n2 n3 n4 n5 = cc
constants_are (kind.Break x0) is n0 n1 n2 n3 n4 n5 = cc
constants_are (kind.Continue x0) is n0 n1 n2 n3 n4 n5 = cc
constants_are kind.Throw is n0 n1 n2 n3 n4 n5 = cc
constants_are (kind.EndBody x0 x1) is n0 n1 n2 n3 n4 n5 = cc
constants_are kind.EndSwitch is n0 n1 n2 n3 n4 n5 = cc
constants_are kind.EndBlock is n0 n1 n2 n3 n4 n5 = cc
constants_are kind.Finally is n0 n1 n2 n3 n4 n5 = cc
constants_are kind.Resume is n0 n1 n2 n3 n4 n5 = cc

-- the operations on slots are these
pub slots_are : (k : Kind) → family_of k ≡ family.Slot
    → ((up : ℕ) (slot : ℕ) → k ≡ kind.Load up slot → ⊥)
    → ((up : ℕ) (slot : ℕ) → k ≡ kind.Store up slot → ⊥)
    → ((slot : ℕ) → k ≡ kind.LoadGlobal slot → ⊥)
    → ((slot : ℕ) → k ≡ kind.StoreGlobal slot → ⊥)
    → ((name : List ℕ) → k ≡ kind.Enter name → ⊥)
    → (k ≡ kind.Leave → ⊥)
    → ⊥
unfolding family_of
slots_are kind.Charge is n0 n1 n2 n3 n4 n5 = cc
slots_are kind.Undefined is n0 n1 n2 n3 n4 n5 = cc
slots_are kind.Null is n0 n1 n2 n3 n4 n5 = cc
slots_are (kind.Bool x0) is n0 n1 n2 n3 n4 n5 = cc
slots_are (kind.Num x0) is n0 n1 n2 n3 n4 n5 = cc
slots_are (kind.Str x0) is n0 n1 n2 n3 n4 n5 = cc
slots_are kind.This is n0 n1 n2 n3 n4 n5 = cc
slots_are (kind.Load x0 x1) is n0 n1 n2 n3 n4 n5 = n0 x0 x1 refl
slots_are (kind.Store x0 x1) is n0 n1 n2 n3 n4 n5 = n1 x0 x1 refl
slots_are (kind.LoadGlobal x0) is n0 n1 n2 n3 n4 n5 = n2 x0 refl
slots_are (kind.StoreGlobal x0) is n0 n1 n2 n3 n4 n5 = n3 x0 refl
slots_are (kind.Fail x0) is n0 n1 n2 n3 n4 n5 = cc
slots_are kind.Base is n0 n1 n2 n3 n4 n5 = cc
slots_are kind.Key is n0 n1 n2 n3 n4 n5 = cc
slots_are kind.Get is n0 n1 n2 n3 n4 n5 = cc
slots_are kind.GetKept is n0 n1 n2 n3 n4 n5 = cc
slots_are kind.Method is n0 n1 n2 n3 n4 n5 = cc
slots_are kind.Put is n0 n1 n2 n3 n4 n5 = cc
slots_are kind.DeleteMember is n0 n1 n2 n3 n4 n5 = cc
slots_are (kind.Binary x0) is n0 n1 n2 n3 n4 n5 = cc
slots_are (kind.Unary x0) is n0 n1 n2 n3 n4 n5 = cc
slots_are kind.ToNumber is n0 n1 n2 n3 n4 n5 = cc
slots_are (kind.Step x0) is n0 n1 n2 n3 n4 n5 = cc
slots_are (kind.Tuck x0) is n0 n1 n2 n3 n4 n5 = cc
slots_are kind.Drop is n0 n1 n2 n3 n4 n5 = cc
slots_are kind.Nip is n0 n1 n2 n3 n4 n5 = cc
slots_are kind.Receiver is n0 n1 n2 n3 n4 n5 = cc
slots_are (kind.Jump x0) is n0 n1 n2 n3 n4 n5 = cc
slots_are (kind.JumpFalse x0) is n0 n1 n2 n3 n4 n5 = cc
slots_are (kind.JumpLogical x0 x1) is n0 n1 n2 n3 n4 n5 = cc
slots_are (kind.JumpSame x0) is n0 n1 n2 n3 n4 n5 = cc
slots_are (kind.Call x0) is n0 n1 n2 n3 n4 n5 = cc
slots_are (kind.New x0) is n0 n1 n2 n3 n4 n5 = cc
slots_are kind.NewArray is n0 n1 n2 n3 n4 n5 = cc
slots_are kind.NewObject is n0 n1 n2 n3 n4 n5 = cc
slots_are (kind.Define x0) is n0 n1 n2 n3 n4 n5 = cc
slots_are (kind.Closure x0 x1 x2) is n0 n1 n2 n3 n4 n5 = cc
slots_are kind.Arguments is n0 n1 n2 n3 n4 n5 = cc
slots_are kind.ListNames is n0 n1 n2 n3 n4 n5 = cc
slots_are (kind.MoreNames x0) is n0 n1 n2 n3 n4 n5 = cc
slots_are kind.NextName is n0 n1 n2 n3 n4 n5 = cc
slots_are kind.DropList is n0 n1 n2 n3 n4 n5 = cc
slots_are (kind.Enter x0) is n0 n1 n2 n3 n4 n5 = n4 x0 refl
slots_are kind.Leave is n0 n1 n2 n3 n4 n5 = n5 refl
slots_are kind.Return is n0 n1 n2 n3 n4 n5 = cc
slots_are (kind.Break x0) is n0 n1 n2 n3 n4 n5 = cc
slots_are (kind.Continue x0) is n0 n1 n2 n3 n4 n5 = cc
slots_are kind.Throw is n0 n1 n2 n3 n4 n5 = cc
slots_are (kind.EndBody x0 x1) is n0 n1 n2 n3 n4 n5 = cc
slots_are kind.EndSwitch is n0 n1 n2 n3 n4 n5 = cc
slots_are kind.EndBlock is n0 n1 n2 n3 n4 n5 = cc
slots_are kind.Finally is n0 n1 n2 n3 n4 n5 = cc
slots_are kind.Resume is n0 n1 n2 n3 n4 n5 = cc

-- the operations that throw by themselves are these
pub failing_are : (k : Kind) → family_of k ≡ family.Failing
    → ((failure : Failure) → k ≡ kind.Fail failure → ⊥)
    → ⊥
unfolding family_of
failing_are kind.Charge is n0 = cc
failing_are kind.Undefined is n0 = cc
failing_are kind.Null is n0 = cc
failing_are (kind.Bool x0) is n0 = cc
failing_are (kind.Num x0) is n0 = cc
failing_are (kind.Str x0) is n0 = cc
failing_are kind.This is n0 = cc
failing_are (kind.Load x0 x1) is n0 = cc
failing_are (kind.Store x0 x1) is n0 = cc
failing_are (kind.LoadGlobal x0) is n0 = cc
failing_are (kind.StoreGlobal x0) is n0 = cc
failing_are (kind.Fail x0) is n0 = n0 x0 refl
failing_are kind.Base is n0 = cc
failing_are kind.Key is n0 = cc
failing_are kind.Get is n0 = cc
failing_are kind.GetKept is n0 = cc
failing_are kind.Method is n0 = cc
failing_are kind.Put is n0 = cc
failing_are kind.DeleteMember is n0 = cc
failing_are (kind.Binary x0) is n0 = cc
failing_are (kind.Unary x0) is n0 = cc
failing_are kind.ToNumber is n0 = cc
failing_are (kind.Step x0) is n0 = cc
failing_are (kind.Tuck x0) is n0 = cc
failing_are kind.Drop is n0 = cc
failing_are kind.Nip is n0 = cc
failing_are kind.Receiver is n0 = cc
failing_are (kind.Jump x0) is n0 = cc
failing_are (kind.JumpFalse x0) is n0 = cc
failing_are (kind.JumpLogical x0 x1) is n0 = cc
failing_are (kind.JumpSame x0) is n0 = cc
failing_are (kind.Call x0) is n0 = cc
failing_are (kind.New x0) is n0 = cc
failing_are kind.NewArray is n0 = cc
failing_are kind.NewObject is n0 = cc
failing_are (kind.Define x0) is n0 = cc
failing_are (kind.Closure x0 x1 x2) is n0 = cc
failing_are kind.Arguments is n0 = cc
failing_are kind.ListNames is n0 = cc
failing_are (kind.MoreNames x0) is n0 = cc
failing_are kind.NextName is n0 = cc
failing_are kind.DropList is n0 = cc
failing_are (kind.Enter x0) is n0 = cc
failing_are kind.Leave is n0 = cc
failing_are kind.Return is n0 = cc
failing_are (kind.Break x0) is n0 = cc
failing_are (kind.Continue x0) is n0 = cc
failing_are kind.Throw is n0 = cc
failing_are (kind.EndBody x0 x1) is n0 = cc
failing_are kind.EndSwitch is n0 = cc
failing_are kind.EndBlock is n0 = cc
failing_are kind.Finally is n0 = cc
failing_are kind.Resume is n0 = cc

-- the operations on members are these
pub members_are : (k : Kind) → family_of k ≡ family.Member
    → (k ≡ kind.Base → ⊥)
    → (k ≡ kind.Get → ⊥)
    → (k ≡ kind.GetKept → ⊥)
    → (k ≡ kind.Method → ⊥)
    → (k ≡ kind.Put → ⊥)
    → (k ≡ kind.DeleteMember → ⊥)
    → ⊥
unfolding family_of
members_are kind.Charge is n0 n1 n2 n3 n4 n5 = cc
members_are kind.Undefined is n0 n1 n2 n3 n4 n5 = cc
members_are kind.Null is n0 n1 n2 n3 n4 n5 = cc
members_are (kind.Bool x0) is n0 n1 n2 n3 n4 n5 = cc
members_are (kind.Num x0) is n0 n1 n2 n3 n4 n5 = cc
members_are (kind.Str x0) is n0 n1 n2 n3 n4 n5 = cc
members_are kind.This is n0 n1 n2 n3 n4 n5 = cc
members_are (kind.Load x0 x1) is n0 n1 n2 n3 n4 n5 = cc
members_are (kind.Store x0 x1) is n0 n1 n2 n3 n4 n5 = cc
members_are (kind.LoadGlobal x0) is n0 n1 n2 n3 n4 n5 = cc
members_are (kind.StoreGlobal x0) is n0 n1 n2 n3 n4 n5 = cc
members_are (kind.Fail x0) is n0 n1 n2 n3 n4 n5 = cc
members_are kind.Base is n0 n1 n2 n3 n4 n5 = n0 refl
members_are kind.Key is n0 n1 n2 n3 n4 n5 = cc
members_are kind.Get is n0 n1 n2 n3 n4 n5 = n1 refl
members_are kind.GetKept is n0 n1 n2 n3 n4 n5 = n2 refl
members_are kind.Method is n0 n1 n2 n3 n4 n5 = n3 refl
members_are kind.Put is n0 n1 n2 n3 n4 n5 = n4 refl
members_are kind.DeleteMember is n0 n1 n2 n3 n4 n5 = n5 refl
members_are (kind.Binary x0) is n0 n1 n2 n3 n4 n5 = cc
members_are (kind.Unary x0) is n0 n1 n2 n3 n4 n5 = cc
members_are kind.ToNumber is n0 n1 n2 n3 n4 n5 = cc
members_are (kind.Step x0) is n0 n1 n2 n3 n4 n5 = cc
members_are (kind.Tuck x0) is n0 n1 n2 n3 n4 n5 = cc
members_are kind.Drop is n0 n1 n2 n3 n4 n5 = cc
members_are kind.Nip is n0 n1 n2 n3 n4 n5 = cc
members_are kind.Receiver is n0 n1 n2 n3 n4 n5 = cc
members_are (kind.Jump x0) is n0 n1 n2 n3 n4 n5 = cc
members_are (kind.JumpFalse x0) is n0 n1 n2 n3 n4 n5 = cc
members_are (kind.JumpLogical x0 x1) is n0 n1 n2 n3 n4 n5 = cc
members_are (kind.JumpSame x0) is n0 n1 n2 n3 n4 n5 = cc
members_are (kind.Call x0) is n0 n1 n2 n3 n4 n5 = cc
members_are (kind.New x0) is n0 n1 n2 n3 n4 n5 = cc
members_are kind.NewArray is n0 n1 n2 n3 n4 n5 = cc
members_are kind.NewObject is n0 n1 n2 n3 n4 n5 = cc
members_are (kind.Define x0) is n0 n1 n2 n3 n4 n5 = cc
members_are (kind.Closure x0 x1 x2) is n0 n1 n2 n3 n4 n5 = cc
members_are kind.Arguments is n0 n1 n2 n3 n4 n5 = cc
members_are kind.ListNames is n0 n1 n2 n3 n4 n5 = cc
members_are (kind.MoreNames x0) is n0 n1 n2 n3 n4 n5 = cc
members_are kind.NextName is n0 n1 n2 n3 n4 n5 = cc
members_are kind.DropList is n0 n1 n2 n3 n4 n5 = cc
members_are (kind.Enter x0) is n0 n1 n2 n3 n4 n5 = cc
members_are kind.Leave is n0 n1 n2 n3 n4 n5 = cc
members_are kind.Return is n0 n1 n2 n3 n4 n5 = cc
members_are (kind.Break x0) is n0 n1 n2 n3 n4 n5 = cc
members_are (kind.Continue x0) is n0 n1 n2 n3 n4 n5 = cc
members_are kind.Throw is n0 n1 n2 n3 n4 n5 = cc
members_are (kind.EndBody x0 x1) is n0 n1 n2 n3 n4 n5 = cc
members_are kind.EndSwitch is n0 n1 n2 n3 n4 n5 = cc
members_are kind.EndBlock is n0 n1 n2 n3 n4 n5 = cc
members_are kind.Finally is n0 n1 n2 n3 n4 n5 = cc
members_are kind.Resume is n0 n1 n2 n3 n4 n5 = cc

-- the operations that make objects and numbers are these
pub made_are : (k : Kind) → family_of k ≡ family.Made
    → ((op : UpdateOp) → k ≡ kind.Step op → ⊥)
    → (k ≡ kind.NewArray → ⊥)
    → (k ≡ kind.NewObject → ⊥)
    → ((name : List ℕ) → k ≡ kind.Define name → ⊥)
    → ⊥
unfolding family_of
made_are kind.Charge is n0 n1 n2 n3 = cc
made_are kind.Undefined is n0 n1 n2 n3 = cc
made_are kind.Null is n0 n1 n2 n3 = cc
made_are (kind.Bool x0) is n0 n1 n2 n3 = cc
made_are (kind.Num x0) is n0 n1 n2 n3 = cc
made_are (kind.Str x0) is n0 n1 n2 n3 = cc
made_are kind.This is n0 n1 n2 n3 = cc
made_are (kind.Load x0 x1) is n0 n1 n2 n3 = cc
made_are (kind.Store x0 x1) is n0 n1 n2 n3 = cc
made_are (kind.LoadGlobal x0) is n0 n1 n2 n3 = cc
made_are (kind.StoreGlobal x0) is n0 n1 n2 n3 = cc
made_are (kind.Fail x0) is n0 n1 n2 n3 = cc
made_are kind.Base is n0 n1 n2 n3 = cc
made_are kind.Key is n0 n1 n2 n3 = cc
made_are kind.Get is n0 n1 n2 n3 = cc
made_are kind.GetKept is n0 n1 n2 n3 = cc
made_are kind.Method is n0 n1 n2 n3 = cc
made_are kind.Put is n0 n1 n2 n3 = cc
made_are kind.DeleteMember is n0 n1 n2 n3 = cc
made_are (kind.Binary x0) is n0 n1 n2 n3 = cc
made_are (kind.Unary x0) is n0 n1 n2 n3 = cc
made_are kind.ToNumber is n0 n1 n2 n3 = cc
made_are (kind.Step x0) is n0 n1 n2 n3 = n0 x0 refl
made_are (kind.Tuck x0) is n0 n1 n2 n3 = cc
made_are kind.Drop is n0 n1 n2 n3 = cc
made_are kind.Nip is n0 n1 n2 n3 = cc
made_are kind.Receiver is n0 n1 n2 n3 = cc
made_are (kind.Jump x0) is n0 n1 n2 n3 = cc
made_are (kind.JumpFalse x0) is n0 n1 n2 n3 = cc
made_are (kind.JumpLogical x0 x1) is n0 n1 n2 n3 = cc
made_are (kind.JumpSame x0) is n0 n1 n2 n3 = cc
made_are (kind.Call x0) is n0 n1 n2 n3 = cc
made_are (kind.New x0) is n0 n1 n2 n3 = cc
made_are kind.NewArray is n0 n1 n2 n3 = n1 refl
made_are kind.NewObject is n0 n1 n2 n3 = n2 refl
made_are (kind.Define x0) is n0 n1 n2 n3 = n3 x0 refl
made_are (kind.Closure x0 x1 x2) is n0 n1 n2 n3 = cc
made_are kind.Arguments is n0 n1 n2 n3 = cc
made_are kind.ListNames is n0 n1 n2 n3 = cc
made_are (kind.MoreNames x0) is n0 n1 n2 n3 = cc
made_are kind.NextName is n0 n1 n2 n3 = cc
made_are kind.DropList is n0 n1 n2 n3 = cc
made_are (kind.Enter x0) is n0 n1 n2 n3 = cc
made_are kind.Leave is n0 n1 n2 n3 = cc
made_are kind.Return is n0 n1 n2 n3 = cc
made_are (kind.Break x0) is n0 n1 n2 n3 = cc
made_are (kind.Continue x0) is n0 n1 n2 n3 = cc
made_are kind.Throw is n0 n1 n2 n3 = cc
made_are (kind.EndBody x0 x1) is n0 n1 n2 n3 = cc
made_are kind.EndSwitch is n0 n1 n2 n3 = cc
made_are kind.EndBlock is n0 n1 n2 n3 = cc
made_are kind.Finally is n0 n1 n2 n3 = cc
made_are kind.Resume is n0 n1 n2 n3 = cc

-- the operations that move operands are these
pub moves_are : (k : Kind) → family_of k ≡ family.Operand
    → ((under : ℕ) → k ≡ kind.Tuck under → ⊥)
    → (k ≡ kind.Drop → ⊥)
    → (k ≡ kind.Nip → ⊥)
    → (k ≡ kind.Receiver → ⊥)
    → ⊥
unfolding family_of
moves_are kind.Charge is n0 n1 n2 n3 = cc
moves_are kind.Undefined is n0 n1 n2 n3 = cc
moves_are kind.Null is n0 n1 n2 n3 = cc
moves_are (kind.Bool x0) is n0 n1 n2 n3 = cc
moves_are (kind.Num x0) is n0 n1 n2 n3 = cc
moves_are (kind.Str x0) is n0 n1 n2 n3 = cc
moves_are kind.This is n0 n1 n2 n3 = cc
moves_are (kind.Load x0 x1) is n0 n1 n2 n3 = cc
moves_are (kind.Store x0 x1) is n0 n1 n2 n3 = cc
moves_are (kind.LoadGlobal x0) is n0 n1 n2 n3 = cc
moves_are (kind.StoreGlobal x0) is n0 n1 n2 n3 = cc
moves_are (kind.Fail x0) is n0 n1 n2 n3 = cc
moves_are kind.Base is n0 n1 n2 n3 = cc
moves_are kind.Key is n0 n1 n2 n3 = cc
moves_are kind.Get is n0 n1 n2 n3 = cc
moves_are kind.GetKept is n0 n1 n2 n3 = cc
moves_are kind.Method is n0 n1 n2 n3 = cc
moves_are kind.Put is n0 n1 n2 n3 = cc
moves_are kind.DeleteMember is n0 n1 n2 n3 = cc
moves_are (kind.Binary x0) is n0 n1 n2 n3 = cc
moves_are (kind.Unary x0) is n0 n1 n2 n3 = cc
moves_are kind.ToNumber is n0 n1 n2 n3 = cc
moves_are (kind.Step x0) is n0 n1 n2 n3 = cc
moves_are (kind.Tuck x0) is n0 n1 n2 n3 = n0 x0 refl
moves_are kind.Drop is n0 n1 n2 n3 = n1 refl
moves_are kind.Nip is n0 n1 n2 n3 = n2 refl
moves_are kind.Receiver is n0 n1 n2 n3 = n3 refl
moves_are (kind.Jump x0) is n0 n1 n2 n3 = cc
moves_are (kind.JumpFalse x0) is n0 n1 n2 n3 = cc
moves_are (kind.JumpLogical x0 x1) is n0 n1 n2 n3 = cc
moves_are (kind.JumpSame x0) is n0 n1 n2 n3 = cc
moves_are (kind.Call x0) is n0 n1 n2 n3 = cc
moves_are (kind.New x0) is n0 n1 n2 n3 = cc
moves_are kind.NewArray is n0 n1 n2 n3 = cc
moves_are kind.NewObject is n0 n1 n2 n3 = cc
moves_are (kind.Define x0) is n0 n1 n2 n3 = cc
moves_are (kind.Closure x0 x1 x2) is n0 n1 n2 n3 = cc
moves_are kind.Arguments is n0 n1 n2 n3 = cc
moves_are kind.ListNames is n0 n1 n2 n3 = cc
moves_are (kind.MoreNames x0) is n0 n1 n2 n3 = cc
moves_are kind.NextName is n0 n1 n2 n3 = cc
moves_are kind.DropList is n0 n1 n2 n3 = cc
moves_are (kind.Enter x0) is n0 n1 n2 n3 = cc
moves_are kind.Leave is n0 n1 n2 n3 = cc
moves_are kind.Return is n0 n1 n2 n3 = cc
moves_are (kind.Break x0) is n0 n1 n2 n3 = cc
moves_are (kind.Continue x0) is n0 n1 n2 n3 = cc
moves_are kind.Throw is n0 n1 n2 n3 = cc
moves_are (kind.EndBody x0 x1) is n0 n1 n2 n3 = cc
moves_are kind.EndSwitch is n0 n1 n2 n3 = cc
moves_are kind.EndBlock is n0 n1 n2 n3 = cc
moves_are kind.Finally is n0 n1 n2 n3 = cc
moves_are kind.Resume is n0 n1 n2 n3 = cc

-- the jumps are these
pub jumps_are : (k : Kind) → family_of k ≡ family.Jump
    → ((to : Address) → k ≡ kind.Jump to → ⊥)
    → ((to : Address) → k ≡ kind.JumpFalse to → ⊥)
    → ((op : LogicalOp) (to : Address) → k ≡ kind.JumpLogical op to → ⊥)
    → ((to : Address) → k ≡ kind.JumpSame to → ⊥)
    → ((to : Address) → k ≡ kind.MoreNames to → ⊥)
    → ⊥
unfolding family_of
jumps_are kind.Charge is n0 n1 n2 n3 n4 = cc
jumps_are kind.Undefined is n0 n1 n2 n3 n4 = cc
jumps_are kind.Null is n0 n1 n2 n3 n4 = cc
jumps_are (kind.Bool x0) is n0 n1 n2 n3 n4 = cc
jumps_are (kind.Num x0) is n0 n1 n2 n3 n4 = cc
jumps_are (kind.Str x0) is n0 n1 n2 n3 n4 = cc
jumps_are kind.This is n0 n1 n2 n3 n4 = cc
jumps_are (kind.Load x0 x1) is n0 n1 n2 n3 n4 = cc
jumps_are (kind.Store x0 x1) is n0 n1 n2 n3 n4 = cc
jumps_are (kind.LoadGlobal x0) is n0 n1 n2 n3 n4 = cc
jumps_are (kind.StoreGlobal x0) is n0 n1 n2 n3 n4 = cc
jumps_are (kind.Fail x0) is n0 n1 n2 n3 n4 = cc
jumps_are kind.Base is n0 n1 n2 n3 n4 = cc
jumps_are kind.Key is n0 n1 n2 n3 n4 = cc
jumps_are kind.Get is n0 n1 n2 n3 n4 = cc
jumps_are kind.GetKept is n0 n1 n2 n3 n4 = cc
jumps_are kind.Method is n0 n1 n2 n3 n4 = cc
jumps_are kind.Put is n0 n1 n2 n3 n4 = cc
jumps_are kind.DeleteMember is n0 n1 n2 n3 n4 = cc
jumps_are (kind.Binary x0) is n0 n1 n2 n3 n4 = cc
jumps_are (kind.Unary x0) is n0 n1 n2 n3 n4 = cc
jumps_are kind.ToNumber is n0 n1 n2 n3 n4 = cc
jumps_are (kind.Step x0) is n0 n1 n2 n3 n4 = cc
jumps_are (kind.Tuck x0) is n0 n1 n2 n3 n4 = cc
jumps_are kind.Drop is n0 n1 n2 n3 n4 = cc
jumps_are kind.Nip is n0 n1 n2 n3 n4 = cc
jumps_are kind.Receiver is n0 n1 n2 n3 n4 = cc
jumps_are (kind.Jump x0) is n0 n1 n2 n3 n4 = n0 x0 refl
jumps_are (kind.JumpFalse x0) is n0 n1 n2 n3 n4 = n1 x0 refl
jumps_are (kind.JumpLogical x0 x1) is n0 n1 n2 n3 n4 = n2 x0 x1 refl
jumps_are (kind.JumpSame x0) is n0 n1 n2 n3 n4 = n3 x0 refl
jumps_are (kind.Call x0) is n0 n1 n2 n3 n4 = cc
jumps_are (kind.New x0) is n0 n1 n2 n3 n4 = cc
jumps_are kind.NewArray is n0 n1 n2 n3 n4 = cc
jumps_are kind.NewObject is n0 n1 n2 n3 n4 = cc
jumps_are (kind.Define x0) is n0 n1 n2 n3 n4 = cc
jumps_are (kind.Closure x0 x1 x2) is n0 n1 n2 n3 n4 = cc
jumps_are kind.Arguments is n0 n1 n2 n3 n4 = cc
jumps_are kind.ListNames is n0 n1 n2 n3 n4 = cc
jumps_are (kind.MoreNames x0) is n0 n1 n2 n3 n4 = n4 x0 refl
jumps_are kind.NextName is n0 n1 n2 n3 n4 = cc
jumps_are kind.DropList is n0 n1 n2 n3 n4 = cc
jumps_are (kind.Enter x0) is n0 n1 n2 n3 n4 = cc
jumps_are kind.Leave is n0 n1 n2 n3 n4 = cc
jumps_are kind.Return is n0 n1 n2 n3 n4 = cc
jumps_are (kind.Break x0) is n0 n1 n2 n3 n4 = cc
jumps_are (kind.Continue x0) is n0 n1 n2 n3 n4 = cc
jumps_are kind.Throw is n0 n1 n2 n3 n4 = cc
jumps_are (kind.EndBody x0 x1) is n0 n1 n2 n3 n4 = cc
jumps_are kind.EndSwitch is n0 n1 n2 n3 n4 = cc
jumps_are kind.EndBlock is n0 n1 n2 n3 n4 = cc
jumps_are kind.Finally is n0 n1 n2 n3 n4 = cc
jumps_are kind.Resume is n0 n1 n2 n3 n4 = cc

-- the operations that ask a caller in their call are these
pub called_are : (k : Kind) → family_of k ≡ family.Called
    → ((count : ℕ) → k ≡ kind.Call count → ⊥)
    → ((count : ℕ) → k ≡ kind.New count → ⊥)
    → ((number : ℕ) (params : ℕ) (name : Option (List ℕ)) → k ≡ kind.Closure number params name → ⊥)
    → (k ≡ kind.Arguments → ⊥)
    → ⊥
unfolding family_of
called_are kind.Charge is n0 n1 n2 n3 = cc
called_are kind.Undefined is n0 n1 n2 n3 = cc
called_are kind.Null is n0 n1 n2 n3 = cc
called_are (kind.Bool x0) is n0 n1 n2 n3 = cc
called_are (kind.Num x0) is n0 n1 n2 n3 = cc
called_are (kind.Str x0) is n0 n1 n2 n3 = cc
called_are kind.This is n0 n1 n2 n3 = cc
called_are (kind.Load x0 x1) is n0 n1 n2 n3 = cc
called_are (kind.Store x0 x1) is n0 n1 n2 n3 = cc
called_are (kind.LoadGlobal x0) is n0 n1 n2 n3 = cc
called_are (kind.StoreGlobal x0) is n0 n1 n2 n3 = cc
called_are (kind.Fail x0) is n0 n1 n2 n3 = cc
called_are kind.Base is n0 n1 n2 n3 = cc
called_are kind.Key is n0 n1 n2 n3 = cc
called_are kind.Get is n0 n1 n2 n3 = cc
called_are kind.GetKept is n0 n1 n2 n3 = cc
called_are kind.Method is n0 n1 n2 n3 = cc
called_are kind.Put is n0 n1 n2 n3 = cc
called_are kind.DeleteMember is n0 n1 n2 n3 = cc
called_are (kind.Binary x0) is n0 n1 n2 n3 = cc
called_are (kind.Unary x0) is n0 n1 n2 n3 = cc
called_are kind.ToNumber is n0 n1 n2 n3 = cc
called_are (kind.Step x0) is n0 n1 n2 n3 = cc
called_are (kind.Tuck x0) is n0 n1 n2 n3 = cc
called_are kind.Drop is n0 n1 n2 n3 = cc
called_are kind.Nip is n0 n1 n2 n3 = cc
called_are kind.Receiver is n0 n1 n2 n3 = cc
called_are (kind.Jump x0) is n0 n1 n2 n3 = cc
called_are (kind.JumpFalse x0) is n0 n1 n2 n3 = cc
called_are (kind.JumpLogical x0 x1) is n0 n1 n2 n3 = cc
called_are (kind.JumpSame x0) is n0 n1 n2 n3 = cc
called_are (kind.Call x0) is n0 n1 n2 n3 = n0 x0 refl
called_are (kind.New x0) is n0 n1 n2 n3 = n1 x0 refl
called_are kind.NewArray is n0 n1 n2 n3 = cc
called_are kind.NewObject is n0 n1 n2 n3 = cc
called_are (kind.Define x0) is n0 n1 n2 n3 = cc
called_are (kind.Closure x0 x1 x2) is n0 n1 n2 n3 = n2 x0 x1 x2 refl
called_are kind.Arguments is n0 n1 n2 n3 = n3 refl
called_are kind.ListNames is n0 n1 n2 n3 = cc
called_are (kind.MoreNames x0) is n0 n1 n2 n3 = cc
called_are kind.NextName is n0 n1 n2 n3 = cc
called_are kind.DropList is n0 n1 n2 n3 = cc
called_are (kind.Enter x0) is n0 n1 n2 n3 = cc
called_are kind.Leave is n0 n1 n2 n3 = cc
called_are kind.Return is n0 n1 n2 n3 = cc
called_are (kind.Break x0) is n0 n1 n2 n3 = cc
called_are (kind.Continue x0) is n0 n1 n2 n3 = cc
called_are kind.Throw is n0 n1 n2 n3 = cc
called_are (kind.EndBody x0 x1) is n0 n1 n2 n3 = cc
called_are kind.EndSwitch is n0 n1 n2 n3 = cc
called_are kind.EndBlock is n0 n1 n2 n3 = cc
called_are kind.Finally is n0 n1 n2 n3 = cc
called_are kind.Resume is n0 n1 n2 n3 = cc

-- the operations on lists are these
pub listed_are : (k : Kind) → family_of k ≡ family.Listed
    → (k ≡ kind.NextName → ⊥)
    → (k ≡ kind.DropList → ⊥)
    → ⊥
unfolding family_of
listed_are kind.Charge is n0 n1 = cc
listed_are kind.Undefined is n0 n1 = cc
listed_are kind.Null is n0 n1 = cc
listed_are (kind.Bool x0) is n0 n1 = cc
listed_are (kind.Num x0) is n0 n1 = cc
listed_are (kind.Str x0) is n0 n1 = cc
listed_are kind.This is n0 n1 = cc
listed_are (kind.Load x0 x1) is n0 n1 = cc
listed_are (kind.Store x0 x1) is n0 n1 = cc
listed_are (kind.LoadGlobal x0) is n0 n1 = cc
listed_are (kind.StoreGlobal x0) is n0 n1 = cc
listed_are (kind.Fail x0) is n0 n1 = cc
listed_are kind.Base is n0 n1 = cc
listed_are kind.Key is n0 n1 = cc
listed_are kind.Get is n0 n1 = cc
listed_are kind.GetKept is n0 n1 = cc
listed_are kind.Method is n0 n1 = cc
listed_are kind.Put is n0 n1 = cc
listed_are kind.DeleteMember is n0 n1 = cc
listed_are (kind.Binary x0) is n0 n1 = cc
listed_are (kind.Unary x0) is n0 n1 = cc
listed_are kind.ToNumber is n0 n1 = cc
listed_are (kind.Step x0) is n0 n1 = cc
listed_are (kind.Tuck x0) is n0 n1 = cc
listed_are kind.Drop is n0 n1 = cc
listed_are kind.Nip is n0 n1 = cc
listed_are kind.Receiver is n0 n1 = cc
listed_are (kind.Jump x0) is n0 n1 = cc
listed_are (kind.JumpFalse x0) is n0 n1 = cc
listed_are (kind.JumpLogical x0 x1) is n0 n1 = cc
listed_are (kind.JumpSame x0) is n0 n1 = cc
listed_are (kind.Call x0) is n0 n1 = cc
listed_are (kind.New x0) is n0 n1 = cc
listed_are kind.NewArray is n0 n1 = cc
listed_are kind.NewObject is n0 n1 = cc
listed_are (kind.Define x0) is n0 n1 = cc
listed_are (kind.Closure x0 x1 x2) is n0 n1 = cc
listed_are kind.Arguments is n0 n1 = cc
listed_are kind.ListNames is n0 n1 = cc
listed_are (kind.MoreNames x0) is n0 n1 = cc
listed_are kind.NextName is n0 n1 = n0 refl
listed_are kind.DropList is n0 n1 = n1 refl
listed_are (kind.Enter x0) is n0 n1 = cc
listed_are kind.Leave is n0 n1 = cc
listed_are kind.Return is n0 n1 = cc
listed_are (kind.Break x0) is n0 n1 = cc
listed_are (kind.Continue x0) is n0 n1 = cc
listed_are kind.Throw is n0 n1 = cc
listed_are (kind.EndBody x0 x1) is n0 n1 = cc
listed_are kind.EndSwitch is n0 n1 = cc
listed_are kind.EndBlock is n0 n1 = cc
listed_are kind.Finally is n0 n1 = cc
listed_are kind.Resume is n0 n1 = cc

-- the operations that lead out are these
pub leading_are : (k : Kind) → family_of k ≡ family.Leading
    → (k ≡ kind.Return → ⊥)
    → ((label : Option (List ℕ)) → k ≡ kind.Break label → ⊥)
    → ((label : Option (List ℕ)) → k ≡ kind.Continue label → ⊥)
    → (k ≡ kind.Throw → ⊥)
    → (k ≡ kind.Resume → ⊥)
    → ⊥
unfolding family_of
leading_are kind.Charge is n0 n1 n2 n3 n4 = cc
leading_are kind.Undefined is n0 n1 n2 n3 n4 = cc
leading_are kind.Null is n0 n1 n2 n3 n4 = cc
leading_are (kind.Bool x0) is n0 n1 n2 n3 n4 = cc
leading_are (kind.Num x0) is n0 n1 n2 n3 n4 = cc
leading_are (kind.Str x0) is n0 n1 n2 n3 n4 = cc
leading_are kind.This is n0 n1 n2 n3 n4 = cc
leading_are (kind.Load x0 x1) is n0 n1 n2 n3 n4 = cc
leading_are (kind.Store x0 x1) is n0 n1 n2 n3 n4 = cc
leading_are (kind.LoadGlobal x0) is n0 n1 n2 n3 n4 = cc
leading_are (kind.StoreGlobal x0) is n0 n1 n2 n3 n4 = cc
leading_are (kind.Fail x0) is n0 n1 n2 n3 n4 = cc
leading_are kind.Base is n0 n1 n2 n3 n4 = cc
leading_are kind.Key is n0 n1 n2 n3 n4 = cc
leading_are kind.Get is n0 n1 n2 n3 n4 = cc
leading_are kind.GetKept is n0 n1 n2 n3 n4 = cc
leading_are kind.Method is n0 n1 n2 n3 n4 = cc
leading_are kind.Put is n0 n1 n2 n3 n4 = cc
leading_are kind.DeleteMember is n0 n1 n2 n3 n4 = cc
leading_are (kind.Binary x0) is n0 n1 n2 n3 n4 = cc
leading_are (kind.Unary x0) is n0 n1 n2 n3 n4 = cc
leading_are kind.ToNumber is n0 n1 n2 n3 n4 = cc
leading_are (kind.Step x0) is n0 n1 n2 n3 n4 = cc
leading_are (kind.Tuck x0) is n0 n1 n2 n3 n4 = cc
leading_are kind.Drop is n0 n1 n2 n3 n4 = cc
leading_are kind.Nip is n0 n1 n2 n3 n4 = cc
leading_are kind.Receiver is n0 n1 n2 n3 n4 = cc
leading_are (kind.Jump x0) is n0 n1 n2 n3 n4 = cc
leading_are (kind.JumpFalse x0) is n0 n1 n2 n3 n4 = cc
leading_are (kind.JumpLogical x0 x1) is n0 n1 n2 n3 n4 = cc
leading_are (kind.JumpSame x0) is n0 n1 n2 n3 n4 = cc
leading_are (kind.Call x0) is n0 n1 n2 n3 n4 = cc
leading_are (kind.New x0) is n0 n1 n2 n3 n4 = cc
leading_are kind.NewArray is n0 n1 n2 n3 n4 = cc
leading_are kind.NewObject is n0 n1 n2 n3 n4 = cc
leading_are (kind.Define x0) is n0 n1 n2 n3 n4 = cc
leading_are (kind.Closure x0 x1 x2) is n0 n1 n2 n3 n4 = cc
leading_are kind.Arguments is n0 n1 n2 n3 n4 = cc
leading_are kind.ListNames is n0 n1 n2 n3 n4 = cc
leading_are (kind.MoreNames x0) is n0 n1 n2 n3 n4 = cc
leading_are kind.NextName is n0 n1 n2 n3 n4 = cc
leading_are kind.DropList is n0 n1 n2 n3 n4 = cc
leading_are (kind.Enter x0) is n0 n1 n2 n3 n4 = cc
leading_are kind.Leave is n0 n1 n2 n3 n4 = cc
leading_are kind.Return is n0 n1 n2 n3 n4 = n0 refl
leading_are (kind.Break x0) is n0 n1 n2 n3 n4 = n1 x0 refl
leading_are (kind.Continue x0) is n0 n1 n2 n3 n4 = n2 x0 refl
leading_are kind.Throw is n0 n1 n2 n3 n4 = n3 refl
leading_are (kind.EndBody x0 x1) is n0 n1 n2 n3 n4 = cc
leading_are kind.EndSwitch is n0 n1 n2 n3 n4 = cc
leading_are kind.EndBlock is n0 n1 n2 n3 n4 = cc
leading_are kind.Finally is n0 n1 n2 n3 n4 = cc
leading_are kind.Resume is n0 n1 n2 n3 n4 = n4 refl

-- the ends of parts are these
pub ends_are : (k : Kind) → family_of k ≡ family.End
    → ((labels : List (List ℕ)) (past : Address) → k ≡ kind.EndBody labels past → ⊥)
    → (k ≡ kind.EndSwitch → ⊥)
    → (k ≡ kind.EndBlock → ⊥)
    → (k ≡ kind.Finally → ⊥)
    → ⊥
unfolding family_of
ends_are kind.Charge is n0 n1 n2 n3 = cc
ends_are kind.Undefined is n0 n1 n2 n3 = cc
ends_are kind.Null is n0 n1 n2 n3 = cc
ends_are (kind.Bool x0) is n0 n1 n2 n3 = cc
ends_are (kind.Num x0) is n0 n1 n2 n3 = cc
ends_are (kind.Str x0) is n0 n1 n2 n3 = cc
ends_are kind.This is n0 n1 n2 n3 = cc
ends_are (kind.Load x0 x1) is n0 n1 n2 n3 = cc
ends_are (kind.Store x0 x1) is n0 n1 n2 n3 = cc
ends_are (kind.LoadGlobal x0) is n0 n1 n2 n3 = cc
ends_are (kind.StoreGlobal x0) is n0 n1 n2 n3 = cc
ends_are (kind.Fail x0) is n0 n1 n2 n3 = cc
ends_are kind.Base is n0 n1 n2 n3 = cc
ends_are kind.Key is n0 n1 n2 n3 = cc
ends_are kind.Get is n0 n1 n2 n3 = cc
ends_are kind.GetKept is n0 n1 n2 n3 = cc
ends_are kind.Method is n0 n1 n2 n3 = cc
ends_are kind.Put is n0 n1 n2 n3 = cc
ends_are kind.DeleteMember is n0 n1 n2 n3 = cc
ends_are (kind.Binary x0) is n0 n1 n2 n3 = cc
ends_are (kind.Unary x0) is n0 n1 n2 n3 = cc
ends_are kind.ToNumber is n0 n1 n2 n3 = cc
ends_are (kind.Step x0) is n0 n1 n2 n3 = cc
ends_are (kind.Tuck x0) is n0 n1 n2 n3 = cc
ends_are kind.Drop is n0 n1 n2 n3 = cc
ends_are kind.Nip is n0 n1 n2 n3 = cc
ends_are kind.Receiver is n0 n1 n2 n3 = cc
ends_are (kind.Jump x0) is n0 n1 n2 n3 = cc
ends_are (kind.JumpFalse x0) is n0 n1 n2 n3 = cc
ends_are (kind.JumpLogical x0 x1) is n0 n1 n2 n3 = cc
ends_are (kind.JumpSame x0) is n0 n1 n2 n3 = cc
ends_are (kind.Call x0) is n0 n1 n2 n3 = cc
ends_are (kind.New x0) is n0 n1 n2 n3 = cc
ends_are kind.NewArray is n0 n1 n2 n3 = cc
ends_are kind.NewObject is n0 n1 n2 n3 = cc
ends_are (kind.Define x0) is n0 n1 n2 n3 = cc
ends_are (kind.Closure x0 x1 x2) is n0 n1 n2 n3 = cc
ends_are kind.Arguments is n0 n1 n2 n3 = cc
ends_are kind.ListNames is n0 n1 n2 n3 = cc
ends_are (kind.MoreNames x0) is n0 n1 n2 n3 = cc
ends_are kind.NextName is n0 n1 n2 n3 = cc
ends_are kind.DropList is n0 n1 n2 n3 = cc
ends_are (kind.Enter x0) is n0 n1 n2 n3 = cc
ends_are kind.Leave is n0 n1 n2 n3 = cc
ends_are kind.Return is n0 n1 n2 n3 = cc
ends_are (kind.Break x0) is n0 n1 n2 n3 = cc
ends_are (kind.Continue x0) is n0 n1 n2 n3 = cc
ends_are kind.Throw is n0 n1 n2 n3 = cc
ends_are (kind.EndBody x0 x1) is n0 n1 n2 n3 = n0 x0 x1 refl
ends_are kind.EndSwitch is n0 n1 n2 n3 = n1 refl
ends_are kind.EndBlock is n0 n1 n2 n3 = n2 refl
ends_are kind.Finally is n0 n1 n2 n3 = n3 refl
ends_are kind.Resume is n0 n1 n2 n3 = cc

-- the operations of these families go on behind themselves
abbrev pub GoOn : Family → Type 0
GoOn family.Constant = Unit {0}
GoOn family.Operand = Unit {0}
GoOn family.Slot = Unit {0}
GoOn family.Member = Unit {0}
GoOn family.Made = Unit {0}
GoOn family.Listed = Unit {0}
GoOn family.End = Unit {0}
GoOn family.Failing = ⊥
GoOn family.Jump = ⊥
GoOn family.Leading = ⊥
GoOn family.Asked = Unit {0}
GoOn family.Called = Unit {0}

on_behind : (k : Kind) → GoOn (family_of k) → goes_on k ≡ true
unfolding family_of goes_on
on_behind kind.Charge on = refl
on_behind kind.Undefined on = refl
on_behind kind.Null on = refl
on_behind (kind.Bool x0) on = refl
on_behind (kind.Num x0) on = refl
on_behind (kind.Str x0) on = refl
on_behind kind.This on = refl
on_behind (kind.Load x0 x1) on = refl
on_behind (kind.Store x0 x1) on = refl
on_behind (kind.LoadGlobal x0) on = refl
on_behind (kind.StoreGlobal x0) on = refl
on_behind (kind.Fail x0) on = absurd on
on_behind kind.Base on = refl
on_behind kind.Key on = refl
on_behind kind.Get on = refl
on_behind kind.GetKept on = refl
on_behind kind.Method on = refl
on_behind kind.Put on = refl
on_behind kind.DeleteMember on = refl
on_behind (kind.Binary x0) on = refl
on_behind (kind.Unary x0) on = refl
on_behind kind.ToNumber on = refl
on_behind (kind.Step x0) on = refl
on_behind (kind.Tuck x0) on = refl
on_behind kind.Drop on = refl
on_behind kind.Nip on = refl
on_behind kind.Receiver on = refl
on_behind (kind.Jump x0) on = absurd on
on_behind (kind.JumpFalse x0) on = absurd on
on_behind (kind.JumpLogical x0 x1) on = absurd on
on_behind (kind.JumpSame x0) on = absurd on
on_behind (kind.Call x0) on = refl
on_behind (kind.New x0) on = refl
on_behind kind.NewArray on = refl
on_behind kind.NewObject on = refl
on_behind (kind.Define x0) on = refl
on_behind (kind.Closure x0 x1 x2) on = refl
on_behind kind.Arguments on = refl
on_behind kind.ListNames on = refl
on_behind (kind.MoreNames x0) on = absurd on
on_behind kind.NextName on = refl
on_behind kind.DropList on = refl
on_behind (kind.Enter x0) on = refl
on_behind kind.Leave on = refl
on_behind kind.Return on = absurd on
on_behind (kind.Break x0) on = absurd on
on_behind (kind.Continue x0) on = absurd on
on_behind kind.Throw on = absurd on
on_behind (kind.EndBody x0 x1) on = refl
on_behind kind.EndSwitch on = refl
on_behind kind.EndBlock on = refl
on_behind kind.Finally on = refl
on_behind kind.Resume on = absurd on

pub continues : (k : Kind) (r : Result (Unit {0}) Stop) (f : Family) → family_of k ≡ f → GoOn f → Continues k r
continues k (Ok done) f is on = on_behind k (subst GoOn (sym is) on)
continues k (Err stop) f is on = tt

-- only one operation takes a tick and nothing else
pub charge_asks : (k : Kind) → k ≡ kind.Charge → family_of k ≡ family.Asked
unfolding family_of
charge_asks k is = ap family_of is
