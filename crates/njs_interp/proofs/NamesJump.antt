-- Where the code goes on once names were skipped.
use Rattle.std.proofs.Common.{◌≡◌, Ok, refl, sym, subst}
use Rattle.njs_shared.specs.Heap.{Heap}
use Rattle.njs_code.specs.declared.op.Address.{Address}
use Rattle.njs_code.specs.declared.op.Kind.{Kind}
use Rattle.njs_code.specs.declared.op.Kind.TheVariants as kind
use Rattle.njs_code.specs.declared.op.Op.{Op}
use Rattle.njs_code.specs.declared.code.FunctionCode.{FunctionCode}
use Rattle.njs_code.specs.Effects.{depth_next, depth_at_jump, operands_taken, operands_given, scopes_taken, scopes_given, lists_taken, lists_given, endings_taken, endings_given, operands_at_jump}
use Rattle.njs_simul.specs.Step.{act, from}
use Rattle.njs_interp.specs.declared.lists.More.{More}
use Rattle.njs_interp.specs.declared.lists.More.TheVariants as more
use Rattle.njs_interp.specs.declared.next.Next.TheVariants as next
use Rattle.njs_interp.specs.declared.stacks.Stacks.{Stacks}
use Rattle.njs_interp.specs.Plain.{plain_stacks}
use Rattle.njs_interp.specs.Sits.{Sits}
use Rattle.njs_interp.specs.Acts.{OnHeap, Unanswered}
use Rattle.njs_interp.specs.Operands.{Takes, Gives}
use Rattle.njs_interp.specs.Jumps.{ActsNext, JumpsOnHeap, GivesAtJump}
use Rattle.njs_interp.specs.Naming.{goes_by, ActsOnNames}
use Rattle.njs_interp.proofs.Kept.{OnHeap-refl, taken-none}
use Rattle.njs_interp.proofs.Jumped.{untouched, left-at_jump}

more_names_takes : (to : Address) (k : Kind) → k ≡ kind.MoreNames to → Takes k 0
unfolding operands_taken scopes_taken lists_taken endings_taken
more_names_takes to k is = subst (λ k. Takes k 0) (sym is) (record { operands = refl; scopes = refl; lists = refl; endings = refl })

more_names_gives : (to : Address) (k : Kind) → k ≡ kind.MoreNames to → Gives k 0
unfolding operands_given scopes_given lists_given endings_given
more_names_gives to k is = subst (λ k. Gives k 0) (sym is) (record { operands = refl; scopes = refl; lists = refl; endings = refl })

more_names_at_jump : (to : Address) (k : Kind) → k ≡ kind.MoreNames to → GivesAtJump k 0
unfolding operands_at_jump
more_names_at_jump to k is = subst (λ k. GivesAtJump k 0) (sym is) (record { operands = refl })

module _ (to : Address) (h : Heap) (before after : Stacks) (r : More) (told : ActsOnNames to h before after r) where
  pub more-goes : r ≡ more.Name → JumpsOnHeap (kind.MoreNames to) h h before after (Ok next.On)
  more-goes is = record {
    by = λ frame code rest s stands.
        subst (λ a. ActsNext (OnHeap h s) (Unanswered s) h.texts (from frame code) rest (plain_stacks h.texts after) (Ok next.On) a)
        (sym (subst (λ (m : More). act frame code (kind.MoreNames to) rest (plain_stacks h.texts before) s ≡ goes_by frame code to rest (plain_stacks h.texts after) s m) is (told.by frame code rest s stands)))
        (refl, refl, OnHeap-refl h s stands);
  }

  pub none-jumps : r ≡ more.None → JumpsOnHeap (kind.MoreNames to) h h before after (Ok (next.To to))
  none-jumps is = record {
    by = λ frame code rest s stands.
        subst (λ a. ActsNext (OnHeap h s) (Unanswered s) h.texts (from frame code) rest (plain_stacks h.texts after) (Ok (next.To to)) a)
        (sym (subst (λ (m : More). act frame code (kind.MoreNames to) rest (plain_stacks h.texts before) s ≡ goes_by frame code to rest (plain_stacks h.texts after) s m) is (told.by frame code rest s stands)))
        (refl, refl, OnHeap-refl h s stands);
  }

module _ (to : Address) (f : FunctionCode) (op : Op) (h : Heap) (st : Stacks) (is : op.kind ≡ kind.MoreNames to) (sits : Sits h f.slots op.depth st) where
  pub more-sits : Sits h f.slots (depth_next op.kind op.depth) st
  more-sits = untouched f op h st (more_names_takes to op.kind is) (more_names_gives to op.kind is) sits

  pub none-sits : Sits h f.slots (depth_at_jump op.kind op.depth) st
  none-sits = left-at_jump f op h st (more_names_at_jump to op.kind is) (taken-none f op h st (more_names_takes to op.kind is) sits)
