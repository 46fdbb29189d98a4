-- What stands where code jumps, and at the ends of its parts.
use Rattle.std.proofs.Common.{◌≡◌, ◌<◌, ◌≤◌, List, [], ◌∷◌, length, map, Ok, ap, refl, sym, subst, arith}
use Rattle.std.specs.List.{AllByRecursion}
use Rattle.njs_value.specs.declared.ScopeId.{ScopeId}
use Rattle.njs_shared.specs.Heap.{Heap, sizes}
use Rattle.njs_code.specs.declared.op.Kind.{Kind}
use Rattle.njs_code.specs.declared.op.Kind.TheVariants as kind
use Rattle.njs_code.specs.declared.op.Op.{Op}
use Rattle.njs_code.specs.declared.code.FunctionCode.{FunctionCode}
use Rattle.njs_code.specs.Effects.{depth_left, depth_next, depth_at_jump, operands_taken, scopes_taken, lists_taken, endings_taken, operands_given, scopes_given, lists_given, endings_given, scopes_needed}
use Rattle.njs_meaning.specs.State.{State}
use Rattle.njs_interp.specs.declared.next.Next.TheVariants as next
use Rattle.njs_interp.specs.declared.stacks.Ending.{Ending}
use Rattle.njs_interp.specs.declared.stacks.Ending.TheVariants as ending
use Rattle.njs_interp.specs.declared.stacks.Stacks.{Stacks}
use Rattle.njs_simul.specs.Stacks.{Frame}
use Rattle.njs_simul.specs.Step.{from, on_ending, resumed}
use Rattle.njs_interp.specs.Plain.{plain_ending, plain_stacks}
use Rattle.njs_interp.specs.Sits.{Sits, Ready, Entered, FitsEnding}
use Rattle.njs_interp.specs.Acts.{OnHeap, Unanswered, Below}
use Rattle.njs_interp.specs.Operands.{Takes, Gives}
use Rattle.njs_interp.specs.Jumps.{ActsNext, JumpsOnHeap, GivesAtJump}
use Rattle.njs_interp.proofs.Kept.{taken-none, given-none, OnHeap-refl}

module _ (f : FunctionCode) (op : Op) (h : Heap) where
  pub left-at_jump : (st : Stacks) → GivesAtJump op.kind 0 → Sits h f.slots (depth_left op.kind op.depth) st → Sits h f.slots (depth_at_jump op.kind op.depth) st
  left-at_jump st gives sits = record {
    operands = omega (arith, sits.operands, gives.operands);
    scopes = sits.scopes;
    lists = sits.lists;
    endings = sits.endings;
    values = sits.values;
    listed = sits.listed;
    ended = sits.ended;
    entered = sits.entered;
  }

  -- nothing is taken or given
  pub untouched : (st : Stacks) → Takes op.kind 0 → Gives op.kind 0 → Sits h f.slots op.depth st → Sits h f.slots (depth_next op.kind op.depth) st
  untouched st takes gives sits = given-none f op h st gives (taken-none f op h st takes sits)

  -- the operand stays where it jumps
  pub stays-at_jump : (st : Stacks) → Takes op.kind 1 → GivesAtJump op.kind 1 → operands_taken op.kind ≤ op.depth.operands → Sits h f.slots op.depth st → Sits h f.slots (depth_at_jump op.kind op.depth) st
  stays-at_jump st takes gives enough sits = record {
    operands = omega (arith, enough, sits.operands, takes.operands, gives.operands);
    scopes = omega (arith, sits.scopes, takes.scopes);
    lists = omega (arith, sits.lists, takes.lists);
    endings = omega (arith, sits.endings, takes.endings);
    values = sits.values;
    listed = sits.listed;
    ended = sits.ended;
    entered = sits.entered;
  }

  -- an ending waits
  pub waits : (before : Stacks) (es : List Ending) → op.kind ≡ kind.Finally → es ≡ ending.Normal ∷ before.endings → Sits h f.slots op.depth before
      → Sits h f.slots (depth_next op.kind op.depth) (record before { endings = es })
  unfolding operands_taken scopes_taken lists_taken endings_taken operands_given scopes_given lists_given endings_given
  waits before es is more sits = subst (λ k. Sits h f.slots (depth_next k op.depth) (record before { endings = es })) (sym is) (record {
    operands = omega (arith, sits.operands);
    scopes = omega (arith, sits.scopes);
    lists = omega (arith, sits.lists);
    endings = omega (arith, ap length more, sits.endings);
    values = sits.values;
    listed = sits.listed;
    ended = subst (AllByRecursion (FitsEnding (sizes h))) (sym more) (tt, sits.ended);
    entered = sits.entered;
  })

  -- an ending waits no longer
  pub waits_no_more : (before : Stacks) (e : Ending) (es : List Ending) → op.kind ≡ kind.Resume → before.endings ≡ e ∷ es → Sits h f.slots op.depth before
      → Sits h f.slots (depth_left op.kind op.depth) (record before { endings = es }) × FitsEnding (sizes h) e
  unfolding operands_taken scopes_taken lists_taken endings_taken
  waits_no_more before e es is fewer sits =
      let all : AllByRecursion (FitsEnding (sizes h)) (e ∷ es) = subst (AllByRecursion (FitsEnding (sizes h))) fewer sits.ended in (
        subst (λ k. Sits h f.slots (depth_left k op.depth) (record before { endings = es })) (sym is) (record {
          operands = omega (arith, sits.operands);
          scopes = omega (arith, sits.scopes);
          lists = omega (arith, sits.lists);
          endings = omega (arith, ap length fewer, sits.endings);
          values = sits.values;
          listed = sits.listed;
          ended = all.1;
          entered = sits.entered;
        }),
        all.0,
      )

pub resume_gives : (k : Kind) → k ≡ kind.Resume → Gives k 0
unfolding operands_given scopes_given lists_given endings_given
resume_gives k is = subst (λ k. Gives k 0) (sym is) (record { operands = refl; scopes = refl; lists = refl; endings = refl })

pub resume-there : (functions : List FunctionCode) (f : FunctionCode) (op : Op) (h : Heap) (st : Stacks) → op.kind ≡ kind.Resume → Ready functions f op h st → 0 < length st.endings
unfolding endings_taken
resume-there functions f op h st is ready =
    let enough : endings_taken kind.Resume ≤ op.depth.endings = subst (λ k. endings_taken k ≤ op.depth.endings) is ready.endings in
    omega (arith, enough, ready.sits.endings)

-- an ending that led out leads out further
pub resume-told : (h : Heap) (before : Stacks) (e : Ending) (es : List Ending) → before.endings ≡ e ∷ es → (e ≡ ending.Normal → ⊥) → JumpsOnHeap kind.Resume h h before (record before { endings = es }) (Ok (next.Out e))
resume-told h before e es is other = record {
  by = λ frame code rest s stands.
      subst (λ (all : List Ending). ActsNext (OnHeap h s) (Unanswered s) h.texts (from frame code) rest (plain_stacks h.texts (record before { endings = es })) (Ok (next.Out e))
      (on_ending (map (plain_ending h.texts) all) (λ w ws. resumed rest w (record (plain_stacks h.texts before) { endings = ws }) s))) (sym is)
      (leads e other frame code rest s (OnHeap-refl h s stands));
}
  where
    below : Below (plain_stacks h.texts (record before { endings = es })) (plain_stacks h.texts (record before { endings = es }))
    below = record { above = []; operands = refl; scopes = refl; lists = refl; endings = refl }

    leads : (e : Ending) → (e ≡ ending.Normal → ⊥) → (frame : Frame) (code rest : List Op) (s : State) → OnHeap h s s
        → ActsNext (OnHeap h s) (Unanswered s) h.texts (from frame code) rest (plain_stacks h.texts (record before { endings = es })) (Ok (next.Out e))
        (resumed rest (plain_ending h.texts e) (record (plain_stacks h.texts before) { endings = map (plain_ending h.texts) es }) s)
    leads ending.Normal other frame code rest s on = absurd (other refl)
    leads (ending.Returned v) other frame code rest s on = (refl, below, on)
    leads (ending.Broken label) other frame code rest s on = (refl, below, on)
    leads (ending.Continued label) other frame code rest s on = (refl, below, on)
    leads (ending.Thrown v) other frame code rest s on = (refl, below, on)

-- a scope is left
pub leave-there : (functions : List FunctionCode) (f : FunctionCode) (op : Op) (h : Heap) (st : Stacks) → op.kind ≡ kind.Leave → Ready functions f op h st → 1 < length st.scopes
unfolding scopes_needed
leave-there functions f op h st is ready =
    let enough : scopes_needed kind.Leave ≤ op.depth.scopes = subst (λ k. scopes_needed k ≤ op.depth.scopes) is ready.scopes in
    omega (arith, enough, ready.sits.scopes)

pub leave-sits : (f : FunctionCode) (op : Op) (h : Heap) (before : Stacks) (own : ScopeId) (below : List ScopeId) → op.kind ≡ kind.Leave → before.scopes ≡ own ∷ below → 1 < length before.scopes
    → Sits h f.slots op.depth before → Sits h f.slots (depth_next op.kind op.depth) (record before { scopes = below })
unfolding operands_taken scopes_taken lists_taken endings_taken operands_given scopes_given lists_given endings_given
leave-sits f op h before own below is left more sits = subst (λ k. Sits h f.slots (depth_next k op.depth) (record before { scopes = below })) (sym is) (record {
  operands = omega (arith, sits.operands);
  scopes = omega (arith, ap length left, sits.scopes);
  lists = omega (arith, sits.lists);
  endings = omega (arith, sits.endings);
  values = sits.values;
  listed = sits.listed;
  ended = sits.ended;
  entered = entered below (omega (arith, ap length left, more)) (subst (Entered f.slots h.scopes) left sits.entered);
})
  where
    entered : (below : List ScopeId) → 0 < length below → Entered f.slots h.scopes (own ∷ below) → Entered f.slots h.scopes below
    entered [] some all = absurd (omega arith)
    entered (next ∷ rest) some all = all.1
