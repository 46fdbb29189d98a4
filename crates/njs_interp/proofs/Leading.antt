-- Endings that lead out of a part of the code.
use Rattle.std.proofs.Common.{◌≡◌, ℕ, ◌+◌, ◌-◌, ◌<◌, ◌≤◌, List, ◌∷◌, length, drop, Option, Some, None, refl, sym, ap, subst, ◌∙◌, arith, slice_get}
use Rattle.std.specs.Option.{option_map}
use Rattle.std.proofs.lemmas.Option.{slice_get_within}
use Rattle.njs_shared.specs.Heap.{Heap, sizes}
use Rattle.std.proofs.lemmas.List.{length-map}
use Rattle.njs_clone.specs.Content.{content}
use Rattle.njs_clone.proofs.Elements.{drop_at}
use Rattle.njs_code.specs.declared.op.Address.{Address}
use Rattle.njs_code.specs.declared.op.Depth.{Depth}
use Rattle.njs_code.specs.declared.op.Kind.{Kind}
use Rattle.njs_code.specs.declared.op.Op.{Op}
use Rattle.njs_code.specs.declared.code.FunctionCode.{FunctionCode}
use Rattle.njs_code.specs.Effects.{depth_next, depth_left}
use Rattle.njs_code.specs.Facts.{StandsAt, IsWithin, NextStands, PastStands, EndStands, PartRule}
use Rattle.njs_meaning.specs.Values.{PlainValue}
use Rattle.njs_meaning.specs.State.{State, Outcome}
use Rattle.njs_simul.specs.Stacks as plain
use Rattle.njs_simul.specs.Stacks.{Frame, cut_to}
use Rattle.njs_simul.specs.Step.{from, taken, ended_by}
use Rattle.njs_simul.specs.Step as Step
use Rattle.njs_simul.specs.Runs.{Runs, LeadsOut}
use Rattle.njs_simul.specs.Fits.{Names, Good}
use Rattle.njs_interp.specs.declared.stacks.Ending.{Ending}
use Rattle.njs_interp.specs.declared.stacks.Stacks.{Stacks}
use Rattle.njs_interp.specs.declared.taking.Taking.{Taking}
use Rattle.njs_interp.specs.declared.taking.Taking.TheVariants.{Past, Behind, Catches, Waits}
use Rattle.njs_interp.specs.Plain.{plain_ending, plain_stacks}
use Rattle.njs_interp.specs.Sits.{Sits, FitsEnding}
use Rattle.njs_interp.specs.Leading.{place_by, stands_by, depth_by, Takes, GoesOn, GoesBy, FitsTaking, with_taken, TakenUp, SitsAt}
use Rattle.njs_interp.specs.Acts.{Below}
use Rattle.njs_interp.proofs.Cutting.{cut_plain, cut_below, cut_sits}
use Rattle.njs_interp.proofs.Going.{some_scope}

-- ---- places of the code

-- an operation and the code behind it
pub from_at : (frame : Frame) (code : List Op) (place : ℕ) (op : Op) → StandsAt code place op → from frame code place ≡ op ∷ from frame code (place - 1)
from_at frame code place op stands =
    let within = slice_get_within code stands.index op stands.found in
    let here : length code - place ≡ stands.index = omega (arith, stands.counted) in
    let behind : stands.index + 1 ≡ length code - (place - 1) = omega (arith, stands.counted, within) in
    ap (λ i. drop i code) here ∙ drop_at code stands.index op stands.found ∙ ap (λ i. op ∷ drop i code) behind

-- ---- one operation that ends a part

with_plain : (texts : List (List ℕ)) (e : Ending) (way : Taking) (st : Stacks) → plain_stacks texts (with_taken e way st) ≡ stands_by texts e (plain_stacks texts st) way
with_plain texts e (Past a) st = refl
with_plain texts e Behind st = refl
with_plain texts e (Catches v) st = refl
with_plain texts e Waits st = refl

pub taken_plain : (texts : List (List ℕ)) (way : Taking) (e : Ending) (depth : Depth) (old new : Stacks) → TakenUp way e depth old new → plain_stacks texts new ≡ stands_by texts e (cut_to depth (plain_stacks texts old)) way
taken_plain texts way e depth old new taken =
    ap (plain_stacks texts) taken.now ∙ with_plain texts e way taken.kept ∙ ap (λ st. stands_by texts e st way) (cut_plain texts depth old taken.kept taken.cut)

with_sits : (h : Heap) (slots : List ℕ) (depth : Depth) (e : Ending) (way : Taking) (st : Stacks) → FitsTaking (sizes h) (Some way) → FitsEnding (sizes h) e → Sits h slots depth st → Sits h slots (depth_by depth way) (with_taken e way st)
with_sits h slots depth e (Past a) st fits ending sits = sits
with_sits h slots depth e Behind st fits ending sits = sits
with_sits h slots depth e (Catches v) st fits ending sits = record {
  operands = omega (arith, sits.operands);
  scopes = sits.scopes;
  lists = sits.lists;
  endings = sits.endings;
  values = (fits, sits.values);
  listed = sits.listed;
  ended = sits.ended;
  entered = sits.entered;
}
with_sits h slots depth e Waits st fits ending sits = record {
  operands = sits.operands;
  scopes = sits.scopes;
  lists = sits.lists;
  endings = omega (arith, sits.endings);
  values = sits.values;
  listed = sits.listed;
  ended = (ending, sits.ended);
  entered = sits.entered;
}

pub taken_sits : (h : Heap) (slots : List ℕ) (left depth : Depth) (way : Taking) (e : Ending) (old new : Stacks) → 1 ≤ depth.scopes → IsWithin depth left → FitsTaking (sizes h) (Some way) → FitsEnding (sizes h) e → TakenUp way e depth old new → Sits h slots left old
    → Sits h slots (depth_by depth way) new
taken_sits h slots left depth way e old new some within fits ending taken sits =
    subst (Sits h slots (depth_by depth way)) (sym taken.now)
    (with_sits h slots depth e way taken.kept fits ending (cut_sits h slots left depth old taken.kept some within taken.cut sits))

-- an operation stands at a place, further on than another and so deep
pub record StandsOn (code : List Op) (place to : ℕ) (depth : Depth) : Type 0 where
  pub op : Op
  pub stands : StandsAt code to op
  pub deep : op.depth ≡ depth
  pub further : to < place

next_deep : (k : Kind) (operands endings : ℕ) (depth : Depth) → GoesOn k operands endings → depth_next k depth ≡ record depth { operands = depth.operands + operands; endings = depth.endings + endings }
next_deep k operands endings depth goes =
    let o : (depth_next k depth).operands ≡ depth.operands + operands = omega (arith, goes.operands_taken, goes.operands_given) in
    let s : (depth_next k depth).scopes ≡ depth.scopes = omega (arith, goes.scopes_taken, goes.scopes_given) in
    let l : (depth_next k depth).lists ≡ depth.lists = omega (arith, goes.lists_taken, goes.lists_given) in
    let e : (depth_next k depth).endings ≡ depth.endings + endings = omega (arith, goes.endings_taken, goes.endings_given) in
    λ i. record { operands = o i; scopes = s i; lists = l i; endings = e i }

pub next_stands : (code : List Op) (place : ℕ) (op : Op) (depth : Depth) (stands : StandsAt code place op) → NextStands code stands.index depth → StandsOn code place (place - 1) depth
next_stands code place op depth stands next =
    let within = slice_get_within code (stands.index + 1) next.op next.found in
    record {
      op = next.op;
      stands = record { index = stands.index + 1; counted = omega (arith, stands.counted, within); found = next.found };
      deep = next.depth_same;
      further = omega (arith, stands.counted, within);
    }

module _ (functions : List FunctionCode) (f : FunctionCode) (part : PartRule functions f) (op : Op) (place : ℕ) (stands : StandsAt f.ops place op) where
  place_is : length f.ops - stands.index ≡ place
  place_is = omega (arith, stands.counted)

  behind : (operands endings : ℕ) → GoesOn op.kind operands endings → StandsOn f.ops place (place - 1) (record op.depth { operands = op.depth.operands + operands; endings = op.depth.endings + endings })
  behind operands endings goes =
      subst (StandsOn f.ops place (place - 1)) (next_deep op.kind operands endings op.depth goes)
      (next_stands f.ops place op (depth_next op.kind op.depth) stands ((part.ops stands.index op stands.found).next goes.on))

  none_more : (depth : Depth) → record depth { operands = depth.operands + 0; endings = depth.endings + 0 } ≡ depth
  none_more depth =
      let o : depth.operands + 0 ≡ depth.operands = omega arith in
      let e : depth.endings + 0 ≡ depth.endings = omega arith in
      λ i. record { operands = o i; scopes = depth.scopes; lists = depth.lists; endings = e i }

  no_operands_more : (depth : Depth) → record depth { operands = depth.operands + 0; endings = depth.endings + 1 } ≡ record depth { endings = depth.endings + 1 }
  no_operands_more depth =
      let o : depth.operands + 0 ≡ depth.operands = omega arith in
      λ i. record { operands = o i; scopes = depth.scopes; lists = depth.lists; endings = depth.endings + 1 }

  no_endings_more : (depth : Depth) → record depth { operands = depth.operands + 1; endings = depth.endings + 0 } ≡ record depth { operands = depth.operands + 1 }
  no_endings_more depth =
      let e : depth.endings + 0 ≡ depth.endings = omega arith in
      λ i. record { operands = depth.operands + 1; scopes = depth.scopes; lists = depth.lists; endings = e i }

  past_on : (a : Address) → PastStands f.ops (length f.ops - stands.index) a.0 op.depth → StandsOn f.ops place a.0 op.depth
  past_on a past = record { op = past.op; stands = past.stands; deep = past.depth_same; further = omega (arith, past.further, place_is) }

  pub goes_there : (way : Taking) → GoesBy op.kind (Some way) → StandsOn f.ops place (place_by place way) (depth_by op.depth way)
  goes_there (Past a) goes = past_on a ((part.ops stands.index op stands.found).past a goes)
  goes_there Behind goes = subst (StandsOn f.ops place (place - 1)) (none_more op.depth) (behind 0 0 goes)
  goes_there (Catches v) goes = subst (StandsOn f.ops place (place - 1)) (no_endings_more op.depth) (behind 1 0 goes)
  goes_there Waits goes = subst (StandsOn f.ops place (place - 1)) (no_operands_more op.depth) (behind 0 1 goes)

-- ---- outwards

module _ (good : State → Type 0) (frame : Frame) (code : List Op) (outcome : Outcome PlainValue) where
  -- where an ending goes on that an operation takes up or leaves to another
  abbrev pub Onward : Option (List Op × plain.Stacks) → Option Address → plain.Ending → plain.Stacks → State → Type 0
  Onward None around e st s = LeadsOut good frame code outcome around e st s
  Onward (Some p) around e st s = Runs good frame code outcome p.0 p.1 s

  pub same_first : (a b : Op) (rest others : List Op) (code : List Op) → code ≡ a ∷ rest → code ≡ b ∷ others → (a ≡ b) × (rest ≡ others)
  same_first a b rest others code e f = let q : a ∷ rest ≡ b ∷ others = sym e ∙ f in (cc, cc)

  onward_from : (around : Option Address) (to : Address) (op : Op) (rest : List Op) (e : plain.Ending) (st : plain.Stacks) (s : State) → around ≡ Some to → from frame code to.0 ≡ op ∷ rest
      → LeadsOut good frame code outcome around e st s → Onward (taken frame code op.kind rest e (cut_to op.depth st)) op.around e st s
  onward_from around to op rest e st s is here (LeadsOut.over _ _ _ ended) = absurd (cc)
  onward_from around to op rest e st s is here (LeadsOut.taken_up at other behind _ _ _ next after there within taken runs) =
      let same : at ≡ to = cc in
      let first = same_first other op behind rest (from frame code to.0) (ap (λ (a : Address). from frame code a.0) (sym same) ∙ there) here in
      subst (λ o. Onward o op.around e st s)
      (sym taken ∙ ap (λ (o : Op). Step.taken frame code o.kind behind e (cut_to o.depth st)) first.0 ∙ ap (λ r. Step.taken frame code op.kind r e (cut_to op.depth st)) first.1) runs
  onward_from around to op rest e st s is here (LeadsOut.passed_by at other behind _ _ _ there within taken out) =
      let same : at ≡ to = cc in
      let first = same_first other op behind rest (from frame code to.0) (ap (λ (a : Address). from frame code a.0) (sym same) ∙ there) here in
      subst (λ o. Onward o op.around e st s)
      (sym taken ∙ ap (λ (o : Op). Step.taken frame code o.kind behind e (cut_to o.depth st)) first.0 ∙ ap (λ r. Step.taken frame code op.kind r e (cut_to op.depth st)) first.1)
      (subst (λ (o : Op). LeadsOut good frame code outcome o.around e st s) first.0 out)

  pub over_from : (around : Option Address) (e : plain.Ending) (st : plain.Stacks) (s : State) → around ≡ None → LeadsOut good frame code outcome around e st s → ended_by e s ≡ outcome
  over_from around e st s is (LeadsOut.over _ _ _ ended) = ended
  over_from around e st s is (LeadsOut.taken_up at other behind _ _ _ next after there within taken runs) = absurd (cc)
  over_from around e st s is (LeadsOut.passed_by at other behind _ _ _ there within taken out) = absurd (cc)

  -- by the operation around
  pub onward : (around : Option Address) (to : Address) (op : Op) (texts : List (List ℕ)) (e : Ending) (way : Option Taking) (st : plain.Stacks) (s : State) → around ≡ Some to → StandsAt code to.0 op → Takes op.kind e way
      → LeadsOut good frame code outcome around (plain_ending texts e) st s
      → Onward (option_map (λ way. (from frame code (place_by to.0 way), stands_by texts e (cut_to op.depth st) way)) way) op.around (plain_ending texts e) st s
  onward around to op texts e way st s is stands takes out =
      subst (λ o. Onward o op.around (plain_ending texts e) st s) (takes.by frame code texts to.0 (cut_to op.depth st))
      (onward_from around to op (from frame code (to.0 - 1)) (plain_ending texts e) st s is (from_at frame code to.0 op stands) out)

-- ---- the search for the operation that takes up an ending

pub same_at : (code : List Op) (place : ℕ) (a b : Op) → StandsAt code place a → StandsAt code place b → a ≡ b
same_at code place a b p q =
    let same : p.index ≡ q.index = omega (arith, p.counted, q.counted) in
    let both : Some a ≡ Some b = sym p.found ∙ ap (slice_get code) same ∙ q.found in
    cc

pub at_within : (code : List Op) (place : ℕ) (op : Op) → StandsAt code place op → (1 ≤ place) × (place ≤ length code)
at_within code place op stands =
    let within = slice_get_within code stands.index op stands.found in
    (omega (arith, stands.counted, within), omega (arith, stands.counted))

-- what is known where so many parts were left: a run that ends so is led on from there
pub record OutwardFrom (code : List Op) (place : ℕ) (left : Depth) (first around : Option Address) (e : Ending) : Type 0 where
  pub ends : (to : Address) → around ≡ Some to → EndStands code place to.0 left
  pub told : (env : Names) (frame : Frame) (outcome : Outcome PlainValue) (texts : List (List ℕ)) (st : plain.Stacks) (s : State)
      → LeadsOut (Good env) frame code outcome first (plain_ending texts e) st s → LeadsOut (Good env) frame code outcome around (plain_ending texts e) st s

pub outward_there : (code : List Op) (place : ℕ) (left : Depth) (first around : Option Address) (e : Ending) (to : Address) → around ≡ Some to → OutwardFrom code place left first around e → (1 ≤ to.0) × (to.0 ≤ length code)
outward_there code place left first around e to is from = let end = from.ends to is in at_within code to.0 end.op end.stands

within_left : (k : Kind) (depth left : Depth) (other : Depth) → IsWithin depth left → IsWithin other (depth_left k depth) → IsWithin other left
within_left k depth left other p q = record {
  operands = omega (arith, p.operands, q.operands);
  scopes = omega (arith, p.scopes, q.scopes);
  lists = omega (arith, p.lists, q.lists);
  endings = omega (arith, p.endings, q.endings);
}

module _ (functions : List FunctionCode) (f : FunctionCode) (part : PartRule functions f) (place : ℕ) where
  around_ends : (op : Op) (at : ℕ) → StandsAt f.ops at op → (to : Address) → op.around ≡ Some to → EndStands f.ops at to.0 (depth_left op.kind op.depth)
  around_ends op at stands to is =
      let place_is : length f.ops - stands.index ≡ at = omega (arith, stands.counted) in
      subst (λ n. EndStands f.ops n to.0 (depth_left op.kind op.depth)) place_is ((part.ops stands.index op stands.found).around to is)

  pub outward_starts : (op : Op) (e : Ending) → StandsAt f.ops place op → OutwardFrom f.ops place (depth_left op.kind op.depth) op.around op.around e
  outward_starts op e stands = record { ends = λ to is. around_ends op place stands to is; told = λ env frame outcome texts st s out. out }

  module _ (left : Depth) (first around : Option Address) (e : Ending) (to : Address) (op : Op) (is : around ≡ Some to) (stands : StandsAt f.ops to.0 op) (from : OutwardFrom f.ops place left first around e) where
    same_end : EndStands f.ops place to.0 left → IsWithin op.depth left
    same_end end = subst (λ (o : Op). IsWithin o.depth left) (same_at f.ops to.0 end.op op end.stands stands) end.within

    pub outward_within : (to.0 < place) × IsWithin op.depth left
    outward_within = let end = from.ends to is in (end.further, same_end end)

    further_end : (next : Address) → op.around ≡ Some next → EndStands f.ops place next.0 left
    further_end next on =
        let end = from.ends to is in
        let further = around_ends op to.0 stands next on in
        record {
          op = further.op;
          stands = further.stands;
          further = omega (arith, further.further, end.further);
          ending = further.ending;
          within = within_left op.kind op.depth left further.op.depth (same_end end) further.within;
        }

    pub outward_on : Takes op.kind e None → OutwardFrom f.ops place left first op.around e
    outward_on takes = record {
      ends = further_end;
      told = λ env frame outcome texts st s out. onward (Good env) frame f.ops outcome around to op texts e None st s is stands takes (from.told env frame outcome texts st s out);
    }

    pub outward_taken : (way : Taking) → Takes op.kind e (Some way) → (env : Names) (frame : Frame) (outcome : Outcome PlainValue) (texts : List (List ℕ)) (st : plain.Stacks) (s : State)
        → LeadsOut (Good env) frame f.ops outcome first (plain_ending texts e) st s
        → Runs (Good env) frame f.ops outcome (Step.from frame f.ops (place_by to.0 way)) (stands_by texts e (cut_to op.depth st) way) s
    outward_taken way takes env frame outcome texts st s out =
        onward (Good env) frame f.ops outcome around to op texts e (Some way) st s is stands takes (from.told env frame outcome texts st s out)

pub outward_further : (functions : List FunctionCode) (f : FunctionCode) (part : PartRule functions f) (to : ℕ) (op : Op) → StandsAt f.ops to op → (on : Address) → op.around ≡ Some on → on.0 < to
outward_further functions f part to op stands on is = (around_ends functions f part to op to stands on is).further

-- the address at which the search goes on, or 0
abbrev pub address : Option Address → ℕ
address None = 0
address (Some to) = to.0

pub address_falls : (around next : Option Address) (to : Address) → around ≡ Some to → 1 ≤ to.0
    → ((on : Address) → next ≡ Some on → on.0 < to.0) → address next < address around
address_falls around None to is some falls = subst (λ o. 0 < address o) (sym is) (omega (arith, some))
address_falls around (Some on) to is some falls = subst (λ o. on.0 < address o) (sym is) (falls on refl)

-- ---- where it was led

module _ (functions : List FunctionCode) (f : FunctionCode) (part : PartRule functions f) (op : Op) (place : ℕ) (stands : StandsAt f.ops place op) where
  pub some_scope_there : 1 ≤ op.depth.scopes
  some_scope_there = let needed = (part.ops stands.index op stands.found).scopes in omega (arith, needed, some_scope op.kind)

  -- what stands where an ending was taken up
  pub taken_there : (h : Heap) (left : Depth) (way : Taking) (e : Ending) (old new : Stacks) (to : ℕ) → to ≡ place_by place way → GoesBy op.kind (Some way) → IsWithin op.depth left → FitsTaking (sizes h) (Some way) → FitsEnding (sizes h) e
      → TakenUp way e op.depth old new → Sits h f.slots left old → SitsAt f h new to
  taken_there h left way e old new to is goes within fits ending taken sits =
      let there = goes_there functions f part op place stands way goes in
      subst (SitsAt f h new) (sym is) (record {
        op = there.op;
        stands = there.stands;
        sits = subst (λ depth. Sits h f.slots depth new) (sym there.deep) (taken_sits h f.slots left op.depth way e old new some_scope_there within fits ending taken sits);
      })

-- and the run that goes on from there
pub taken_runs : (env : Names) (frame : Frame) (code : List Op) (outcome : Outcome PlainValue) (texts : List (List ℕ)) (way : Taking) (e : Ending) (depth left : Depth) (place to : ℕ) (old new : Stacks) (st : plain.Stacks) (s : State)
    → to ≡ place_by place way → depth.operands ≤ left.operands → left.operands ≤ length old.operands → TakenUp way e depth old new → Below st (plain_stacks texts old)
    → Runs (Good env) frame code outcome (Step.from frame code (place_by place way)) (stands_by texts e (cut_to depth st) way) s → Runs (Good env) frame code outcome (Step.from frame code to) (plain_stacks texts new) s
taken_runs env frame code outcome texts way e depth left place to old new st s is within deep taken below runs =
    let count : depth.operands ≤ length (plain_stacks texts old).operands = omega (arith, within, deep, length-map old.operands (content texts)) in
    let now : stands_by texts e (cut_to depth st) way ≡ plain_stacks texts new = ap (λ st. stands_by texts e st way) (cut_below depth st (plain_stacks texts old) below count) ∙ sym (taken_plain texts way e depth old new taken) in
    subst (λ st. Runs (Good env) frame code outcome (Step.from frame code to) st s) now
    (subst (λ n. Runs (Good env) frame code outcome (Step.from frame code n) (stands_by texts e (cut_to depth st) way) s) (sym is) runs)
