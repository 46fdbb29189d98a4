-- Single operations of valid code.
use Rattle.std.proofs.Common.{◌≡◌, ℕ, zero, suc, ◌+◌, ◌-◌, ◌<◌, ◌≤◌, List, [], ◌∷◌, ◌++◌, length, Bool, true, false, not, ◌&&◌, ◌||◌, nat_eq, nat_lt, nat_le, Option, Some, None, is_some, refl, ap, sym, subst, ◌∙◌, if◌then◌else◌, slice_get, arith}
use Rattle.std.proofs.lemmas.Bool.{false≢true, and_from, and_parts, or_left, eqb-true, eq-eqb, leb-true, le-leb, lt-ltb}
use Rattle.std.proofs.lemmas.List.{length-append}
use Rattle.njs_code.specs.declared.op.Address.{Address}
use Rattle.njs_code.specs.declared.op.Depth.{Depth}
use Rattle.njs_code.specs.declared.op.Kind.{Kind}
use Rattle.njs_code.specs.declared.op.Kind.TheVariants as kind
use Rattle.njs_code.specs.declared.op.Op.{Op}
use Rattle.njs_code.specs.declared.code.FunctionCode.{FunctionCode}
use Rattle.njs_code.specs.Effects.{operands_taken, operands_given, scopes_needed, scopes_taken, scopes_given, lists_needed, lists_taken, lists_given, endings_taken, endings_given, goes_on, jump_of, operands_at_jump, past_of, is_ending, depth_left, depth_next, depth_at_jump}
use Rattle.njs_code.specs.Valid.{op_at, same_depth, covers, holds, carries, next_valid, charges, jump_valid, past_valid, ends_part, around_valid, names_valid, op_valid, ops_valid}
use Rattle.njs_code.specs.Facts.{IsWithin}
use Rattle.njs_simul.specs.Emission.{Here, op, address, on, deeper}
use Rattle.njs_simul.specs.Laws.{EndsWith, Front}
use Rattle.njs_simul.specs.Checks.{Same, Starts, EndAt, Fits, Stands, Well, is_free, is_flat, leads, is_simple, arrives, is_jump}
use Rattle.njs_simul.proofs.Runs.{behind, next}

-- ---- depths

pub on_is : (n k : ℕ) → on n k ≡ n + k
on_is zero k = omega arith
on_is (suc n) k = let e : on n k ≡ n + k = on_is n k in omega (arith, e)

pub same_refl : (d : Depth) → Same d d
same_refl d = record { operands = refl; scopes = refl; lists = refl; endings = refl }

pub same_is : (a b : Depth) → Same a b → same_depth a b ≡ true
same_is a b s =
    and_from (nat_eq a.operands b.operands && nat_eq a.scopes b.scopes && nat_eq a.lists b.lists) (nat_eq a.endings b.endings)
    (and_from (nat_eq a.operands b.operands && nat_eq a.scopes b.scopes) (nat_eq a.lists b.lists)
    (and_from (nat_eq a.operands b.operands) (nat_eq a.scopes b.scopes) (eq-eqb a.operands b.operands s.operands) (eq-eqb a.scopes b.scopes s.scopes))
    (eq-eqb a.lists b.lists s.lists)) (eq-eqb a.endings b.endings s.endings)

within_is : (a b : Depth) → IsWithin a b → covers b a ≡ true
within_is a b s =
    and_from (nat_le a.operands b.operands && nat_le a.scopes b.scopes && nat_le a.lists b.lists) (nat_le a.endings b.endings)
    (and_from (nat_le a.operands b.operands && nat_le a.scopes b.scopes) (nat_le a.lists b.lists)
    (and_from (nat_le a.operands b.operands) (nat_le a.scopes b.scopes) (le-leb a.operands b.operands s.operands) (le-leb a.scopes b.scopes s.scopes))
    (le-leb a.lists b.lists s.lists)) (le-leb a.endings b.endings s.endings)

pub within_trans : (a b c : Depth) → IsWithin a b → IsWithin b c → IsWithin a c
within_trans a b c s t = record {
  operands = omega (arith, s.operands, t.operands);
  scopes = omega (arith, s.scopes, t.scopes);
  lists = omega (arith, s.lists, t.lists);
  endings = omega (arith, s.endings, t.endings);
}

pub starts_same : (rest : List Op) (a b : Depth) → Same a b → Starts rest a → Starts rest b
starts_same [] a b s h = h
starts_same (o ∷ ops) a b s h = record {
  operands = h.operands ∙ s.operands;
  scopes = h.scopes ∙ s.scopes;
  lists = h.lists ∙ s.lists;
  endings = h.endings ∙ s.endings;
}

pub end_within : (ops : List Op) (to : ℕ) (a b : Depth) → IsWithin a b → EndAt ops to a → EndAt ops to b
end_within ops to a b s e = record { end = e.end; found = e.found; ending = e.ending; within = within_trans e.end.depth a b e.within s }

-- ---- what stands at an address

at_seam : (front : List Op) (o : Op) (ops : List Op) → slice_get (front ++ o ∷ ops) (length front) ≡ Some o
at_seam [] o ops = refl
at_seam (x ∷ front) o ops = at_seam front o ops

if_so : {A : Type 0} (b : Bool) (x y : A) → b ≡ true → (if b then x else y) ≡ x
if_so true x y h = refl
if_so false x y h = absurd (false≢true h)

at_end : (front : List Op) (o : Op) (ops : List Op) → op_at (front ++ o ∷ ops) (length (o ∷ ops)) ≡ Some o
at_end front o ops =
    let all = front ++ o ∷ ops in
    let count : length all ≡ length front + length (o ∷ ops) = length-append front (o ∷ ops) in
    let fits : length (o ∷ ops) ≤ length all = omega (arith, count) in
    let place : length all - length (o ∷ ops) ≡ length front = omega (arith, count) in
    if_so (nat_le (length (o ∷ ops)) (length all)) (slice_get all (length all - length (o ∷ ops))) None (le-leb (length (o ∷ ops)) (length all) fits)
    ∙ ap (slice_get all) place ∙ at_seam front o ops

pub at_address : (code : List Op) (o : Op) (ops : List Op) → EndsWith code (o ∷ ops) → op_at code (length (o ∷ ops)) ≡ Some o
at_address code o ops e = subst (λ c. op_at c (length (o ∷ ops)) ≡ Some o) (sym e.1) (at_end e.0 o ops)

pub carried : (found : Option Op) (o : Op) (d : Depth) → found ≡ Some o → Same o.depth d → carries found d ≡ true
carried found o d is s = ap (λ x. carries x d) is ∙ same_is o.depth d s

pub carries_first : (code rest : List Op) (d : Depth) → EndsWith code rest → Starts rest d → carries (op_at code (length rest)) d ≡ true
carries_first code [] d e h = absurd h
carries_first code (o ∷ ops) d e h = carried (op_at code (length (o ∷ ops))) o d (at_address code o ops e) h

-- ---- the test of an operation

implies : (b c : Bool) → (b ≡ true → c ≡ true) → (not b || c) ≡ true
implies true c h = h refl
implies false c h = refl

or_none : {A : Type 0} (o : Option A) → not (is_some o) ≡ true → o ≡ None
or_none None h = refl
or_none (Some a) h = absurd (false≢true h)

ends_at : (found : Option Op) (o : Op) (d : Depth) → found ≡ Some o → is_ending o.kind ≡ true → IsWithin o.depth d → ends_part found d ≡ true
ends_at found o d is ending within = ap (λ x. ends_part x d) is ∙ and_from (is_ending o.kind) (covers d o.depth) ending (within_is o.depth d within)

-- what holds of an operation in front of these
pub record Step (functions : List FunctionCode) (f : FunctionCode) (k : Kind) (here : Here) (rest : List Op) : Type 0 where
  pub operands : operands_taken k ≤ here.depth.operands
  pub scopes : scopes_needed k ≤ here.depth.scopes
  pub lists : lists_needed k ≤ here.depth.lists
  pub endings : endings_taken k ≤ here.depth.endings
  pub names : names_valid functions f.slots here.depth.scopes k ≡ true
  pub next : goes_on k ≡ true → Starts rest (depth_next k here.depth)
  pub jump : jump_valid f.ops (length rest + 1) (record { kind = k; depth = here.depth; around = here.around }) (jump_of k) ≡ true
  pub past : past_valid f.ops (length rest + 1) (record { kind = k; depth = here.depth; around = here.around }) (past_of k) ≡ true
  pub around : (to : Address) → here.around ≡ Some to → EndAt f.ops to.0 (depth_left k here.depth)

around_so : (ops : List Op) (at : ℕ) (o : Op) (around : Option Address) → ((to : Address) → around ≡ Some to → to.0 < at) → ((to : Address) → around ≡ Some to → EndAt ops to.0 (depth_left o.kind o.depth))
    → around_valid ops at o around ≡ true
around_so ops at o None further ends = refl
around_so ops at o (Some to) further ends =
    let e = ends to refl in
    and_from (nat_lt to.0 at) (ends_part (op_at ops to.0) (depth_left o.kind o.depth)) (lt-ltb to.0 at (further to refl))
    (ends_at (op_at ops to.0) e.end (depth_left o.kind o.depth) e.found e.ending e.within)

held_is : (k : Kind) (d : Depth) → operands_taken k ≤ d.operands → scopes_needed k ≤ d.scopes → lists_needed k ≤ d.lists → endings_taken k ≤ d.endings → holds k d ≡ true
held_is k d o s l e =
    and_from (nat_le (operands_taken k) d.operands && nat_le (scopes_needed k) d.scopes && nat_le (lists_needed k) d.lists) (nat_le (endings_taken k) d.endings)
    (and_from (nat_le (operands_taken k) d.operands && nat_le (scopes_needed k) d.scopes) (nat_le (lists_needed k) d.lists)
    (and_from (nat_le (operands_taken k) d.operands) (nat_le (scopes_needed k) d.scopes) (le-leb (operands_taken k) d.operands o) (le-leb (scopes_needed k) d.scopes s))
    (le-leb (lists_needed k) d.lists l)) (le-leb (endings_taken k) d.endings e)

six : (a b c d e g : Bool) → a ≡ true → b ≡ true → c ≡ true → d ≡ true → e ≡ true → g ≡ true → (a && b && c && d && e && g) ≡ true
six a b c d e g p q r s t u =
    and_from (a && b && c && d && e) g (and_from (a && b && c && d) e (and_from (a && b && c) d (and_from (a && b) c (and_from a b p q) r) s) t) u

-- an operation that holds, in front of what is valid
module _ (functions : List FunctionCode) (f : FunctionCode) where
  op_so : (k : Kind) (here : Here) (rest : List Op) → EndsWith f.ops rest → ((to : Address) → here.around ≡ Some to → to.0 ≤ length rest) → Step functions f k here rest
      → op_valid functions f (length rest + 1) (record { kind = k; depth = here.depth; around = here.around }) ≡ true
  unfolding op_valid
  op_so k here rest ends further step =
      let at = length rest + 1 in
      let o : Op = record { kind = k; depth = here.depth; around = here.around } in
      let behind : at - 1 ≡ length rest = omega arith in
      let goes : goes_on k ≡ true → carries (op_at f.ops (at - 1)) (depth_next k here.depth) ≡ true =
      λ goes. ap (λ n. carries (op_at f.ops n) (depth_next k here.depth)) behind ∙ carries_first f.ops rest (depth_next k here.depth) ends (step.next goes) in
      six (holds k here.depth) (names_valid functions f.slots here.depth.scopes k) (next_valid f.ops at o) (jump_valid f.ops at o (jump_of k)) (past_valid f.ops at o (past_of k)) (around_valid f.ops at o here.around)
      (held_is k here.depth step.operands step.scopes step.lists step.endings) step.names (implies (goes_on k) (carries (op_at f.ops (at - 1)) (depth_next k here.depth)) goes)
      step.jump step.past (around_so f.ops at o here.around (λ to is. let le = further to is in omega (arith, le)) step.around)

  pub step_well : (k : Kind) (here : Here) (rest : List Op) → EndsWith f.ops rest → ((to : Address) → here.around ≡ Some to → to.0 ≤ length rest) → Step functions f k here rest → ops_valid functions f rest ≡ true
      → Stands functions f here (op k here rest)
  unfolding ops_valid
  step_well k here rest ends further step valid = record {
    starts = same_refl here.depth;
    further = λ to is. let le = further to is in omega (arith, le);
    valid = and_from (op_valid functions f (length rest + 1) (record { kind = k; depth = here.depth; around = here.around })) (ops_valid functions f rest) (op_so k here rest ends further step) valid;
  }

  -- ---- operations that change operands alone

  record Flat (k : Kind) : Type 0 where
    needed : scopes_needed k ≡ 1
    scopes_off : scopes_taken k ≡ 0
    scopes_on : scopes_given k ≡ 0
    lists_off : lists_taken k ≡ 0
    lists_on : lists_given k ≡ 0
    endings_off : endings_taken k ≡ 0
    endings_on : endings_given k ≡ 0
    past : past_of k ≡ None

  flat_is : (k : Kind) → is_flat k ≡ true → Flat k
  unfolding is_flat
  flat_is k h =
      let a : Bool = nat_eq (scopes_needed k) 1 in let b : Bool = nat_eq (scopes_taken k) 0 in let c : Bool = nat_eq (scopes_given k) 0 in let d : Bool = nat_eq (lists_taken k) 0 in
      let e : Bool = nat_eq (lists_given k) 0 in let g : Bool = nat_eq (endings_taken k) 0 in let i : Bool = nat_eq (endings_given k) 0 in let j : Bool = not (is_some (past_of k)) in
      let p7 = and_parts (a && b && c && d && e && g && i) j h in
      let p6 = and_parts (a && b && c && d && e && g) i p7.0 in
      let p5 = and_parts (a && b && c && d && e) g p6.0 in
      let p4 = and_parts (a && b && c && d) e p5.0 in
      let p3 = and_parts (a && b && c) d p4.0 in
      let p2 = and_parts (a && b) c p3.0 in
      let p1 = and_parts a b p2.0 in
      record {
        needed = eqb-true (scopes_needed k) 1 p1.0;
        scopes_off = eqb-true (scopes_taken k) 0 p1.1;
        scopes_on = eqb-true (scopes_given k) 0 p2.1;
        lists_off = eqb-true (lists_taken k) 0 p3.1;
        lists_on = eqb-true (lists_given k) 0 p4.1;
        endings_off = eqb-true (endings_taken k) 0 p5.1;
        endings_on = eqb-true (endings_given k) 0 p6.1;
        past = or_none (past_of k) p7.1;
      }

  record Leads (k : Kind) (n m : ℕ) : Type 0 where
    takes : operands_taken k ≤ n
    leaves : goes_on k ≡ true → n + operands_given k ≡ m + operands_taken k

  holds_then : (b c : Bool) → (not b || c) ≡ true → b ≡ true → c ≡ true
  holds_then true c h is = h
  holds_then false c h is = absurd (false≢true is)

  leads_is : (k : Kind) (n m : ℕ) → leads k n m ≡ true → Leads k n m
  unfolding leads
  leads_is k n m h =
      let same : Bool = nat_eq (n + operands_given k) (m + operands_taken k) in
      let p = and_parts (nat_le (operands_taken k) n) (not (goes_on k) || same) h in
      record { takes = leb-true (operands_taken k) n p.0; leaves = λ goes. eqb-true (n + operands_given k) (m + operands_taken k) (holds_then (goes_on k) same p.1 goes) }

  next_same : (k : Kind) (n m : ℕ) (here : Here) → Flat k → Leads k n m → goes_on k ≡ true → Same (deeper m here).depth (depth_next k (deeper n here).depth)
  next_same k n m here flat lead goes =
      let e = on_is n here.depth.operands in let e' = on_is m here.depth.operands in let sum = lead.leaves goes in
      record {
        operands = omega (arith, e, e', sum, lead.takes);
        scopes = omega (arith, flat.scopes_off, flat.scopes_on);
        lists = omega (arith, flat.lists_off, flat.lists_on);
        endings = omega (arith, flat.endings_off, flat.endings_on);
      }

  left_within : (k : Kind) (n m : ℕ) (here : Here) → Flat k → Leads k n m → IsWithin here.depth (depth_left k (deeper n here).depth)
  left_within k n m here flat lead =
      let e = on_is n here.depth.operands in
      record {
        operands = omega (arith, e, lead.takes);
        scopes = omega (arith, flat.scopes_off);
        lists = omega (arith, flat.lists_off);
        endings = omega (arith, flat.endings_off);
      }

  no_past : (ops : List Op) (at : ℕ) (o : Op) (past : Option Address) → past ≡ None → past_valid ops at o past ≡ true
  no_past ops at o past is = ap (past_valid ops at o) is

  pub flat_step : (k : Kind) (n m : ℕ) (here : Here) (rest : List Op) → is_flat k ≡ true → leads k n m ≡ true → lists_needed k ≤ here.depth.lists → Fits f here → names_valid functions f.slots here.depth.scopes k ≡ true
      → Starts rest (deeper m here).depth
      → jump_valid f.ops (length rest + 1) (record { kind = k; depth = (deeper n here).depth; around = here.around }) (jump_of k) ≡ true
      → Step functions f k (deeper n here) rest
  flat_step k n m here rest is_flat leads lists fits names starts jump =
      let flat = flat_is k is_flat in let lead = leads_is k n m leads in
      let e = on_is n here.depth.operands in
      record {
        operands = omega (arith, e, lead.takes);
        scopes = let scopes = fits.scopes in omega (arith, flat.needed, scopes);
        lists = lists;
        endings = omega (arith, flat.endings_off);
        names = names;
        next = λ goes. starts_same rest (deeper m here).depth (depth_next k (deeper n here).depth) (next_same k n m here flat lead goes) starts;
        jump = jump;
        past = no_past f.ops (length rest + 1) (record { kind = k; depth = (deeper n here).depth; around = here.around }) (past_of k) flat.past;
        around = λ to is. end_within f.ops to.0 here.depth (depth_left k (deeper n here).depth) (left_within k n m here flat lead) (fits.around to is);
      }

  pub no_jump : (ops : List Op) (at : ℕ) (o : Op) (jump : Option Address) → jump ≡ None → jump_valid ops at o jump ≡ true
  no_jump ops at o jump is = ap (jump_valid ops at o) is

  -- one that goes on to the next alone
  pub named_well : (k : Kind) (n m : ℕ) (here : Here) (rest : List Op) → is_flat k ≡ true → leads k n m ≡ true → jump_of k ≡ None → lists_needed k ≤ here.depth.lists → Fits f here
      → names_valid functions f.slots here.depth.scopes k ≡ true → Well functions f (deeper m here) rest → Well functions f (deeper n here) (op k (deeper n here) rest)
  named_well k n m here rest flat leads jump lists fits names well ends =
      let o : Op = record { kind = k; depth = (deeper n here).depth; around = here.around } in
      let after = next f.ops o rest ends in let w = well after in
      step_well k (deeper n here) rest after w.further
      (flat_step k n m here rest flat leads lists fits names w.starts (no_jump f.ops (length rest + 1) o (jump_of k) jump)) w.valid

  pub free_names : (slots : List ℕ) (scopes : ℕ) (k : Kind) → is_free k ≡ true → names_valid functions slots scopes k ≡ true
  unfolding names_valid
  free_names slots scopes (kind.Num number) h = absurd (false≢true h)
  free_names slots scopes (kind.Load up slot) h = absurd (false≢true h)
  free_names slots scopes (kind.Store up slot) h = absurd (false≢true h)
  free_names slots scopes (kind.LoadGlobal slot) h = absurd (false≢true h)
  free_names slots scopes (kind.StoreGlobal slot) h = absurd (false≢true h)
  free_names slots scopes (kind.Closure number params name) h = absurd (false≢true h)
  free_names slots scopes _ h = refl

  pub simple_well : (k : Kind) (n m : ℕ) → is_simple k n m ≡ true → (here : Here) (rest : List Op) → Fits f here → Well functions f (deeper m here) rest → Well functions f (deeper n here) (op k (deeper n here) rest)
  unfolding is_simple
  simple_well k n m h here rest fits well =
      let a : Bool = is_flat k in let b : Bool = leads k n m in let c : Bool = nat_eq (lists_needed k) 0 in let d : Bool = not (is_some (jump_of k)) in
      let p4 = and_parts (a && b && c && d) (is_free k) h in
      let p3 = and_parts (a && b && c) d p4.0 in
      let p2 = and_parts (a && b) c p3.0 in
      let p1 = and_parts a b p2.0 in
      let none = eqb-true (lists_needed k) 0 p2.1 in
      named_well k n m here rest p1.0 p1.1 (or_none (jump_of k) p3.1) (omega (arith, none)) fits (free_names f.slots here.depth.scopes k p4.1) well

  -- ---- jumps

  jump_same : (k : Kind) (n j : ℕ) (here : Here) → Flat k → operands_taken k ≤ n → arrives k n j ≡ true → Same (deeper j here).depth (depth_at_jump k (deeper n here).depth)
  unfolding arrives
  jump_same k n j here flat takes h =
      let e = on_is n here.depth.operands in let e' = on_is j here.depth.operands in
      let sum = eqb-true (n + operands_at_jump k) (j + operands_taken k) h in
      record {
        operands = omega (arith, e, e', sum, takes);
        scopes = omega (arith, flat.scopes_off);
        lists = omega (arith, flat.lists_off);
        endings = omega (arith, flat.endings_off);
      }

  pub jump_so : (ops : List Op) (at : ℕ) (o : Op) (jump : Option Address) (to : Address) → jump ≡ Some to → carries (op_at ops to.0) (depth_at_jump o.kind o.depth) ≡ true → (nat_lt to.0 at || charges (op_at ops to.0)) ≡ true
      → jump_valid ops at o jump ≡ true
  jump_so ops at o jump to is there back = ap (jump_valid ops at o) is ∙ and_from (carries (op_at ops to.0) (depth_at_jump o.kind o.depth)) (nat_lt to.0 at || charges (op_at ops to.0)) there back

  record Jumps (k : Kind) (n m j : ℕ) : Type 0 where
    flat : is_flat k ≡ true
    leads_so : leads k n m ≡ true
    arrives_so : arrives k n j ≡ true
    free : is_free k ≡ true

  jump_is : (k : Kind) (n m j : ℕ) → is_jump k n m j ≡ true → Jumps k n m j
  unfolding is_jump
  jump_is k n m j h =
      let a : Bool = is_flat k in let b : Bool = leads k n m in let c : Bool = arrives k n j in
      let p3 = and_parts (a && b && c) (is_free k) h in
      let p2 = and_parts (a && b) c p3.0 in
      let p1 = and_parts a b p2.0 in
      record { flat = p1.0; leads_so = p1.1; arrives_so = p2.1; free = p3.1 }

  -- on to something further on
  pub jump_well : (k : Kind) (n m j : ℕ) → is_jump k n m j ≡ true → (count : ℕ) (here : Here) (rest target : List Op) → jump_of k ≡ Some (address target) → lists_needed k ≤ here.depth.lists → Fits f here → Front count rest target
      → Well functions f (deeper m here) rest → Well functions f (deeper j here) target → Well functions f (deeper n here) (op k (deeper n here) rest)
  jump_well k n m j h count here rest target to lists fits front well there ends =
      let o : Op = record { kind = k; depth = (deeper n here).depth; around = here.around } in
      let after = next f.ops o rest ends in let w = well after in
      let at_target : EndsWith f.ops target = behind f.ops front.ops target (after.0, after.1 ∙ ap (λ xs. after.0 ++ xs) front.is) in
      let t = there at_target in
      let parts = jump_is k n m j h in
      let same = jump_same k n j here (flat_is k parts.flat) (leads_is k n m parts.leads_so).takes parts.arrives_so in
      let total : length rest ≡ length front.ops + length target = ap length front.is ∙ length-append front.ops target in
      let less : length target < length rest + 1 = omega (arith, total) in
      step_well k (deeper n here) rest after w.further
      (flat_step k n m here rest parts.flat parts.leads_so lists fits (free_names f.slots here.depth.scopes k parts.free) w.starts
      (jump_so f.ops (length rest + 1) o (jump_of k) (address target) to
      (carries_first f.ops target (depth_at_jump k o.depth) at_target (starts_same target (deeper j here).depth (depth_at_jump k o.depth) same t.starts))
      (or_left (nat_lt (length target) (length rest + 1)) (charges (op_at f.ops (length target))) (lt-ltb (length target) (length rest + 1) less)))) w.valid
