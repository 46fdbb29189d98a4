-- Functions that are made in scopes of their own names.
use Rattle.std.proofs.Common.{◌≡◌, ℕ, ◌-◌, ◌<◌, ◌≤◌, arith, List, [], ◌∷◌, ◌++◌, length, Option, Some, None, Bool, true, false, cond, Result, Ok, Err, slice_get, refl, sym, ap, ◌∙◌, subst}
use Rattle.std.proofs.lemmas.List.{length-map}
use Rattle.std.proofs.lemmas.Bool.{le-ltb, lt-ltb}
use Rattle.std.proofs.lemmas.Option.{slice_get_within}
use Rattle.std.specs.Option.{option_map_or}
use Rattle.std.specs.Prelude.{nat_lt, IfOk, OnOk}
use Rattle.njs_value.specs.declared.ScopeId.{ScopeId}
use Rattle.njs_value.specs.declared.Value.{Value}
use Rattle.njs_value.specs.declared.Value.TheVariants as value
use Rattle.njs_shared.specs.declared.object.Scope.{Scope}
use Rattle.njs_shared.specs.Heap.{Heap, sizes}
use Rattle.njs_clone.specs.Content.{content}
use Rattle.njs_clone.specs.Scopes.{slot_count}
use Rattle.njs_code.specs.Valid.{slots_outwards, closure_slots}
use Rattle.njs_code.specs.declared.op.Kind.TheVariants as kind
use Rattle.njs_code.specs.declared.op.Op.{Op}
use Rattle.njs_code.specs.declared.code.FunctionCode.{FunctionCode}
use Rattle.njs_code.specs.Facts.{Names, HasFunction}
use Rattle.njs_code.specs.Effects.{depth_left, operands_taken, operands_given, scopes_taken, scopes_given, lists_taken, lists_given, endings_taken, endings_given}
use Rattle.njs_shared.specs.Fits.{FitsValue}
use Rattle.njs_text.specs.declared.memory.NoMemory.{NoMemory as Refused}
use Rattle.njs_convert.specs.Tells.{FitsAnswer}
use Rattle.njs_interp.specs.declared.stacks.Stacks.{Stacks}
use Rattle.njs_meaning.specs.Primitives.{Undefined}
use Rattle.njs_meaning.specs.PlainHeap.{Script}
use Rattle.njs_meaning.specs.Values.{PlainValue, Simple, ObjectAt}
use Rattle.njs_meaning.specs.State.{State, Outcome, Gives, Spent, and_then}
use Rattle.njs_meaning.specs.Scopes.{fixed, next_scope, with_variable}
use Rattle.njs_meaning.specs.Replies.{state_of}
use Rattle.njs_meaning.specs.References.{Of}
use Rattle.njs_meaning.specs.Functions.{with_function}
use Rattle.njs_convert.specs.declared.stop.Stop.{Stop}
use Rattle.njs_convert.specs.declared.stop.Stop.TheVariants.{Throw, Fuel, NoMemory}
use Rattle.njs_convert.specs.FirstHeap.{StandsFor, slots_of, nameless}
use Rattle.njs_simul.specs.Stacks as plain
use Rattle.njs_simul.specs.Stacks.{Frame, with_operands}
use Rattle.njs_simul.specs.Step.{Action, Goes, act, finish, on, operands_of}
use Rattle.njs_interp.specs.Plain.{heap_of}
use Rattle.njs_interp.specs.Acts.{SameBeside, OnHeap, Unanswered}
use Rattle.njs_interp.specs.Sits.{HasSlots, SlotsFrom, Sits, Ready}
use Rattle.njs_interp.specs.Outcomes.{Tells, MeansOnHeap}
use Rattle.njs_interp.specs.Making.{made_function, MakesScope}
use Rattle.njs_interp.specs.Closures.{scope_in, scoped, with_name_in, made_named, made_closure, HasName, HasSlotFor, NamesIn, CountedIn, ScopeFor, MakesNamed}
use Rattle.njs_interp.specs.Outcomes.{Pushes, Moves}
use Rattle.njs_interp.specs.Grown.{Widens, Grown}
use Rattle.njs_interp.specs.Tells.{Leaves}
use Rattle.njs_interp.specs.Hosts.{behind_own}
use Rattle.njs_interp.specs.Stepping.{CountsAre}
use Rattle.njs_interp.proofs.Kept.{OnHeap-refl, SlotsFrom-widened, Sits-widened}
use Rattle.njs_interp.proofs.Sitting.{sits-taken, push-leaves}
use Rattle.njs_interp.proofs.Reached.{innermost-from}
use Rattle.njs_interp.proofs.NamedScopes.{last_there}
use Rattle.njs_interp.proofs.Paying.{err_same}

-- ---- the scope

pub own-scope : (h : Heap) (parent : ScopeId) → parent.0 < length h.scopes → ScopeFor None parent h h parent
own-scope h parent within = record {
  within = within;
  slot = tt;
  by = λ s stands. OnHeap-refl h s stands;
  is = λ s stands. refl;
  named = λ s stands. tt;
  from = λ slots scopes from. from;
}

scopes-count : (h : Heap) (s : State) → StandsFor h (heap_of s) → length h.scopes ≡ length s.scopes
scopes-count h s stands = sym (length-map h.scopes (slots_of h.texts)) ∙ ap length stands.scopes ∙ length-map s.scopes nameless

module _ (name : List ℕ) (parent : ScopeId) (h k : Heap) (scope : ScopeId) (last : scope.0 ≡ length h.scopes) (makes : MakesScope parent h k) (kept : (slots : List ℕ) (at : ℕ) → SlotsFrom slots h.scopes at → SlotsFrom slots k.scopes at) where
  abbrev one_slot : Scope
  one_slot = record { parent = Some parent; slots = value.Undefined ∷ [] }

  there : slice_get k.scopes scope.0 ≡ Some one_slot
  there = ap (slice_get k.scopes) last ∙ makes.there

  abbrev has-slot : HasSlots 1 k.scopes scope.0
  has-slot = record { scope = one_slot; there = there; slots = omega arith }

  pub named-scope : ScopeFor (Some name) parent h k scope
  named-scope = record {
    within = slice_get_within k.scopes scope.0 one_slot there;
    slot = subst (λ n. 0 < n) (sym (ap (λ found. option_map_or (λ (s : Scope). length s.slots) found 0) there)) (omega arith);
    by = λ s stands. makes.by name s stands;
    is = λ s stands. ap (λ n. record { 0 = n }) (last ∙ scopes-count h s stands);
    named = λ s stands. (
      Some parent,
      Simple Undefined,
      ap (slice_get (s.scopes ++ record { parent = Some parent; variables = fixed name (Simple Undefined) ∷ [] } ∷ [])) (last ∙ scopes-count h s stands)
          ∙ last_there s.scopes (record { parent = Some parent; variables = fixed name (Simple Undefined) ∷ [] }),
    );
    from = λ slots scopes from. outwards (slots_outwards slots scopes) (kept (slots_outwards slots scopes) parent.0 from);
  }
    where
      outwards : (slots : List ℕ) → SlotsFrom slots k.scopes parent.0 → SlotsFrom (1 ∷ slots) k.scopes scope.0
      outwards [] from = absurd from
      outwards (next ∷ rest) from = (has-slot, parent, refl, from)

-- ---- the function in it

-- the name stays where a function is made
name-stays : (unit number params : ℕ) (made scope : ScopeId) (name : Option (List ℕ)) (s : State) → HasName name scope s → HasName name scope (with_function params (Script unit number made) s)
name-stays unit number params made scope None s has = tt
name-stays unit number params made scope (Some name) s has = has

pub beside-trans : (s t u : State) → SameBeside s t → SameBeside t u → SameBeside s u
beside-trans s t u a b = record {
  response = b.response ∙ a.response;
  zones = b.zones ∙ a.zones;
  asked = b.asked ∙ a.asked;
  log = b.log ∙ a.log;
  ticks = b.ticks ∙ a.ticks;
}

module _ (unit number params : ℕ) (scope : ScopeId) (name : Option (List ℕ)) (h k l : Heap) where
  named-unanswered : (s : State) → Unanswered s (with_name_in name scope (ObjectAt (length s.objects)) (with_function params (Script unit number scope) s))
  named-unanswered s = by name
    where
      by : (name : Option (List ℕ)) → Unanswered s (with_name_in name scope (ObjectAt (length s.objects)) (with_function params (Script unit number scope) s))
      by None = record { zones = refl; asked = refl }
      by (Some name) = record { zones = refl; asked = refl }

  pub unmade : (m : Heap) → MakesNamed unit number params scope name h m (Err NoMemory)
  unmade m = record { by = λ s stands has. named-unanswered s }

  -- where no function was made, there was no memory
  pub not-made : (stop : Stop) (r : Result Value Stop) (m : Heap) → r ≡ Err stop → r ≡ Err NoMemory → MakesNamed unit number params scope name h m (Err stop)
  not-made stop r m is none = subst (λ r. MakesNamed unit number params scope name h m r) (sym none ∙ is) (unmade m)

  -- the name is given to the function that was made
  pub made-named : (v : Value) → MeansOnHeap h k (Ok v) (made_function unit number params scope) → NamesIn name scope v k l → content l.texts v ≡ content k.texts v → MakesNamed unit number params scope name h l (Ok v)
  made-named v means names same = record { by = λ s stands has. told s (means.by s stands) names has }
    where
      told : (s : State) → Tells (OnHeap k s) (Unanswered s) k.texts (Ok v) (made_function unit number params scope s) → NamesIn name scope v k l → HasName name scope s
          → Tells (OnHeap l s) (Unanswered s) l.texts (Ok v) (made_named unit number params scope name s)
      told s tells names has = (same ∙ tells.0, by name names has)
        where
          t : State
          t = with_function params (Script unit number scope) s

          by : (name : Option (List ℕ)) → NamesIn name scope v k l → HasName name scope s → OnHeap l s (with_name_in name scope (ObjectAt (length s.objects)) t)
          by None is has = subst (λ (m : Heap). OnHeap m s t) (sym is) tells.1
          by (Some n) gives has =
              let on = gives.by n has.0 has.1 t tells.1.stands has.2 in
              subst (λ w. OnHeap l s (with_name_in (Some n) scope w t)) tells.0
              (record { stands = on.stands; beside = beside-trans s t (with_name_in (Some n) scope (content k.texts v) t) tells.1.beside on.beside })

-- ---- with the tick that it costs

pub scoped-beside : (name : Option (List ℕ)) (parent : ScopeId) (s : State) → SameBeside s (scoped name parent s)
scoped-beside None parent s = record { response = refl; zones = refl; asked = refl; log = refl; ticks = refl }
scoped-beside (Some name) parent s = record { response = refl; zones = refl; asked = refl; log = refl; ticks = refl }

module _ (unit number params : ℕ) (parent : ScopeId) (name : Option (List ℕ)) (s : State) where
  abbrev chosen : Bool → ScopeId → ℕ → Outcome PlainValue
  chosen b scope left = cond b (Spent (scoped name parent s)) (made_named unit number params scope name (record (scoped name parent s) { ticks = left }))

  pub closure-unanswered : Unanswered s (state_of (made_closure unit number params parent name s))
  closure-unanswered = by (nat_lt s.ticks 1) name
    where
      by : (b : Bool) (name : Option (List ℕ))
          → Unanswered s (state_of (cond b (Spent (scoped name parent s)) (made_named unit number params (scope_in name parent s) name (record (scoped name parent s) { ticks = s.ticks - 1 }))))
      by true None = record { zones = refl; asked = refl }
      by true (Some n) = record { zones = refl; asked = refl }
      by false None = record { zones = refl; asked = refl }
      by false (Some n) = record { zones = refl; asked = refl }

  -- the tick was wanting
  pub closure-spent : (holds stopped : State → Type 0) (texts : List (List ℕ)) (ticks left : ℕ) (stop : Stop) (r : Result (Unit {0}) Stop) → s.ticks ≡ ticks → r ≡ Err stop → (r ≡ Err Fuel) × (ticks < 1) × (left ≡ ticks)
      → holds (scoped name parent s) → Tells holds stopped texts (Err stop) (made_closure unit number params parent name s)
  closure-spent holds stopped texts ticks left (Throw v) r own is err here = let same : Throw v ≡ Fuel = err_same (Throw v) Fuel r (Err Fuel) is refl err.0 in cc
  closure-spent holds stopped texts ticks left NoMemory r own is err here = let same : NoMemory ≡ Fuel = err_same NoMemory Fuel r (Err Fuel) is refl err.0 in cc
  closure-spent holds stopped texts ticks left Fuel r own is err here =
      let short : nat_lt s.ticks 1 ≡ true = lt-ltb s.ticks 1 (omega (arith, err.1, own)) in
      subst (λ b. Tells holds stopped texts (Err Fuel) (chosen b (scope_in name parent s) (s.ticks - 1))) (sym short) here

  -- it was taken
  pub closure-made : (holds stopped : State → Type 0) (texts : List (List ℕ)) (ticks left : ℕ) (scope : ScopeId) (given : Result Value Stop) → s.ticks ≡ ticks → 1 ≤ ticks → left ≡ ticks - 1 → scope ≡ scope_in name parent s
      → Tells holds stopped texts given (made_named unit number params scope name (record (scoped name parent s) { ticks = left })) → Tells holds stopped texts given (made_closure unit number params parent name s)
  closure-made holds stopped texts ticks left scope given own enough is place tells =
      let free : nat_lt s.ticks 1 ≡ false = le-ltb s.ticks 1 (omega (arith, enough, own)) in
      let taken : left ≡ s.ticks - 1 = is ∙ ap (λ t. t - 1) (sym own) in
      subst (λ b. Tells holds stopped texts given (chosen b (scope_in name parent s) (s.ticks - 1))) (sym free)
      (subst (λ t. Tells holds stopped texts given (chosen false (scope_in name parent s) t)) taken
      (subst (λ p. Tells holds stopped texts given (chosen false p left)) place tells))

-- the operation gives it
pub closure_is : (frame : Frame) (code rest : List Op) (number params : ℕ) (name : Option (List ℕ)) (st : plain.Stacks) (s : State)
    → act frame code (kind.Closure number params name) rest st s ≡ finish rest st (made_closure frame.unit number params (record { 0 = plain.inner st.scopes }) name s)
closure_is frame code rest number params name st s = is name ∙ same name (nat_lt s.ticks 1)
  where
    own : ScopeId
    own = record { 0 = plain.inner st.scopes }

    -- with the test of the ticks in place of another
    tested : Option (List ℕ) → Bool → Action
    tested name b =
        on (option_map_or (λ n. and_then (cond b (Spent (scoped (Some n) own s)) (Gives (ObjectAt (length s.objects)) (with_function params (Script frame.unit number (next_scope s)) (record (scoped (Some n) own s) { ticks = s.ticks - 1 }))))
        (λ f t. Gives (Of f) (record t { scopes = with_variable n f t.scopes (length s.scopes) })))
        name (and_then (cond b (Spent s) (Gives (ObjectAt (length s.objects)) (with_function params (Script frame.unit number own) (record s { ticks = s.ticks - 1 })))) (λ f t. Gives (Of f) t)))
        st (λ r t. Goes rest (with_operands st (operands_of r ++ st.operands)) t)

    finished : Option (List ℕ) → Bool → Action
    finished name b = finish rest st (cond b (Spent (scoped name own s)) (made_named frame.unit number params (scope_in name own s) name (record (scoped name own s) { ticks = s.ticks - 1 })))

    same : (name : Option (List ℕ)) (b : Bool) → tested name b ≡ finished name b
    same None true = refl
    same None false = refl
    same (Some n) true = refl
    same (Some n) false = refl

    is : (name : Option (List ℕ)) → act frame code (kind.Closure number params name) rest st s ≡ tested name (nat_lt s.ticks 1)
    is None = refl
    is (Some n) = refl

-- ---- states beside the ticks

pub has-name-paid : (name : Option (List ℕ)) (scope : ScopeId) (s : State) (left : ℕ) → HasName name scope s → HasName name scope (record s { ticks = left })
has-name-paid None scope s left has = tt
has-name-paid (Some name) scope s left has = has

pub scoped-paid : (name : Option (List ℕ)) (parent : ScopeId) (s : State) (left : ℕ) → SameBeside (record s { ticks = left }) (record (scoped name parent s) { ticks = left })
scoped-paid None parent s left = record { response = refl; zones = refl; asked = refl; log = refl; ticks = refl }
scoped-paid (Some name) parent s left = record { response = refl; zones = refl; asked = refl; log = refl; ticks = refl }

-- the ticks that are left are those that were there
pub scoped-unpaid : (name : Option (List ℕ)) (parent : ScopeId) (s : State) (left : ℕ) → left ≡ s.ticks → SameBeside (record s { ticks = left }) (scoped name parent s)
scoped-unpaid None parent s left is = record { response = refl; zones = refl; asked = refl; log = refl; ticks = sym is }
scoped-unpaid (Some name) parent s left is = record { response = refl; zones = refl; asked = refl; log = refl; ticks = sym is }

pub unanswered-beside : (s t u : State) → SameBeside s t → Unanswered t u → Unanswered s u
unanswered-beside s t u beside none = record { zones = none.zones ∙ beside.zones; asked = none.asked ∙ beside.asked }

-- ---- scopes and slots that are there

pub has-slot-kept : (name : Option (List ℕ)) (h k : Heap) (scope : ScopeId) → k.scopes ≡ h.scopes → HasSlotFor name h scope → HasSlotFor name k scope
has-slot-kept None h k scope same has = tt
has-slot-kept (Some name) h k scope same has = subst (λ scopes. 0 < slot_count scopes scope.0) (sym same) has

pub no-scope : (parent : ScopeId) (name : Option (List ℕ)) (h : Heap) → name ≡ None → parent.0 < length h.scopes → ScopeFor name parent h h parent
no-scope parent name h is within = subst (λ (n : Option (List ℕ)). ScopeFor n parent h h parent) (sym is) (own-scope h parent within)

pub scope-answer : (n : List ℕ) (name : Option (List ℕ)) (parent : ScopeId) (h k : Heap) (r : Result ScopeId Refused) → name ≡ Some n → IfOk r (λ scope. scope.0 ≡ length h.scopes) → OnOk r (MakesScope parent h k) → Grown h k → IfOk r (λ scope. ScopeFor name parent h k scope)
scope-answer n name parent h k (Ok scope) is last makes grown =
    subst (λ (m : Option (List ℕ)). ScopeFor m parent h k scope) (sym is) (named-scope n parent h k scope last makes (λ slots at from. SlotsFrom-widened h k grown.widens slots at from))
scope-answer n name parent h k (Err e) is last makes grown = tt

-- the scopes that a closure counts on
pub closure-counted : (functions : List FunctionCode) (f : FunctionCode) (op : Op) (h : Heap) (st : Stacks) (counts : ℕ → ℕ → Option (List ℕ)) (unit number params : ℕ) (name : Option (List ℕ)) (own : ScopeId) (below : List ScopeId)
    → Ready functions f op h st → CountsAre counts unit functions → op.kind ≡ kind.Closure number params name → st.scopes ≡ own ∷ below → CountedIn counts unit number name h.scopes own
unfolding Names
closure-counted functions f op h st counts unit number params name own below ready are is scopes =
    let has : HasFunction functions number (closure_slots f.slots op.depth.scopes name) = subst (Names functions f.slots op.depth.scopes) is ready.names in
    record {
      slots = f.slots;
      count = op.depth.scopes;
      counted = are.each number has.code has.found ∙ ap behind_own has.slots_same;
      there = innermost-from h.scopes f.slots own below st.scopes op.depth.scopes scopes ready.sits.scopes ready.sits.entered;
    }

pub closure-moves : (number params : ℕ) (name : Option (List ℕ)) → Moves (kind.Closure number params name) 0 1
unfolding operands_taken operands_given scopes_taken scopes_given lists_taken lists_given endings_taken endings_given
closure-moves number params name = record { operands_taken = refl; operands_given = refl; scopes_taken = refl; scopes_given = refl; lists_taken = refl; lists_given = refl; endings_taken = refl; endings_given = refl }

pub arguments-moves : Moves kind.Arguments 0 1
unfolding operands_taken operands_given scopes_taken scopes_given lists_taken lists_given endings_taken endings_given
arguments-moves = record { operands_taken = refl; operands_given = refl; scopes_taken = refl; scopes_given = refl; lists_taken = refl; lists_given = refl; endings_taken = refl; endings_given = refl }

-- what stands once the value was put on top
pub given-leaves : (f : FunctionCode) (op : Op) (h k : Heap) (st after : Stacks) (given : Result Value Stop) (r : Result (Unit {0}) Stop)
    → Moves op.kind 0 1 → Widens h k → Sits h f.slots op.depth st → FitsAnswer (FitsValue (sizes k)) (sizes k) given → Pushes given st after r → Leaves f op k after r
given-leaves f op h k st after given r moves widens sits fits pushes =
    push-leaves f op k 0 st after given r moves (Sits-widened h k widens f.slots (depth_left op.kind op.depth) st (sits-taken h f.slots op.kind 0 1 moves op.depth st [] refl sits)) fits pushes
