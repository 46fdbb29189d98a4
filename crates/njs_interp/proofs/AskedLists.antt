-- Lists of names that are charged for.
use Rattle.std.proofs.Common.{◌≡◌, ℕ, ◌-◌, ◌<◌, ◌≤◌, List, [], ◌∷◌, length, map, reverse, Bool, true, false, cond, Result, Ok, Err, refl, sym, ap, ◌∙◌, subst, arith, length-append}
use Rattle.std.proofs.lemmas.Bool.{le-ltb, lt-ltb}
use Rattle.std.proofs.lemmas.List.{reverse-append}
use Rattle.std.specs.Prelude.{nat_lt}
use Rattle.std.specs.List.{AllByRecursion}
use Rattle.njs_value.specs.declared.Value.{Value}
use Rattle.njs_shared.specs.Heap.{Heap, sizes}
use Rattle.njs_shared.specs.Fits.{FitsValue}
use Rattle.njs_clone.specs.Content.{content}
use Rattle.njs_code.specs.declared.op.Kind.{Kind}
use Rattle.njs_code.specs.declared.op.Kind.TheVariants as kind
use Rattle.njs_code.specs.declared.op.Op.{Op}
use Rattle.njs_code.specs.declared.code.FunctionCode.{FunctionCode}
use Rattle.njs_code.specs.Effects.{depth_left, depth_next, operands_taken, scopes_taken, lists_taken, endings_taken, operands_given, scopes_given, lists_given, endings_given}
use Rattle.njs_meaning.specs.Values.{PlainValue}
use Rattle.njs_meaning.specs.State.{State, Gives, Spent}
use Rattle.njs_meaning.specs.Running.{charge}
use Rattle.njs_meaning.specs.Members.{names_in}
use Rattle.njs_convert.specs.declared.stop.Stop.{Stop}
use Rattle.njs_convert.specs.declared.stop.Stop.TheVariants.{Throw, Fuel, NoMemory}
use Rattle.njs_simul.specs.Stacks as plain
use Rattle.njs_simul.specs.Step.{Action, Goes, on, act}
use Rattle.njs_interp.specs.declared.stacks.Listing.{Listing}
use Rattle.njs_interp.specs.declared.stacks.Stacks.{Stacks}
use Rattle.njs_interp.specs.Plain.{plain_listing, plain_ending, plain_stacks}
use Rattle.njs_interp.specs.Sits.{Sits, Entered, FitsEnding}
use Rattle.njs_interp.specs.Acts.{Acts, state_in}
use Rattle.njs_interp.specs.Tells.{Leaves}
use Rattle.njs_interp.specs.Operands.{Takes}
use Rattle.njs_interp.specs.Naming.{AddsList}
use Rattle.njs_interp.specs.Asked.{ListAdded}
use Rattle.njs_interp.proofs.Kept.{all-joined}
use Rattle.njs_interp.proofs.Paying.{err_same}
use Rattle.njs_interp.proofs.AskedFinish.{with_taken}

pub list_names_takes : (k : Kind) → k ≡ kind.ListNames → Takes k 1
unfolding operands_taken scopes_taken lists_taken endings_taken
list_names_takes k is = subst (λ k. Takes k 1) (sym is) (record { operands = refl; scopes = refl; lists = refl; endings = refl })

-- it gives a list
record GivesList (k : Kind) : Type 0 where
  operands : operands_given k ≡ 0
  scopes : scopes_given k ≡ 0
  lists : lists_given k ≡ 1
  endings : endings_given k ≡ 0

list_names_gives : (k : Kind) → k ≡ kind.ListNames → GivesList k
unfolding operands_given scopes_given lists_given endings_given
list_names_gives k is = subst GivesList (sym is) (record { operands = refl; scopes = refl; lists = refl; endings = refl })

-- a list more stands
pub list_leaves : (f : FunctionCode) (op : Op) (h : Heap) (before after : Stacks) (l : Listing) → op.kind ≡ kind.ListNames → Sits h f.slots (depth_left op.kind op.depth) before → FitsValue (sizes h) l.value → AddsList l before after
    → Sits h f.slots (depth_next op.kind op.depth) after
list_leaves f op h before after l is sits fits adds =
    let gives = list_names_gives op.kind is in
    record {
      operands = omega (arith, ap length adds.operands, sits.operands, gives.operands);
      scopes = omega (arith, ap length adds.scopes, sits.scopes, gives.scopes);
      lists = omega (arith, ap length adds.lists, length-append before.lists.items (l ∷ []), sits.lists, gives.lists);
      endings = omega (arith, ap length adds.endings, sits.endings, gives.endings);
      values = subst (AllByRecursion (FitsValue (sizes h))) (sym adds.operands) sits.values;
      listed = subst (AllByRecursion (λ (m : Listing). FitsValue (sizes h) m.value)) (sym adds.lists) (all-joined (λ (m : Listing). FitsValue (sizes h) m.value) before.lists.items (l ∷ []) sits.listed (fits, tt));
      ended = subst (AllByRecursion (FitsEnding (sizes h))) (sym adds.endings) sits.ended;
      entered = subst (Entered f.slots h.scopes) (sym adds.scopes) sits.entered;
    }

pub list_left : (f : FunctionCode) (op : Op) (h : Heap) (before after : Stacks) (l : Listing) (r : Result (Unit {0}) Stop) → op.kind ≡ kind.ListNames → Sits h f.slots (depth_left op.kind op.depth) before → FitsValue (sizes h) l.value → ListAdded l before after r
    → Leaves f op h after r
list_left f op h before after l (Ok done) is sits fits added = list_leaves f op h before after l is sits fits added
list_left f op h before after l (Err (Throw w)) is sits fits added = absurd added
list_left f op h before after l (Err Fuel) is sits fits added = tt
list_left f op h before after l (Err NoMemory) is sits fits added = tt

-- what stands with the list, by content
abbrev pub with_list : List (List ℕ) → Stacks → PlainValue → List (List ℕ) → plain.Stacks
with_list texts before v names = record (plain_stacks texts before) { lists = record { value = v; names = names } ∷ (plain_stacks texts before).lists }

list_shows : (texts : List (List ℕ)) (before after : Stacks) (l : Listing) (v : PlainValue) (names : List (List ℕ)) → AddsList l before after → content texts l.value ≡ v → reverse l.names.items ≡ names → with_list texts before v names ≡ plain_stacks texts after
list_shows texts before after l v names adds value named =
    let lists : record { value = v; names = names } ∷ map (plain_listing texts) (reverse before.lists.items) ≡ map (plain_listing texts) (reverse after.lists.items) =
    ap (λ w. record { value = w; names = names } ∷ map (plain_listing texts) (reverse before.lists.items)) (sym value)
    ∙ ap (λ ns. record { value = content texts l.value; names = ns } ∷ map (plain_listing texts) (reverse before.lists.items)) (sym named)
    ∙ ap (map (plain_listing texts)) (sym (reverse-append before.lists.items (l ∷ [])) ∙ ap reverse (sym adds.lists))
    in
    ap (λ (ls : List plain.Listing). record (plain_stacks texts before) { lists = ls }) lists
    ∙ ap (λ vs. record (plain_stacks texts before) { operands = map (content texts) vs; lists = map (plain_listing texts) (reverse after.lists.items) }) (sym adds.operands)
    ∙ ap (λ ss. record (plain_stacks texts before) { operands = map (content texts) after.operands; scopes = map (λ s. s.0) ss; lists = map (plain_listing texts) (reverse after.lists.items) }) (sym adds.scopes)
    ∙ ap (λ es. record (plain_stacks texts after) { endings = map (plain_ending texts) es }) (sym adds.endings)

-- what the operation does, with the operand that it takes
abbrev pub listed : (texts : List (List ℕ)) (before : Stacks) (v : PlainValue) (rest : List Op) (st : plain.Stacks) (n : ℕ) (names : List (List ℕ)) → State → Action
listed texts before v rest st n names s = on (charge n (Gives names) s) st (λ ns t. Goes rest (with_list texts before v ns) t)

pub list_is : (frame : plain.Frame) (code rest : List Op) (texts : List (List ℕ)) (before : Stacks) (v : Value) (s : State)
    → act frame code kind.ListNames rest (with_taken texts before (v ∷ [])) s
    ≡ listed texts before (content texts v) rest (with_taken texts before (v ∷ [])) (length (names_in (content texts v) s.objects)) (names_in (content texts v) s.objects) s
list_is frame code rest texts before v s = refl

module _ (texts : List (List ℕ)) (before : Stacks) (v : PlainValue) (rest : List Op) (st : plain.Stacks) (n : ℕ) (names : List (List ℕ)) (s : State) where
  abbrev charged : Bool → Action
  charged b = on (cond b (Spent s) (Gives names (record s { ticks = s.ticks - n }))) st (λ ns t. Goes rest (with_list texts before v ns) t)

  -- no memory for the names
  pub list_unlisted : (stopped : State → Type 0) (same : (s t : State) → t.zones ≡ s.zones → t.asked ≡ s.asked → stopped s → stopped t) → stopped s → state_in (listed texts before v rest st n names s) stopped
  list_unlisted stopped same here = elim (nat_lt s.ticks n) as (λ b. state_in (charged b) stopped) [ true ↦ here | false ↦ same s (record s { ticks = s.ticks - n }) refl refl here ]

  -- the ticks are spent
  pub list_spent : (holds stopped : State → Type 0) (after : plain.Stacks) (ticks left : ℕ) (stop : Stop) → s.ticks ≡ ticks → (r : Result (Unit {0}) Stop) → r ≡ Err stop → (r ≡ Err Fuel) × (ticks < n) × (left ≡ ticks) → holds (record s { ticks = left })
      → Acts holds stopped texts rest after (Err stop) (listed texts before v rest st n names s)
  list_spent holds stopped after ticks left (Throw w) own r is err here = let same : Throw w ≡ Fuel = err_same (Throw w) Fuel r (Err Fuel) is refl err.0 in cc
  list_spent holds stopped after ticks left NoMemory own r is err here = let same : NoMemory ≡ Fuel = err_same NoMemory Fuel r (Err Fuel) is refl err.0 in cc
  list_spent holds stopped after ticks left Fuel own r is err here =
      let short : nat_lt s.ticks n ≡ true = lt-ltb s.ticks n (omega (arith, err.1, own)) in
      let kept : left ≡ s.ticks = err.2 ∙ sym own in
      subst (λ b. Acts holds stopped texts rest after (Err Fuel) (charged b)) (sym short) (subst (λ t. holds (record s { ticks = t })) kept here)

  -- the list is put on top
  pub list_added : (holds stopped : State → Type 0) (after : Stacks) (l : Listing) (ticks left : ℕ) (r : Result (Unit {0}) Stop) → s.ticks ≡ ticks → n ≤ ticks → left ≡ ticks - n → content texts l.value ≡ v → reverse l.names.items ≡ names → ListAdded l before after r
      → holds (record s { ticks = left }) → stopped (record s { ticks = left }) → Acts holds stopped texts rest (plain_stacks texts after) r (listed texts before v rest st n names s)
  list_added holds stopped after l ticks left r own enough is value named added here there =
      let free : nat_lt s.ticks n ≡ false = le-ltb s.ticks n (omega (arith, enough, own)) in
      let taken : left ≡ s.ticks - n = is ∙ ap (λ t. t - n) (sym own) in
      subst (λ b. Acts holds stopped texts rest (plain_stacks texts after) r (charged b)) (sym free)
      (subst (λ t. Acts holds stopped texts rest (plain_stacks texts after) r (Goes rest (with_list texts before v names) (record s { ticks = t }))) taken (ended r added))
    where
      ended : (r : Result (Unit {0}) Stop) → ListAdded l before after r → Acts holds stopped texts rest (plain_stacks texts after) r (Goes rest (with_list texts before v names) (record s { ticks = left }))
      ended (Ok done) added = (refl, list_shows texts before after l v names added value named, here)
      ended (Err (Throw w)) added = absurd added
      ended (Err Fuel) added = absurd added
      ended (Err NoMemory) added = there
