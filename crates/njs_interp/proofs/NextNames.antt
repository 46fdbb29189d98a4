-- Names that are taken from lists, and lists that are dropped.
use Rattle.std.proofs.Common.{◌≡◌, ℕ, suc, ◌<◌, ◌≤◌, List, [], ◌∷◌, ◌++◌, Result, Ok, Err, Option, Some, length, map, reverse, drop, slice_get, slice_set, length-append, ap, refl, sym, ◌∙◌, subst, arith}
use Rattle.std.proofs.lemmas.List.{reverse-append}
use Rattle.std.specs.List.{AllByRecursion}
use Rattle.njs_value.specs.declared.Value.{Value}
use Rattle.njs_shared.specs.Heap.{Heap, sizes}
use Rattle.njs_shared.specs.Fits.{FitsValue, FitsHeap}
use Rattle.njs_clone.specs.Content.{content}
use Rattle.njs_code.specs.declared.op.Kind.TheVariants as kind
use Rattle.njs_code.specs.declared.op.Op.{Op}
use Rattle.njs_code.specs.declared.code.FunctionCode.{FunctionCode}
use Rattle.njs_code.specs.Effects.{depth_left, depth_next, operands_taken, operands_given, scopes_taken, scopes_given, lists_needed, lists_taken, lists_given, endings_taken, endings_given}
use Rattle.njs_meaning.specs.Values.{PlainValue}
use Rattle.njs_meaning.specs.State.{State}
use Rattle.njs_convert.specs.declared.stop.Stop.{Stop}
use Rattle.njs_convert.specs.declared.stop.Stop.TheVariants.{Throw, Fuel, NoMemory}
use Rattle.njs_convert.specs.FirstHeap.{StandsFor}
use Rattle.njs_members.specs.Gains.{GainsTexts}
use Rattle.njs_simul.specs.Stacks as plain
use Rattle.njs_simul.specs.Stacks.{Frame}
use Rattle.njs_simul.specs.Step.{Goes, act, on_list, next_name}
use Rattle.njs_interp.specs.declared.stacks.Listing.{Listing}
use Rattle.njs_interp.specs.declared.stacks.Stacks.{Stacks}
use Rattle.njs_interp.specs.Plain.{heap_of, plain_listing, plain_stacks}
use Rattle.njs_interp.specs.Sits.{Sits, Ready}
use Rattle.njs_interp.specs.Acts.{OnHeap, Unanswered, Acts}
use Rattle.njs_interp.specs.Tells.{ActsOnHeap, Leaves}
use Rattle.njs_interp.specs.Outcomes.{Pushes, Moves}
use Rattle.njs_interp.specs.NextNames.{named_by, NameTaken}
use Rattle.njs_interp.proofs.Kept.{Widens-Extends, Sits-widened, stacks-widened, OnHeap-refl, Unanswered-refl, all-front}
use Rattle.njs_interp.proofs.Standing.{on-gained}
use Rattle.njs_interp.proofs.Extending.{extends-gained}
use Rattle.njs_interp.proofs.Sitting.{sits-taken, push-leaves}
use Rattle.njs_interp.proofs.Skipping.{Last, last_of, last_set}

pub next_name-moves : Moves kind.NextName 0 1
unfolding operands_taken operands_given scopes_taken scopes_given lists_taken lists_given endings_taken endings_given
next_name-moves = record { operands_taken = refl; operands_given = refl; scopes_taken = refl; scopes_given = refl; lists_taken = refl; lists_given = refl; endings_taken = refl; endings_given = refl }

-- the list on top, with another in its place
pub name-taken : (before after : Stacks) (name : Option (List ℕ)) (n : ℕ) (l m : Listing) → after ≡ record before { lists = after.lists } → length before.lists.items ≡ suc n → slice_get before.lists.items n ≡ Some l
    → after.lists.items ≡ slice_set before.lists.items n m → m.value ≡ l.value → reverse m.names.items ≡ drop 1 (reverse l.names.items) → name ≡ slice_get (reverse l.names.items) 0 → NameTaken before after name
name-taken before after name n l m rest count there set value names next =
    let last : Last before.lists.items n l = last_of n before.lists.items l count there in
    record {
      listing = l;
      left = m;
      below = reverse last.front;
      lists_before = ap reverse last.is ∙ reverse-append last.front (l ∷ []);
      lists_after =
          ap reverse (set ∙ ap (λ ls. slice_set ls n m) last.is ∙ ap (λ k. slice_set (last.front ++ l ∷ []) k m) (sym last.count) ∙ last_set last.front l m)
          ∙ reverse-append last.front (m ∷ []);
      value = value;
      names = names;
      next = next;
      rest = rest;
    }

named-first : (names : List (List ℕ)) → next_name names ≡ named_by (slice_get names 0)
named-first [] = refl
named-first (name ∷ names) = refl

module _ (h k : Heap) (before after : Stacks) (name : Option (List ℕ)) (taken : NameTaken before after name) where
  -- by content
  after-is : (texts : List (List ℕ)) → plain_stacks texts after ≡ record (plain_stacks texts before) { lists = record { value = content texts taken.listing.value; names = drop 1 (reverse taken.listing.names.items) } ∷ map (plain_listing texts) taken.below }
  after-is texts =
      ap (plain_stacks texts) taken.rest
      ∙ ap (λ ls. record (plain_stacks texts before) { lists = map (plain_listing texts) ls }) taken.lists_after
      ∙ ap (λ v. record (plain_stacks texts before) { lists = record { value = content texts v; names = reverse taken.left.names.items } ∷ map (plain_listing texts) taken.below }) taken.value
      ∙ ap (λ ns. record (plain_stacks texts before) { lists = record { value = content texts taken.listing.value; names = ns } ∷ map (plain_listing texts) taken.below }) taken.names

  -- what the operation does
  abbrev with_name : List (List ℕ) → PlainValue → plain.Stacks
  with_name texts v = plain.push v (plain_stacks texts after)

  acts-is : (frame : Frame) (code rest : List Op) (texts : List (List ℕ)) (s : State) → act frame code kind.NextName rest (plain_stacks texts before) s ≡ Goes rest (with_name texts (named_by name)) s
  acts-is frame code rest texts s =
      ap (λ ls. on_list (map (plain_listing texts) ls) (λ l ls. Goes rest (record (plain_stacks texts before) { operands = next_name l.names ∷ (plain_stacks texts before).operands; lists = record l { names = drop 1 l.names } ∷ ls }) s)) taken.lists_before
      ∙ ap (λ (v : PlainValue). Goes rest (plain.push v (record (plain_stacks texts before) { lists = record { value = content texts taken.listing.value; names = drop 1 (reverse taken.listing.names.items) } ∷ map (plain_listing texts) taken.below })) s)
      (named-first (reverse taken.listing.names.items) ∙ ap named_by (sym taken.next))
      ∙ ap (λ (st : plain.Stacks). Goes rest (plain.push (named_by name) st) s) (sym (after-is texts))

  pub next_name-told : (f : FunctionCode) (op : Op) (fits : FitsHeap h) (sits : Sits h f.slots op.depth after) (gains : GainsTexts h k) (v : Value) (last : Stacks) (r : Result (Unit {0}) Stop)
      → content k.texts v ≡ named_by name → Pushes (Ok v) after last r → ActsOnHeap kind.NextName h k before last r
  next_name-told f op fits sits gains v last r shows pushes = record {
    by = λ frame code rest s stands.
        subst (λ a. Acts (OnHeap k s) (Unanswered s) k.texts rest (plain_stacks k.texts last) r a) (sym (acts-is frame code rest h.texts s)) (pushed r pushes rest s stands);
  }
    where
      same : plain_stacks k.texts after ≡ plain_stacks h.texts after
      same = stacks-widened h k (Widens-Extends h k (extends-gained h k gains)) f.slots op.depth after sits

      pushed : (r : Result (Unit {0}) Stop) → Pushes (Ok v) after last r → (rest : List Op) (s : State) → StandsFor h (heap_of s)
          → Acts (OnHeap k s) (Unanswered s) k.texts rest (plain_stacks k.texts last) r (Goes rest (with_name h.texts (named_by name)) s)
      pushed (Ok done) is rest s stands = (
        refl,
        ap (λ (st : plain.Stacks). plain.push (named_by name) st) (sym same) ∙ ap (λ w. plain.push w (plain_stacks k.texts after)) (sym shows) ∙ ap (plain_stacks k.texts) (sym is),
        on-gained h k s fits gains stands,
      )
      pushed (Err (Throw x)) is rest s stands = cc
      pushed (Err Fuel) is rest s stands = cc
      pushed (Err NoMemory) is rest s stands = Unanswered-refl s

  pub next_name-stopped : (last : Stacks) → ActsOnHeap kind.NextName h k before last (Err NoMemory)
  next_name-stopped last = record {
    by = λ frame code rest s stands.
        subst (λ a. Acts (OnHeap k s) (Unanswered s) k.texts rest (plain_stacks k.texts last) (Err NoMemory) a) (sym (acts-is frame code rest h.texts s)) (Unanswered-refl s);
  }

  pub next_name-leaves : (f : FunctionCode) (op : Op) (sits : Sits h f.slots op.depth after) (gains : GainsTexts h k) (v : Value) (last : Stacks) (r : Result (Unit {0}) Stop)
      → op.kind ≡ kind.NextName → FitsValue (sizes k) v → Pushes (Ok v) after last r → Leaves f op k last r
  next_name-leaves f op sits gains v last r is fits pushes =
      let moves : Moves op.kind 0 1 = subst (λ k. Moves k 0 1) (sym is) next_name-moves in
      push-leaves f op k 0 after last (Ok v) r moves
      (Sits-widened h k (Widens-Extends h k (extends-gained h k gains)) f.slots (depth_left op.kind op.depth) after (sits-taken h f.slots op.kind 0 1 moves op.depth after [] refl sits)) fits pushes

-- ---- a list that is dropped

pub list-there : (functions : List FunctionCode) (f : FunctionCode) (op : Op) (h : Heap) (st : Stacks) → op.kind ≡ kind.DropList → Ready functions f op h st → 0 < length st.lists.items
unfolding lists_needed
list-there functions f op h st is ready =
    let enough : lists_needed kind.DropList ≡ 1 = refl in
    omega (arith, enough, subst (λ k. lists_needed k ≤ op.depth.lists) is ready.lists, ready.sits.lists)

module _ (h : Heap) (before after : Stacks) (l : Listing) (rest_is : after ≡ record before { lists = after.lists }) (lists : before.lists.items ≡ after.lists.items ++ l ∷ []) where
  dropped-lists : (texts : List (List ℕ)) → drop 1 (map (plain_listing texts) (reverse before.lists.items)) ≡ map (plain_listing texts) (reverse after.lists.items)
  dropped-lists texts = ap (λ ls. drop 1 (map (plain_listing texts) ls)) (ap reverse lists ∙ reverse-append after.lists.items (l ∷ []))

  pub drop_list-told : ActsOnHeap kind.DropList h h before after (Ok tt)
  drop_list-told = record {
    by = λ frame code rest s stands. (
      refl,
      ap (λ ls. record (plain_stacks h.texts before) { lists = ls }) (dropped-lists h.texts) ∙ sym (ap (plain_stacks h.texts) rest_is),
      OnHeap-refl h s stands,
    );
  }

  pub drop_list-sits : (f : FunctionCode) (op : Op) → op.kind ≡ kind.DropList → Sits h f.slots op.depth before → Sits h f.slots (depth_next op.kind op.depth) after
  unfolding operands_taken scopes_taken lists_taken endings_taken operands_given scopes_given lists_given endings_given
  drop_list-sits f op is sits =
      subst (λ k. Sits h f.slots (depth_next k op.depth) after) (sym is)
      (subst (λ (st : Stacks). Sits h f.slots (depth_next kind.DropList op.depth) st) (sym rest_is) (record {
        operands = omega (arith, sits.operands);
        scopes = omega (arith, sits.scopes);
        lists = omega (arith, ap length lists, length-append after.lists.items (l ∷ []), sits.lists);
        endings = omega (arith, sits.endings);
        values = sits.values;
        listed = all-front (λ (m : Listing). FitsValue (sizes h) m.value) after.lists.items (l ∷ []) (subst (AllByRecursion (λ (m : Listing). FitsValue (sizes h) m.value)) lists sits.listed);
        ended = sits.ended;
        entered = sits.entered;
      }))
