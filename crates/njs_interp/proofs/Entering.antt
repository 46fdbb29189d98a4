-- Scopes that are entered.
use Rattle.std.proofs.Common.{◌≡◌, ℕ, suc, ◌+◌, ◌-◌, ◌<◌, List, [], ◌∷◌, ◌++◌, length, map, replicate, Option, Some, Ok, Err, slice_get, slice_set, ap, refl, sym, ◌∙◌, subst, arith, length-append}
use Rattle.std.specs.Option.{option_map_or}
use Rattle.std.proofs.lemmas.List.{append-nil, length-map, map-append}
use Rattle.std.proofs.lemmas.Option.{slice_get_within}
use Rattle.njs_value.specs.declared.ScopeId.{ScopeId}
use Rattle.njs_value.specs.declared.Value.{Value}
use Rattle.njs_value.specs.declared.Value.TheVariants.{Undefined}
use Rattle.njs_shared.specs.declared.object.Scope.{Scope}
use Rattle.njs_shared.specs.Heap.{Heap}
use Rattle.njs_clone.specs.Content.{content}
use Rattle.njs_clone.specs.Scopes.{slot_count, with_slot, with_new_scope}
use Rattle.njs_code.specs.declared.op.Kind.{Kind}
use Rattle.njs_code.specs.declared.op.Kind.TheVariants as kind
use Rattle.njs_code.specs.declared.op.Op.{Op}
use Rattle.njs_code.specs.declared.code.FunctionCode.{FunctionCode}
use Rattle.njs_code.specs.Effects.{depth_left, depth_next, operands_taken, scopes_taken, lists_taken, endings_taken, operands_given, scopes_given, lists_given, endings_given}
use Rattle.njs_code.specs.Valid.{slots_outwards}
use Rattle.njs_meaning.specs.Scopes.{bound, with_scope}
use Rattle.njs_meaning.specs.State.{State}
use Rattle.njs_convert.specs.declared.stop.Stop.TheVariants.{NoMemory}
use Rattle.njs_convert.specs.FirstHeap.{slots_of, nameless}
use Rattle.njs_simul.specs.Stacks.{Frame, inner}
use Rattle.njs_simul.specs.Step.{Action, Goes, act}
use Rattle.njs_simul.proofs.Kept.{pushed_last}
use Rattle.njs_interp.specs.declared.stacks.Stacks.{Stacks}
use Rattle.njs_interp.specs.Plain.{number_of, plain_stacks}
use Rattle.njs_interp.specs.Sits.{HasSlots, SlotsFrom, Entered, Sits}
use Rattle.njs_interp.specs.Acts.{OnHeap, Unanswered, Acts, state_in}
use Rattle.njs_interp.specs.Grown.{Grown}
use Rattle.njs_interp.specs.Tells.{ActsOnHeap}
use Rattle.njs_interp.specs.Operands.{Takes}
use Rattle.njs_interp.proofs.Kept.{front-at, Sits-widened}
use Rattle.njs_interp.proofs.Reached.{innermost-from}

pub enter_takes : (name : List ℕ) (k : Kind) → k ≡ kind.Enter name → Takes k 1
unfolding operands_taken scopes_taken lists_taken endings_taken
enter_takes name k is = subst (λ k. Takes k 1) (sym is) (record { operands = refl; scopes = refl; lists = refl; endings = refl })

pub push_set : {A : Type 0} (xs : List A) (x y : A) → slice_set (xs ++ x ∷ []) (length xs) y ≡ xs ++ y ∷ []
push_set [] x y = refl
push_set (z ∷ xs) x y = ap (λ l. z ∷ l) (push_set xs x y)

-- a further scope
pub Grown-scope : (h k : Heap) (s : Scope) → k ≡ record h { scopes = h.scopes ++ s ∷ [] } → Grown h k
Grown-scope h k s is = subst (Grown h) (sym is) (record {
  widens = record {
    scopes = λ at scope there. record { now = scope; there = front-at h.scopes (s ∷ []) at scope there; parent = refl; slots = refl };
    objects = λ at object there. record { now = object; there = there; inner = refl };
    more = [];
    texts = sym (append-nil h.texts);
  };
  fresh = λ at object there far. absurd (omega (arith, far, slice_get_within h.objects at object there));
})

abbrev pub made : ScopeId → Scope
made parent = record { parent = Some parent; slots = Undefined ∷ [] }

module _ (old mid : Heap) (parent : ScopeId) (is : mid ≡ record old { scopes = with_new_scope (Some parent) 1 old.scopes }) where
  pub mid-grown : Grown old mid
  mid-grown = Grown-scope old mid (made parent) is

  pub mid-within : (at : ℕ) → at ≡ length old.scopes → at < length mid.scopes
  mid-within at place = omega (arith, place, ap (λ (h : Heap). length h.scopes) is, length-append old.scopes (made parent ∷ []))

  mid_scope : slice_get mid.scopes (length old.scopes) ≡ Some (made parent)
  mid_scope = ap (λ (h : Heap). slice_get h.scopes (length old.scopes)) is ∙ pushed_last old.scopes (made parent)

  pub mid-slot : (at : ℕ) → at ≡ length old.scopes → 0 < slot_count mid.scopes at
  mid-slot at place =
      let count : slot_count mid.scopes at ≡ 1 = ap (slot_count mid.scopes) place ∙ ap (λ (found : Option Scope). option_map_or (λ (s : Scope). length s.slots) found 0) mid_scope in
      omega (arith, count)

  pub mid-set : (new : Heap) (at : ℕ) (v : Value) → at ≡ length old.scopes → new ≡ record mid { scopes = with_slot at 0 v mid.scopes }
      → new ≡ record old { scopes = old.scopes ++ record { parent = Some parent; slots = v ∷ [] } ∷ [] }
  mid-set new at v place put =
      let set : with_slot at 0 v mid.scopes ≡ old.scopes ++ record { parent = Some parent; slots = v ∷ [] } ∷ [] =
      ap (λ k. with_slot k 0 v mid.scopes) place
      ∙ ap (λ (found : Option Scope). option_map_or (λ (s : Scope). slice_set mid.scopes (length old.scopes) (record s { slots = slice_set s.slots 0 v })) found mid.scopes) mid_scope
      ∙ ap (λ (h : Heap). slice_set h.scopes (length old.scopes) (record { parent = Some parent; slots = v ∷ [] })) is
      ∙ push_set old.scopes (made parent) (record { parent = Some parent; slots = v ∷ [] })
      in
      put ∙ ap (λ (h : Heap). record h { scopes = with_slot at 0 v mid.scopes }) is ∙ ap (λ (ss : List Scope). record old { scopes = ss }) set

-- ---- what is told

from_behind : (tail : List ℕ) (scopes : List Scope) (at : ℕ) (has : HasSlots 1 scopes at) (up : ScopeId) → has.scope.parent ≡ Some up → SlotsFrom tail scopes up.0 → SlotsFrom (1 ∷ tail) scopes at
from_behind [] scopes at has up parent from = absurd from
from_behind (next ∷ rest) scopes at has up parent from = (has, up, parent, from)

module _ (name : List ℕ) (old new : Heap) (before st : Stacks) (v : Value) (own : ScopeId) (below : List ScopeId) (is : before ≡ record st { operands = v ∷ st.operands }) (scopes : st.scopes ≡ own ∷ below) where
  abbrev goes : (frame : Frame) (code rest : List Op) (s : State) → Action
  goes frame code rest s =
      Goes rest (record (plain_stacks old.texts st) { scopes = length s.scopes ∷ map number_of st.scopes })
      (with_scope (record { 0 = inner (map number_of st.scopes) }) (bound name (content old.texts v) ∷ []) s)

  acts : (frame : Frame) (code rest : List Op) (s : State) → act frame code (kind.Enter name) rest (plain_stacks old.texts before) s ≡ goes frame code rest s
  acts frame code rest s = ap (λ (b : Stacks). act frame code (kind.Enter name) rest (plain_stacks old.texts b) s) is

  pub enter-told : (scope : ScopeId) (ss : List ScopeId) → scope.0 ≡ length old.scopes → new ≡ record old { scopes = old.scopes ++ record { parent = Some own; slots = v ∷ [] } ∷ [] } → ss ≡ scope ∷ st.scopes
      → ActsOnHeap (kind.Enter name) old new before (record st { scopes = ss }) (Ok tt)
  enter-told scope ss place made more = record {
    by = λ frame code rest s stands.
        let count : length s.scopes ≡ scope.0 = sym (length-map s.scopes nameless) ∙ sym (ap length stands.scopes) ∙ length-map old.scopes (slots_of old.texts) ∙ sym place in
        let parent : inner (map number_of st.scopes) ≡ own.0 = ap (λ (l : List ScopeId). inner (map number_of l)) scopes in
        let texts : old.texts ≡ new.texts = sym (ap (λ (h : Heap). h.texts) made) in
        let after : record (plain_stacks old.texts st) { scopes = length s.scopes ∷ map number_of st.scopes } ≡ plain_stacks new.texts (record st { scopes = ss }) =
        ap (λ n. record (plain_stacks old.texts st) { scopes = n ∷ map number_of st.scopes }) count
        ∙ ap (λ (l : List ScopeId). record (plain_stacks old.texts st) { scopes = map number_of l }) (sym more)
        ∙ ap (λ ts. plain_stacks ts (record st { scopes = ss })) texts
        in
        let slots : map (slots_of old.texts) (old.scopes ++ record { parent = Some own; slots = v ∷ [] } ∷ []) ≡ map nameless (s.scopes ++ record { parent = Some (record { 0 = inner (map number_of st.scopes) }); variables = bound name (content old.texts v) ∷ [] } ∷ []) =
        map-append (slots_of old.texts) old.scopes (record { parent = Some own; slots = v ∷ [] } ∷ [])
        ∙ ap (λ l. l ++ (Some own, content old.texts v ∷ []) ∷ []) stands.scopes
        ∙ ap (λ (n : ℕ). map nameless s.scopes ++ (Some (record { 0 = n }), content old.texts v ∷ []) ∷ []) (sym parent)
        ∙ sym (map-append nameless s.scopes (record { parent = Some (record { 0 = inner (map number_of st.scopes) }); variables = bound name (content old.texts v) ∷ [] } ∷ []))
        in
        subst (λ a. Acts (OnHeap new s) (Unanswered s) new.texts rest (plain_stacks new.texts (record st { scopes = ss })) (Ok tt) a) (sym (acts frame code rest s)) (
          refl,
          after,
          subst (λ h. OnHeap h s (with_scope (record { 0 = inner (map number_of st.scopes) }) (bound name (content old.texts v) ∷ []) s)) (sym made)
              (record { stands = record { objects = stands.objects; scopes = slots }; beside = record { response = refl; zones = refl; asked = refl; log = refl; ticks = refl } }),
        );
  }

  pub enter-stopped : (after : Stacks) → ActsOnHeap (kind.Enter name) old new before after (Err NoMemory)
  enter-stopped after = record { by = λ frame code rest s stands. subst (λ a. state_in a (Unanswered s)) (sym (acts frame code rest s)) (record { zones = refl; asked = refl }) }

pub enter-sits : (f : FunctionCode) (op : Op) (name : List ℕ) (old new : Heap) (st : Stacks) (v : Value) (own : ScopeId) (below : List ScopeId) (scope : ScopeId) (ss : List ScopeId)
    → op.kind ≡ kind.Enter name → st.scopes ≡ own ∷ below → scope.0 ≡ length old.scopes → new ≡ record old { scopes = old.scopes ++ record { parent = Some own; slots = v ∷ [] } ∷ [] } → ss ≡ scope ∷ st.scopes
    → Sits old f.slots (depth_left op.kind op.depth) st → Sits new f.slots (depth_next op.kind op.depth) (record st { scopes = ss })
unfolding operands_taken scopes_taken lists_taken endings_taken operands_given scopes_given lists_given endings_given
enter-sits f op name old new st v own below scope ss is scopes place made more sits =
    let at : Sits old f.slots (depth_left (kind.Enter name) op.depth) st = subst (λ k. Sits old f.slots (depth_left k op.depth) st) is sits in
    let wide = Sits-widened old new (Grown-scope old new (record { parent = Some own; slots = v ∷ [] }) made).widens f.slots (depth_left (kind.Enter name) op.depth) st at in
    let there : slice_get new.scopes scope.0 ≡ Some (record { parent = Some own; slots = v ∷ [] }) =
    ap (slice_get new.scopes) place ∙ ap (λ (h : Heap). slice_get h.scopes (length old.scopes)) made ∙ pushed_last old.scopes (record { parent = Some own; slots = v ∷ [] })
    in
    let behind : SlotsFrom (slots_outwards f.slots (length (own ∷ below))) new.scopes own.0 =
    innermost-from new.scopes f.slots own below (own ∷ below) (length (own ∷ below)) refl refl (subst (Entered f.slots new.scopes) scopes wide.entered)
    in
    let first : SlotsFrom (1 ∷ slots_outwards f.slots (length (own ∷ below))) new.scopes scope.0 =
    from_behind (slots_outwards f.slots (length (own ∷ below))) new.scopes scope.0 (record { scope = record { parent = Some own; slots = v ∷ [] }; there = there; slots = omega arith }) own refl behind
    in
    let count : suc (length (own ∷ below) - 1) ≡ length below + 1 = omega arith in
    let all : Entered f.slots new.scopes (scope ∷ (own ∷ below)) =
    (subst (λ n. SlotsFrom (replicate n 1 ++ f.slots) new.scopes scope.0) count first, subst (Entered f.slots new.scopes) scopes wide.entered)
    in
    subst (λ k. Sits new f.slots (depth_next k op.depth) (record st { scopes = ss })) (sym is) (record {
      operands = omega (arith, wide.operands);
      scopes = omega (arith, wide.scopes, ap length more);
      lists = omega (arith, wide.lists);
      endings = omega (arith, wide.endings);
      values = wide.values;
      listed = wide.listed;
      ended = wide.ended;
      entered = subst (Entered f.slots new.scopes) (sym (more ∙ ap (λ l. scope ∷ l) scopes)) all;
    })
