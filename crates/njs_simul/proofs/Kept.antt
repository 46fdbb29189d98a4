-- What single steps leave of what the code counts on: each scope keeps its names, and each function stands in scopes with the names around it.
use Rattle.std.proofs.Common.{◌≡◌, ℕ, zero, suc, ◌-◌, ◌≤◌, ◌⊎◌, inl, inr, List, [], ◌∷◌, ◌++◌, length, Option, Some, None, Bool, true, false, refl, sym, ap, ◌∙◌, subst, arith, slice_get, slice_set, nat_lt, if◌then◌else◌}
use Rattle.std.proofs.lemmas.Option.{slice_get_within}
use Rattle.std.specs.Option.{option_map_or}
use Rattle.njs_value.specs.declared.Cause.{Cause}
use Rattle.njs_value.specs.declared.ScopeId.{ScopeId}
use Rattle.njs_value.specs.declared.TextId.{TextId}
use Rattle.njs_props.specs.Names.{same_name}
use Rattle.njs_meaning.specs.Values.{PlainValue}
use Rattle.njs_meaning.specs.PlainHeap.{PlainObject, PlainScope, PlainInner, Plain, Script, BuiltIn, Bound, ZoneNumber, Variable}
use Rattle.njs_meaning.specs.Places.{Bindings, Around, bindings_of}
use Rattle.njs_meaning.specs.Properties.{Properties, Change}
use Rattle.njs_meaning.specs.Objects.{with_props}
use Rattle.njs_meaning.specs.State.{State, Outcome, Gives, Throws, Spent, Asks, and_then}
use Rattle.njs_meaning.specs.Errors.{throw, throw_with}
use Rattle.njs_meaning.specs.Running.{charge, choose, changed, with_object, throw_not_defined}
use Rattle.njs_meaning.specs.Scopes.{with_value, with_variable, next_scope, with_scope}
use Rattle.njs_simul.specs.Step.{with_slot_value, in_slot}
use Rattle.njs_simul.specs.Fits.{Scoped, Names, FitsInner, Good, SameScope, Keeps, Fares, Fared}

-- ---- lists

module _ {X : Type 0} where
  -- what stands before the last
  pub pushed_before : (xs ys : List X) (at : ℕ) (x : X) → slice_get xs at ≡ Some x → slice_get (xs ++ ys) at ≡ Some x
  pushed_before [] ys at x there = cc
  pushed_before (z ∷ xs) ys zero x there = there
  pushed_before (z ∷ xs) ys (suc at) x there = pushed_before xs ys at x there

  -- the last
  pub pushed_last : (xs : List X) (x : X) → slice_get (xs ++ x ∷ []) (length xs) ≡ Some x
  pushed_last [] x = refl
  pushed_last (z ∷ xs) x = pushed_last xs x

  pub pushed : (xs : List X) (x y : X) (at : ℕ) → slice_get (xs ++ x ∷ []) at ≡ Some y → (slice_get xs at ≡ Some y) ⊎ (x ≡ y)
  pushed [] x y zero there = inr (cc)
  pushed [] x y (suc at) there = cc
  pushed (z ∷ xs) x y zero there = inl there
  pushed (z ∷ xs) x y (suc at) there = pushed xs x y at there

  -- where one is set, what is found was there, or stands in its place
  pub set_found : (xs : List X) (at place : ℕ) (old new x : X) → slice_get xs at ≡ Some old → slice_get (slice_set xs at new) place ≡ Some x
      → (slice_get xs place ≡ Some x) ⊎ ((slice_get xs place ≡ Some old) × (new ≡ x))
  set_found [] at place old new x is there = cc
  set_found (z ∷ xs) zero zero old new x is there = inr (is, cc)
  set_found (z ∷ xs) zero (suc place) old new x is there = inl there
  set_found (z ∷ xs) (suc at) zero old new x is there = inl there
  set_found (z ∷ xs) (suc at) (suc place) old new x is there = set_found xs at place old new x is there

  -- and what was there stays, or has it in its place
  pub set_kept : (xs : List X) (at place : ℕ) (old new x : X) → slice_get xs at ≡ Some old → slice_get xs place ≡ Some x
      → (slice_get (slice_set xs at new) place ≡ Some x) ⊎ ((slice_get (slice_set xs at new) place ≡ Some new) × (old ≡ x))
  set_kept [] at place old new x is there = cc
  set_kept (z ∷ xs) zero zero old new x is there = inr (refl, cc)
  set_kept (z ∷ xs) zero (suc place) old new x is there = inl there
  set_kept (z ∷ xs) (suc at) zero old new x is there = inl there
  set_kept (z ∷ xs) (suc at) (suc place) old new x is there = set_kept xs at place old new x is there

-- ---- scopes that are kept

pub same_scope : (scopes : List PlainScope) (at : ℕ) (scope : PlainScope) → slice_get scopes at ≡ Some scope → SameScope scope scopes at
same_scope scopes at scope there = record { now = scope; there = there; names = refl; parent = refl }

pub keeps_same : (s t : State) → t.scopes ≡ s.scopes → t.ticks ≤ s.ticks → Keeps s t
keeps_same s t same fewer = record {
  scopes = λ at scope there. same_scope t.scopes at scope (ap (λ scopes. slice_get scopes at) same ∙ there);
  ticks = fewer;
}

pub keeps_refl : (s : State) → Keeps s s
keeps_refl s = keeps_same s s refl (omega arith)

pub keeps_trans : {s t u : State} → Keeps s t → Keeps t u → Keeps s u
keeps_trans {s} {t} {u} k l = record {
  scopes = λ at scope there.
      let a = k.scopes at scope there in
      let b = l.scopes at a.now a.there in
      record { now = b.now; there = b.there; names = b.names ∙ a.names; parent = b.parent ∙ a.parent };
  ticks = omega (arith, k.ticks, l.ticks);
}

pub scoped_keeps : {s t : State} (around : Around) (at : ℕ) → Scoped around s.scopes at → Keeps s t → Scoped around t.scopes at
scoped_keeps {s} {t} [] at h k = h
scoped_keeps {s} {t} (names ∷ []) at h k =
    let a = k.scopes at h.1.scope h.1.there in
    (h.0, record { scope = a.now; there = a.there; names = a.names ∙ h.1.names }, a.parent ∙ h.2)
scoped_keeps {s} {t} (names ∷ (next ∷ rest)) at h k =
    let a = k.scopes at h.0.scope h.0.there in
    (record { scope = a.now; there = a.there; names = a.names ∙ h.0.names }, h.1, a.parent ∙ h.2, h.3, scoped_keeps (next ∷ rest) h.1.0 h.4 k)

-- a scope more
pub keeps_scope : (parent : ScopeId) (variables : List Variable) (s : State) → Keeps s (with_scope parent variables s)
keeps_scope parent variables s = record {
  scopes = λ at scope there. record { now = scope; there = pushed_before s.scopes _ at scope there; names = refl; parent = refl };
  ticks = omega arith;
}

-- the new scope stands below its parent
pub scoped_inner : (around : Around) (bindings : Bindings) (parent : ScopeId) (variables : List Variable) (s : State) → bindings_of variables ≡ bindings
    → Scoped around s.scopes parent.0 → Scoped (bindings ∷ around) (with_scope parent variables s).scopes (next_scope s).0
scoped_inner [] bindings parent variables s same h = absurd h
scoped_inner (names ∷ []) bindings parent variables s same h = (
  record { scope = record { parent = Some parent; variables = variables }; there = pushed_last s.scopes _; names = same },
  parent,
  refl,
  slice_get_within s.scopes parent.0 h.1.scope h.1.there,
  scoped_keeps (names ∷ []) parent.0 h (keeps_scope parent variables s),
)
scoped_inner (names ∷ (next ∷ rest)) bindings parent variables s same h = (
  record { scope = record { parent = Some parent; variables = variables }; there = pushed_last s.scopes _; names = same },
  parent,
  refl,
  slice_get_within s.scopes parent.0 h.0.scope h.0.there,
  scoped_keeps (names ∷ (next ∷ rest)) parent.0 h (keeps_scope parent variables s),
)

-- a scope with other values for its names
pub keeps_set : (s : State) (at : ℕ) (old : PlainScope) (variables : List Variable) → slice_get s.scopes at ≡ Some old → bindings_of variables ≡ bindings_of old.variables
    → Keeps s (record s { scopes = slice_set s.scopes at (record old { variables = variables }) })
keeps_set s at old variables is same = record {
  scopes = λ place scope there. elim (set_kept s.scopes at place old (record old { variables = variables }) scope is there) [
    | inl stays ↦ record { now = scope; there = stays; names = refl; parent = refl }
    | inr here ↦ record {
      now = record old { variables = variables };
      there = here.0;
      names = same ∙ ap (λ (scope : PlainScope). bindings_of scope.variables) here.1;
      parent = ap (λ (scope : PlainScope). scope.parent) here.1;
    }
  ];
  ticks = omega arith;
}

-- a value for a name
name_kept : (b : Bool) (v : Variable) (value : PlainValue) (vs ws : List Variable) → bindings_of ws ≡ bindings_of vs
    → bindings_of (if b then record v { value = value } ∷ vs else v ∷ ws) ≡ bindings_of (v ∷ vs)
name_kept true v value vs ws same = refl
name_kept false v value vs ws same = ap (λ bs. (v.name, v.assignable) ∷ bs) same

pub value_kept : (name : List ℕ) (value : PlainValue) (vs : List Variable) → bindings_of (with_value name value vs) ≡ bindings_of vs
value_kept name value [] = refl
value_kept name value (v ∷ vs) = name_kept (same_name name v.name) v value vs (with_value name value vs) (value_kept name value vs)

pub keeps_variable : (name : List ℕ) (value : PlainValue) (s : State) (at : ℕ) → Keeps s (record s { scopes = with_variable name value s.scopes at })
keeps_variable name value s at = go (slice_get s.scopes at) refl
  where
    go : (q : Option PlainScope) → slice_get s.scopes at ≡ q
        → Keeps s (record s { scopes = option_map_or (λ scope. slice_set s.scopes at (record scope { variables = with_value name value scope.variables })) q s.scopes })
    go None is = keeps_refl s
    go (Some scope) is = keeps_set s at scope (with_value name value scope.variables) is (value_kept name value scope.variables)

-- a value in a slot
entry_kept : (vs : List Variable) (slot : ℕ) (v w : Variable) → slice_get vs slot ≡ Some v → w.name ≡ v.name → w.assignable ≡ v.assignable
    → bindings_of (slice_set vs slot w) ≡ bindings_of vs
entry_kept [] slot v w is name flag = refl
entry_kept (z ∷ vs) zero v w is name flag =
    let same : z ≡ v = cc in
    ap (λ n. (n, w.assignable) ∷ bindings_of vs) (name ∙ ap (λ (v : Variable). v.name) (sym same))
    ∙ ap (λ b. (z.name, b) ∷ bindings_of vs) (flag ∙ ap (λ (v : Variable). v.assignable) (sym same))
entry_kept (z ∷ vs) (suc slot) v w is name flag = ap (λ bs. (z.name, z.assignable) ∷ bs) (entry_kept vs slot v w is name flag)

pub slot_kept : (slot : ℕ) (value : PlainValue) (vs : List Variable) → bindings_of (with_slot_value slot value vs) ≡ bindings_of vs
slot_kept slot value vs = go (slice_get vs slot) refl
  where
    go : (q : Option Variable) → slice_get vs slot ≡ q → bindings_of (option_map_or (λ v. slice_set vs slot (record v { value = value })) q vs) ≡ bindings_of vs
    go None is = refl
    go (Some v) is = entry_kept vs slot v (record v { value = value }) is refl refl

pub keeps_slot : (at slot : ℕ) (value : PlainValue) (s : State) → Keeps s (in_slot at slot value s)
keeps_slot at slot value s = go (slice_get s.scopes at) refl
  where
    go : (q : Option PlainScope) → slice_get s.scopes at ≡ q
        → Keeps s (record s { scopes = option_map_or (λ scope. slice_set s.scopes at (record scope { variables = with_slot_value slot value scope.variables })) q s.scopes })
    go None is = keeps_refl s
    go (Some scope) is = keeps_set s at scope (with_slot_value slot value scope.variables) is (slot_kept slot value scope.variables)

-- ---- objects whose properties change alone

pub inner_kept : (objects : List PlainObject) (at : ℕ) (props : Properties PlainValue) (place : ℕ) (o : PlainObject) → slice_get (with_props objects at props) place ≡ Some o
    → (p : PlainObject) × (slice_get objects place ≡ Some p) × (p.inner ≡ o.inner)
inner_kept objects at props place o there = go (slice_get objects at) refl there
  where
    go : (q : Option PlainObject) → slice_get objects at ≡ q
        → slice_get (option_map_or (λ (o : PlainObject). slice_set objects at (record o { props = props })) q objects) place ≡ Some o
        → (p : PlainObject) × (slice_get objects place ≡ Some p) × (p.inner ≡ o.inner)
    go None is there = (o, there, refl)
    go (Some old) is there = elim (set_found objects at place old (record old { props = props }) o is there) [
      | inl stays ↦ (o, stays, refl)
      | inr here ↦ (old, here.0, ap (λ (o : PlainObject). o.inner) here.1)
    ]

module _ (env : Names) where
  -- ---- good states

  pub fits_keeps : {s t : State} (inner : PlainInner) → FitsInner env inner s.scopes → Keeps s t → FitsInner env inner t.scopes
  fits_keeps Plain fits k = tt
  fits_keeps (Script unit number scope) fits k = scoped_keeps (env unit number) scope.0 fits k
  fits_keeps (BuiltIn row) fits k = tt
  fits_keeps (Bound target this args) fits k = tt
  fits_keeps (ZoneNumber zone) fits k = tt

  pub good_keeps : {s t : State} → Good env s → Keeps s t → t.objects ≡ s.objects → Good env t
  good_keeps {s} {t} g k same = record {
    each = λ at o there. fits_keeps o.inner (g.each at o (ap (λ objects. slice_get objects at) (sym same) ∙ there)) k;
  }

  pub fares_keeps : {s t : State} → Good env s → Keeps s t → t.objects ≡ s.objects → Fares env s t
  fares_keeps g k same = record { keeps = k; good = good_keeps g k same }

  pub fares_refl : (s : State) → Good env s → Fares env s s
  fares_refl s g = record { keeps = keeps_refl s; good = g }

  pub fares_trans : {s t u : State} → Fares env s t → Fares env t u → Fares env s u
  fares_trans f h = record { keeps = keeps_trans f.keeps h.keeps; good = h.good }

  -- the same objects and scopes, and no more ticks
  pub fares_less : (s t : State) → t.objects ≡ s.objects → t.scopes ≡ s.scopes → t.ticks ≤ s.ticks → Good env s → Fares env s t
  fares_less s t objects scopes fewer g = fares_keeps g (keeps_same s t scopes fewer) objects

  -- ---- what follows

  pub fared_from : {A : Type 0} {s t : State} (o : Outcome A) → Fared env t o → Fares env s t → Fared env s o
  fared_from (Gives a u) h f = fares_trans f h
  fared_from (Throws v u) h f = fares_trans f h
  fared_from (Spent u) h f = fares_trans f h
  fared_from (Asks zone op u) h f = fares_trans f h

  pub fared_then : {A B : Type 0} {s : State} (o : Outcome A) (f : A → State → Outcome B) → Fared env s o → ((a : A) (t : State) → Fares env s t → Fared env t (f a t))
      → Fared env s (and_then o f)
  fared_then (Gives a t) f h next = fared_from (f a t) (next a t h) h
  fared_then (Throws v t) f h next = h
  fared_then (Spent t) f h next = h
  fared_then (Asks zone op t) f h next = h

  pub fared_if : {A : Type 0} (s : State) (b : Bool) (o p : Outcome A) → Fared env s o → Fared env s p → Fared env s (if b then o else p)
  fared_if s true o p h k = h
  fared_if s false o p h k = k

  pub fared_choose : {A : Type 0} (s : State) (b : Bool) (f g : State → Outcome A) → Fared env s (f s) → Fared env s (g s) → Fared env s (choose b f g s)
  fared_choose s true f g h k = h
  fared_choose s false f g h k = k

  -- by an optional value
  pub fared_option : {A X : Type 0} (s : State) (f : X → Outcome A) (q : Option X) (o : Outcome A) → ((x : X) → Fared env s (f x)) → Fared env s o → Fared env s (option_map_or f q o)
  fared_option s f None o h k = k
  fared_option s f (Some x) o h k = h x

  pub fared_charge : {A : Type 0} (n : ℕ) (go : State → Outcome A) (s : State) → Good env s → ((t : State) → Fares env s t → Fared env t (go t)) → Fared env s (charge n go s)
  fared_charge n go s g next =
      let t : State = record s { ticks = s.ticks - n } in
      let f : Fares env s t = fares_less s t refl refl (omega arith) g in
      fared_if s (nat_lt s.ticks n) (Spent s) (go t) (fares_refl s g) (fared_from (go t) (next t f) f)

  -- ---- scopes

  pub fares_scope : (parent : ScopeId) (variables : List Variable) (s : State) → Good env s → Fares env s (with_scope parent variables s)
  fares_scope parent variables s g = fares_keeps g (keeps_scope parent variables s) refl

  pub fares_variable : (name : List ℕ) (value : PlainValue) (s : State) (at : ℕ) → Good env s → Fares env s (record s { scopes = with_variable name value s.scopes at })
  fares_variable name value s at g = fares_keeps g (keeps_variable name value s at) refl

  pub fares_slot : (at slot : ℕ) (value : PlainValue) (s : State) → Good env s → Fares env s (in_slot at slot value s)
  fares_slot at slot value s g = fares_keeps g (keeps_slot at slot value s) refl

  -- ---- objects

  -- an object more
  pub fares_object : (object : PlainObject) (s : State) → FitsInner env object.inner s.scopes → Good env s → Fares env s (with_object object s)
  fares_object object s fits g = record {
    keeps = keeps_same s (with_object object s) refl (omega arith);
    good = record {
      each = λ at o there. elim (pushed s.objects object o at there) [
        | inl before ↦ g.each at o before
        | inr last ↦ subst (λ (o : PlainObject). FitsInner env o.inner s.scopes) last fits
      ];
    };
  }

  pub fares_props : (at : ℕ) (props : Properties PlainValue) (s : State) → Good env s → Fares env s (record s { objects = with_props s.objects at props })
  fares_props at props s g = record {
    keeps = keeps_same s _ refl (omega arith);
    good = record {
      each = λ place o there.
          let before = inner_kept s.objects at props place o there in
          subst (λ inner. FitsInner env inner s.scopes) before.2 (g.each place before.0 before.1);
    };
  }

  -- ---- what is thrown, whatever would have been given

  pub fared_throw_with : (content : TextId → List ℕ) (cause : Cause) (s : State) → Good env s → Fared env s (throw_with {A = PlainValue} content cause s)
  fared_throw_with content cause s g = fares_object _ s tt g

  pub fared_throw : (cause : Cause) (s : State) → Good env s → Fared env s (throw {A = PlainValue} cause s)
  fared_throw cause s g = fares_object _ s tt g

  pub fared_not_defined : (name : List ℕ) (s : State) → Good env s → Fared env s (throw_not_defined {A = PlainValue} name s)
  fared_not_defined name s g = fares_object _ s tt g

  -- properties of an object change
  pub fared_changed : (object : ℕ) (change : Change PlainValue) (go : State → Outcome PlainValue) (s : State) → Good env s
      → ((t : State) → Fares env s t → Fared env t (go t)) → Fared env s (changed object change go s)
  fared_changed object change go s g next =
      let t : State = record s { objects = with_props s.objects object change.props } in
      let f : Fares env s t = fares_props object change.props s g in
      fared_from (option_map_or (λ cause. throw cause t) change.thrown (go t))
      (fared_option t (λ cause. throw cause t) change.thrown (go t) (λ cause. fared_throw cause t f.good) (next t f)) f
