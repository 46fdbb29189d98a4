-- What the change of one property leaves of another, and of what holds of the names.
use Rattle.std.proofs.Common.{◌≡◌, ℕ, ◌<◌, List, [], ◌∷◌, Option, Some, None, Bool, true, false, cond, nat_lt, ap, refl, sym, ◌∙◌, arith}
use Rattle.std.proofs.lemmas.Bool.{ltb-true}
use Rattle.std.specs.Cmp.Lexicographic.{bytes_decides}
use Rattle.std.specs.List.{AllByRecursion}
use Rattle.std.specs.Option.{option_map_or, ForSome}
use Rattle.njs_props.specs.declared.map.Property.{Property}
use Rattle.njs_props.proofs.Indices.{no_index-other}
use Rattle.njs_props.specs.Names.{length_name, index_of, is_below, same_name}
use Rattle.njs_props.specs.Props.{property, with_property, without_property, kept_below}
use Rattle.njs_meaning.specs.Properties.{Properties}

-- ---- names

pub same_by : (a b : List ℕ) → same_name a b ≡ true → a ≡ b
same_by a b is = (bytes_decides a b).0 is

apart : (a b : List ℕ) → (a ≡ b → ⊥) → same_name a b ≡ false
apart a b differ = by (same_name a b) refl
  where
    by : (r : Bool) → same_name a b ≡ r → r ≡ false
    by false is = refl
    by true is = absurd (differ (same_by a b is))

pub not_same : (a b : List ℕ) → same_name a b ≡ false → a ≡ b → ⊥
not_same a b other same = let again : same_name a b ≡ true = (bytes_decides a b).1 same in cc

pub other_way : (a b : List ℕ) → same_name a b ≡ false → same_name b a ≡ false
other_way a b other = apart b a (λ same. not_same a b other (sym same))

-- a name for which something else comes out is another
pub other_by : {X : Type 0} (f : List ℕ → X) (a b : List ℕ) → (f a ≡ f b → ⊥) → same_name a b ≡ false
other_by f a b differ = apart a b (λ same. differ (ap f same))

-- `length` is no array index
pub no_index-length : index_of length_name ≡ None
no_index-length = no_index-other length_name 0 108 refl (λ digit. omega arith)

-- ---- what is found

twice : {X : Type 0} (b : Bool) (x y z : X) → cond b x z ≡ cond b x (cond b y z)
twice true x y z = refl
twice false x y z = refl

turned : {X : Type 0} (b c : Bool) (x y z : X) → (b ≡ true → c ≡ true → ⊥) → cond b x (cond c y z) ≡ cond c y (cond b x z)
turned true true x y z never = absurd (never refl refl)
turned true false x y z never = refl
turned false true x y z never = refl
turned false false x y z never = refl

module _ {V : Type 0} (q : List ℕ) where
  -- a property that came is found under its own name
  pub property-with : (name : List ℕ) (p : Property V) (es : Properties V) → property q (with_property name p es) ≡ cond (same_name q name) (Some p) (property q es)
  property-with name p [] = refl
  property-with name p (e ∷ es) = by (same_name name e.0) refl (property-with name p es)
    where
      by : (b : Bool) → same_name name e.0 ≡ b → property q (with_property name p es) ≡ cond (same_name q name) (Some p) (property q es)
          → property q (cond b ((e.0, p) ∷ es) (e ∷ with_property name p es)) ≡ cond (same_name q name) (Some p) (cond (same_name q e.0) (Some e.1) (property q es))
      by true is rest =
          twice (same_name q e.0) (Some p) (Some e.1) (property q es)
          ∙ ap (λ (n : List ℕ). cond (same_name q n) (Some p) (cond (same_name q e.0) (Some e.1) (property q es))) (sym (same_by name e.0 is))
      by false is rest =
          ap (λ r. cond (same_name q e.0) (Some e.1) r) rest
          ∙ turned (same_name q e.0) (same_name q name) (Some e.1) (Some p) (property q es)
          (λ one two. not_same name e.0 is (sym (same_by q name two) ∙ same_by q e.0 one))

  pub property-without : (name : List ℕ) (es : Properties V) → same_name q name ≡ false → property q (without_property name es) ≡ property q es
  property-without name [] other = refl
  property-without name (e ∷ es) other = by (same_name name e.0) refl (property-without name es other)
    where
      by : (b : Bool) → same_name name e.0 ≡ b → property q (without_property name es) ≡ property q es
          → property q (cond b es (e ∷ without_property name es)) ≡ cond (same_name q e.0) (Some e.1) (property q es)
      by true is rest = sym (ap (λ b. cond b (Some e.1) (property q es)) (ap (same_name q) (sym (same_by name e.0 is)) ∙ other))
      by false is rest = ap (λ r. cond (same_name q e.0) (Some e.1) r) rest

  -- a name that is no array index at or past a length
  pub property-below : (n : ℕ) (es : Properties V) → is_below n q ≡ true → property q (kept_below n es) ≡ property q es
  property-below n [] below = refl
  property-below n (e ∷ es) below = by (is_below n e.0) refl (property-below n es below)
    where
      by : (b : Bool) → is_below n e.0 ≡ b → property q (kept_below n es) ≡ property q es
          → property q (cond b (e ∷ kept_below n es) (kept_below n es)) ≡ cond (same_name q e.0) (Some e.1) (property q es)
      by true is rest = ap (λ r. cond (same_name q e.0) (Some e.1) r) rest
      by false is rest =
          let other : same_name q e.0 ≡ false = other_by (is_below n) q e.0 (λ same. cc) in
          rest ∙ sym (ap (λ b. cond b (Some e.1) (property q es)) other)

-- ---- what holds of each name

module _ {V : Type 0} (Q : List ℕ → Type 0) where
  abbrev pub AllNames : Properties V → Type 0
  AllNames es = AllByRecursion (λ e. Q e.0) es

  pub names-with : (name : List ℕ) (p : Property V) (es : Properties V) → Q name → AllNames es → AllNames (with_property name p es)
  names-with name p [] here all = (here, tt)
  names-with name p (e ∷ es) here all = by (same_name name e.0) (names-with name p es here all.1)
    where
      by : (b : Bool) → AllNames (with_property name p es) → AllNames (cond b ((e.0, p) ∷ es) (e ∷ with_property name p es))
      by true rest = (all.0, all.1)
      by false rest = (all.0, rest)

  pub names-without : (name : List ℕ) (es : Properties V) → AllNames es → AllNames (without_property name es)
  names-without name [] all = tt
  names-without name (e ∷ es) all = by (same_name name e.0) (names-without name es all.1)
    where
      by : (b : Bool) → AllNames (without_property name es) → AllNames (cond b es (e ∷ without_property name es))
      by true rest = all.1
      by false rest = (all.0, rest)

  pub names-more : (R : List ℕ → Type 0) → ((name : List ℕ) → Q name → R name) → (es : Properties V) → AllNames es → AllByRecursion (λ e. R e.0) es
  names-more R more [] all = tt
  names-more R more (e ∷ es) all = (more e.0 all.0, names-more R more es all.1)

below_by : (n : ℕ) (r : Option ℕ) → option_map_or (λ i. nat_lt i n) r true ≡ true → ForSome r (λ i. i < n)
below_by n None is i some = cc
below_by n (Some k) is i some = let less : k < n = ltb-true k n is in let same : k ≡ i = cc in omega arith

-- the names that stay below a length
pub names-below : {V : Type 0} (n : ℕ) (es : Properties V) → AllByRecursion (λ e. ForSome (index_of e.0) (λ i. i < n)) (kept_below n es)
names-below n [] = tt
names-below n (e ∷ es) = by (is_below n e.0) refl (names-below n es)
  where
    by : (b : Bool) → is_below n e.0 ≡ b → AllByRecursion (λ e. ForSome (index_of e.0) (λ i. i < n)) (kept_below n es)
        → AllByRecursion (λ e. ForSome (index_of e.0) (λ i. i < n)) (cond b (e ∷ kept_below n es) (kept_below n es))
    by true is rest = (below_by n (index_of e.0) is, rest)
    by false is rest = rest
