-- The properties of `arguments`.
use Rattle.std.proofs.Common.{◌≡◌, ℕ, suc, ◌+◌, ◌<◌, List, [], ◌∷◌, ◌++◌, Some, None, Bool, true, false, cond, length, map, ap, refl, sym, ◌∙◌, arith, add-one, take, get_or, length-take}
use Rattle.std.specs.Prelude.{pos}
use Rattle.std.specs.Fmt.{decimal}
use Rattle.std.specs.List.{AllByRecursion}
use Rattle.std.proofs.lemmas.List.{map-append, length-map}
use Rattle.std.proofs.lemmas.Fmt.{decimal_injective}
use Rattle.std.proofs.lemmas.Slice.Eq.{bytes_eq-Decides}
use Rattle.std.proofs.Math.Seq.{take-suc}
use Rattle.std.specs.Char.{digit_value}
use Rattle.njs_value.specs.declared.Value.{Value}
use Rattle.njs_value.specs.declared.Value.TheVariants as value
use Rattle.njs_props.specs.Names.{same_name, length_name, index_of}
use Rattle.njs_props.specs.Props.{with_property}
use Rattle.njs_props.specs.declared.map.Property.{Property}
use Rattle.njs_props.proofs.Indices.{index_of-decimal, no_index-other}
use Rattle.njs_value.specs.declared.Class.TheVariants as class
use Rattle.njs_meaning.specs.declared.prototypes.Prototype.TheVariants as prototype
use Rattle.njs_shared.specs.declared.object.Inner.TheVariants as inner
use Rattle.njs_clone.specs.Created.{object_of, with_object_of}
use Rattle.njs_meaning.specs.PlainHeap.{PlainObject, Plain}
use Rattle.njs_shared.specs.Heap.{Heap, Sizes}
use Rattle.njs_shared.specs.Fits.{FitsValue, FitsProperties}
use Rattle.njs_clone.specs.Content.{content}
use Rattle.njs_clone.specs.StandsFor.{mapped, mapped_all, mapped_object, content_inner, content_objects, plain_objects}
use Rattle.njs_meaning.specs.Errors.{hidden}
use Rattle.njs_meaning.specs.Functions.{numbered, object_with, arguments_object}
use Rattle.njs_meaning.specs.Properties.{all_flags}
use Rattle.njs_meaning.specs.Values.{length_value}
use Rattle.njs_interp.specs.Counting.{numbered_values, arguments_props}

differs : (a b : List ℕ) → (a ≡ b → ⊥) → same_name a b ≡ false
differs a b other = by (same_name a b) refl
  where
    by : (r : Bool) → same_name a b ≡ r → same_name a b ≡ false
    by true is = absurd (other ((bytes_eq-Decides a b).0 is))
    by false is = is

-- a name that is not there goes last
absent_last : (name : List ℕ) (p : Property Value) (es : List (List ℕ × Property Value)) → AllByRecursion (λ e. same_name name e.0 ≡ false) es → with_property name p es ≡ es ++ (name, p) ∷ []
absent_last name p [] none = refl
absent_last name p (e ∷ es) none =
    ap (λ b. cond b ((e.0, p) ∷ es) (e ∷ with_property name p es)) none.0 ∙ ap (λ rest. e ∷ rest) (absent_last name p es none.1)

no_number : (name : List ℕ) (k : ℕ) (vs : List Value) → ((j : ℕ) → j < k + length vs → same_name name (decimal j) ≡ false) → AllByRecursion (λ e. same_name name e.0 ≡ false) (numbered_values k vs)
no_number name k [] each = tt
no_number name k (v ∷ vs) each = (each k (omega arith), no_number name (k + 1) vs (λ j below. each j (omega arith)))

numbered_push : (k : ℕ) (vs : List Value) (v : Value) → numbered_values k (vs ++ v ∷ []) ≡ numbered_values k vs ++ (decimal (k + length vs), record { value = v; flags = all_flags }) ∷ []
numbered_push k [] v =
    let here : k ≡ k + 0 = omega arith in
    ap (λ n. (decimal n, record { value = v; flags = all_flags }) ∷ []) here
numbered_push k (w ∷ vs) v =
    let here : k + 1 + length vs ≡ k + suc (length vs) = omega arith in
    ap (λ rest. (decimal k, record { value = w; flags = all_flags }) ∷ rest)
    (numbered_push (k + 1) vs v ∙ ap (λ n. numbered_values (k + 1) vs ++ (decimal n, record { value = v; flags = all_flags }) ∷ []) here)

-- one argument more
pub next-number : (args : List Value) (i : ℕ) (v : Value) (props new : List (List ℕ × Property Value)) (name : List ℕ) → i < length args → length args < 4294967295 → v ≡ get_or args i value.Undefined → name ≡ decimal i
    → props ≡ numbered_values 0 (take i args) → new ≡ with_property name (record { value = v; flags = all_flags }) props → new ≡ numbered_values 0 (take (i + 1) args)
next-number args i v props new name within few at named so_far is =
    let count : length (take i args) ≡ i = omega (arith, length-take i args) in
    let place : 0 + length (take i args) ≡ i = omega (arith, count) in
    let more : take (i + 1) args ≡ take i args ++ v ∷ [] = ap (λ n. take n args) (add-one i) ∙ take-suc args i value.Undefined within ∙ ap (λ w. take i args ++ w ∷ []) (sym at) in
    is ∙ ap (λ n. with_property n (record { value = v; flags = all_flags }) props) named ∙ ap (with_property (decimal i) (record { value = v; flags = all_flags })) so_far
    ∙ absent_last (decimal i) (record { value = v; flags = all_flags }) (numbered_values 0 (take i args))
    (no_number (decimal i) 0 (take i args) (λ j below. differs (decimal i) (decimal j) (λ same. let never : i ≡ j = decimal_injective i j (omega (arith, within, few)) (omega (arith, below, place, within, few)) same in absurd (omega (arith, never, below, place)))))
    ∙ ap (λ n. numbered_values 0 (take i args) ++ (decimal n, record { value = v; flags = all_flags }) ∷ []) (sym place)
    ∙ sym (numbered_push 0 (take i args) v) ∙ ap (numbered_values 0) (sym more)

-- the length last
pub length-last : (args : List Value) (p : Property Value) → length args < 4294967295 → with_property length_name p (numbered_values 0 args) ≡ numbered_values 0 args ++ (length_name, p) ∷ []
length-last args p few =
    absent_last length_name p (numbered_values 0 args)
    (no_number length_name 0 args (λ j below. differs length_name (decimal j) (λ same.
    let number : index_of length_name ≡ Some j = ap index_of same ∙ index_of-decimal j (omega (arith, below, few)) in
    let none : index_of length_name ≡ None = no_index-other length_name 0 108 refl not_digit in
    absurd (no_some (sym none ∙ number)))))
  where
    no_some : {n : ℕ} → None ≡ Some n → ⊥
    no_some is = cc

    not_digit : digit_value 108 < 10 → ⊥
    not_digit below = omega arith

-- by content
pub numbered-plain : (texts : List (List ℕ)) (k : ℕ) (args : List Value) → mapped_all (content texts) (numbered_values k args) ≡ numbered k (map (content texts) args)
numbered-plain texts k [] = refl
numbered-plain texts k (v ∷ vs) = ap (λ rest. (decimal k, record { value = content texts v; flags = all_flags }) ∷ rest) (numbered-plain texts (k + 1) vs)

mapped_joined : (texts : List (List ℕ)) (es fs : List (List ℕ × Property Value)) → mapped_all (content texts) (es ++ fs) ≡ mapped_all (content texts) es ++ mapped_all (content texts) fs
mapped_joined texts [] fs = refl
mapped_joined texts (e ∷ es) fs = ap (λ rest. (e.0, mapped (content texts) e.1) ∷ rest) (mapped_joined texts es fs)

pub arguments-plain : (texts : List (List ℕ)) (args : List Value)
    → mapped_all (content texts) (arguments_props args) ≡ numbered 0 (map (content texts) args) ++ (length_name, record { value = length_value (length (map (content texts) args)); flags = hidden }) ∷ []
arguments-plain texts args =
    mapped_joined texts (numbered_values 0 args) ((length_name, record { value = value.Num (pos (length args)); flags = hidden }) ∷ [])
    ∙ ap (λ es. es ++ (length_name, record { value = length_value (length args); flags = hidden }) ∷ []) (numbered-plain texts 0 args)
    ∙ ap (λ n. numbered 0 (map (content texts) args) ++ (length_name, record { value = length_value n; flags = hidden }) ∷ []) (sym (length-map args (content texts)))

-- they fit
numbered_fits : (n : Sizes) (k : ℕ) (args : List Value) → AllByRecursion (FitsValue n) args → FitsProperties n (numbered_values k args)
numbered_fits n k [] fits = tt
numbered_fits n k (v ∷ vs) fits = (fits.0, numbered_fits n (k + 1) vs fits.1)

joined_fits : (n : Sizes) (es fs : List (List ℕ × Property Value)) → FitsProperties n es → FitsProperties n fs → FitsProperties n (es ++ fs)
joined_fits n [] fs p q = q
joined_fits n (e ∷ es) fs p q = (p.0, joined_fits n es fs p.1 q)

pub arguments-fit : (n : Sizes) (args : List Value) → FitsValue n (value.Num (pos (length args))) → AllByRecursion (FitsValue n) args → FitsProperties n (arguments_props args)
arguments-fit n args safe fits =
    joined_fits n (numbered_values 0 args) ((length_name, record { value = value.Num (pos (length args)); flags = hidden }) ∷ []) (numbered_fits n 0 args fits) (safe, tt)

-- the objects, with the new one
pub arguments-pushed : (h : Heap) (objects : List PlainObject) (args : List Value) (up : ℕ) (props : List (List ℕ × Property Value)) → up ≡ 0 → props ≡ arguments_props args → plain_objects h ≡ objects
    → content_objects h.texts (with_object_of class.Arguments (Some (record { 0 = up })) props inner.Plain h.objects) ≡ objects ++ arguments_object (map (content h.texts) args) ∷ []
arguments-pushed h objects args up props first is stands =
    ap (λ n. content_objects h.texts (with_object_of class.Arguments (Some (record { 0 = n })) props inner.Plain h.objects)) first
    ∙ ap (λ ps. content_objects h.texts (with_object_of class.Arguments (Some (record { 0 = 0 })) ps inner.Plain h.objects)) is
    ∙ map-append (mapped_object (content h.texts) (content_inner h.texts)) h.objects (object_of class.Arguments (Some (record { 0 = 0 })) (arguments_props args) inner.Plain ∷ [])
    ∙ ap (λ os. os ++ mapped_object (content h.texts) (content_inner h.texts) (object_of class.Arguments (Some (record { 0 = 0 })) (arguments_props args) inner.Plain) ∷ []) stands
    ∙ ap (λ ps. objects ++ object_with class.Arguments prototype.Object ps Plain ∷ []) (arguments-plain h.texts args)
