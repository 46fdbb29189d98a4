-- Lists under copies of some of their items.
use Rattle.std.proofs.Common.{◌≡◌, ◌≢◌, ℕ, ◌+◌, ◌-◌, ◌<◌, ◌≤◌, zero, suc, List, [], ◌∷◌, ◌++◌, Option, Some, None, Bool, true, false, cond, ap, refl, sym, ◌∙◌, subst, slice_get, slice_set, length, unwrap_or, nat_eq, eqb, add-zero, add-one, get_or, length-append, arith}
use Rattle.std.proofs.lemmas.Option.{slice_get_within, slice_get-get_or, get_or_from_slice_get}
use Rattle.std.proofs.lemmas.List.{take_more}
use Rattle.std.proofs.Common.{take}
use Rattle.std.proofs.Common.{Result, Ok, Err}
use Rattle.std.specs.Result.{IfOk, OnErr}
use Rattle.std.specs.Ordering.{nat_cmp, is_eq}
use Rattle.std.specs.BTreeMap.{is_at}
use Rattle.std.specs.declared.cmp.Ordering.{Ordering}
use Rattle.std.specs.declared.cmp.Ordering.TheVariants.{Less, Equal, Greater}
use Rattle.std.proofs.lemmas.Map.Lookups.{exact_unsigned}
use Rattle.std.proofs.lemmas.List.{set-append_left, set-append_right}
use Rattle.njs_layer.specs.Layer.{overlaid, IsChangedAt}

-- an item put where it is
pub set_same : {X : Type 0} (xs : List X) (i : ℕ) (x : X) → slice_get xs i ≡ Some x → slice_set xs i x ≡ xs
set_same [] i x at = refl
set_same (y ∷ ys) zero x at = let same : y ≡ x = cc in ap (λ z. z ∷ ys) (sym same)
set_same (y ∷ ys) (suc i) x at = ap (λ zs. y ∷ zs) (set_same ys i x at)

module _ {X : Type 0} where
  pub length-overlaid : (copy : ℕ → Option X) (place : ℕ) (xs : List X) → length (overlaid copy place xs) ≡ length xs
  length-overlaid copy place [] = refl
  length-overlaid copy place (x ∷ xs) = ap suc (length-overlaid copy (place + 1) xs)

  -- without copies
  pub overlaid-none : (copy : ℕ → Option X) (place : ℕ) (xs : List X) → ((q : ℕ) → copy q ≡ None) → overlaid copy place xs ≡ xs
  overlaid-none copy place [] none = refl
  overlaid-none copy place (x ∷ xs) none = ap (λ c. unwrap_or c x ∷ overlaid copy (place + 1) xs) (none place) ∙ ap (λ t. x ∷ t) (overlaid-none copy (place + 1) xs none)

  -- the item at a place
  pub get-overlaid : (copy : ℕ → Option X) (place k : ℕ) (xs : List X) (x : X) → slice_get xs k ≡ Some x → slice_get (overlaid copy place xs) k ≡ Some (unwrap_or (copy (place + k)) x)
  get-overlaid copy place k [] x at = cc
  get-overlaid copy place zero (y ∷ xs) x at =
      let same : y ≡ x = cc in
      ap (λ z. Some (unwrap_or (copy place) z)) same ∙ ap (λ n. Some (unwrap_or (copy n) x)) (sym (add-zero place))
  get-overlaid copy place (suc k) (y ∷ xs) x at =
      let next : place + 1 + k ≡ place + suc k = omega arith in
      get-overlaid copy (place + 1) k xs x at ∙ ap (λ n. Some (unwrap_or (copy n) x)) next

  -- copies that agree from a place on
  overlaid-same : (copy other : ℕ → Option X) (place : ℕ) (xs : List X) → ((q : ℕ) → place ≤ q → other q ≡ copy q) → overlaid other place xs ≡ overlaid copy place xs
  overlaid-same copy other place [] same = refl
  overlaid-same copy other place (x ∷ xs) same =
      ap (λ c. unwrap_or c x ∷ overlaid other (place + 1) xs) (same place (omega arith)) ∙ ap (λ t. unwrap_or (copy place) x ∷ t) (overlaid-same copy other (place + 1) xs (λ q h. same q (omega arith)))

  -- one copy more, or another in its place
  pub set-overlaid : (copy other : ℕ → Option X) (place k : ℕ) (xs : List X) (w : X) → k < length xs → other (place + k) ≡ Some w → ((q : ℕ) → q ≢ place + k → other q ≡ copy q) → overlaid other place xs ≡ slice_set (overlaid copy place xs) k w
  set-overlaid copy other place k [] w within here elsewhere = absurd (omega arith)
  set-overlaid copy other place zero (x ∷ xs) w within here elsewhere =
      let at : other place ≡ Some w = ap other (sym (add-zero place)) ∙ here in
      ap (λ c. unwrap_or c x ∷ overlaid other (place + 1) xs) at ∙ ap (λ t. w ∷ t) (overlaid-same copy other (place + 1) xs (λ q h. elsewhere q (omega arith)))
  set-overlaid copy other place (suc k) (x ∷ xs) w within here elsewhere =
      let next : place + suc k ≡ place + 1 + k = omega arith in
      ap (λ c. unwrap_or c x ∷ overlaid other (place + 1) xs) (elsewhere place (omega arith))
      ∙ ap (λ t. unwrap_or (copy place) x ∷ t) (set-overlaid copy other (place + 1) k xs w (omega arith) (ap other (sym next) ∙ here) (λ q h. elsewhere q (λ e. h (e ∙ next))))

  -- a copy of what stands there changes nothing
  pub copied-overlaid : (copy other : ℕ → Option X) (k : ℕ) (xs : List X) (x : X) → slice_get xs k ≡ Some x → k < length xs → copy k ≡ None → other k ≡ Some x → ((q : ℕ) → q ≢ k → other q ≡ copy q) → overlaid other 0 xs ≡ overlaid copy 0 xs
  copied-overlaid copy other k xs x at within none here elsewhere =
      let zero_add : 0 + k ≡ k = omega arith in
      let stands : slice_get (overlaid copy 0 xs) k ≡ Some x = get-overlaid copy 0 k xs x at ∙ ap (λ n. Some (unwrap_or (copy n) x)) zero_add ∙ ap (λ c. Some (unwrap_or c x)) none in
      set-overlaid copy other 0 k xs x within (ap other zero_add ∙ here) (λ q h. elsewhere q (λ e. h (e ∙ sym zero_add))) ∙ set_same (overlaid copy 0 xs) k x stands

-- items of two lists, one behind the other
pub slice_get-append_left : {X : Type 0} (xs ys : List X) (i : ℕ) → i < length xs → slice_get (xs ++ ys) i ≡ slice_get xs i
slice_get-append_left [] ys i h = absurd (omega arith)
slice_get-append_left (x ∷ xs) ys zero h = refl
slice_get-append_left (x ∷ xs) ys (suc i) h = slice_get-append_left xs ys i (omega arith)

pub slice_get-append_right : {X : Type 0} (xs ys : List X) (i : ℕ) → slice_get (xs ++ ys) (length xs + i) ≡ slice_get ys i
slice_get-append_right [] ys i = let z : 0 + i ≡ i = omega arith in ap (slice_get ys) z
slice_get-append_right (x ∷ xs) ys i = let next : suc (length xs) + i ≡ suc (length xs + i) = omega arith in ap (slice_get (x ∷ xs ++ ys)) next ∙ slice_get-append_right xs ys i

module _ {X : Type 0} (copy : ℕ → Option X) (base own : List X) where
  -- the list that is seen
  abbrev pub seen : List X
  seen = overlaid copy 0 base ++ own

  pub length-seen : length seen ≡ length base + length own
  length-seen = length-append (overlaid copy 0 base) own ∙ ap (λ n. n + length own) (length-overlaid copy 0 base)

  pub seen_own : (place : ℕ) (x : X) → length base ≤ place → slice_get own (place - length base) ≡ Some x → slice_get seen place ≡ Some x
  seen_own place x past at =
      let split : place ≡ length (overlaid copy 0 base) + (place - length base) = omega (arith, length-overlaid copy 0 base) in
      ap (slice_get seen) split ∙ slice_get-append_right (overlaid copy 0 base) own (place - length base) ∙ at

  pub seen_base : (place : ℕ) (x : X) → slice_get base place ≡ Some x → slice_get seen place ≡ Some (unwrap_or (copy place) x)
  seen_base place x at =
      let within : place < length (overlaid copy 0 base) = omega (arith, length-overlaid copy 0 base, slice_get_within base place x at) in
      let zero_add : 0 + place ≡ place = omega arith in
      slice_get-append_left (overlaid copy 0 base) own place within ∙ get-overlaid copy 0 place base x at ∙ ap (λ n. Some (unwrap_or (copy n) x)) zero_add

  pub seen_shared : (place : ℕ) (x : X) → slice_get base place ≡ Some x → copy place ≡ None → slice_get seen place ≡ Some x
  seen_shared place x at none = seen_base place x at ∙ ap (λ c. Some (unwrap_or c x)) none

  pub seen_copy : (place : ℕ) (w : X) → place < length base → copy place ≡ Some w → slice_get seen place ≡ Some w
  seen_copy place w within is = seen_base place (get_or base place w) (slice_get-get_or base place w within) ∙ ap (λ c. Some (unwrap_or c (get_or base place w))) is

module _ {X : Type 0} (copy other : ℕ → Option X) (base own : List X) (place : ℕ) (w : X) where
  -- a change behind the shared items
  pub set_own : length base ≤ place → slice_set (seen copy base own) place w ≡ seen copy base (slice_set own (place - length base) w)
  set_own past = set-append_right (overlaid copy 0 base) own (length base) place w (length-overlaid copy 0 base) past

  -- a change of a copy
  pub set_copy : place < length base → other place ≡ Some w → ((q : ℕ) → q ≢ place → other q ≡ copy q) → seen other base own ≡ slice_set (seen copy base own) place w
  set_copy within here elsewhere =
      let zero_add : 0 + place ≡ place = omega arith in
      let inside : place < length (overlaid copy 0 base) = omega (arith, length-overlaid copy 0 base) in
      ap (λ xs. xs ++ own) (set-overlaid copy other 0 place base w within (ap other zero_add ∙ here) (λ q h. elsewhere q (λ e. h (e ∙ sym zero_add))))
      ∙ sym (set-append_left (overlaid copy 0 base) own place w inside)

-- another key than the one written
pub apart_key : (place q : ℕ) → q ≢ place → is_at (nat_cmp place) q ≡ false
apart_key place q differs = by (nat_cmp place q) (exact_unsigned place q) differs
  where
    by : (o : Ordering) → (o ≡ Equal → place ≡ q) → q ≢ place → is_eq o ≡ false
    by Less e d = refl
    by Equal e d = absurd (d (sym (e refl)))
    by Greater e d = refl

-- the answer of a change, with the item and the list that it leaves
pub changed_at : {X O E : Type 0} (gives : X → X → O → Type 0) (old new : List X) (place : ℕ) (item after : X) (r : Result O E)
    → IfOk r (gives item after) → slice_get old place ≡ Some item → new ≡ slice_set old place after → IfOk r (IsChangedAt gives old place new)
changed_at gives old new place item after (Ok out) given at set = (item, after, at, given, set)
changed_at gives old new place item after (Err e) given at set = tt

-- where the item stays, so does the list
pub kept_at : {X O E : Type 0} (old new : List X) (place : ℕ) (item after : X) (r : Result O E)
    → OnErr r (after ≡ item) → slice_get old place ≡ Some item → new ≡ slice_set old place after → OnErr r (new ≡ old)
kept_at old new place item after (Ok out) same at set = tt
kept_at old new place item after (Err e) same at set = set ∙ ap (slice_set old place) same ∙ set_same old place item at

-- one more item taken out
pub next_item : {X : Type 0} (copy left : ℕ → Option X) (base : List X) (place : ℕ) (item : X) (before after : List X) → place < length base → before ≡ take place (overlaid copy 0 base)
    → left place ≡ copy place → ((d : X) → item ≡ unwrap_or (left place) (get_or base place d)) → after ≡ before ++ item ∷ [] → after ≡ take (place + 1) (overlaid copy 0 base)
next_item copy left base place item before after within so_far same is put =
    let zero_add : 0 + place ≡ place = omega arith in
    let at : slice_get (overlaid copy 0 base) place ≡ Some item =
    get-overlaid copy 0 place base (get_or base place item) (slice_get-get_or base place item within) ∙ ap (λ n. Some (unwrap_or (copy n) (get_or base place item))) zero_add
    ∙ ap (λ c. Some (unwrap_or c (get_or base place item))) (sym same) ∙ ap (λ x. Some x) (sym (is item)) in
    put ∙ ap (λ b. b ++ item ∷ []) so_far
    ∙ sym (take_more (overlaid copy 0 base) place item (slice_get_within (overlaid copy 0 base) place item at) ∙ ap (λ x. take place (overlaid copy 0 base) ++ x ∷ []) (get_or_from_slice_get (overlaid copy 0 base) place item item at))
