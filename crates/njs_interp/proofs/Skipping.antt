-- Names of the list on top are skipped.
use Rattle.std.proofs.Common.{◌≡◌, ℕ, zero, suc, List, [], ◌∷◌, ◌++◌, Some, length, map, reverse, ap, refl, sym, ◌∙◌, slice_get, slice_set, arith}
use Rattle.std.proofs.lemmas.List.{reverse-append}
use Rattle.njs_shared.specs.Heap.{Heap}
use Rattle.njs_clone.specs.Content.{content}
use Rattle.njs_clone.specs.StandsFor.{plain_objects}
use Rattle.njs_code.specs.declared.op.Address.{Address}
use Rattle.njs_code.specs.declared.op.Kind.TheVariants as kind
use Rattle.njs_code.specs.declared.op.Op.{Op}
use Rattle.njs_meaning.specs.State.{State}
use Rattle.njs_meaning.specs.Values.{PlainValue}
use Rattle.njs_simul.specs.Stacks as plain
use Rattle.njs_simul.specs.Stacks.{Frame}
use Rattle.njs_simul.specs.Step.{Action, Goes, act, from, still_there, unless_empty}
use Rattle.njs_interp.specs.declared.lists.More.{More}
use Rattle.njs_interp.specs.declared.stacks.Listing.{Listing}
use Rattle.njs_interp.specs.declared.stacks.Stacks.{Stacks}
use Rattle.njs_interp.specs.Plain.{plain_listing, plain_stacks}
use Rattle.njs_interp.specs.Naming.{more_of, goes_by, ActsOnNames}

-- the last of a list
pub record Last {X : Type 0} (xs : List X) (n : ℕ) (x : X) : Type 0 where
  pub front : List X
  pub is : xs ≡ front ++ x ∷ []
  pub count : length front ≡ n

pub last_of : {X : Type 0} (n : ℕ) (xs : List X) (x : X) → length xs ≡ suc n → slice_get xs n ≡ Some x → Last xs n x
last_of n [] x count there = absurd (omega (arith, count))
last_of zero (y ∷ []) x count there = let same : y ≡ x = cc in record { front = []; is = ap (λ z. z ∷ []) same; count = refl }
last_of zero (y ∷ (z ∷ xs)) x count there = absurd (omega (arith, count))
last_of (suc n) (y ∷ xs) x count there =
    let fewer : length xs ≡ suc n = omega (arith, count) in
    let rest = last_of n xs x fewer there in
    record { front = y ∷ rest.front; is = ap (λ zs. y ∷ zs) rest.is; count = ap suc rest.count }

pub last_set : {X : Type 0} (front : List X) (x y : X) → slice_set (front ++ x ∷ []) (length front) y ≡ front ++ y ∷ []
last_set [] x y = refl
last_set (z ∷ front) x y = ap (λ zs. z ∷ zs) (last_set front x y)

module _ (to : Address) (h : Heap) (before after : Stacks) (is : after ≡ record before { lists = after.lists }) (n : ℕ) (l m : Listing) (r : More) (count : length before.lists.items ≡ suc n)
    (there : slice_get before.lists.items n ≡ Some l) (set : after.lists.items ≡ slice_set before.lists.items n m) (value : m.value ≡ l.value)
    (names : reverse m.names.items ≡ still_there (content h.texts l.value) (plain_objects h) (reverse l.names.items)) (more : r ≡ more_of (reverse m.names.items)) where
  last : Last before.lists.items n l
  last = last_of n before.lists.items l count there

  abbrev listed : List Listing → List plain.Listing
  listed ls = map (plain_listing h.texts) (reverse ls)

  on_top : (x : Listing) → listed (last.front ++ x ∷ []) ≡ plain_listing h.texts x ∷ map (plain_listing h.texts) (reverse last.front)
  on_top x = ap (map (plain_listing h.texts)) (reverse-append last.front (x ∷ []))

  lists_before : listed before.lists.items ≡ plain_listing h.texts l ∷ map (plain_listing h.texts) (reverse last.front)
  lists_before = ap listed last.is ∙ on_top l

  lists_after : listed after.lists.items ≡ plain_listing h.texts m ∷ map (plain_listing h.texts) (reverse last.front)
  lists_after = ap listed (set ∙ ap (λ ls. slice_set ls n m) last.is ∙ ap (λ k. slice_set (last.front ++ l ∷ []) k m) (sym last.count) ∙ last_set last.front l m) ∙ on_top m

  abbrev with_lists : List plain.Listing → plain.Stacks
  with_lists ls = record (plain_stacks h.texts before) { lists = ls }

  stands_after : plain_stacks h.texts after ≡ with_lists (plain_listing h.texts m ∷ map (plain_listing h.texts) (reverse last.front))
  stands_after = ap (plain_stacks h.texts) is ∙ ap with_lists lists_after

  module _ (frame : Frame) (code rest : List Op) (s : State) where
    abbrev kept_names : PlainValue → List (List ℕ) → plain.Stacks
    kept_names v ns = with_lists (record { value = v; names = ns } ∷ map (plain_listing h.texts) (reverse last.front))

    abbrev gone : List (List ℕ) → Action
    gone ns = unless_empty ns (λ ns. Goes rest (kept_names (content h.texts l.value) ns) s) (Goes (from frame code to.0) (kept_names (content h.texts l.value) []) s)

    either : (ns : List (List ℕ)) → gone ns ≡ goes_by frame code to rest (kept_names (content h.texts l.value) ns) s (more_of ns)
    either [] = refl
    either (name ∷ ns) = refl

    skipped : plain_objects h ≡ s.objects → act frame code (kind.MoreNames to) rest (plain_stacks h.texts before) s ≡ goes_by frame code to rest (plain_stacks h.texts after) s r
    skipped objects =
        ap (λ ls. act frame code (kind.MoreNames to) rest (with_lists ls) s) lists_before
        ∙ ap (λ os. gone (still_there (content h.texts l.value) os (reverse l.names.items))) (sym objects)
        ∙ ap gone (sym names)
        ∙ either (reverse m.names.items)
        ∙ ap (λ v. goes_by frame code to rest (kept_names (content h.texts v) (reverse m.names.items)) s (more_of (reverse m.names.items))) (sym value)
        ∙ ap (goes_by frame code to rest (kept_names (content h.texts m.value) (reverse m.names.items)) s) (sym more)
        ∙ ap (λ st. goes_by frame code to rest st s r) (sym stands_after)

  pub names-told : ActsOnNames to h before after r
  names-told = record { by = λ frame code rest s stands. skipped frame code rest s stands.objects }
