-- The search for the entry that goes first.
use Rattle.std.proofs.Common.{◌≡◌, ◌<◌, ◌≤◌, ◌+◌, ℕ, Bool, true, false, not, ◌&&◌, ◌||◌, List, [], ◌∷◌, ◌++◌, length, take, get_or, Option, Some, None, refl, sym, ap, ◌∙◌, subst, append_assoc, arith}
use Rattle.std.specs.Prelude.{nat_lt, is_none}
use Rattle.std.specs.List.{AllByRecursion}
use Rattle.std.proofs.lemmas.List.{length-take-le, take_more, take_all}
use Rattle.std.proofs.lemmas.Bool.{false≢true}
use Rattle.std.proofs.lemmas.Bool.Decides.{nat_tests}
use Rattle.dict_model.specs.declared.operation.Kept.{Kept}
use Rattle.dict_model.specs.Eviction.{has_key, due}
use Rattle.dict_model.specs.Places.{ExpiresAfter, NotBefore, IsEarliest, EarliestOf, Earliest, goes_first}
use Rattle.dict_model.proofs.Alls.{all_append, all_weaker}

-- what the test says of an entry
first_is_other : (own rest : Bool) → (not own && rest) ≡ true → own ≡ false
first_is_other true rest h = absurd (false≢true h)
first_is_other false rest h = refl

first_is_before : (own : Bool) (a b : ℕ) → (not own && (false || nat_lt a b)) ≡ true → a < b
first_is_before true a b h = absurd (false≢true h)
first_is_before false a b h = grind (arith, nat_tests)

none_is_own : (own rest : Bool) → (not own && (true || rest)) ≡ false → own ≡ true
none_is_own true rest h = refl
none_is_own false rest h = absurd (false≢true (sym h))

other_not_before : (own : Bool) (a b : ℕ) → (not own && (false || nat_lt a b)) ≡ false → own ≡ false → b ≤ a
other_not_before true a b h differs = absurd (false≢true (sym differs))
other_not_before false a b h differs = grind (arith, nat_tests)

-- an entry that goes before all that were seen
goes_now : (key : List ℕ) (seen : List Kept) (best : Option ℕ) (time : ℕ) (e : Kept) → EarliestOf key seen best time → goes_first key best time e ≡ true → AllByRecursion (ExpiresAfter key (due e)) seen
goes_now key seen None time e all first = all_weaker (λ x. has_key key x ≡ true) (ExpiresAfter key (due e)) (λ x own differs. absurd (false≢true (sym differs ∙ own))) seen all
goes_now key seen (Some place) time e is first =
    let before : due e < time = first_is_before (has_key key e) (due e) time first in
    subst (AllByRecursion (ExpiresAfter key (due e))) (sym is.split)
    (all_append (ExpiresAfter key (due e)) is.front (is.entry ∷ is.back)
    (all_weaker (ExpiresAfter key time) (ExpiresAfter key (due e)) (λ x after differs. let h = after differs in omega arith) is.front is.later)
    ((λ differs. let expires = is.expires in omega arith), all_weaker (NotBefore key time) (ExpiresAfter key (due e)) (λ x by differs. let h = by differs in omega arith) is.back is.none_before))

pub seen_first : (key : List ℕ) (seen : List Kept) (best : Option ℕ) (time place : ℕ) (e : Kept) → EarliestOf key seen best time → length seen ≡ place → goes_first key best time e ≡ true → IsEarliest key (seen ++ e ∷ []) place (due e)
seen_first key seen best time place e so_far long first = record {
  front = seen;
  entry = e;
  back = [];
  split = refl;
  at = long;
  expires = refl;
  other = first_is_other (has_key key e) (is_none best || nat_lt (due e) time) first;
  later = goes_now key seen best time e so_far first;
  none_before = tt;
}

pub seen_later : (key : List ℕ) (seen : List Kept) (best : Option ℕ) (time : ℕ) (e : Kept) → EarliestOf key seen best time → goes_first key best time e ≡ false → EarliestOf key (seen ++ e ∷ []) best time
seen_later key seen None time e all later = all_append (λ x. has_key key x ≡ true) seen (e ∷ []) all (none_is_own (has_key key e) (nat_lt (due e) time) later, tt)
seen_later key seen (Some place) time e is later = record {
  front = is.front;
  entry = is.entry;
  back = is.back ++ e ∷ [];
  split = ap (λ xs. xs ++ e ∷ []) is.split ∙ append_assoc is.front (is.entry ∷ is.back) (e ∷ []);
  at = is.at;
  expires = is.expires;
  other = is.other;
  later = is.later;
  none_before = all_append (NotBefore key time) is.back (e ∷ []) is.none_before ((λ differs. other_not_before (has_key key e) (due e) time later differs), tt);
}

-- one more entry of the list
pub takes_first : (key : List ℕ) (es : List Kept) (best : Option ℕ) (time place : ℕ) (e : Kept) → EarliestOf key (take place es) best time → place < length es → e ≡ get_or es place e → goes_first key best time e ≡ true → EarliestOf key (take (place + 1) es) (Some place) (due e)
takes_first key es best time place e so_far below is first =
    subst (λ seen. IsEarliest key seen place (due e)) (ap (λ x. take place es ++ x ∷ []) is ∙ sym (take_more es place e below))
    (seen_first key (take place es) best time place e so_far (length-take-le place es (omega arith)) first)

pub takes_later : (key : List ℕ) (es : List Kept) (best : Option ℕ) (time place : ℕ) (e : Kept) → EarliestOf key (take place es) best time → place < length es → e ≡ get_or es place e → goes_first key best time e ≡ false → EarliestOf key (take (place + 1) es) best time
takes_later key es best time place e so_far below is later =
    subst (λ seen. EarliestOf key seen best time) (ap (λ x. take place es ++ x ∷ []) is ∙ sym (take_more es place e below))
    (seen_later key (take place es) best time e so_far later)

pub taken_all : (key : List ℕ) (es : List Kept) (best : Option ℕ) (time place : ℕ) → EarliestOf key (take place es) best time → length es ≤ place → Earliest key es best
taken_all key es best time place so_far past = (time, subst (λ seen. EarliestOf key seen best time) (take_all place es past) so_far)
