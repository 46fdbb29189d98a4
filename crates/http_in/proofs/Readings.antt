-- The bytes of a connection are read in one way only.
use Rattle.std.proofs.Common.{◌≡◌, ◌+◌, ◌++◌, ℕ, List, [], ◌∷◌, refl, sym, ap, ◌∙◌, subst, Bool, true, false}
use Rattle.http_in.specs.declared.request.Request.{Request}
use Rattle.http_in.specs.Requests.{Whole, Refused, Nothing, Part, StandsAt, Ending, Closed, End, Cut, Bad, IsEnd, GoesOn, Requests}
use Rattle.http_in.proofs.Fronts.{one_front, keeps_requests, keeps_refusals}

-- no request stands where the bytes end
not_whole : (number : ℕ) (bytes rest : List ℕ) (request : Request) (ending : Ending) → IsEnd number bytes ending → StandsAt number bytes (Whole request rest) → ⊥
not_whole number bytes rest request Closed ends stands = ends
not_whole number bytes rest request End ends stands = let same = one_front number bytes Nothing (Whole request rest) ends stands in cc
not_whole number bytes rest request Cut ends stands = let same = one_front number bytes Part (Whole request rest) ends stands in cc
not_whole number bytes rest request (Bad status) ends stands = let same = one_front number bytes (Refused status) (Whole request rest) ends stands in cc

one_end : (number : ℕ) (bytes : List ℕ) (a b : Ending) → IsEnd number bytes a → IsEnd number bytes b → a ≡ b
one_end number bytes Closed b p q = absurd p
one_end number bytes End Closed p q = absurd q
one_end number bytes End End p q = refl
one_end number bytes End Cut p q = let same = one_front number bytes Nothing Part p q in cc
one_end number bytes End (Bad t) p q = let same = one_front number bytes Nothing (Refused t) p q in cc
one_end number bytes Cut Closed p q = absurd q
one_end number bytes Cut End p q = let same = one_front number bytes Part Nothing p q in cc
one_end number bytes Cut Cut p q = refl
one_end number bytes Cut (Bad t) p q = let same = one_front number bytes Part (Refused t) p q in cc
one_end number bytes (Bad s) Closed p q = absurd q
one_end number bytes (Bad s) End p q = let same = one_front number bytes (Refused s) Nothing p q in cc
one_end number bytes (Bad s) Cut p q = let same = one_front number bytes (Refused s) Part p q in cc
one_end number bytes (Bad s) (Bad t) p q = let same = one_front number bytes (Refused s) (Refused t) p q in cc

abbrev Same : List Request → List Request → Ending → Ending → Type 0
Same rs qs a b = (rs ≡ qs) × (a ≡ b)

on_by : (keep : Bool) (rs qs : List Request) (a b : Ending) (A B : Type 0) → (A → B → Same rs qs a b) → GoesOn keep rs a A → GoesOn keep qs b B → Same rs qs a b
on_by true rs qs a b A B same p q = same p q
on_by false rs qs a b A B same p q = (p.0 ∙ sym q.0, p.1 ∙ sym q.1)

pub one_reading : (number : ℕ) (bytes : List ℕ) (rs qs : List Request) (a b : Ending) → Requests number bytes rs a → Requests number bytes qs b → Same rs qs a b
one_reading number bytes [] [] a b p q = (refl, one_end number bytes a b p q)
one_reading number bytes [] (s ∷ qs) a b p q = absurd (not_whole number bytes q.0 s a p q.1)
one_reading number bytes (r ∷ rs) [] a b p q = absurd (not_whole number bytes p.0 r b q p.1)
one_reading number bytes (r ∷ rs) (s ∷ qs) a b p q =
    let same = one_front number bytes (Whole r p.0) (Whole s q.0) p.1 q.1 in
    let first : r ≡ s = cc in
    let rest : q.0 ≡ p.0 = cc in
    let on = subst (λ x. GoesOn x.keep qs b (Requests (number + 1) p.0 qs b)) (sym first) (subst (λ xs. GoesOn s.keep qs b (Requests (number + 1) xs qs b)) rest q.2) in
    let others = on_by r.keep rs qs a b (Requests (number + 1) p.0 rs a) (Requests (number + 1) p.0 qs b) (λ u v. one_reading (number + 1) p.0 rs qs a b u v) p.2 on in
    (ap (λ x. x ∷ rs) first ∙ ap (λ xs. s ∷ xs) others.0, others.1)

pub joins_requests : (number : ℕ) (bytes rest more : List ℕ) (request : Request) (others : List Request) (ending : Ending)
    → StandsAt number bytes (Whole request rest) → request.keep ≡ true → Requests (number + 1) (rest ++ more) others ending
    → Requests number (bytes ++ more) (request ∷ others) ending
joins_requests number bytes rest more request others ending stands keep on = (
  rest ++ more,
  keeps_requests number bytes rest more request stands,
  subst (λ t. GoesOn t others ending (Requests (number + 1) (rest ++ more) others ending)) (sym keep) on,
)

pub ends_at_last : (number : ℕ) (bytes rest more : List ℕ) (request : Request)
    → StandsAt number bytes (Whole request rest) → request.keep ≡ false → Requests number (bytes ++ more) (request ∷ []) Closed
ends_at_last number bytes rest more request stands keep = (
  rest ++ more,
  keeps_requests number bytes rest more request stands,
  subst (λ t. GoesOn t [] Closed (Requests (number + 1) (rest ++ more) [] Closed)) (sym keep) (refl, refl),
)

pub ends_at_refusal : (number : ℕ) (bytes more : List ℕ) (status : ℕ) → StandsAt number bytes (Refused status) → Requests number (bytes ++ more) [] (Bad status)
ends_at_refusal number bytes more status stands = keeps_refusals number bytes more status stands
