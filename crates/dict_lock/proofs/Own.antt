-- A call adds one entry to the caller's own.
use Rattle.std.proofs.Common.{◌≡◌, ℕ, ◌+◌, List, [], ◌∷◌, ◌++◌, length, cond, eqb, true, false, Bool, refl, ap, sym, ◌∙◌, eq-eqb}
use Rattle.std.proofs.lemmas.List.{append-nil, append_cancel_left, append_cancel_right}
use Rattle.dict_model.specs.declared.operation.Entry.{Entry}
use Rattle.dict_lock.specs.Views.{places_from, places_of, calls_by}
use Rattle.dict_lock.specs.Known.{Caller, IsCaller, Commits}
use Rattle.dict_lock.proofs.Histories.{places-append, places_push}

calls_cons : (b : Bool) (e : Entry) (xs ys zs : List Entry) → xs ≡ ys ++ zs → cond b (e ∷ xs) xs ≡ cond b (e ∷ ys) ys ++ zs
calls_cons true e xs ys zs h = ap (λ l. e ∷ l) h
calls_cons false e xs ys zs h = h

pub calls-append : (n : ℕ) (xs ys : List Entry) → calls_by n (xs ++ ys) ≡ calls_by n xs ++ calls_by n ys
calls-append n [] ys = refl
calls-append n (x ∷ xs) ys = calls_cons (eqb x.caller n) x _ _ _ (calls-append n xs ys)

none_cons : (b : Bool) (k : ℕ) (e : Entry) (ps : List ℕ) (cs : List Entry) → (ps ≡ [] → cs ≡ []) → cond b (k ∷ ps) ps ≡ [] → cond b (e ∷ cs) cs ≡ []
none_cons true k e ps cs h is = absurd (cc is)
none_cons false k e ps cs h is = h is

-- a caller with no place has no entry
pub no_places : (k n : ℕ) (xs : List Entry) → places_from k n xs ≡ [] → calls_by n xs ≡ []
no_places k n [] h = refl
no_places k n (x ∷ xs) h = none_cons (eqb x.caller n) k x (places_from (k + 1) n xs) (calls_by n xs) (no_places (k + 1) n xs) h

pub adds_own : (e : Entry) (k k' : Caller) → IsCaller k → IsCaller k' → Commits e k k' → e.caller ≡ k.number → calls_by k.number k'.seen ≡ calls_by k.number k.seen ++ e ∷ []
adds_own e k k' x y a is =
    let n : ℕ = k.number in
    let between : List Entry = a.seen.0 in
    let before : List Entry = k.seen ++ between in
    let mine' : k'.mine ≡ places_of n (before ++ e ∷ []) = y.places ∙ (λ i. places_of (a.number i) (a.seen.1 i)) in
    let snoc : k.mine ++ length before ∷ [] ≡ places_of n before ++ length before ∷ [] = sym a.seen.2 ∙ mine' ∙ places_push n before e is in
    let same : k.mine ≡ places_of n before = append_cancel_right k.mine (places_of n before) (length before ∷ []) snoc in
    let both : places_of n k.seen ++ [] ≡ places_of n k.seen ++ places_from (0 + length k.seen) n between = append-nil (places_of n k.seen) ∙ sym x.places ∙ same ∙ places-append 0 n k.seen between in
    let none-between : places_from (0 + length k.seen) n between ≡ [] = sym (append_cancel_left (places_of n k.seen) [] (places_from (0 + length k.seen) n between) both) in
    ap (calls_by n) a.seen.1 ∙ calls-append n before (e ∷ []) ∙ (λ i. calls-append n k.seen between i ++ cond (eq-eqb e.caller n is i) (e ∷ []) [])
    ∙ ap (λ l. (calls_by n k.seen ++ l) ++ e ∷ []) (no_places (0 + length k.seen) n between none-between) ∙ ap (λ l. l ++ e ∷ []) (append-nil (calls_by n k.seen))
