-- Beginnings of one history, and the places of a caller's entries.
use Rattle.std.proofs.Common.{◌≡◌, ◌≢◌, ℕ, zero, suc, ◌+◌, ◌<◌, ◌≤◌, List, [], ◌∷◌, ◌++◌, length, drop, max, cond, eqb, true, false, Bool, refl, ap, sym, ◌∙◌, subst, arith, append_assoc, length-append, eq-eqb, ne_eqb, lt-ltb, le-ltb}
use Rattle.std.specs.List.{AllByRecursion}
use Rattle.std.proofs.lemmas.List.{append-nil}
use Rattle.std.proofs.Math.Seq.{drop-append_seam}
use native.Mathlib.Decide.{dec_le}
use mathlib.Core.Logic.{dite}
use Rattle.dict_model.specs.declared.operation.Entry.{Entry}
use Rattle.dict_model.specs.declared.operation.ZoneSpec.{ZoneSpec}
use Rattle.dict_model.specs.Zone.{State, dict, empty}
use Rattle.dict_model.specs.History.{state_after, state_from, LegalFrom, Legal, Begins}
use Rattle.dict_lock.specs.Weights.{total}
use Rattle.dict_lock.specs.Views.{places_from, places_of, IsQuiet, AllMade, ClosedFit, longer}
use Rattle.dict_lock.proofs.Sums.{all-append, all_left, all_weaker, only, only-same}

pub begins_self : (xs : List Entry) → Begins xs xs
begins_self xs = ([], append-nil xs)

pub begins_empty : (xs : List Entry) → Begins [] xs
begins_empty xs = (xs, refl)

pub begins_trans : (xs ys zs : List Entry) → Begins xs ys → Begins ys zs → Begins xs zs
begins_trans xs ys zs p q = (p.0 ++ q.0, sym (append_assoc xs p.0 q.0) ∙ (ap (λ w. w ++ q.0) p.1 ∙ q.1))

pub begins_more : (xs ys zs : List Entry) → Begins xs ys → Begins xs (ys ++ zs)
begins_more xs ys zs p = begins_trans xs ys (ys ++ zs) p (zs, refl)

-- of two beginnings of one list the shorter begins the longer
pub begins_shorter : (xs ys zs : List Entry) → Begins xs zs → Begins ys zs → length xs ≤ length ys → Begins xs ys
begins_shorter [] ys zs p q le = (ys, refl)
begins_shorter (x ∷ xs) [] zs p q le = absurd (omega arith)
begins_shorter (x ∷ xs) (y ∷ ys) [] p q le = absurd (cc (p.1))
begins_shorter (x ∷ xs) (y ∷ ys) (z ∷ zs) p q le =
    let heads : x ≡ y = cc (p.1, q.1) in
    let rest = begins_shorter xs ys zs (p.0, cc (p.1)) (q.0, cc (q.1)) (omega arith) in
    (rest.0, cc (heads, rest.1))

pub begins_length : (xs ys : List Entry) → Begins xs ys → length xs ≤ length ys
begins_length xs ys p = omega (arith, sym (ap length p.1) ∙ length-append xs p.0)

-- a beginning that is as long is the whole
pub begins_whole : (xs ys : List Entry) → Begins xs ys → length ys ≤ length xs → xs ≡ ys
begins_whole [] [] p le = refl
begins_whole [] (y ∷ ys) p le = absurd (omega arith)
begins_whole (x ∷ xs) [] p le = absurd (cc (p.1))
begins_whole (x ∷ xs) (y ∷ ys) p le =
    let heads : x ≡ y = cc (p.1) in
    let rest : xs ≡ ys = begins_whole xs ys (p.0, cc (p.1)) (omega arith) in
    cc (heads, rest)

-- what holds of each of a list holds of each of its beginning
pub all_begins : (P : Entry → Type 0) (xs ys : List Entry) → Begins xs ys → AllByRecursion P ys → AllByRecursion P xs
all_begins P xs ys p h = all_left P xs p.0 (subst (AllByRecursion P) (sym p.1) h)

pub all_drop : (P : Entry → Type 0) (n : ℕ) (xs : List Entry) → AllByRecursion P xs → AllByRecursion P (drop n xs)
all_drop P zero xs h = h
all_drop P (suc n) [] h = tt
all_drop P (suc n) (x ∷ xs) h = all_drop P n xs h.1

pub all_drop_more : (P : Entry → Type 0) (m n : ℕ) (xs : List Entry) → m ≤ n → AllByRecursion P (drop m xs) → AllByRecursion P (drop n xs)
all_drop_more P zero n xs le h = all_drop P n xs h
all_drop_more P (suc m) zero xs le h = absurd (omega arith)
all_drop_more P (suc m) (suc n) [] le h = tt
all_drop_more P (suc m) (suc n) (x ∷ xs) le h = all_drop_more P m n xs (omega arith) h

pub all_drop_push : (P : Entry → Type 0) (n : ℕ) (xs : List Entry) (x : Entry) → AllByRecursion P (drop n xs) → P x → AllByRecursion P (drop n (xs ++ x ∷ []))
all_drop_push P zero xs x h p = all-append P xs (x ∷ []) h (p, tt)
all_drop_push P (suc n) [] x h p = all_drop P n [] tt
all_drop_push P (suc n) (y ∷ ys) x h p = all_drop_push P n ys x h p

all_drop_left : (P : Entry → Type 0) (n : ℕ) (xs ys : List Entry) → AllByRecursion P (drop n (xs ++ ys)) → AllByRecursion P (drop n xs)
all_drop_left P zero xs ys h = all_left P xs ys h
all_drop_left P (suc n) [] ys h = tt
all_drop_left P (suc n) (x ∷ xs) ys h = all_drop_left P n xs ys h

pub quiet_begins : (n b : ℕ) (xs ys : List Entry) → Begins xs ys → IsQuiet n b ys → IsQuiet n b xs
quiet_begins n b xs ys p h = all_drop_left (λ (e : Entry). e.caller ≢ n) b xs p.0 (subst (IsQuiet n b) (sym p.1) h)

pub closed_begins : (xs ys : List Entry) (m n : ℕ) (closed : List (ℕ × ℕ)) → Begins xs ys → m ≤ n → ClosedFit ys m closed → ClosedFit xs n closed
closed_begins xs ys m n [] p le h = tt
closed_begins xs ys m n (c ∷ cs) p le h = (((let b = h.0.0 in omega arith), quiet_begins c.0 c.1 xs ys p h.0.1), closed_begins xs ys m n cs p le h.1)

-- one more entry, of a caller that is none of the closed ones
pub closed_push : (log : List Entry) (e : Entry) (m n : ℕ) (closed : List (ℕ × ℕ)) → m ≤ n → total (λ c. only e.caller c.0) closed ≡ 0 → ClosedFit log m closed → ClosedFit (log ++ e ∷ []) n closed
closed_push log e m n [] le none h = tt
closed_push log e m n (c ∷ cs) le none h = (
  ((let b = h.0.0 in omega arith), all_drop_push (λ (x : Entry). x.caller ≢ c.0) c.1 log e h.0.1 (λ same. absurd (omega (arith, only-same e.caller c.0 (sym same), none)))),
  closed_push log e m n cs le (omega (arith, none)) h.1,
)

pub made_more : (m n : ℕ) (log : List Entry) → m ≤ n → AllMade m log → AllMade n log
made_more m n log le h = all_weaker (λ (e : Entry). e.caller < m) (λ (e : Entry). e.caller < n) log (λ e lt. omega arith) h

-- the places of a caller's entries
pub places_none : (k n : ℕ) (log : List Entry) → AllByRecursion (λ e. e.caller ≢ n) log → places_from k n log ≡ []
places_none k n [] h = refl
places_none k n (e ∷ es) h = ap (λ b. cond b (k ∷ places_from (k + 1) n es) (places_from (k + 1) n es)) (ne_eqb e.caller n h.0) ∙ places_none (k + 1) n es h.1

places_cons : (b : Bool) (k : ℕ) (xs ys zs : List ℕ) → xs ≡ ys ++ zs → cond b (k ∷ xs) xs ≡ cond b (k ∷ ys) ys ++ zs
places_cons true k xs ys zs e = ap (λ l. k ∷ l) e
places_cons false k xs ys zs e = e

pub places-append : (k n : ℕ) (xs ys : List Entry) → places_from k n (xs ++ ys) ≡ places_from k n xs ++ places_from (k + length xs) n ys
places-append k n [] ys = let e : k ≡ k + 0 = omega arith in ap (λ j. places_from j n ys) e
places-append k n (x ∷ xs) ys =
    let e : k + 1 + length xs ≡ k + suc (length xs) = omega arith in
    places_cons (eqb x.caller n) k _ _ _ (places-append (k + 1) n xs ys ∙ ap (λ j. places_from (k + 1) n xs ++ places_from j n ys) e)

-- entries of others leave the places
pub places_same : (n : ℕ) (xs ys : List Entry) → Begins xs ys → IsQuiet n (length xs) ys → places_of n ys ≡ places_of n xs
places_same n xs ys p h =
    let rest = subst (AllByRecursion (λ (e : Entry). e.caller ≢ n)) (ap (drop (length xs)) (sym p.1) ∙ drop-append_seam xs p.0) h in
    sym (ap (places_of n) p.1) ∙ places-append 0 n xs p.0 ∙ ap (λ l. places_of n xs ++ l) (places_none (0 + length xs) n p.0 rest) ∙ append-nil (places_of n xs)

pub places_push : (n : ℕ) (xs : List Entry) (e : Entry) → e.caller ≡ n → places_of n (xs ++ e ∷ []) ≡ places_of n xs ++ length xs ∷ []
places_push n xs e is =
    let z : 0 + length xs ≡ length xs = omega arith in
    places-append 0 n xs (e ∷ []) ∙ ap (λ b. places_of n xs ++ cond b ((0 + length xs) ∷ []) []) (eq-eqb e.caller n is) ∙ ap (λ j. places_of n xs ++ j ∷ []) z

pub places_unmade : (k made : ℕ) (log : List Entry) → AllMade made log → places_from k made log ≡ []
places_unmade k made log h = places_none k made log (all_weaker (λ (e : Entry). e.caller < made) (λ (e : Entry). e.caller ≢ made) log (λ e lt same. absurd (omega arith)) h)

-- legal histories
legal_more : (spec : ZoneSpec) (s : State) (log : List Entry) (e : Entry) → LegalFrom spec s log → e.reply ≡ (dict spec (state_from spec s log) e.op e.reading).0 → LegalFrom spec s (log ++ e ∷ [])
legal_more spec s [] e h r = (r, tt)
legal_more spec s (x ∷ xs) e h r = (h.0, legal_more spec (dict spec s x.op x.reading).1 xs e h.1 r)

pub legal_push : (spec : ZoneSpec) (log : List Entry) (e : Entry) → Legal spec log → e.reply ≡ (dict spec (state_after spec log) e.op e.reading).0 → Legal spec (log ++ e ∷ [])
legal_push spec log e h r = legal_more spec empty log e h r

state_more : (spec : ZoneSpec) (s : State) (log : List Entry) (e : Entry) → state_from spec s (log ++ e ∷ []) ≡ (dict spec (state_from spec s log) e.op e.reading).1
state_more spec s [] e = refl
state_more spec s (x ∷ xs) e = state_more spec (dict spec s x.op x.reading).1 xs e

pub after_push : (spec : ZoneSpec) (log : List Entry) (e : Entry) → state_after spec (log ++ e ∷ []) ≡ (dict spec (state_after spec log) e.op e.reading).1
after_push spec log e = state_more spec empty log e

legal_left : (spec : ZoneSpec) (s : State) (xs ys : List Entry) → LegalFrom spec s (xs ++ ys) → LegalFrom spec s xs
legal_left spec s [] ys h = tt
legal_left spec s (x ∷ xs) ys h = (h.0, legal_left spec (dict spec s x.op x.reading).1 xs ys h.1)

pub legal_begins : (spec : ZoneSpec) (xs ys : List Entry) → Begins xs ys → Legal spec ys → Legal spec xs
legal_begins spec xs ys p h = legal_left spec empty xs p.0 (subst (Legal spec) (sym p.1) h)

-- the longer of two lists
pub longer_cases : (P : List Entry → Type 0) (xs ys : List Entry) → (length xs < length ys → P ys) → (length ys ≤ length xs → P xs) → P (longer xs ys)
longer_cases P xs ys more same = dite (dec_le (length ys) (length xs))
    (λ le. subst (λ b. P (cond b ys xs)) (sym (le-ltb (length xs) (length ys) le)) (same le))
    (λ gt. let lt : length xs < length ys = omega arith in subst (λ b. P (cond b ys xs)) (sym (lt-ltb (length xs) (length ys) lt)) (more lt))

pub longer_left : (xs ys zs : List Entry) → Begins xs zs → Begins ys zs → Begins xs (longer xs ys)
longer_left xs ys zs p q = longer_cases (Begins xs) xs ys (λ lt. begins_shorter xs ys zs p q (omega arith)) (λ le. begins_self xs)

pub longer_right : (xs ys zs : List Entry) → Begins xs zs → Begins ys zs → Begins ys (longer xs ys)
longer_right xs ys zs p q = longer_cases (Begins ys) xs ys (λ lt. begins_self ys) (λ le. begins_shorter ys xs zs q p le)

pub longer_either : (P : List Entry → Type 0) (xs ys : List Entry) → P xs → P ys → P (longer xs ys)
longer_either P xs ys p q = longer_cases P xs ys (λ lt. q) (λ le. p)

pub longer_long : (xs ys : List Entry) → max (length xs) (length ys) ≤ length (longer xs ys)
longer_long xs ys = longer_cases (λ l. max (length xs) (length ys) ≤ length l) xs ys (λ lt. omega arith) (λ le. omega arith)
