-- What a head that was read says of itself and of the bytes behind it.
use Rattle.std.proofs.Common.{◌≡◌, ◌<◌, ◌≤◌, ℕ, List, [], ◌∷◌, length, take, drop, refl, sym, ap, ◌∙◌, subst, arith, Bool, true, false, not, cond, Result, Ok, Err, None, Some, leb, codes, nat_lt}
use Rattle.std.proofs.lemmas.Bool.{le-leb, lt-leb, leb-true}
use Rattle.std.specs.Str.Parse.{digits_value}
use Rattle.httparse.specs.Grammar.{RequestHead, ReadsRequest}
use Rattle.http_in.specs.declared.request.Request.{Request}
use Rattle.http_in.specs.declared.judge.Judged.{Judged}
use Rattle.http_in.specs.declared.judge.Judged.TheVariants as judgements
use Rattle.http_in.specs.Fields.{values}
use Rattle.http_in.specs.Rules.{first_line, ends_in_other_version, is_known_method, is_origin_form, has_right_hosts, is_number, stated_length, max_body, body_length, fields_of, request_of}
use Rattle.http_in.specs.Requests.{Front, Whole, Refused, Part, IsRead, ReadSays, SaysBy, HeadSays, with_body, max_fields}
use Rattle.http_in.specs.Deciding.{BodyIs, JudgedIs}

-- the version comes before all else
pub other_version : (number : ℕ) (head others : List ℕ) → ends_in_other_version (first_line head) ≡ true → HeadSays number head others (Refused 505)
other_version number head others other = subst (λ t. SaysBy t number head others (Refused 505)) (sym other) refl

-- no head was read
pub no_head : (number : ℕ) (head others : List ℕ) → IsRead head None → ends_in_other_version (first_line head) ≡ false → HeadSays number head others (Refused 400)
no_head number head others is other =
    let says : ReadSays number head others (Refused 400) = record { read = None; is_read = is; says = refl } in
    subst (λ t. SaysBy t number head others (Refused 400)) (sym other) says

-- a head was read
pub says_head : (number : ℕ) (head others : List ℕ) (h : RequestHead) (front : Front) (r : Result ℕ ℕ)
    → ReadsRequest head h [] → length h.fields ≤ max_fields → ends_in_other_version (first_line head) ≡ false
    → body_length h.method h.target h.minor (fields_of h) ≡ r → front ≡ with_body number h others r → HeadSays number head others front
says_head number head others h front r whole few other length_is is =
    let says : ReadSays number head others front = record {
      read = Some h;
      is_read = (whole, few);
      says = is ∙ ap (λ s. with_body number h others s) (sym length_is);
    } in
    subst (λ t. SaysBy t number head others front) (sym other) says

pub same_length : (m m' t t' : List ℕ) (v v' : ℕ) (f f' : List (List ℕ × List ℕ)) → m ≡ m' → t ≡ t' → v ≡ v' → f ≡ f' → body_length m t v f ≡ body_length m' t' v' f'
same_length m m' t t' v v' f f' p q r s = cc

-- a length that is stated is within the limit
abbrev length_by : Bool → Bool → ℕ → Result ℕ ℕ
length_by t u value = cond t (cond u (Ok value) (Err 413)) (Err 400)

small_value : (value : List ℕ) (n : ℕ) (t u : Bool) → leb (digits_value 10 value) max_body ≡ u
    → length_by t u (digits_value 10 value) ≡ Ok n → n ≤ max_body
small_value value n true true small e = let is : digits_value 10 value ≡ n = cc in subst (λ k. k ≤ max_body) is (leb-true (digits_value 10 value) max_body small)
small_value value n true false small e = cc
small_value value n false u small e = cc

small_stated : (vs : List (List ℕ)) (n : ℕ) → stated_length vs ≡ Ok n → n ≤ max_body
small_stated [] n e = let is : 0 ≡ n = cc in subst (λ k. k ≤ max_body) is (omega arith)
small_stated (value ∷ []) n e = small_value value n (is_number value) (leb (digits_value 10 value) max_body) refl e
small_stated (value ∷ other ∷ more) n e = cc

abbrev ruled : Bool → Bool → Bool → Bool → Result ℕ ℕ → Result ℕ ℕ
ruled t u v w r = cond t (Err 501) (cond u (Err 400) (cond v (Err 400) (cond w (Err 501) r)))

by_rules : (t u v w : Bool) (r : Result ℕ ℕ) (n : ℕ)
    → ruled t u v w r ≡ Ok n → r ≡ Ok n
by_rules true u v w r n e = cc
by_rules false true v w r n e = cc
by_rules false false true w r n e = cc
by_rules false false false true r n e = cc
by_rules false false false false r n e = e

pub small_body : (method target : List ℕ) (minor : ℕ) (fields : List (List ℕ × List ℕ)) (n : ℕ) → body_length method target minor fields ≡ Ok n → n ≤ max_body
unfolding body_length
small_body method target minor fields n e =
    small_stated (values (codes "Content-Length") fields) n
    (by_rules (not (is_known_method method)) (not (is_origin_form target)) (not (has_right_hosts minor (values (codes "Host") fields)))
    (nat_lt 0 (length (values (codes "Transfer-Encoding") fields))) (stated_length (values (codes "Content-Length") fields)) n e)

-- a body that is there, or not yet
body_there : (number : ℕ) (h : RequestHead) (behind : List ℕ) (len : ℕ) → len ≤ length behind
    → with_body number h behind (Ok len) ≡ Whole (request_of number h (take len behind)) (drop len behind)
body_there number h behind len fits =
    ap (λ t. cond t (Whole (request_of number h (take len behind)) (drop len behind)) Part) (le-leb len (length behind) fits)

body_wanted : (number : ℕ) (h : RequestHead) (behind : List ℕ) (len : ℕ) → length behind < len → with_body number h behind (Ok len) ≡ Part
body_wanted number h behind len short =
    ap (λ t. cond t (Whole (request_of number h (take len behind)) (drop len behind)) Part) (lt-leb len (length behind) short)

whole_by : (number : ℕ) (h : RequestHead) (behind : List ℕ) (len n : ℕ) (request : Request) → n ≡ len → len ≤ length behind
    → request ≡ request_of number h (take len behind) → Whole request (drop n behind) ≡ with_body number h behind (Ok len)
whole_by number h behind len n request same fits is =
    ap (λ q. Whole q (drop n behind)) is ∙ ap (λ k. Whole (request_of number h (take len behind)) (drop k behind)) same ∙ sym (body_there number h behind len fits)

pub judged_body : (j : Judged) (number : ℕ) (head behind : List ℕ) (h : RequestHead) (len : ℕ)
    → ReadsRequest head h [] → length h.fields ≤ max_fields → ends_in_other_version (first_line head) ≡ false
    → body_length h.method h.target h.minor (fields_of h) ≡ Ok len
    → BodyIs j number (h.method, h.target, h.minor) (fields_of h) len behind → JudgedIs j number head behind
judged_body (judgements.Request request n) number head behind h len whole few other length_is b = (
  subst (λ k. k ≤ length behind) (sym b.0) b.1,
  says_head number head behind h (Whole request (drop n behind)) (Ok len) whole few other length_is (whole_by number h behind len n request b.0 b.1 b.2),
)
judged_body (judgements.Bad status) number head behind h len whole few other length_is b = absurd b
judged_body (judgements.Wants n) number head behind h len whole few other length_is b = (
  subst (λ k. length behind < k) (sym b.0) b.1,
  subst (λ k. k ≤ max_body) (sym b.0) (small_body h.method h.target h.minor (fields_of h) len length_is),
  λ others short. says_head number head others h Part (Ok len) whole few other length_is (sym (body_wanted number h others len (subst (λ k. length others < k) b.0 short))),
)
judged_body judgements.NoMemory number head behind h len whole few other length_is b = tt

pub same_parts : (j : Judged) (number : ℕ) (len : ℕ) (behind : List ℕ) (m m' t t' : List ℕ) (v v' : ℕ) (f f' : List (List ℕ × List ℕ)) → m ≡ m' → t ≡ t' → v ≡ v' → f ≡ f'
    → BodyIs j number (m, t, v) f len behind → BodyIs j number (m', t', v') f' len behind
same_parts j number len behind m m' t t' v v' f f' p q r s b =
    subst (λ x. BodyIs j number (m', t', v') x len behind) s
    (subst (λ x. BodyIs j number (m', t', x) f len behind) r
    (subst (λ x. BodyIs j number (m', x, v) f len behind) q
    (subst (λ x. BodyIs j number (x, t, v) f len behind) p b)))
