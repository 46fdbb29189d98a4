-- One thing stands at a place, and what is decided stays so.
use Rattle.std.proofs.Common.{◌≡◌, ◌<◌, ◌≤◌, ◌+◌, ◌-◌, ◌++◌, ◌⊎◌, ℕ, List, [], length, take, drop, refl, sym, ap, ◌∙◌, subst, arith, Bool, true, false, cond, inl, inr, Option, None, Some, Result, Ok, Err, leb, nat_lt, ◌&&◌}
use Rattle.std.proofs.lemmas.Bool.{le-leb, leb-true, leb-false, ltb-true, ltb-false, and_parts}
use Rattle.std.proofs.lemmas.List.{take-append-le, drop-append-le, length-append, length-take, length-drop, nil_from_length}
use Rattle.httparse.specs.Grammar.{RequestHead, ReadsRequest}
use Rattle.httparse.proofs.GrammarLemmas.{request_unique}
use Rattle.http_in.specs.declared.request.Request.{Request}
use Rattle.http_in.specs.Head.{max_head, head_len, behind_empty_lines, from_head, head_start}
use Rattle.http_in.specs.Rules.{first_line, ends_in_other_version, body_length, max_body, fields_of, request_of, made_request, keeps}
use Rattle.http_in.specs.Requests.{Front, Whole, Refused, Nothing, Part, max_fields, IsRead, SaysBy, HeadSays, by_head, with_body, StandsBy, StandsAt, without_head, too_long_status}
use Rattle.http_in.specs.Deciding.{IsUndecided}
use Rattle.http_in.proofs.Scanning.{shorter}
use Rattle.http_in.proofs.Judging.{says_head, small_body}
use Rattle.http_in.proofs.Standing.{HasHead, has_head_more, head_fits, stands_with, too_long}

-- ---- with a head, or without one

-- a head that ends, and what it says
pub record Headed (number : ℕ) (bytes : List ℕ) (front : Front) : Type 0 where
  pub head : List ℕ
  pub behind : List ℕ
  pub has : HasHead bytes head behind
  pub says : HeadSays number head behind front

-- no head ends there
pub record Headless (bytes : List ℕ) (front : Front) : Type 0 where
  pub none : head_len (from_head bytes) ≡ None
  pub is : front ≡ without_head bytes

head_inside : (bytes : List ℕ) (n : ℕ) → head_len (from_head bytes) ≡ Some n → head_start bytes + n ≤ length (take max_head bytes)
unfolding from_head head_start
head_inside bytes n ends =
    let less = head_fits (behind_empty_lines (take max_head bytes)) n ends in
    let short = shorter (take max_head bytes) in
    omega (arith, less, short)

by_end : (number : ℕ) (bytes : List ℕ) (front : Front) (o : Option ℕ) → head_len (from_head bytes) ≡ o → StandsBy number bytes o front → Headed number bytes front ⊎ Headless bytes front
by_end number bytes front None e stands = inr (record { none = e; is = stands })
by_end number bytes front (Some n) e stands = inl (record {
  head = take n (from_head bytes);
  behind = drop (head_start bytes + n) bytes;
  has = record { len = n; ends = e; head_is = refl; behind_is = refl; fits = head_inside bytes n e };
  says = stands;
})

pub stands_cases : (number : ℕ) (bytes : List ℕ) (front : Front) → StandsAt number bytes front → Headed number bytes front ⊎ Headless bytes front
unfolding StandsAt
stands_cases number bytes front stands = by_end number bytes front (head_len (from_head bytes)) refl stands

-- ---- what a head says

-- a request of a head and a body
pub record WholeSays (number : ℕ) (head behind : List ℕ) (request : Request) (rest : List ℕ) : Type 0 where
  pub h : RequestHead
  pub read : ReadsRequest head h []
  pub few : length h.fields ≤ max_fields
  pub version : ends_in_other_version (first_line head) ≡ false
  pub n : ℕ
  pub length_is : body_length h.method h.target h.minor (fields_of h) ≡ Ok n
  pub fits : n ≤ length behind
  pub request_is : request ≡ request_of number h (take n behind)
  pub rest_is : rest ≡ drop n behind

body_by : (number : ℕ) (head behind : List ℕ) (request : Request) (rest : List ℕ) (h : RequestHead) (n : ℕ) (t : Bool) → leb n (length behind) ≡ t
    → ReadsRequest head h [] → length h.fields ≤ max_fields → ends_in_other_version (first_line head) ≡ false → body_length h.method h.target h.minor (fields_of h) ≡ Ok n
    → Whole request rest ≡ cond t (Whole (request_of number h (take n behind)) (drop n behind)) Part → WholeSays number head behind request rest
body_by number head behind request rest h n true fits read few version length_is is = record {
  h = h;
  read = read;
  few = few;
  version = version;
  n = n;
  length_is = length_is;
  fits = leb-true n (length behind) fits;
  request_is = cc;
  rest_is = cc;
}
body_by number head behind request rest h n false fits read few version length_is is = cc

length_by : (number : ℕ) (head behind : List ℕ) (request : Request) (rest : List ℕ) (h : RequestHead) (r : Result ℕ ℕ)
    → ReadsRequest head h [] → length h.fields ≤ max_fields → ends_in_other_version (first_line head) ≡ false → body_length h.method h.target h.minor (fields_of h) ≡ r
    → Whole request rest ≡ with_body number h behind r → WholeSays number head behind request rest
length_by number head behind request rest h (Err status) read few version length_is is = cc
length_by number head behind request rest h (Ok n) read few version length_is is =
    body_by number head behind request rest h n (leb n (length behind)) refl read few version length_is is

read_by : (number : ℕ) (head behind : List ℕ) (request : Request) (rest : List ℕ) (read : Option RequestHead) → IsRead head read → ends_in_other_version (first_line head) ≡ false
    → Whole request rest ≡ by_head number read behind → WholeSays number head behind request rest
read_by number head behind request rest None is_read version is = cc
read_by number head behind request rest (Some h) is_read version is =
    length_by number head behind request rest h (body_length h.method h.target h.minor (fields_of h)) is_read.0 is_read.1 version refl is

version_by : (number : ℕ) (head behind : List ℕ) (request : Request) (rest : List ℕ) (t : Bool) → ends_in_other_version (first_line head) ≡ t
    → SaysBy t number head behind (Whole request rest) → WholeSays number head behind request rest
version_by number head behind request rest true version says = cc
version_by number head behind request rest false version says = read_by number head behind request rest says.read says.is_read version says.says

pub whole_says : (number : ℕ) (head behind : List ℕ) (request : Request) (rest : List ℕ) → HeadSays number head behind (Whole request rest) → WholeSays number head behind request rest
whole_says number head behind request rest says = version_by number head behind request rest (ends_in_other_version (first_line head)) refl says

-- the same with more bytes behind
says_more : (number : ℕ) (head behind : List ℕ) (request : Request) (rest more : List ℕ) → WholeSays number head behind request rest
    → HeadSays number head (behind ++ more) (Whole request (rest ++ more))
says_more number head behind request rest more w =
    let fits : w.n ≤ length (behind ++ more) = let all = length-append behind more in omega (arith, all, w.fits) in
    let there = ap (λ t. cond t (Whole (request_of number w.h (take w.n (behind ++ more))) (drop w.n (behind ++ more))) Part) (le-leb w.n (length (behind ++ more)) fits) in
    let same_request = w.request_is ∙ ap (λ body. request_of number w.h body) (sym (take-append-le w.n behind more w.fits)) in
    let same_rest = ap (λ xs. xs ++ more) w.rest_is ∙ sym (drop-append-le w.n behind more w.fits) in
    says_head number head (behind ++ more) w.h (Whole request (rest ++ more)) (Ok w.n) w.read w.few w.version w.length_is
    (ap (λ q. Whole q (rest ++ more)) same_request ∙ ap (λ xs. Whole (request_of number w.h (take w.n (behind ++ more))) xs) same_rest ∙ sym there)

-- a refusal is the head's alone
refused_body : (number : ℕ) (h : RequestHead) (behind others : List ℕ) (status n : ℕ) (t : Bool)
    → Refused status ≡ cond t (Whole (request_of number h (take n behind)) (drop n behind)) Part → Refused status ≡ with_body number h others (Ok n)
refused_body number h behind others status n true is = cc
refused_body number h behind others status n false is = cc

refused_length : (number : ℕ) (h : RequestHead) (behind others : List ℕ) (status : ℕ) (r : Result ℕ ℕ) → Refused status ≡ with_body number h behind r → Refused status ≡ with_body number h others r
refused_length number h behind others status (Err s) is = is
refused_length number h behind others status (Ok n) is = refused_body number h behind others status n (leb n (length behind)) is

refused_read : (number : ℕ) (behind others : List ℕ) (status : ℕ) (read : Option RequestHead) → Refused status ≡ by_head number read behind → Refused status ≡ by_head number read others
refused_read number behind others status None is = is
refused_read number behind others status (Some h) is = refused_length number h behind others status (body_length h.method h.target h.minor (fields_of h)) is

refused_version : (number : ℕ) (head behind others : List ℕ) (status : ℕ) (t : Bool) → SaysBy t number head behind (Refused status) → SaysBy t number head others (Refused status)
refused_version number head behind others status true says = says
refused_version number head behind others status false says =
    record { read = says.read; is_read = says.is_read; says = refused_read number behind others status says.read says.says }

-- nothing is said by no head
nothing_body : (number : ℕ) (h : RequestHead) (behind : List ℕ) (n : ℕ) (t : Bool) → Nothing ≡ cond t (Whole (request_of number h (take n behind)) (drop n behind)) Part → ⊥
nothing_body number h behind n true is = cc
nothing_body number h behind n false is = cc

nothing_length : (number : ℕ) (h : RequestHead) (behind : List ℕ) (r : Result ℕ ℕ) → Nothing ≡ with_body number h behind r → ⊥
nothing_length number h behind (Err s) is = cc
nothing_length number h behind (Ok n) is = nothing_body number h behind n (leb n (length behind)) is

nothing_read : (number : ℕ) (behind : List ℕ) (read : Option RequestHead) → Nothing ≡ by_head number read behind → ⊥
nothing_read number behind None is = cc
nothing_read number behind (Some h) is = nothing_length number h behind (body_length h.method h.target h.minor (fields_of h)) is

nothing_version : (number : ℕ) (head behind : List ℕ) (t : Bool) → SaysBy t number head behind Nothing → ⊥
nothing_version number head behind true says = cc
nothing_version number head behind false says = nothing_read number behind says.read says.says

-- a part that a head says lacks bytes of a body within the limit
part_body : (number : ℕ) (h : RequestHead) (behind : List ℕ) (n : ℕ) (t : Bool) → leb n (length behind) ≡ t → n ≤ max_body
    → Part ≡ cond t (Whole (request_of number h (take n behind)) (drop n behind)) Part → length behind < max_body
part_body number h behind n true short small is = cc
part_body number h behind n false short small is = let less = leb-false n (length behind) short in omega (arith, less, small)

part_length : (number : ℕ) (h : RequestHead) (behind : List ℕ) (r : Result ℕ ℕ) → body_length h.method h.target h.minor (fields_of h) ≡ r
    → Part ≡ with_body number h behind r → length behind < max_body
part_length number h behind (Err s) length_is is = cc
part_length number h behind (Ok n) length_is is =
    part_body number h behind n (leb n (length behind)) refl (small_body h.method h.target h.minor (fields_of h) n length_is) is

part_read : (number : ℕ) (behind : List ℕ) (read : Option RequestHead) → Part ≡ by_head number read behind → length behind < max_body
part_read number behind None is = cc
part_read number behind (Some h) is = part_length number h behind (body_length h.method h.target h.minor (fields_of h)) refl is

part_version : (number : ℕ) (head behind : List ℕ) (t : Bool) → SaysBy t number head behind Part → length behind < max_body
part_version number head behind true says = cc
part_version number head behind false says = part_read number behind says.read says.says

-- ---- what no head says

abbrev headless_by : List ℕ → Bool → Bool → Front
headless_by bytes t u = cond t (Refused (too_long_status (from_head bytes))) (cond u Part Nothing)

without_is : (bytes : List ℕ) → without_head bytes ≡ headless_by bytes (leb max_head (length bytes)) (nat_lt 0 (length (from_head bytes)))
unfolding without_head
without_is bytes = refl

whole_by : (bytes : List ℕ) (request : Request) (rest : List ℕ) (t u : Bool) → Whole request rest ≡ headless_by bytes t u → ⊥
whole_by bytes request rest true u is = cc
whole_by bytes request rest false true is = cc
whole_by bytes request rest false false is = cc

refused_by : (bytes : List ℕ) (status : ℕ) (t u : Bool) → Refused status ≡ headless_by bytes t u → (t ≡ true) × (status ≡ too_long_status (from_head bytes))
refused_by bytes status true u is = (refl, cc)
refused_by bytes status false true is = cc
refused_by bytes status false false is = cc

part_by : (bytes : List ℕ) (t u : Bool) → Part ≡ headless_by bytes t u → (t ≡ false) × (u ≡ true)
part_by bytes true u is = cc
part_by bytes false true is = (refl, refl)
part_by bytes false false is = cc

nothing_by : (bytes : List ℕ) (t u : Bool) → Nothing ≡ headless_by bytes t u → (t ≡ false) × (u ≡ false)
nothing_by bytes true u is = cc
nothing_by bytes false true is = cc
nothing_by bytes false false is = (refl, refl)

-- ---- laws

pub keeps_requests : (number : ℕ) (bytes rest more : List ℕ) (request : Request) → StandsAt number bytes (Whole request rest) → StandsAt number (bytes ++ more) (Whole request (rest ++ more))
keeps_requests number bytes rest more request stands =
    elim (stands_cases number bytes (Whole request rest) stands) [
      | inl w ↦
          stands_with number (bytes ++ more) w.head (w.behind ++ more) (Whole request (rest ++ more)) (has_head_more bytes w.head w.behind more w.has)
          (says_more number w.head w.behind request rest more (whole_says number w.head w.behind request rest w.says))
      | inr w ↦ absurd (whole_by bytes request rest (leb max_head (length bytes)) (nat_lt 0 (length (from_head bytes))) (w.is ∙ without_is bytes))
    ]

none_added : (bytes more : List ℕ) → max_head ≤ length bytes → take max_head (bytes ++ more) ≡ take max_head bytes
none_added bytes more long = take-append-le max_head bytes more long

same_front : (bytes more : List ℕ) → max_head ≤ length bytes → from_head (bytes ++ more) ≡ from_head bytes
unfolding from_head
same_front bytes more long = ap behind_empty_lines (none_added bytes more long)

refused_long : (number : ℕ) (bytes more : List ℕ) (status : ℕ) → head_len (from_head bytes) ≡ None → leb max_head (length bytes) ≡ true → status ≡ too_long_status (from_head bytes)
    → StandsAt number (bytes ++ more) (Refused status)
refused_long number bytes more status none long is =
    let enough = leb-true max_head (length bytes) long in
    let same = same_front bytes more enough in
    subst (λ s. StandsAt number (bytes ++ more) (Refused s)) (ap too_long_status same ∙ sym is)
    (too_long number (bytes ++ more) (ap head_len same ∙ none) (let all = length-append bytes more in omega (arith, all, enough)))

pub keeps_refusals : (number : ℕ) (bytes more : List ℕ) (status : ℕ) → StandsAt number bytes (Refused status) → StandsAt number (bytes ++ more) (Refused status)
keeps_refusals number bytes more status stands =
    elim (stands_cases number bytes (Refused status) stands) [
      | inl w ↦
          stands_with number (bytes ++ more) w.head (w.behind ++ more) (Refused status) (has_head_more bytes w.head w.behind more w.has)
          (refused_version number w.head w.behind (w.behind ++ more) status (ends_in_other_version (first_line w.head)) w.says)
      | inr w ↦
          let by = refused_by bytes status (leb max_head (length bytes)) (nat_lt 0 (length (from_head bytes))) (w.is ∙ without_is bytes) in
          refused_long number bytes more status w.none by.0 by.1
    ]

-- ---- one front

read_unique : (head : List ℕ) (a b : Option RequestHead) → IsRead head a → IsRead head b → a ≡ b
read_unique head None None p q = refl
read_unique head None (Some k) p q = absurd (let many = p k q.0 in let few = q.1 in omega (arith, many, few))
read_unique head (Some h) None p q = absurd (let many = q h p.0 in let few = p.1 in omega (arith, many, few))
read_unique head (Some h) (Some k) p q = ap (λ x. Some x) (request_unique head h k [] [] p.0 q.0).0

one_by : (number : ℕ) (head behind : List ℕ) (f g : Front) (t : Bool) → SaysBy t number head behind f → SaysBy t number head behind g → f ≡ g
one_by number head behind f g true p q = p ∙ sym q
one_by number head behind f g false p q = p.says ∙ ap (λ r. by_head number r behind) (read_unique head p.read q.read p.is_read q.is_read) ∙ sym q.says

one_stands : (number : ℕ) (bytes : List ℕ) (f g : Front) (o : Option ℕ) → StandsBy number bytes o f → StandsBy number bytes o g → f ≡ g
one_stands number bytes f g None p q = p ∙ sym q
one_stands number bytes f g (Some n) p q =
    one_by number (take n (from_head bytes)) (drop (head_start bytes + n) bytes) f g (ends_in_other_version (first_line (take n (from_head bytes)))) p q

pub one_front : (number : ℕ) (bytes : List ℕ) (f g : Front) → StandsAt number bytes f → StandsAt number bytes g → f ≡ g
unfolding StandsAt
one_front number bytes f g p q = one_stands number bytes f g (head_len (from_head bytes)) p q

-- ---- what is not decided

headed_short : (bytes head behind : List ℕ) → HasHead bytes head behind → length behind < max_body → length bytes < max_head + max_body
headed_short bytes head behind has short =
    let window = length-take max_head bytes in
    let fits = has.fits in
    let rest = sym (ap length has.behind_is) ∙ length-drop (head_start bytes + has.len) bytes in
    omega (arith, window, fits, rest, short)

part_short : (number : ℕ) (bytes : List ℕ) → StandsAt number bytes Part → length bytes < max_head + max_body
part_short number bytes stands =
    elim (stands_cases number bytes Part stands) [
      | inl w ↦ headed_short bytes w.head w.behind w.has (part_version number w.head w.behind (ends_in_other_version (first_line w.head)) w.says)
      | inr w ↦
          let by = part_by bytes (leb max_head (length bytes)) (nat_lt 0 (length (from_head bytes))) (w.is ∙ without_is bytes) in
          let less = leb-false max_head (length bytes) by.0 in
          omega (arith, less)
    ]

nothing_is : (number : ℕ) (bytes : List ℕ) → StandsAt number bytes Nothing → (length bytes < max_head) × (from_head bytes ≡ [])
nothing_is number bytes stands =
    elim (stands_cases number bytes Nothing stands) [
      | inl w ↦ absurd (nothing_version number w.head w.behind (ends_in_other_version (first_line w.head)) w.says)
      | inr w ↦
          let by = nothing_by bytes (leb max_head (length bytes)) (nat_lt 0 (length (from_head bytes))) (w.is ∙ without_is bytes) in
          let less = leb-false max_head (length bytes) by.0 in
          let none = ltb-false 0 (length (from_head bytes)) by.1 in
          (less, nil_from_length (from_head bytes) (omega (arith, none)))
    ]

-- bytes that decide nothing are few
pub undecided_short : (number : ℕ) (bytes : List ℕ) → IsUndecided number bytes → length bytes < max_head + max_body
undecided_short number bytes undecided = elim undecided [
  | inl stands ↦ (let less = (nothing_is number bytes stands).0 in omega (arith, less))
  | inr stands ↦ part_short number bytes stands
]

part_some : (number : ℕ) (bytes : List ℕ) → StandsAt number bytes Part → from_head bytes ≡ [] → ⊥
part_some number bytes stands none =
    elim (stands_cases number bytes Part stands) [
      | inl w ↦ (let ends : None ≡ Some w.has.len = sym (ap head_len none) ∙ w.has.ends in cc)
      | inr w ↦
          let by = part_by bytes (leb max_head (length bytes)) (nat_lt 0 (length (from_head bytes))) (w.is ∙ without_is bytes) in
          let some = ltb-true 0 (length (from_head bytes)) by.1 in
          omega (arith, some, ap length none)
    ]

-- nothing but empty lines
pub nothing_here : (number : ℕ) (bytes : List ℕ) → IsUndecided number bytes → from_head bytes ≡ [] → StandsAt number bytes Nothing
nothing_here number bytes undecided none = elim undecided [
  | inl stands ↦ stands
  | inr stands ↦ absurd (part_some number bytes stands none)
]

-- a part of a request
pub part_here : (number : ℕ) (bytes : List ℕ) → IsUndecided number bytes → (from_head bytes ≡ [] → ⊥) → StandsAt number bytes Part
part_here number bytes undecided some = elim undecided [
  | inl stands ↦ absurd (some (nothing_is number bytes stands).1)
  | inr stands ↦ stands
]

-- ---- the 1,000th request

keep_few : (number : ℕ) (h : RequestHead) (body : List ℕ) → (request_of number h body).keep ≡ true → number + 1 < 1000
unfolding made_request keeps
keep_few number h body kept = ltb-true (number + 1) 1000 (and_parts (nat_lt (number + 1) 1000) _ (and_parts (nat_lt (number + 1) 1000 && _) _ kept).0).0

pub kept_few : (number : ℕ) (bytes rest : List ℕ) (request : Request) → StandsAt number bytes (Whole request rest) → request.keep ≡ true → number + 1 < 1000
kept_few number bytes rest request stands kept =
    elim (stands_cases number bytes (Whole request rest) stands) [
      | inl w ↦
          let whole = whole_says number w.head w.behind request rest w.says in
          keep_few number whole.h (take whole.n w.behind) (sym (ap (λ q. q.keep) whole.request_is) ∙ kept)
      | inr w ↦ absurd (whole_by bytes request rest (leb max_head (length bytes)) (nat_lt 0 (length (from_head bytes))) (w.is ∙ without_is bytes))
    ]
