-- The statuses with which bytes are refused as a request.
use Rattle.std.proofs.Common.{◌≡◌, ◌≤◌, ◌<◌, ◌+◌, ◌==◌, ℕ, List, [], ◌∷◌, Bool, true, false, not, nat_lt, nat_le, Option, Some, None, Result, Ok, Err, if◌then◌else◌, length, take, drop, codes, refl, sym, subst, arith}
use Rattle.std.specs.Str.Parse.{digits_value}
use Rattle.std.specs.List.{list_any}
use Rattle.httparse.specs.Grammar.{RequestHead}
use Rattle.http_in.specs.Head.{max_head, head_len, from_head, head_start}
use Rattle.http_in.specs.Fields.{values}
use Rattle.http_in.specs.Rules.{max_body, is_number, is_known_method, is_origin_form, has_right_hosts, stated_length, body_length, fields_of, first_line, ends_in_other_version, request_of}
use Rattle.http_in.specs.Requests.{Front, Whole, Refused, Nothing, Part, StandsAt, StandsBy, SaysBy, with_body, by_head, without_head, too_long_status}

-- a status of three digits
abbrev pub HasThreeDigits : ℕ → Type 0
HasThreeDigits status = (100 ≤ status) × (status < 1000)

abbrev pub IsFine : Front → Type 0
IsFine (Refused status) = HasThreeDigits status
IsFine _ = Unit {0}

abbrev pub IsFineLength : Result ℕ ℕ → Type 0
IsFineLength (Err status) = HasThreeDigits status
IsFineLength (Ok n) = Unit {0}

choose : {A : Type 0} (P : A → Type 0) (test : Bool) (x y : A) → P x → P y → P (if test then x else y)
choose P true x y p q = p
choose P false x y p q = q

fine : (status : ℕ) → 100 ≤ status → status < 1000 → HasThreeDigits status
fine status low high = (low, high)

fine_stated : (stated : List (List ℕ)) → IsFineLength (stated_length stated)
fine_stated [] = tt
fine_stated (value ∷ []) =
    choose IsFineLength (is_number value) _ (Err 400)
    (choose IsFineLength (nat_le (digits_value 10 value) max_body) (Ok (digits_value 10 value)) (Err 413) tt (fine 413 (omega arith) (omega arith)))
    (fine 400 (omega arith) (omega arith))
fine_stated (value ∷ other ∷ more) = fine 400 (omega arith) (omega arith)

fine_length : (method target : List ℕ) (minor : ℕ) (fields : List (List ℕ × List ℕ)) → IsFineLength (body_length method target minor fields)
unfolding body_length
fine_length method target minor fields =
    choose IsFineLength (not (is_known_method method)) (Err 501) _ (fine 501 (omega arith) (omega arith))
    (choose IsFineLength (not (is_origin_form target)) (Err 400) _ (fine 400 (omega arith) (omega arith))
    (choose IsFineLength (not (has_right_hosts minor (values (codes "Host") fields))) (Err 400) _ (fine 400 (omega arith) (omega arith))
    (choose IsFineLength (nat_lt 0 (length (values (codes "Transfer-Encoding") fields))) (Err 501) _ (fine 501 (omega arith) (omega arith))
    (fine_stated (values (codes "Content-Length") fields)))))

fine_body : (number : ℕ) (h : RequestHead) (behind : List ℕ) (found : Result ℕ ℕ) → IsFineLength found → IsFine (with_body number h behind found)
fine_body number h behind (Err status) f = f
fine_body number h behind (Ok n) f = choose IsFine (nat_le n (length behind)) (Whole (request_of number h (take n behind)) (drop n behind)) Part tt tt

fine_head : (number : ℕ) (read : Option RequestHead) (behind : List ℕ) → IsFine (by_head number read behind)
fine_head number None behind = fine 400 (omega arith) (omega arith)
fine_head number (Some h) behind = fine_body number h behind (body_length h.method h.target h.minor (fields_of h)) (fine_length h.method h.target h.minor (fields_of h))

fine_says : (number : ℕ) (head behind : List ℕ) (other : Bool) (front : Front) → SaysBy other number head behind front → IsFine front
fine_says number head behind true front is = subst IsFine (sym is) (fine 505 (omega arith) (omega arith))
fine_says number head behind false front w = subst IsFine (sym w.says) (fine_head number w.read behind)

fine_status : (rest : List ℕ) → HasThreeDigits (too_long_status rest)
fine_status rest =
    choose HasThreeDigits (nat_lt 0 (length rest)) _ 400
    (choose HasThreeDigits (list_any (λ b. b == 10) rest) 400 414 (fine 400 (omega arith) (omega arith)) (fine 414 (omega arith) (omega arith)))
    (fine 400 (omega arith) (omega arith))

fine_without : (bytes : List ℕ) → IsFine (without_head bytes)
unfolding without_head
fine_without bytes =
    choose IsFine (nat_le max_head (length bytes)) (Refused (too_long_status (from_head bytes))) _ (fine_status (from_head bytes))
    (choose IsFine (nat_lt 0 (length (from_head bytes))) Part Nothing tt tt)

fine_by : (number : ℕ) (bytes : List ℕ) (found : Option ℕ) (front : Front) → StandsBy number bytes found front → IsFine front
fine_by number bytes None front is = subst IsFine (sym is) (fine_without bytes)
fine_by number bytes (Some n) front w = fine_says number (take n (from_head bytes)) (drop (head_start bytes + n) bytes) (ends_in_other_version (first_line (take n (from_head bytes)))) front w

pub has_three_digits : (number : ℕ) (bytes : List ℕ) (status : ℕ) → StandsAt number bytes (Refused status) → HasThreeDigits status
unfolding StandsAt
has_three_digits number bytes status h = fine_by number bytes (head_len (from_head bytes)) (Refused status) h
