-- The values of directives, as functions of the words after their names.
use Rattle.std.specs.Prelude.{ℕ, ◌+◌, ◌-◌, ◌*◌, List, [], ◌∷◌, length, take, drop, Bool, true, false, ◌&&◌, ◌||◌, not, ◌==◌, nat_le, nat_eq, if◌then◌else◌, Option, Some, None, is_some, is_none, unwrap_or, bytes_eq, codes, encode_utf8_all}
use Rattle.std.specs.List.{list_any, starts_with}
use Rattle.njs_tree.specs.Names.{is_name}
use Rattle.dict_model.specs.declared.operation.ZoneSpec.{ZoneSpec}
use Rattle.conf_read.specs.declared.conf.Import.{Import}
use Rattle.conf_read.specs.declared.values.Address.{Address}
use Rattle.conf_read.specs.declared.values.Handler.{Handler}
use Rattle.conf_read.specs.declared.values.Path.{Path}
use Rattle.conf_read.specs.declared.zone.Options.{Options}
use Rattle.conf_read.specs.declared.zone.Label.{Label}
use Rattle.conf_read.specs.declared.words.Class.{Class}
use Rattle.conf_read.specs.declared.words.Class.TheVariants as class
use Rattle.conf_read.specs.Characters.{begins, is_empty}

infixl 10 ◌>>=◌
abbrev pub ◌>>=◌ : {A B : Type 0} → Option A → (A → Option B) → Option B
None >>= f = None
(Some x) >>= f = f x

abbrev pub when : {A : Type 0} → Bool → A → Option A
when test x = if test then Some x else None

-- the text is this word, by its UTF-8
abbrev pub is_word : List ℕ → List ℕ → Bool
is_word text word = bytes_eq (encode_utf8_all text) word

abbrev pub is_digit : ℕ → Bool
is_digit c = nat_le 48 c && nat_le c 57

-- the characters at the front that pass a test, and those behind
abbrev pub with_front : ℕ → List ℕ × List ℕ → List ℕ × List ℕ
with_front c parts = (c ∷ parts.0, parts.1)

abbrev pub run_of : (ℕ → Bool) → List ℕ → List ℕ × List ℕ
run_of test [] = ([], [])
run_of test (c ∷ cs) = if test c then with_front c (run_of test cs) else ([], c ∷ cs)

abbrev pub passes : Class → ℕ → Bool
passes class.Digit = is_digit
passes (class.Other mark) = λ c. not (c == mark)

-- what stands behind a mark
abbrev pub behind : ℕ → List ℕ → Option (List ℕ)
behind mark [] = None
behind mark (c ∷ s) = when (c == mark) s

-- what stands behind these characters at the front
abbrev pub stripped : List ℕ → List ℕ → Option (List ℕ)
stripped front text = when (starts_with nat_eq text front) (drop (length front) text)

-- a name of the language
abbrev pub named : List ℕ → Option (List ℕ)
named text = when (is_name text) text

-- ---- numbers

-- decimal digits behind others
abbrev pub digits : ℕ → List ℕ → Option ℕ
digits n [] = Some n
digits n (c ∷ s) = if is_digit c then digits (n * 10 + (c - 48)) s else None

-- decimal digits without a leading zero
abbrev pub number : List ℕ → Option ℕ
number [] = None
number (c ∷ s) = if c == 48 then when (is_empty s) 0 else digits 0 (c ∷ s)

abbrev pub within : ℕ → ℕ → Option ℕ → Option ℕ
within least most n = n >>= (λ x. when (nat_le least x && nat_le x most) x)

-- a number with a unit behind it
abbrev pub quantity : (List ℕ → Option ℕ) → List ℕ → Option ℕ
quantity unit text = number (run_of is_digit text).0 >>= (λ n. unit (run_of is_digit text).1 >>= (λ u. Some (n * u)))

-- bytes, `k` of 1,024 and `m` of 1,048,576, in either case
abbrev pub size_unit : List ℕ → Option ℕ
size_unit [] = Some 1
size_unit (c ∷ s) = if is_empty s && (c == 107 || c == 75) then Some 1024 else when (is_empty s && (c == 109 || c == 77)) 1048576

abbrev pub size_of : List ℕ → Option ℕ
size_of text = within 1024 268435456 (quantity size_unit text)

-- milliseconds, seconds, minutes, hours and days, in milliseconds; a number alone counts seconds
abbrev pub time_unit : List ℕ → Option ℕ
time_unit text =
    if bytes_eq text (codes "ms") then Some 1
    else (if bytes_eq text [] || bytes_eq text (codes "s") then Some 1000
    else (if bytes_eq text (codes "m") then Some 60000
    else (if bytes_eq text (codes "h") then Some 3600000
    else when (bytes_eq text (codes "d")) 86400000)))

abbrev pub time_of : List ℕ → Option ℕ
time_of text = within 1 31536000000 (quantity time_unit text)

-- ---- one directive each

-- `worker_processes`: a number, or `auto`
abbrev pub workers_of : List (List ℕ) → Option ℕ
workers_of (w ∷ []) = if is_word w (codes "auto") then Some 4 else within 1 32 (number w)
workers_of _ = None

-- `js_fuel`
abbrev pub fuel_of : List (List ℕ) → Option ℕ
fuel_of (w ∷ []) = within 1 10000000 (number w)
fuel_of _ = None

-- `js_path`
abbrev pub path_of : List (List ℕ) → Option (List ℕ)
path_of (w ∷ []) = Some w
path_of _ = None

-- a decimal number up to 255
abbrev pub is_octet : List ℕ → Bool
is_octet text = is_some (within 0 255 (number text))

-- a point, and such a number behind it
abbrev pub octet_at : List ℕ → Option (List ℕ)
octet_at text = behind 46 text >>= (λ s. when (is_octet (run_of (λ c. not (c == 46)) s).0) (run_of (λ c. not (c == 46)) s).1)

abbrev pub is_over : Option (List ℕ) → Bool
is_over None = false
is_over (Some s) = is_empty s

-- four such numbers with points between them
abbrev pub after_octets : List ℕ → Option (List ℕ)
after_octets text = octet_at (46 ∷ text) >>= (λ a. octet_at a >>= (λ b. octet_at b >>= octet_at))

abbrev pub are_octets : List ℕ → Bool
are_octets text = is_over (after_octets text)

-- `localhost`, or four decimal numbers up to 255 with points
abbrev pub is_host : List ℕ → Bool
is_host text = bytes_eq text (codes "localhost") || are_octets text

abbrev pub port_of : List ℕ → Option ℕ
port_of text = within 1 65535 (number text)

abbrev pub address_with : List ℕ → List ℕ → Option Address
address_with host port = port_of port >>= (λ n. Some (record { host = host; port = n }))

-- PORT alone, or HOST:PORT
abbrev pub address_of : List ℕ → Option Address
address_of text =
    let parts = run_of (λ c. not (c == 58)) text in
    if is_empty parts.1 then address_with (codes "0.0.0.0") text
    else (behind 58 parts.1 >>= (λ port. if is_host parts.0 then address_with parts.0 port else None))

-- `listen`
abbrev pub listen_of : List (List ℕ) → Option Address
listen_of (w ∷ []) = address_of w
listen_of _ = None

-- a path begins with `/`
abbrev pub is_path : List ℕ → Bool
is_path text = begins (λ c. c == 47) text

abbrev pub path_with : Bool → List ℕ → Option Path
path_with exact text = when (is_path text) (record { exact = exact; text = text })

-- `location`: PATH, or `=` and PATH, which only the path itself fits
abbrev pub location_of : List (List ℕ) → Option Path
location_of (path ∷ []) = path_with false path
location_of (mark ∷ path ∷ []) = if is_word mark (codes "=") then path_with true path else None
location_of _ = None

-- MODULE.HANDLER
abbrev pub handler_of : List ℕ → Option Handler
handler_of text =
    let parts = run_of (λ c. not (c == 46)) text in
    behind 46 parts.1 >>= (λ rest. named parts.0 >>= (λ script. named rest >>= (λ handler. Some (record { «module» = script; name = handler }))))

-- `js_content`
abbrev pub content_of : List (List ℕ) → Option Handler
content_of (w ∷ []) = handler_of w
content_of _ = None

-- what stands behind the last `/`
abbrev pub is_slash : ℕ → Bool
is_slash c = c == 47

abbrev pub last_part : List ℕ → List ℕ
last_part [] = []
last_part (c ∷ s) = if list_any is_slash (c ∷ s) then last_part s else c ∷ s

-- what stands before `.js` at the end
abbrev pub stem_of : List ℕ → Option (List ℕ)
stem_of text = let n = length text - 3 in when (bytes_eq (drop n text) (codes ".js")) (take n text)

-- a script with a name of the language
abbrev pub import_as : List ℕ → List ℕ → Option Import
import_as name file = named name >>= (λ n. Some (record { name = n; file = file }))

-- FILE.js, whose name stands behind the last `/` and before `.js`
abbrev pub import_file : List ℕ → Option Import
import_file file = stem_of (last_part file) >>= (λ name. import_as name file)

-- `js_import`: FILE.js, or NAME from FILE
abbrev pub import_of : List (List ℕ) → Option Import
import_of (file ∷ []) = import_file file
import_of (name ∷ from ∷ file ∷ []) = if is_word from (codes "from") then import_as name file else None
import_of _ = None

-- ---- `js_shared_dict_zone`

-- NAME:SIZE
abbrev pub label_with : List ℕ × List ℕ → Option Label
label_with parts =
    behind 58 parts.1 >>= (λ size. size_of size >>= (λ limit. (if nat_le (length parts.0) 64 then named parts.0 else None) >>= (λ name. Some (record { name = name; limit = limit }))))

-- zone=NAME:SIZE
abbrev pub label_of : List ℕ → Option Label
label_of text = stripped (codes "zone=") text >>= (λ label. label_with (run_of (λ c. not (c == 58)) label))

abbrev pub no_options : Options
no_options = record { timeout = None; numeric = None; evict = false }

-- one more word, of a kind that hasn't come yet
abbrev pub timed : Options → List ℕ → Option Options
timed o w = stripped (codes "timeout=") w >>= (λ text. time_of text >>= (λ t. if is_some o.timeout then None else Some (record { timeout = Some t; numeric = o.numeric; evict = o.evict })))

abbrev pub typed : Options → Bool → Option Options
typed o numeric = if is_some o.numeric then None else Some (record { timeout = o.timeout; numeric = Some numeric; evict = o.evict })

abbrev pub evicting : Options → Option Options
evicting o = if o.evict then None else Some (record { timeout = o.timeout; numeric = o.numeric; evict = true })

abbrev pub with_option : Options → List ℕ → Option Options
with_option o w =
    if is_word w (codes "evict") then evicting o
    else (if is_word w (codes "type=string") then typed o false
    else (if is_word w (codes "type=number") then typed o true
    else timed o w))

abbrev pub with_options : Options → List (List ℕ) → Option Options
with_options o [] = Some o
with_options o (w ∷ ws) = with_option o w >>= (λ p. with_options p ws)

-- texts, where no type is named; eviction only with a timeout
abbrev pub zone_with : Label → Options → Option ZoneSpec
zone_with label o =
    if o.evict && is_none o.timeout then None
    else Some (record { name = label.name; limit = label.limit; timeout = o.timeout; numeric = unwrap_or o.numeric false; evict = o.evict })

-- the first word names the zone
abbrev pub zone_of : List (List ℕ) → Option ZoneSpec
zone_of [] = None
zone_of (w ∷ ws) = label_of w >>= (λ label. with_options no_options ws >>= (λ o. zone_with label o))
