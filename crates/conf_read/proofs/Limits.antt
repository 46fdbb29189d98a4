-- Where no rule fails, the configuration is within its limits.
use Rattle.std.proofs.Common.{◌≡◌, ◌==◌, ℕ, ◌+◌, ◌<◌, ◌≤◌, List, [], ◌∷◌, ◌++◌, length, map, filter, Bool, true, false, cond, not, ◌&&◌, nat_lt, nat_le, if◌then◌else◌, Option, Some, None, Result, Ok, Err, is_some, is_none, unwrap_or, position, bytes_eq, codes, encode_utf8_all, refl, ap, sym, ◌∙◌, subst, append_assoc, append-nil, length-append, arith}
use borrow.Author.Tests.{ltb-true, leb-true}
use lib.Pointwise.{bytes_decides}
use Rattle.std.specs.Option.{IsSome, IfSome}
use Rattle.std.specs.Result.{IfOk}
use Rattle.std.specs.List.{AllByRecursion, position_or_len}
use Rattle.std.proofs.lemmas.List.{length-map}
use Rattle.std.proofs.lemmas.List.Elements.{All-from_recursion, filter-append}
use Rattle.dict_model.specs.Operation.{IsSpec}
use Rattle.conf_read.specs.declared.directive.Directive.{Directive}
use Rattle.conf_read.specs.declared.conf.Import.{Import}
use Rattle.conf_read.specs.declared.conf.Location.{Location}
use Rattle.conf_read.specs.declared.conf.Conf.{Conf}
use Rattle.conf_read.specs.declared.fault.ConfFault.{ConfFault}
use Rattle.conf_read.specs.declared.fault.ConfFault.TheVariants as fault
use Rattle.conf_read.specs.declared.table.Place.{Place}
use Rattle.conf_read.specs.declared.table.Place.TheVariants as place
use Rattle.conf_read.specs.declared.table.Kind.{Kind}
use Rattle.conf_read.specs.declared.table.Kind.TheVariants as kind
use Rattle.conf_read.specs.declared.table.Words.TheVariants as words
use Rattle.conf_read.specs.declared.table.Repeats.TheVariants as repeats
use Rattle.conf_read.specs.declared.table.Row.{Row}
use Rattle.conf_read.specs.declared.values.Address.{Address}
use Rattle.conf_read.specs.declared.values.Handler.{Handler}
use Rattle.conf_read.specs.declared.values.Path.{Path}
use Rattle.conf_read.specs.declared.zone.Label.{Label}
use Rattle.conf_read.specs.declared.zone.Options.{Options}
use Rattle.conf_read.specs.Characters.{is_empty}
use Rattle.conf_read.specs.Tree.{Tree}
use Rattle.conf_read.specs.Table.{table, row_of}
use Rattle.conf_read.specs.Values as values
use Rattle.conf_read.specs.Values.{◌>>=◌, when, is_word}
use Rattle.conf_read.specs.Rules.{or_else, first_fault, fault_of, row_fault, stands, counts, fits, has_room, alike, directives, kind_of, block_of}
use Rattle.conf_read.specs.Meaning.{is_named, words_of, with_value, values_in, imports_in, zones_in, locations_in, location_at, location_with, place_in, content_in, under, path_in, conf_of, conf_first, any_address}
use Rattle.conf_read.specs.Limits.{IsWithinLimits}
use Rattle.conf_read.specs.Reads.{ReadAs}

-- ---- options

none_some : {A : Type 0} {x : A} → ◌≡◌ {A = Option A} None (Some x) → ⊥
none_some e = cc

-- what holds of the value, if there is one
abbrev pub If : {A : Type 0} → (A → Type 0) → Option A → Type 0
If P None = Unit {0}
If P (Some x) = P x

if_bound : {A B : Type 0} (P : B → Type 0) (o : Option A) (f : A → Option B) → ((a : A) → If P (f a)) → If P (o >>= f)
if_bound P None f h = tt
if_bound P (Some a) f h = h a

if_chosen : {B : Type 0} (P : B → Type 0) (b : Bool) (x y : Option B) → (b ≡ true → If P x) → (b ≡ false → If P y) → If P (if b then x else y)
if_chosen P true x y h k = h refl
if_chosen P false x y h k = k refl

if_or : {A : Type 0} (P : A → Type 0) (o : Option A) (d : A) → If P o → P d → P (unwrap_or o d)
if_or P None d h k = k
if_or P (Some x) d h k = h

both : (a b : Bool) → (a && b) ≡ true → (a ≡ true) × (b ≡ true)
both true b e = (refl, e)
both false b e = absurd (cc)

-- ---- values

abbrev pub Between : ℕ → ℕ → ℕ → Type 0
Between least most n = (least ≤ n) × (n ≤ most)

is_within : (least most : ℕ) (o : Option ℕ) → If (Between least most) (values.within least most o)
is_within least most o = if_bound (Between least most) o (λ x. when (nat_le least x && nat_le x most) x) (λ x.
    if_chosen (Between least most) (nat_le least x && nat_le x most) (Some x) None (λ e. let h = both (nat_le least x) (nat_le x most) e in (leb-true least x h.0, leb-true x most h.1)) (λ e. tt))

are_workers : (ws : List (List ℕ)) → If (Between 1 32) (values.workers_of ws)
are_workers [] = tt
are_workers (w ∷ []) = if_chosen (Between 1 32) (is_word w (codes "auto")) (Some 4) (values.within 1 32 (values.number w)) (λ e. (omega arith, omega arith)) (λ e. is_within 1 32 (values.number w))
are_workers (w ∷ v ∷ ws) = tt

is_fuel : (ws : List (List ℕ)) → If (Between 1 10000000) (values.fuel_of ws)
is_fuel [] = tt
is_fuel (w ∷ []) = is_within 1 10000000 (values.number w)
is_fuel (w ∷ v ∷ ws) = tt

abbrev pub Port : Address → Type 0
Port a = Between 1 65535 a.port

port_if : (host : List ℕ) (o : Option ℕ) → If (Between 1 65535) o → If Port (o >>= (λ n. Some (record { host = host; port = n })))
port_if host None h = tt
port_if host (Some n) h = h

is_address : (text : List ℕ) → If Port (values.address_of text)
is_address text =
    let parts = values.run_of (λ c. not (c == 58)) text in
    if_chosen Port (is_empty parts.1) (values.address_with (codes "0.0.0.0") text) _ (λ e. port_if (codes "0.0.0.0") (values.port_of text) (is_within 1 65535 (values.number text))) (λ e.
    if_bound Port (values.behind 58 parts.1) _ (λ port. if_chosen Port (values.is_host parts.0) (values.address_with parts.0 port) None (λ f. port_if parts.0 (values.port_of port) (is_within 1 65535 (values.number port))) (λ f. tt)))

is_listen : (ws : List (List ℕ)) → If Port (values.listen_of ws)
is_listen [] = tt
is_listen (w ∷ []) = is_address w
is_listen (w ∷ v ∷ ws) = tt

-- ---- zones

abbrev pub Small : Label → Type 0
Small l = l.limit ≤ 268435456

small_size : (o : Option ℕ) (parts : List ℕ × List ℕ) → If (Between 1024 268435456) o
    → If Small (o >>= (λ limit. (if nat_le (length parts.0) 64 then values.named parts.0 else None) >>= (λ name. Some (record { name = name; limit = limit }))))
small_size None parts h = tt
small_size (Some limit) parts h = if_bound Small (if nat_le (length parts.0) 64 then values.named parts.0 else None) (λ name. Some (record { name = name; limit = limit })) (λ name. h.1)

small_label : (parts : List ℕ × List ℕ) → If Small (values.label_with parts)
small_label parts = if_bound Small (values.behind 58 parts.1) _ (λ size. small_size (values.size_of size) parts (is_within 1024 268435456 (values.quantity values.size_unit size)))

small_label_of : (text : List ℕ) → If Small (values.label_of text)
small_label_of text = if_bound Small (values.stripped (codes "zone=") text) _ (λ label. small_label (values.run_of (λ c. not (c == 58)) label))

abbrev pub Timed : Options → Type 0
Timed o = If (λ t. t ≤ 31536000000) o.timeout

timed_by : (o : Options) (t : Option ℕ) → If (Between 1 31536000000) t → If Timed (t >>= (λ n. if is_some o.timeout then None else Some (record { timeout = Some n; numeric = o.numeric; evict = o.evict })))
timed_by o None h = tt
timed_by o (Some n) h = if_chosen Timed (is_some o.timeout) None (Some (record { timeout = Some n; numeric = o.numeric; evict = o.evict })) (λ e. tt) (λ e. h.1)

timed_typed : (o : Options) (b : Bool) → Timed o → If Timed (values.typed o b)
timed_typed o b h = if_chosen Timed (is_some o.numeric) None (Some (record { timeout = o.timeout; numeric = Some b; evict = o.evict })) (λ f. tt) (λ f. h)

timed_option : (o : Options) (w : List ℕ) → Timed o → If Timed (values.with_option o w)
timed_option o w h =
    if_chosen Timed (is_word w (codes "evict")) (values.evicting o) _ (λ e. if_chosen Timed o.evict None (Some (record { timeout = o.timeout; numeric = o.numeric; evict = true })) (λ f. tt) (λ f. h)) (λ e.
    if_chosen Timed (is_word w (codes "type=string")) (values.typed o false) _ (λ f. timed_typed o false h) (λ f.
    if_chosen Timed (is_word w (codes "type=number")) (values.typed o true) (values.timed o w) (λ g. timed_typed o true h) (λ g.
    if_bound Timed (values.stripped (codes "timeout=") w) _ (λ text. timed_by o (values.time_of text) (is_within 1 31536000000 (values.quantity values.time_unit text))))))

timed_next : (p : Option Options) (ws : List (List ℕ)) → If Timed p → ((q : Options) → Timed q → If Timed (values.with_options q ws)) → If Timed (p >>= (λ q. values.with_options q ws))
timed_next None ws h k = tt
timed_next (Some q) ws h k = k q h

timed_options : (o : Options) (ws : List (List ℕ)) → Timed o → If Timed (values.with_options o ws)
timed_options o [] h = h
timed_options o (w ∷ ws) h = timed_next (values.with_option o w) ws (timed_option o w h) (λ q k. timed_options q ws k)

zone_time : (time : Option ℕ) → If (λ t. t ≤ 31536000000) time → IfSome time (λ t. t ≤ 9007199254740991)
zone_time None h = tt
zone_time (Some t) h = omega arith

zone_evicts : (evict : Bool) (time : Option ℕ) → (evict && is_none time) ≡ false → evict ≡ true → IsSome time
zone_evicts true (Some t) e h = refl
zone_evicts true None e h = absurd (cc)
zone_evicts false time e h = absurd (cc)

zone_spec : (label : Label) (o : Options) → Small label → Timed o → If IsSpec (values.zone_with label o)
zone_spec label o h k =
    if_chosen IsSpec (o.evict && is_none o.timeout) None (Some (record { name = label.name; limit = label.limit; timeout = o.timeout; numeric = unwrap_or o.numeric false; evict = o.evict })) (λ e. tt)
    (λ e. record { limit = omega arith; timeout = zone_time o.timeout k; evicts = zone_evicts o.evict o.timeout e })

spec_options : (label : Label) (o : Option Options) → Small label → If Timed o → If IsSpec (o >>= (λ p. values.zone_with label p))
spec_options label None h k = tt
spec_options label (Some o) h k = zone_spec label o h k

spec_label : (label : Option Label) (ws : List (List ℕ)) → If Small label → If IsSpec (label >>= (λ l. values.with_options values.no_options ws >>= (λ o. values.zone_with l o)))
spec_label None ws h = tt
spec_label (Some l) ws h = spec_options l (values.with_options values.no_options ws) h (timed_options values.no_options ws tt)

is_spec : (ws : List (List ℕ)) → If IsSpec (values.zone_of ws)
is_spec [] = tt
is_spec (w ∷ ws) = spec_label (values.label_of w) ws (small_label_of w)

-- ---- lists of values

with_all : {A : Type 0} (P : A → Type 0) (o : Option A) (xs : List A) → If P o → AllByRecursion P xs → AllByRecursion P (with_value o xs)
with_all P None xs h k = k
with_all P (Some x) xs h k = (h, k)

list_chosen : {A : Type 0} (P : List A → Type 0) (b : Bool) (xs ys : List A) → P xs → P ys → P (if b then xs else ys)
list_chosen P true xs ys h k = h
list_chosen P false xs ys h k = k

all_values : {A : Type 0} (P : A → Type 0) (name : List ℕ) (f : List (List ℕ) → Option A) → ((ws : List (List ℕ)) → If P (f ws)) → (ds : List Directive) → AllByRecursion P (values_in name f ds)
all_values P name f h [] = tt
all_values P name f h (d ∷ ds) =
    list_chosen (AllByRecursion P) (is_named name d) (with_value (f d.words) (values_in name f ds)) (values_in name f ds) (with_all P (f d.words) (values_in name f ds) (h d.words) (all_values P name f h ds)) (all_values P name f h ds)

first_value : {A : Type 0} (P : A → Type 0) (f : List (List ℕ) → Option A) → ((ws : List (List ℕ)) → If P (f ws)) → (o : Option (List (List ℕ))) → If P (o >>= f)
first_value P f h o = if_bound P o f h

one_more : {A : Type 0} (o : Option A) (xs : List A) (n : ℕ) → length xs ≤ n → length (with_value o xs) ≤ n + 1
one_more None xs n h = omega arith
one_more (Some x) xs n h = omega arith

few_more : {A : Type 0} (b : Bool) (d : Directive) (ds : List Directive) (o : Option A) (xs : List A) → length xs ≤ length ds → length (if b then with_value o xs else xs) ≤ length (cond b (d ∷ ds) ds)
few_more true d ds o xs h = let k = one_more o xs (length ds) h in omega (arith, k)
few_more false d ds o xs h = h

few_values : {A : Type 0} (name : List ℕ) (f : List (List ℕ) → Option A) (ds : List Directive) → length (values_in name f ds) ≤ length (filter (is_named name) ds)
few_values name f [] = omega arith
few_values name f (d ∷ ds) = few_more (is_named name d) d (filter (is_named name) ds) (f d.words) (values_in name f ds) (few_values name f ds)

few_locations : (imports : List Import) (ds : List Directive) → length (locations_in imports ds) ≤ length (filter (is_named (codes "location")) ds)
few_locations imports [] = omega arith
few_locations imports (d ∷ ds) = few_more (is_named (codes "location") d) d (filter (is_named (codes "location")) ds) (location_at imports d.words ds) (locations_in imports ds) (few_locations imports ds)

-- ---- the places of scripts

placed : (b : Bool) (k n : ℕ) → (b ≡ true → k < n) → If (λ m. m < n) (cond b (Some k) None)
placed true k n h = h refl
placed false k n h = tt

below_32 : (n : ℕ) (o : Option ℕ) → If (λ m. m < n) o → If (λ m. m < n) (o >>= (λ place. if nat_lt place 4294967296 then Some place else None))
below_32 n None h = tt
below_32 n (Some m) h = if_chosen (λ k. k < n) (nat_lt m 4294967296) (Some m) None (λ e. h) (λ e. tt)

place_below : (imports : List Import) (name : List ℕ) → If (λ m. m < length imports) (place_in imports name)
place_below imports name =
    below_32 (length imports) (position (λ i. bytes_eq i.name name) imports)
    (placed (nat_lt (position_or_len (λ i. bytes_eq i.name name) imports) (length imports)) (position_or_len (λ i. bytes_eq i.name name) imports) (length imports) (λ e. ltb-true (position_or_len (λ i. bytes_eq i.name name) imports) (length imports) e))

abbrev pub Module : ℕ → Location → Type 0
Module n l = l.module < n

located_at : (n : ℕ) (path : Path) (handler : Handler) (o : Option ℕ) → If (λ m. m < n) o → If (Module n) (o >>= (λ place. Some (record { exact = path.exact; path = path.text; «module» = place; handler = handler.name })))
located_at n path handler None h = tt
located_at n path handler (Some m) h = h

located : (imports : List Import) (path : Path) (handler : Handler) → If (Module (length imports)) (location_with imports path handler)
located imports path handler = located_at (length imports) path handler (place_in imports handler.module) (place_below imports handler.module)

at_located : (imports : List Import) (ws : List (List ℕ)) (behind : List Directive) → If (Module (length imports)) (location_at imports ws behind)
at_located imports ws behind =
    if_bound (Module (length imports)) (values.location_of ws) _ (λ path. if_bound (Module (length imports)) (content_in behind) _ (λ content. if_bound (Module (length imports)) (values.content_of content) _ (λ handler. located imports path handler)))

all_located : (imports : List Import) (ds : List Directive) → AllByRecursion (Module (length imports)) (locations_in imports ds)
all_located imports [] = tt
all_located imports (d ∷ ds) =
    list_chosen (AllByRecursion (Module (length imports))) (is_named (codes "location") d) (with_value (location_at imports d.words ds) (locations_in imports ds)) (locations_in imports ds)
    (with_all (Module (length imports)) (location_at imports d.words ds) (locations_in imports ds) (at_located imports d.words ds) (all_located imports ds)) (all_located imports ds)

-- ---- how many directives of a name there may be

-- the rows of a name allow so many
abbrev pub Limits : List ℕ → ℕ → Type 0
Limits name most = (d : List ℕ) → encode_utf8_all d ≡ name → (row : Row) × (row_of d ≡ Some row) × (row.most ≡ Some most)

limits_import : Limits (codes "js_import") 64
unfolding table
limits_import d e =
    let row : Row = record { kind = kind.JsImport; place = place.Http; also = None; words = words.Either 1 3; block = None; repeats = repeats.ByKey; most = Some 64 } in
    let is : row_of d ≡ Some row = rw e refl in (row, is, refl)

limits_zone : Limits (codes "js_shared_dict_zone") 16
unfolding table
limits_zone d e =
    let row : Row = record { kind = kind.JsSharedDictZone; place = place.Http; also = None; words = words.Between 1 4; block = None; repeats = repeats.ByKey; most = Some 16 } in
    let is : row_of d ≡ Some row = rw e refl in (row, is, refl)

limits_location : Limits (codes "location") 64
unfolding table
limits_location d e =
    let row : Row = record { kind = kind.Location; place = place.Server; also = None; words = words.Between 1 2; block = Some place.Location; repeats = repeats.ByKey; most = Some 64 } in
    let is : row_of d ≡ Some row = rw e refl in (row, is, refl)

fault_none : (b : Bool) (x : ConfFault) (y : Option ConfFault) → (if b then Some x else y) ≡ None → (b ≡ false) × (y ≡ None)
fault_none true x y e = absurd (cc)
fault_none false x y e = (refl, e)

not_false : (b : Bool) → not b ≡ false → b ≡ true
not_false true e = refl
not_false false e = absurd (cc)

else_none : (x y : Option ConfFault) → or_else x y ≡ None → (x ≡ None) × (y ≡ None)
else_none None y e = (refl, e)
else_none (Some f) y e = absurd (cc)

has_room_below : (o : Option ℕ) (most count : ℕ) → o ≡ Some most → has_room o count ≡ true → count < most
has_room_below o most count is h = let e : nat_lt count most ≡ true = sym (ap (λ x. has_room x count) is) ∙ h in ltb-true count most e

row_room : (imports : List Import) (here : Place) (seen : List Kind) (before : List Directive) (d : Directive) (opens : Bool) (row : Row) (most : ℕ)
    → row_fault imports here seen before d opens row ≡ None → row.most ≡ Some most → length before < most
row_room imports here seen before d opens row most e is =
    let a = fault_none (not (stands row here)) (fault.Place d.line) _ e in
    let b = fault_none (not (counts row (length d.words) opens (length before))) (fault.Count d.line) _ a.1 in
    let c = both (fits row.words (length d.words)) _ (not_false (counts row (length d.words) opens (length before)) b.0) in
    let h = both (if opens then is_some row.block else is_none row.block) (has_room row.most (length before)) c.1 in
    has_room_below row.most most (length before) is h.1

named_alike : (name : List ℕ) (d : Directive) (earlier : List Directive) → encode_utf8_all d.name ≡ name → alike d earlier ≡ filter (is_named name) earlier
named_alike name d earlier e = ap (λ n. filter (is_named n) earlier) e

has_place : (name : List ℕ) (most : ℕ) → Limits name most → (imports : List Import) (here : Place) (seen : List Kind) (earlier : List Directive) (d : Directive) (opens : Bool)
    → fault_of imports here seen earlier d opens ≡ None → encode_utf8_all d.name ≡ name → length (filter (is_named name) earlier) < most
has_place name most limits imports here seen earlier d opens e is =
    let r = limits d.name is in
    let f : row_fault imports here seen (alike d earlier) d opens r.0 ≡ None = rw r.1 at e in
    subst (λ ds. length ds < most) (named_alike name d earlier is) (row_room imports here seen (alike d earlier) d opens r.0 most f r.2)

abbrev pub Few : List ℕ → ℕ → List Directive → Type 0
Few name most ds = length (filter (is_named name) ds) ≤ most

one_named : (b : Bool) (d : Directive) (xs : List Directive) (most : ℕ) → (b ≡ true → length xs < most) → length xs ≤ most → length (xs ++ cond b (d ∷ []) []) ≤ most
one_named true d xs most h k = let e = length-append xs (d ∷ []) in let l = h refl in omega (arith, e, l)
one_named false d xs most h k = let e = length-append xs [] in omega (arith, e)

is_equal : (a b : List ℕ) → bytes_eq a b ≡ true → a ≡ b
is_equal a b e = (bytes_decides a b).0 e

few_next : (name : List ℕ) (most : ℕ) → Limits name most → (imports : List Import) (here : Place) (seen : List Kind) (earlier : List Directive) (d : Directive) (opens : Bool)
    → fault_of imports here seen earlier d opens ≡ None → Few name most earlier → Few name most (earlier ++ d ∷ [])
few_next name most limits imports here seen earlier d opens e few =
    subst (λ ds. length ds ≤ most) (sym (filter-append (is_named name) earlier (d ∷ [])))
    (one_named (is_named name d) d (filter (is_named name) earlier) most (λ is. has_place name most limits imports here seen earlier d opens e (is_equal (encode_utf8_all d.name) name is)) few)

few_tree : (name : List ℕ) (most : ℕ) → Limits name most → (imports : List Import) (t : Tree) (here : Place) (seen : List Kind) (earlier : List Directive)
    → first_fault imports here seen earlier t ≡ None → Few name most earlier → Few name most (earlier ++ directives t)
few_tree name most limits imports Tree.none here seen earlier e few = subst (λ ds. Few name most ds) (sym (append-nil earlier)) few
few_tree name most limits imports (Tree.plain d t) here seen earlier e few =
    let a = else_none (fault_of imports here seen earlier d false) _ e in
    subst (λ ds. Few name most ds) (append_assoc earlier (d ∷ []) (directives t))
    (few_tree name most limits imports t here (seen ++ kind_of d) (earlier ++ d ∷ []) a.1 (few_next name most limits imports here seen earlier d false a.0 few))
few_tree name most limits imports (Tree.block d b t) here seen earlier e few =
    let a = else_none (fault_of imports here seen earlier d true) _ e in
    let c = else_none (first_fault imports (block_of d) [] (earlier ++ d ∷ []) b) _ a.1 in
    let inside = few_tree name most limits imports b (block_of d) [] (earlier ++ d ∷ []) c.0 (few_next name most limits imports here seen earlier d true a.0 few) in
    subst (λ ds. Few name most ds) (ap (λ x. x ++ directives t) (append_assoc earlier (d ∷ []) (directives b)) ∙ append_assoc earlier (d ∷ directives b) (directives t))
    (few_tree name most limits imports t here (seen ++ kind_of d) ((earlier ++ d ∷ []) ++ directives b) c.1 inside)

few_named : (name : List ℕ) (most : ℕ) → Limits name most → (tree : Tree) → conf_first tree ≡ None → Few name most (directives tree)
few_named name most limits tree e = few_tree name most limits (imports_in (directives tree)) tree place.Main [] [] e (omega arith)

-- ---- all limits

-- where no rule fails, the configuration is within its limits
pub within_limits : (tree : Tree) → conf_first tree ≡ None → IsWithinLimits (conf_of (directives tree))
within_limits tree e =
    let ds = directives tree in
    let workers = if_or (Between 1 32) (words_of (codes "worker_processes") ds >>= values.workers_of) 1 (first_value (Between 1 32) values.workers_of are_workers (words_of (codes "worker_processes") ds)) (omega arith, omega arith) in
    let port = if_or Port (words_of (codes "listen") ds >>= values.listen_of) any_address (first_value Port values.listen_of is_listen (words_of (codes "listen") ds)) (omega arith, omega arith) in
    let fuel = if_or (Between 1 10000000) (words_of (codes "js_fuel") ds >>= values.fuel_of) 1000000 (first_value (Between 1 10000000) values.fuel_of is_fuel (words_of (codes "js_fuel") ds)) (omega arith, omega arith) in
    let same : length (map (under (path_in ds)) (imports_in ds)) ≡ length (imports_in ds) = length-map (imports_in ds) (under (path_in ds)) in
    let imports = few_named (codes "js_import") 64 limits_import tree e in
    let imports_few = few_values (codes "js_import") values.import_of ds in
    let zones = few_named (codes "js_shared_dict_zone") 16 limits_zone tree e in
    let zones_few = few_values (codes "js_shared_dict_zone") values.zone_of ds in
    let locations = few_named (codes "location") 64 limits_location tree e in
    let locations_few = few_locations (imports_in ds) ds in
    record {
      workers_least = workers.0;
      workers_most = workers.1;
      port_least = port.0;
      port_most = port.1;
      fuel_least = fuel.0;
      fuel_most = fuel.1;
      imports = omega (arith, same, imports, imports_few);
      zones = omega (arith, zones, zones_few);
      locations = omega (arith, locations, locations_few);
      specs = All-from_recursion IsSpec (zones_in ds) (all_values IsSpec (codes "js_shared_dict_zone") values.zone_of is_spec ds);
      modules = All-from_recursion (λ l. l.module < length (map (under (path_in ds)) (imports_in ds))) (locations_in (imports_in ds) ds) (subst (λ n. AllByRecursion (Module n) (locations_in (imports_in ds) ds)) (sym same) (all_located (imports_in ds) ds));
    }

-- so is every configuration that is read
pub limits_read : (bytes : List ℕ) (r : Result Conf ConfFault) → ReadAs bytes r → IfOk r IsWithinLimits
limits_read bytes (Ok conf) (few, (tree, spells, none, lacks, c)) = subst (λ x. IsWithinLimits x) (sym c) (within_limits tree none)
limits_read bytes (Err f) h = tt
