-- The configuration that a tree of directives stands for.
use Rattle.std.specs.Prelude.{ℕ, List, [], ◌∷◌, ◌++◌, map, position, Bool, false, ◌&&◌, ◌||◌, nat_lt, if◌then◌else◌, Option, Some, None, is_none, unwrap_or, bytes_eq, codes}
use Rattle.dict_model.specs.declared.operation.ZoneSpec.{ZoneSpec}
use Rattle.conf_read.specs.declared.directive.Directive.{Directive}
use Rattle.conf_read.specs.declared.fault.ConfFault.{ConfFault}
use Rattle.conf_read.specs.declared.conf.Import.{Import}
use Rattle.conf_read.specs.declared.conf.Location.{Location}
use Rattle.conf_read.specs.declared.conf.Conf.{Conf}
use Rattle.conf_read.specs.declared.values.Address.{Address}
use Rattle.conf_read.specs.declared.values.Handler.{Handler}
use Rattle.conf_read.specs.declared.values.Path.{Path}
use Rattle.conf_read.specs.declared.table.Place.TheVariants as place
use Rattle.conf_read.specs.Tree.{Tree}
use Rattle.conf_read.specs.Values.{◌>>=◌, is_word, is_path, path_of, workers_of, fuel_of, listen_of, location_of, content_of, import_of, zone_of}
use Rattle.conf_read.specs.Rules.{directives, first_fault}

-- a directive of this name
abbrev pub is_named : List ℕ → Directive → Bool
is_named name d = is_word d.name name

-- the words of the first directive of this name
abbrev pub words_of : List ℕ → List Directive → Option (List (List ℕ))
words_of name [] = None
words_of name (d ∷ ds) = if is_named name d then Some d.words else words_of name ds

abbrev pub or_words : Option (List (List ℕ)) → Option (List (List ℕ)) → Option (List (List ℕ))
or_words None ws = ws
or_words (Some w) ws = Some w

-- the values of all directives of this name, in their order
abbrev pub with_value : {A : Type 0} → Option A → List A → List A
with_value None xs = xs
with_value (Some x) xs = x ∷ xs

abbrev pub values_in : {A : Type 0} → List ℕ → (List (List ℕ) → Option A) → List Directive → List A
values_in name value [] = []
values_in name value (d ∷ ds) = if is_named name d then with_value (value d.words) (values_in name value ds) else values_in name value ds

-- the scripts, with the names of their files as they are written
abbrev pub imports_in : List Directive → List Import
imports_in ds = values_in (codes "js_import") import_of ds

-- the file of a script: behind the path of `js_path`, where its name doesn't begin with `/`
abbrev pub file_under : Option (List ℕ) → List ℕ → List ℕ
file_under None file = file
file_under (Some path) file = if is_path file then file else path ++ 47 ∷ file

abbrev pub under : Option (List ℕ) → Import → Import
under path i = record { name = i.name; file = file_under path i.file }

-- the handler of a location: that of the `js_content` in its block, which comes before the next location
abbrev pub content_in : List Directive → Option (List (List ℕ))
content_in [] = None
content_in (d ∷ ds) = if is_named (codes "location") d then None else (if is_named (codes "js_content") d then Some d.words else content_in ds)

-- places have 32 bits
abbrev pub place_in : List Import → List ℕ → Option ℕ
place_in imports name = position (λ i. bytes_eq i.name name) imports >>= (λ place. if nat_lt place 4294967296 then Some place else None)

abbrev pub location_with : List Import → Path → Handler → Option Location
location_with imports path handler = place_in imports handler.module >>= (λ place. Some (record { exact = path.exact; path = path.text; «module» = place; handler = handler.name }))

abbrev pub location_at : List Import → List (List ℕ) → List Directive → Option Location
location_at imports ws behind =
    location_of ws >>= (λ path. content_in behind >>= (λ content. content_of content >>= (λ handler. location_with imports path handler)))

abbrev pub locations_in : List Import → List Directive → List Location
locations_in imports [] = []
locations_in imports (d ∷ ds) = if is_named (codes "location") d then with_value (location_at imports d.words ds) (locations_in imports ds) else locations_in imports ds

-- a location has no `js_content`
abbrev pub lacks_content : List Directive → Bool
lacks_content [] = false
lacks_content (d ∷ ds) = (is_named (codes "location") d && is_none (content_in ds)) || lacks_content ds

-- there is no `http`, no `server`, no `location`, or a location without `js_content`
abbrev pub lacks : List Directive → Bool
lacks ds =
    is_none (words_of (codes "http") ds) || (is_none (words_of (codes "server") ds) || (is_none (words_of (codes "location") ds) || lacks_content ds))

-- all zones, in their order
abbrev pub zones_in : List Directive → List ZoneSpec
zones_in ds = values_in (codes "js_shared_dict_zone") zone_of ds

abbrev pub any_address : Address
any_address = record { host = codes "0.0.0.0"; port = 8000 }

abbrev pub address_in : List Directive → Address
address_in ds = unwrap_or (words_of (codes "listen") ds >>= listen_of) any_address

abbrev pub workers_in : List Directive → ℕ
workers_in ds = unwrap_or (words_of (codes "worker_processes") ds >>= workers_of) 1

abbrev pub fuel_in : List Directive → ℕ
fuel_in ds = unwrap_or (words_of (codes "js_fuel") ds >>= fuel_of) 1000000

abbrev pub path_in : List Directive → Option (List ℕ)
path_in ds = words_of (codes "js_path") ds >>= path_of

-- the value of each directive, or what stands for one that isn't there
abbrev pub conf_of : List Directive → Conf
conf_of ds =
    let address = address_in ds in
    record { workers = workers_in ds; host = address.host; port = address.port; fuel = fuel_in ds; imports = map (under (path_in ds)) (imports_in ds); zones = zones_in ds; locations = locations_in (imports_in ds) ds }

-- ---- whole files

-- the first rule that fails, in the order of the file
abbrev pub conf_first : Tree → Option ConfFault
conf_first tree = first_fault (imports_in (directives tree)) place.Main [] [] tree
