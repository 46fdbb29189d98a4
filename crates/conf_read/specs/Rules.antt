-- The rules on a tree of directives: the first that fails, in the order of the file.
use Rattle.std.specs.Prelude.{ℕ, ◌+◌, List, [], ◌∷◌, ◌++◌, length, filter, Bool, true, false, ◌&&◌, ◌||◌, not, nat_le, nat_lt, ◌==◌, if◌then◌else◌, Option, Some, None, is_some, is_none, unwrap_or, bytes_eq, encode_utf8_all, sum_by}
use Rattle.std.specs.List.{list_any}
use Rattle.dict_model.specs.declared.operation.ZoneSpec.{ZoneSpec}
use Rattle.conf_read.specs.declared.directive.Directive.{Directive}
use Rattle.conf_read.specs.declared.fault.ConfFault.{ConfFault}
use Rattle.conf_read.specs.declared.fault.ConfFault.TheVariants as fault
use Rattle.conf_read.specs.declared.conf.Import.{Import}
use Rattle.conf_read.specs.declared.values.Handler.{Handler}
use Rattle.conf_read.specs.declared.values.Path.{Path}
use Rattle.conf_read.specs.declared.table.Place.{Place}
use Rattle.conf_read.specs.declared.table.Place.TheVariants as place
use Rattle.conf_read.specs.declared.table.Kind.{Kind}
use Rattle.conf_read.specs.declared.table.Kind.TheVariants as kind
use Rattle.conf_read.specs.declared.table.Words.{Words}
use Rattle.conf_read.specs.declared.table.Words.TheVariants as words
use Rattle.conf_read.specs.declared.table.Repeats.{Repeats}
use Rattle.conf_read.specs.declared.table.Repeats.TheVariants as repeats
use Rattle.conf_read.specs.declared.table.Row.{Row}
use Rattle.conf_read.specs.Tree.{Tree}
use Rattle.conf_read.specs.Table.{row_of, same_place, same_kind}
use Rattle.conf_read.specs.Values.{◌>>=◌, is_word, workers_of, fuel_of, listen_of, location_of, content_of, import_of, zone_of}

-- ---- one directive

-- it may stand in this block
abbrev pub is_place : Option Place → Place → Bool
is_place None here = false
is_place (Some p) here = same_place p here

abbrev pub stands : Row → Place → Bool
stands row here = same_place row.place here || is_place row.also here

-- so many words may come after its name
abbrev pub fits : Words → ℕ → Bool
fits (words.Between least most) count = nat_le least count && nat_le count most
fits (words.Either one other) count = count == one || count == other

-- there may be one more
abbrev pub has_room : Option ℕ → ℕ → Bool
has_room None count = true
has_room (Some most) count = nat_lt count most

-- its words, its block where one belongs, and how many of its name came before
abbrev pub counts : Row → ℕ → Bool → ℕ → Bool
counts row count opens before = fits row.words count && ((if opens then is_some row.block else is_none row.block) && has_room row.most before)

-- those of its name
abbrev pub is_alike : Directive → Directive → Bool
is_alike d other = is_word other.name (encode_utf8_all d.name)

abbrev pub alike : Directive → List Directive → List Directive
alike d ds = filter (is_alike d) ds

-- the bytes that a zone may hold
abbrev pub limit_of : Option ZoneSpec → ℕ
limit_of None = 0
limit_of (Some zone) = zone.limit

abbrev pub zone_bytes : Directive → ℕ
zone_bytes d = limit_of (zone_of d.words)

-- a zone with which all those before it take no more than 1 GiB
abbrev pub is_zone : Option ZoneSpec → List Directive → Bool
is_zone None before = false
is_zone (Some zone) before = nat_le (zone.limit + sum_by zone_bytes before) 1073741824

-- a handler of one of these scripts
abbrev pub is_import : List ℕ → List Import → Bool
is_import name imports = list_any (λ i. bytes_eq i.name name) imports

abbrev pub is_handler : Option Handler → List Import → Bool
is_handler None imports = false
is_handler (Some handler) imports = is_import handler.module imports

-- its words are a value; the imports are those of the whole file
abbrev pub has_value : List Import → Kind → List (List ℕ) → List Directive → Bool
has_value imports kind.WorkerProcesses ws before = is_some (workers_of ws)
has_value imports kind.JsFuel ws before = is_some (fuel_of ws)
has_value imports kind.JsImport ws before = is_some (import_of ws)
has_value imports kind.JsSharedDictZone ws before = is_zone (zone_of ws) before
has_value imports kind.Listen ws before = is_some (listen_of ws)
has_value imports kind.Location ws before = is_some (location_of ws)
has_value imports kind.JsContent ws before = is_handler (content_of ws) imports
has_value imports _ ws before = true

-- what no second one may have: a script's or a zone's name, or a location's kind and path
abbrev pub key_of : Kind → List (List ℕ) → Option Path
key_of kind.JsImport ws = import_of ws >>= (λ i. Some (record { exact = false; text = i.name }))
key_of kind.JsSharedDictZone ws = zone_of ws >>= (λ z. Some (record { exact = false; text = z.name }))
key_of kind.Location ws = location_of ws
key_of _ ws = None

abbrev pub same_bool : Bool → Bool → Bool
same_bool a b = if a then b else not b

abbrev pub same_path : Path → Path → Bool
same_path p q = same_bool p.exact q.exact && bytes_eq p.text q.text

abbrev pub same_key : Option Path → Option Path → Bool
same_key None q = false
same_key (Some p) None = false
same_key (Some p) (Some q) = same_path p q

-- one of them has this key
abbrev pub any_key : Kind → Option Path → List Directive → Bool
any_key kind key ds = list_any (λ d. same_key (key_of kind d.words) key) ds

-- it stands there already: one of its kind in the same block, or one of its name with the same key
abbrev pub repeated_by : Repeats → Kind → List (List ℕ) → List Kind → List Directive → Bool
repeated_by repeats.Freely k ws seen before = false
repeated_by repeats.Once k ws seen before = list_any (λ other. same_kind other k) seen
repeated_by repeats.ByKey k ws seen before = any_key k (key_of k ws) before

abbrev pub repeated : Row → List (List ℕ) → List Kind → List Directive → Bool
repeated row ws seen before = repeated_by row.repeats row.kind ws seen before

-- the rules on a directive with a row, in their order: its place, its count, its value, whether it is there already
abbrev pub row_fault : List Import → Place → List Kind → List Directive → Directive → Bool → Row → Option ConfFault
row_fault imports here seen before d opens row =
    if not (stands row here) then Some (fault.Place d.line)
    else (if not (counts row (length d.words) opens (length before)) then Some (fault.Count d.line)
    else (if not (has_value imports row.kind d.words before) then Some (fault.Value d.line)
    else (if repeated row d.words seen before then Some (fault.Duplicate d.line) else None)))

abbrev pub fault_with : List Import → Place → List Kind → List Directive → Directive → Bool → Option Row → Option ConfFault
fault_with imports here seen before d opens None = Some (fault.Unknown d.line)
fault_with imports here seen before d opens (Some row) = row_fault imports here seen before d opens row

-- The rule that a directive breaks, if any. What counts: the block where it stands, the kinds of the directives before it in that block, all directives before it in the file, and whether it has a block.
abbrev pub fault_of : List Import → Place → List Kind → List Directive → Directive → Bool → Option ConfFault
fault_of imports here seen earlier d opens = fault_with imports here seen (alike d earlier) d opens (row_of d.name)

-- ---- a tree

-- the kind of a directive in the table, and what its block is
abbrev pub kind_in : Option Row → List Kind
kind_in None = []
kind_in (Some row) = row.kind ∷ []

abbrev pub block_in : Option Row → Place
block_in None = place.Main
block_in (Some row) = unwrap_or row.block place.Main

abbrev pub kind_of : Directive → List Kind
kind_of d = kind_in (row_of d.name)

abbrev pub block_of : Directive → Place
block_of d = block_in (row_of d.name)

-- all directives of a tree, in the order of the file
abbrev pub directives : Tree → List Directive
directives Tree.none = []
directives (Tree.plain d t) = d ∷ directives t
directives (Tree.block d b t) = d ∷ (directives b ++ directives t)

abbrev pub or_else : Option ConfFault → Option ConfFault → Option ConfFault
or_else None y = y
or_else (Some f) y = Some f

-- the first rule that fails in a block: a directive, what its block holds, and those behind it
abbrev pub first_fault : List Import → Place → List Kind → List Directive → Tree → Option ConfFault
first_fault imports here seen earlier Tree.none = None
first_fault imports here seen earlier (Tree.plain d t) = or_else (fault_of imports here seen earlier d false) (first_fault imports here (seen ++ kind_of d) (earlier ++ d ∷ []) t)
first_fault imports here seen earlier (Tree.block d b t) =
    or_else (fault_of imports here seen earlier d true)
    (or_else (first_fault imports (block_of d) [] (earlier ++ d ∷ []) b)
    (first_fault imports here (seen ++ kind_of d) ((earlier ++ d ∷ []) ++ directives b) t))
