-- The table of directives.
use Rattle.std.specs.Prelude.{ℕ, List, [], ◌∷◌, Bool, if◌then◌else◌, Option, Some, None, bytes_eq, codes, encode_utf8_all}
use denote.Enum.Bare.{sameb}
use Rattle.conf_read.specs.contracts.table.Place as place_type
use Rattle.conf_read.specs.contracts.table.Kind as kind_type
use Rattle.conf_read.specs.declared.table.Place.{Place}
use Rattle.conf_read.specs.declared.table.Place.TheVariants as place
use Rattle.conf_read.specs.declared.table.Kind.{Kind}
use Rattle.conf_read.specs.declared.table.Kind.TheVariants as kind
use Rattle.conf_read.specs.declared.table.Words.TheVariants as words
use Rattle.conf_read.specs.declared.table.Repeats.TheVariants as repeats
use Rattle.conf_read.specs.declared.table.Row.{Row}

-- a directive without effect, in one place or in two
abbrev pub ignored : Place → Option Place → ℕ → Row
ignored p also most = record { kind = kind.Ignored; place = p; also = also; words = words.Between 1 most; block = None; repeats = repeats.Freely; most = None }

-- a directive with one word that sets a value, once in its block
abbrev pub value : Kind → Place → Row
value k p = record { kind = k; place = p; also = None; words = words.Between 1 1; block = None; repeats = repeats.Once; most = None }

-- a directive with a block and no word, once in its block
abbrev pub block : Kind → Place → Place → Row
block k p inside = record { kind = k; place = p; also = None; words = words.Between 0 0; block = Some inside; repeats = repeats.Once; most = None }

-- each directive with its name
unfoldable pub table : List (List ℕ × Row)
table =
    (codes "load_module", ignored place.Main None 4)
    ∷ (codes "error_log", ignored place.Main None 4)
    ∷ (codes "pid", ignored place.Main None 4)
    ∷ (codes "user", ignored place.Main None 4)
    ∷ (codes "daemon", ignored place.Main None 4)
    ∷ (codes "worker_processes", value kind.WorkerProcesses place.Main)
    ∷ (codes "events", block kind.Events place.Main place.Events)
    ∷ (codes "worker_connections", ignored place.Events None 1)
    ∷ (codes "http", block kind.Http place.Main place.Http)
    ∷ (codes "js_path", value kind.JsPath place.Http)
    ∷ (codes "js_import", record { kind = kind.JsImport; place = place.Http; also = None; words = words.Either 1 3; block = None; repeats = repeats.ByKey; most = Some 64 })
    ∷ (codes "js_shared_dict_zone", record { kind = kind.JsSharedDictZone; place = place.Http; also = None; words = words.Between 1 4; block = None; repeats = repeats.ByKey; most = Some 16 })
    ∷ (codes "js_fuel", value kind.JsFuel place.Http)
    ∷ (codes "access_log", ignored place.Http (Some place.Server) 4)
    ∷ (codes "sendfile", ignored place.Http (Some place.Server) 4)
    ∷ (codes "keepalive_timeout", ignored place.Http (Some place.Server) 4)
    ∷ (codes "server", block kind.Server place.Http place.Server)
    ∷ (codes "listen", value kind.Listen place.Server)
    ∷ (codes "server_name", ignored place.Server None 16)
    ∷ (codes "location", record { kind = kind.Location; place = place.Server; also = None; words = words.Between 1 2; block = Some place.Location; repeats = repeats.ByKey; most = Some 64 })
    ∷ (codes "js_content", value kind.JsContent place.Location)
    ∷ []

-- the row of a name, by its UTF-8
abbrev pub row_in : List ℕ → List (List ℕ × Row) → Option Row
row_in name [] = None
row_in name (r ∷ rs) = if bytes_eq r.0 name then Some r.1 else row_in name rs

abbrev pub row_of : List ℕ → Option Row
row_of name = row_in (encode_utf8_all name) table

abbrev pub same_place : Place → Place → Bool
same_place = sameb place_type.the_type

abbrev pub same_kind : Kind → Kind → Bool
same_kind = sameb kind_type.the_type
