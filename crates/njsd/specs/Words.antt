-- The words of the command line.
use Rattle.std.specs.Prelude.{ℕ, List, [], ◌∷◌, ◌&&◌, false, if◌then◌else◌, Option, Some, None, bytes_eq, codes, encode_utf8_all}
use Rattle.njs_tree.specs.Names.{is_name}
use Rattle.conf_read.specs.declared.conf.Conf.{Conf}

-- the file and the handler of `call FILE NAME`
abbrev pub call_of : List (List ℕ) → Option (List ℕ × List ℕ)
call_of (word ∷ file ∷ name ∷ []) = if bytes_eq (encode_utf8_all word) (codes "call") && is_name name then Some (file, name) else None
call_of words = None

-- one script, one location that every path begins with, no zones, and all else by default
abbrev pub call_conf : List ℕ → List ℕ → Conf
call_conf file handler = record {
  workers = 1;
  host = codes "0.0.0.0";
  port = 8000;
  fuel = 1000000;
  imports = record { name = codes "main"; file = file } ∷ [];
  zones = [];
  locations = record { exact = false; path = codes "/"; «module» = 0; handler = handler } ∷ [];
}

-- the names of the files that the words want, in their order
abbrev pub names_of : Option (List ℕ × List ℕ) → List (List ℕ)
names_of None = []
names_of (Some words) = words.0 ∷ []
