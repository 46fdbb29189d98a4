-- What a run does, by its status.
use Rattle.std.specs.Prelude.{ℕ, List, [], ◌∷◌, ◌++◌, ◌≡◌, ◌⊎◌, Option, Some, None, Result, Ok, Err, codes}
use Rattle.std.specs.Io.KnownBytes.{Keeps}
use Rattle.njs_edge.specs.Files.{Grew}
use Rattle.njs_conn.specs.declared.connection.ConnEnd.{ConnEnd}
use Rattle.njs_conn.specs.declared.connection.ConnEnd.TheVariants as ends
use Rattle.njs_conn.specs.declared.builder.SiteFault.{SiteFault}
use Rattle.njs_conn.specs.declared.builder.SiteFault.TheVariants as faults
use Rattle.njs_conn.specs.Site.{Contents, Site, SiteFrom}
use Rattle.njs_conn.specs.Answers.{Serves}
use Rattle.njsd.specs.declared.run.Status.{Status}
use Rattle.njsd.specs.declared.run.Status.TheVariants as status
use Rattle.njsd.specs.Words.{call_of, call_conf, names_of}

-- where the outside tells it: the files, and the bytes before and after
pub record Outside : Type 0 where
  pub files : Option Contents
  pub left : Option (List ℕ)
  pub left' : Option (List ℕ)
  pub got : Option (List ℕ)
  pub got' : Option (List ℕ)

-- nothing was read from the source, and nothing written to the sink
pub record Untouched (o : Outside) : Type 0 where
  pub source : Keeps o.left o.left'
  pub sink : Keeps o.got o.got'

-- what building the site of the words answered
pub record Builds (words : List (List ℕ)) (files : Option Contents) (answer : Result Site SiteFault) : Type 0 where
  pub file : List ℕ
  pub handler : List ℕ
  pub words_are : call_of words ≡ Some (file, handler)
  pub built : SiteFrom (call_conf file handler) files answer

-- why there is no site
abbrev pub StopAs : List (List ℕ) → Option Contents → Status → Type 0
StopAs words files status.Finished = ⊥
StopAs words files status.Usage = call_of words ≡ None
StopAs words files (status.ScriptRefused file why) = Builds words files (Err (faults.Script file why))
StopAs words files (status.FileFault file) = Builds words files (Err (faults.File file))
StopAs words files status.Cut = ⊥
StopAs words files status.ReadFault = ⊥
StopAs words files status.WriteFault = ⊥
StopAs words files status.NoMemory = Unit {0}

abbrev pub LoadAs : List (List ℕ) → Option Contents → Result Site Status → Type 0
LoadAs words files (Ok site) = Builds words files (Ok site)
LoadAs words files (Err stop) = StopAs words files stop

-- the connection was served by the site of the words and the files, with `-` as the peer's address
pub record Called (words : List (List ℕ)) (o : Outside) (end : ConnEnd) : Type 0 where
  pub site : Site
  pub builds : Builds words o.files (Ok site)
  pub serves : Serves site (codes "-") o.left o.left' o.got o.got' end

-- there was no site
pub record Stopped (words : List (List ℕ)) (o : Outside) (status : Status) : Type 0 where
  pub why : StopAs words o.files status
  pub untouched : Untouched o

-- what a status says
abbrev pub RunAs : List (List ℕ) → Outside → Status → Type 0
RunAs words o status.Finished = Called words o ends.Finished
RunAs words o status.Usage = Stopped words o status.Usage
RunAs words o (status.ScriptRefused file why) = Stopped words o (status.ScriptRefused file why)
RunAs words o (status.FileFault file) = Stopped words o (status.FileFault file)
RunAs words o status.Cut = Called words o ends.Cut
RunAs words o status.ReadFault = Called words o ends.ReadFault
RunAs words o status.WriteFault = Called words o ends.WriteFault
RunAs words o status.NoMemory = Stopped words o status.NoMemory ⊎ Called words o ends.NoMemory

-- whether it is the file that failed
abbrev pub IsFileFault : Status → Type 0
IsFileFault status.Finished = ⊥
IsFileFault status.Usage = ⊥
IsFileFault (status.ScriptRefused file why) = ⊥
IsFileFault (status.FileFault file) = Unit {0}
IsFileFault status.Cut = ⊥
IsFileFault status.ReadFault = ⊥
IsFileFault status.WriteFault = ⊥
IsFileFault status.NoMemory = ⊥

-- a load fails as its status says
abbrev pub IsFileStop : {T : Type 0} → Result T Status → Type 0
IsFileStop (Ok x) = ⊥
IsFileStop (Err stop) = IsFileFault stop

-- the file that could not be read is the last that was asked
abbrev pub AskedLast : Status → List (List ℕ) → Type 0
AskedLast status.Finished asked = Unit {0}
AskedLast status.Usage asked = Unit {0}
AskedLast (status.ScriptRefused file why) asked = Unit {0}
AskedLast (status.FileFault file) asked = (earlier : List (List ℕ)) × (asked ≡ earlier ++ file ∷ [])
AskedLast status.Cut asked = Unit {0}
AskedLast status.ReadFault asked = Unit {0}
AskedLast status.WriteFault asked = Unit {0}
AskedLast status.NoMemory asked = Unit {0}

-- the names that were asked are the first of those that the words want
pub record AsksFor (words : List (List ℕ)) (old new : Option (List (List ℕ))) (status : Status) : Type 0 where
  pub asked : List (List ℕ)
  pub rest : List (List ℕ)
  pub grew : Grew old new asked
  pub along : asked ++ rest ≡ names_of (call_of words)
  pub last : AskedLast status asked

-- the same of a load
abbrev pub LoadAsks : {T : Type 0} → List (List ℕ) → Option (List (List ℕ)) → Option (List (List ℕ)) → Result T Status → Type 0
LoadAsks words old new (Ok x) = AsksFor words old new status.Finished
LoadAsks words old new (Err stop) = AsksFor words old new stop

-- the status of a fault
abbrev pub status_of : SiteFault → Status
status_of (faults.File file) = status.FileFault file
status_of (faults.Script file why) = status.ScriptRefused file why
status_of faults.NoMemory = status.NoMemory
