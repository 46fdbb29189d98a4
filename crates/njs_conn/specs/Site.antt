-- A site, and what building one may answer.
use Rattle.std.specs.Prelude.{ℕ, List, [], ◌∷◌, ◌++◌, map, ◌≡◌, ◌⊎◌, Option, Result, Ok, Err}
use Rattle.njs_edge.specs.Files.{HasFront, Grew}
use Rattle.njs_tree.specs.declared.tree.Script.{Script}
use Rattle.conf_read.specs.declared.conf.Import.{Import}
use Rattle.conf_read.specs.declared.conf.Conf.{Conf}
use Rattle.njs_conn.specs.declared.script.ScriptWhy.{ScriptWhy}
use Rattle.njs_conn.specs.declared.script.ScriptStop.{ScriptStop}
use Rattle.njs_conn.specs.declared.script.ScriptStop.TheVariants as stops
use Rattle.njs_conn.specs.Scripts.{Accepts, Refuses}
use Rattle.njs_conn.specs.declared.builder.SiteFault.{SiteFault}
use Rattle.njs_conn.specs.declared.builder.SiteFault.TheVariants as faults

-- a configuration and the trees of its scripts, in the order of the imports
pub record Site : Type 0 where
  pub conf : Conf
  pub trees : List Script

-- the bytes of the longest script, and one more: a longer file is read no further
abbrev pub script_room : ℕ
script_room = 1048577

-- files that were read: each name with the first bytes of its file
abbrev pub Contents : Type 0
Contents = List (List ℕ × List ℕ)

abbrev pub file_names : List Import → List (List ℕ)
file_names imports = map (λ i. i.file) imports

abbrev pub AllRead : Option Contents → Contents → Type 0
AllRead files [] = Unit {0}
AllRead files (file ∷ rest) = HasFront files file.0 script_room file.1 × AllRead files rest

-- the files of all imports, in their order
pub record ReadsAll (files : Option Contents) (imports : List Import) (contents : Contents) : Type 0 where
  pub names : map (λ file. file.0) contents ≡ file_names imports
  pub read : AllRead files contents

-- each file is a script, and these are their trees
abbrev pub AllAccepted : Contents → List Script → Type 0
AllAccepted [] [] = Unit {0}
AllAccepted [] (tree ∷ trees) = ⊥
AllAccepted (file ∷ rest) [] = ⊥
AllAccepted (file ∷ rest) (tree ∷ trees) = Accepts file.1 tree × AllAccepted rest trees

-- the first file that is no script has this name, and is refused for this cause
abbrev pub FirstRefused : Contents → List ℕ → ScriptWhy → Type 0
FirstRefused [] name why = ⊥
FirstRefused (file ∷ rest) name why = ((name ≡ file.0) × Refuses file.1 why) ⊎ ((tree : Script) × Accepts file.1 tree × FirstRefused rest name why)

-- what may be answered for a configuration, where the files tell what they have
abbrev pub SiteFrom : Conf → Option Contents → Result Site SiteFault → Type 0
SiteFrom conf files (Ok site) = (site.conf ≡ conf) × (contents : Contents) × ReadsAll files conf.imports contents × AllAccepted contents site.trees
SiteFrom conf files (Err (faults.File name)) = Unit {0}
SiteFrom conf files (Err (faults.Script name why)) = (contents : Contents) × ReadsAll files conf.imports contents × FirstRefused contents name why
SiteFrom conf files (Err faults.NoMemory) = Unit {0}

-- a file could not be read
abbrev pub IsFileFault : {T : Type 0} → Result T SiteFault → Type 0
IsFileFault (Ok site) = ⊥
IsFileFault (Err (faults.File name)) = Unit {0}
IsFileFault (Err (faults.Script name why)) = ⊥
IsFileFault (Err faults.NoMemory) = ⊥

-- all names were asked, or those up to the one of the file that could not be read
abbrev pub AskedUpTo : {T : Type 0} → List (List ℕ) → List (List ℕ) → Result T SiteFault → Type 0
AskedUpTo names asked (Ok site) = asked ≡ names
AskedUpTo names asked (Err (faults.File name)) = (earlier : List (List ℕ)) × (asked ≡ earlier ++ name ∷ [])
AskedUpTo names asked (Err (faults.Script name why)) = asked ≡ names
AskedUpTo names asked (Err faults.NoMemory) = Unit {0}

-- the names that were asked are the first of these
pub record AsksAlong {T : Type 0} (names : List (List ℕ)) (old new : Option (List (List ℕ))) (result : Result T SiteFault) : Type 0 where
  pub asked : List (List ℕ)
  pub rest : List (List ℕ)
  pub grew : Grew old new asked
  pub along : asked ++ rest ≡ names
  pub up_to : AskedUpTo names asked result

-- a fault names the script's file, unless there is no memory to say so
abbrev pub Names : List ℕ → ScriptStop → SiteFault → Type 0
Names file (stops.Refused why) fault = (fault ≡ faults.Script file why) ⊎ (fault ≡ faults.NoMemory)
Names file stops.NoMemory fault = fault ≡ faults.NoMemory

abbrev pub Unread : List ℕ → SiteFault → Type 0
Unread file fault = (fault ≡ faults.File file) ⊎ (fault ≡ faults.NoMemory)

-- a fault of the files, or of memory
abbrev pub NamesNoScript : SiteFault → Type 0
NamesNoScript (faults.File name) = Unit {0}
NamesNoScript (faults.Script name why) = ⊥
NamesNoScript faults.NoMemory = Unit {0}

-- what may be answered when the files that were read are read as scripts
abbrev pub TreesFrom : Contents → Result (List Script) SiteFault → Type 0
TreesFrom contents (Ok trees) = AllAccepted contents trees
TreesFrom contents (Err (faults.File name)) = ⊥
TreesFrom contents (Err (faults.Script name why)) = FirstRefused contents name why
TreesFrom contents (Err faults.NoMemory) = Unit {0}
