-- What files have, where that is told, and the list of the names that were asked.
use Rattle.std.specs.Prelude.{ℕ, List, [], ◌∷◌, ◌++◌, ◌≡◌, ◌⊎◌, take, Option, Some, None, Result, Ok, Err, if◌then◌else◌}
use Rattle.std.specs.Str.{bytes_eq}
use Rattle.njs_edge.specs.declared.files.FileStop.{FileStop}
use Rattle.njs_edge.specs.declared.files.FileStop.TheVariants.{Failed, NoMemory}

-- the content of the first file of that name
abbrev pub file_named : List (List ℕ × List ℕ) → List ℕ → Option (List ℕ)
file_named [] name = None
file_named (file ∷ files) name = if bytes_eq file.0 name then Some file.1 else file_named files name

-- there is such a file, and these are its first bytes, up to a limit
abbrev pub IsFront : Option (List ℕ) → ℕ → List ℕ → Type 0
IsFront None limit bytes = ⊥
IsFront (Some content) limit bytes = bytes ≡ take limit content

-- where the files tell what they have, these are the first bytes of the one of that name
abbrev pub HasFront : Option (List (List ℕ × List ℕ)) → List ℕ → ℕ → List ℕ → Type 0
HasFront None name limit bytes = Unit {0}
HasFront (Some files) name limit bytes = IsFront (file_named files name) limit bytes

-- where the names asked are told, they grew by these
abbrev pub Grew : {X : Type 0} → Option (List X) → Option (List X) → List X → Type 0
Grew None new xs = Unit {0}
Grew (Some old) None xs = ⊥
Grew (Some old) (Some new) xs = new ≡ old ++ xs

-- a read asks for a name, unless memory ran out
abbrev pub Asks : {X T : Type 0} → Option (List X) → Option (List X) → X → Result T FileStop → Type 0
Asks old new name (Ok _) = Grew old new (name ∷ [])
Asks old new name (Err Failed) = Grew old new (name ∷ [])
Asks old new name (Err NoMemory) = Grew old new []

-- a read of files in memory fails where it is to, or where there is no such file
abbrev pub FailsWhere : {T : Type 0} → Type 0 → Option (List ℕ) → Result T FileStop → Type 0
FailsWhere fails content (Ok _) = fails → ⊥
FailsWhere fails content (Err Failed) = fails ⊎ (content ≡ None)
FailsWhere fails content (Err NoMemory) = Unit {0}
