-- The files of the imports, one after another, and the scripts in them.
use Rattle.std.proofs.Common.{◌≡◌, inl, inr, ◌++◌, ◌+◌, ◌<◌, ◌≤◌, ℕ, suc, List, [], ◌∷◌, map, drop, length, get_or, Option, Err, refl, sym, ap, ◌∙◌, subst, append_assoc, add-one, drop-cons}
use Rattle.std.proofs.lemmas.List.{append-nil, map-append, drop_all}
use Rattle.njs_tree.specs.declared.tree.Script.{Script}
use Rattle.njs_edge.specs.Files.{HasFront, Grew}
use Rattle.njs_edge.specs.Known.{grew_same, grew_more}
use Rattle.conf_read.specs.declared.conf.Import.{Import}
use Rattle.conf_read.specs.declared.conf.Conf.{Conf}
use Rattle.njs_conn.specs.declared.script.ScriptWhy.{ScriptWhy}
use Rattle.njs_conn.specs.declared.script.ScriptStop.{ScriptStop}
use Rattle.njs_conn.specs.declared.script.ScriptStop.TheVariants as stops
use Rattle.njs_conn.specs.declared.builder.SiteFault.{SiteFault}
use Rattle.njs_conn.specs.declared.builder.SiteFault.TheVariants as faults
use Rattle.njs_conn.specs.Site.{Contents, file_names, AllRead, ReadsAll, AllAccepted, FirstRefused, script_room, AsksAlong, Unread, Names, NamesNoScript, TreesFrom, SiteFrom}
use Rattle.njs_conn.specs.Scripts.{Accepts, Refuses, ScriptFrom}

-- the names that were asked so far, and those that are left
pub record Asking (old now : Option (List (List ℕ))) (left all : List (List ℕ)) : Type 0 where
  pub asked : List (List ℕ)
  pub grew : Grew old now asked
  pub along : asked ++ left ≡ all

pub asking_start : (old : Option (List (List ℕ))) (all : List (List ℕ)) → Asking old old all all
asking_start old all = record { asked = []; grew = grew_same old; along = refl }

pub asking_next : (a b c : Option (List (List ℕ))) (name : List ℕ) (left next all : List (List ℕ)) → Asking a b left all → left ≡ name ∷ next → Grew b c (name ∷ []) → Asking a c next all
asking_next a b c name left next all so_far is_next grew = record {
  asked = so_far.asked ++ name ∷ [];
  grew = grew_more a b c so_far.asked (name ∷ []) so_far.grew grew;
  along = append_assoc so_far.asked (name ∷ []) next ∙ ap (λ xs. so_far.asked ++ xs) (sym is_next) ∙ so_far.along;
}

-- the files that were read so far, and those that are left
pub record Reading (files : Option Contents) (read : Contents) (left all : List (List ℕ)) : Type 0 where
  pub names : map (λ file. file.0) read ++ left ≡ all
  pub each : AllRead files read

all_read_more : (files : Option Contents) (read : Contents) (file : List ℕ × List ℕ) → AllRead files read → HasFront files file.0 script_room file.1 → AllRead files (read ++ file ∷ [])
all_read_more files [] file each has = (has, tt)
all_read_more files (first ∷ read) file each has = (each.0, all_read_more files read file each.1 has)

pub reading_more : (files : Option Contents) (read : Contents) (name bytes : List ℕ) (left all : List (List ℕ)) → Reading files read (name ∷ left) all → HasFront files name script_room bytes → Reading files (read ++ (name, bytes) ∷ []) left all
reading_more files read name bytes left all so_far has = record {
  names = ap (λ names. names ++ left) (map-append (λ file. file.0) read ((name, bytes) ∷ [])) ∙ append_assoc (map (λ file. file.0) read) (name ∷ []) left ∙ so_far.names;
  each = all_read_more files read (name, bytes) so_far.each has;
}

-- one more file was read, where f says what is seen of what the code keeps
pub reading_next : {V : Type 0} (f : V → List ℕ × List ℕ) (files now : Option Contents) (old new : List V) (v : V) (left next all : List (List ℕ)) → Reading files (map f old) left all → left ≡ (f v).0 ∷ next → now ≡ files → HasFront now (f v).0 script_room (f v).1 → new ≡ old ++ v ∷ [] → Reading files (map f new) next all
reading_next f files now old new v left next all so_far is_next same has is =
    subst (λ list. Reading files list next all) (sym (ap (map f) is ∙ map-append f old (v ∷ [])))
    (reading_more files (map f old) (f v).0 (f v).1 next all (subst (λ names. Reading files (map f old) names all) is_next so_far) (subst (λ told. HasFront told (f v).0 script_room (f v).1) same has))

pub reads_all : (files : Option Contents) (imports : List Import) (read : Contents) → Reading files read [] (file_names imports) → ReadsAll files imports read
reads_all files imports read so_far = record { names = sym (append-nil (map (λ file. file.0) read)) ∙ so_far.names; read = so_far.each }

-- the scripts so far are accepted, so what holds of those that are left decides
pub record Accepting (left all : Contents) (trees : List Script) : Type 0 where
  pub accepts : (more : List Script) → AllAccepted left more → AllAccepted all (trees ++ more)
  pub refuses : (name : List ℕ) (why : ScriptWhy) → FirstRefused left name why → FirstRefused all name why

pub accepting_start : (all : Contents) → Accepting all all []
accepting_start all = record { accepts = λ more each. each; refuses = λ name why first. first }

pub accepting_more : (file : List ℕ × List ℕ) (left all : Contents) (trees : List Script) (tree : Script) → Accepting (file ∷ left) all trees → Accepts file.1 tree → Accepting left all (trees ++ tree ∷ [])
accepting_more file left all trees tree so_far here = record {
  accepts = λ more each. subst (AllAccepted all) (sym (append_assoc trees (tree ∷ []) more)) (so_far.accepts (tree ∷ more) (here, each));
  refuses = λ name why first. so_far.refuses name why (inr (tree, here, first));
}

pub accepting_next : (file : List ℕ × List ℕ) (left next all : Contents) (trees new : List Script) (tree : Script) → Accepting left all trees → left ≡ file ∷ next → Accepts file.1 tree → new ≡ trees ++ tree ∷ [] → Accepting next all new
accepting_next file left next all trees new tree so_far is_next here is =
    subst (λ list. Accepting next all list) (sym is) (accepting_more file next all trees tree (subst (λ files. Accepting files all trees) is_next so_far) here)

pub all_accepted : (left all : Contents) (trees : List Script) → Accepting left all trees → left ≡ [] → AllAccepted all trees
all_accepted left all trees so_far none = subst (AllAccepted all) (append-nil trees) (so_far.accepts [] (subst (λ files. AllAccepted files []) (sym none) tt))

pub first_refused : (file : List ℕ × List ℕ) (left all : Contents) (trees : List Script) (name : List ℕ) (why : ScriptWhy) → Accepting (file ∷ left) all trees → name ≡ file.0 → Refuses file.1 why → FirstRefused all name why
first_refused file left all trees name why so_far is refused = so_far.refuses name why (inl (is, refused))

-- what is left behind a place begins with what stands there
pub left_at : {X Y : Type 0} (f : X → Y) (xs : List X) (i : ℕ) (x : X) → i < length xs → x ≡ get_or xs i x → map f (drop i xs) ≡ f x ∷ map f (drop (i + 1) xs)
left_at f xs i x below is =
    ap (map f) (drop-cons xs i x below) ∙ ap (λ y. f y ∷ map f (drop (suc i) xs)) (sym is) ∙ ap (λ n. f x ∷ map f (drop n xs)) (sym (add-one i))

-- the names that were asked where no memory is left, and where a file could not be read
pub asked_so_far : {T : Type 0} (old now : Option (List (List ℕ))) (left all : List (List ℕ)) → Asking old now left all → AsksAlong {T = T} all old now (Err faults.NoMemory)
asked_so_far old now left all so_far = record { asked = so_far.asked; rest = left; grew = so_far.grew; along = so_far.along; up_to = tt }

pub asked_in_vain : {T : Type 0} (a b c : Option (List (List ℕ))) (name : List ℕ) (left next all : List (List ℕ)) (fault : SiteFault) → Asking a b left all → left ≡ name ∷ next → Grew b c (name ∷ []) → Unread name fault → AsksAlong {T = T} all a c (Err fault)
asked_in_vain {T} a b c name left next all fault so_far is_next grew (inl is) =
    subst (λ f. AsksAlong {T = T} all a c (Err f)) (sym is) (record {
      asked = so_far.asked ++ name ∷ [];
      rest = next;
      grew = grew_more a b c so_far.asked (name ∷ []) so_far.grew grew;
      along = append_assoc so_far.asked (name ∷ []) next ∙ ap (λ xs. so_far.asked ++ xs) (sym is_next) ∙ so_far.along;
      up_to = (so_far.asked, refl);
    })
asked_in_vain {T} a b c name left next all fault so_far is_next grew (inr is) =
    subst (λ f. AsksAlong {T = T} all a c (Err f)) (sym is) (asked_so_far a c next all (asking_next a b c name left next all so_far is_next grew))

-- a script that is refused
pub stops_here : (file : List ℕ × List ℕ) (left next all : Contents) (trees : List Script) (stop : ScriptStop) (fault : SiteFault) → Accepting left all trees → left ≡ file ∷ next → ScriptFrom file.1 (Err stop) → Names file.0 stop fault → TreesFrom all (Err fault)
stops_here file left next all trees (stops.Refused why) fault so_far is_next refused (inl is) =
    subst (λ f. TreesFrom all (Err f)) (sym is) (first_refused file next all trees file.0 why (subst (λ files. Accepting files all trees) is_next so_far) refl refused)
stops_here file left next all trees (stops.Refused why) fault so_far is_next refused (inr is) = subst (λ f. TreesFrom all (Err f)) (sym is) tt
stops_here file left next all trees stops.NoMemory fault so_far is_next refused is = subst (λ f. TreesFrom all (Err f)) (sym is) tt

pub none_left : {X Y : Type 0} (f : X → Y) (xs : List X) (i : ℕ) → length xs ≤ i → map f (drop i xs) ≡ []
none_left f xs i past = ap (map f) (drop_all i xs past)

-- without the files there is no site
pub no_files : (conf : Conf) (files : Option Contents) (fault : SiteFault) → NamesNoScript fault → SiteFrom conf files (Err fault)
no_files conf files (faults.File name) h = tt
no_files conf files (faults.Script name why) h = absurd h
no_files conf files faults.NoMemory h = tt

-- nor without the scripts
pub no_scripts : (conf : Conf) (files : Option Contents) (contents : Contents) (fault : SiteFault) → ReadsAll files conf.imports contents → TreesFrom contents (Err fault) → SiteFrom conf files (Err fault)
no_scripts conf files contents (faults.File name) read h = tt
no_scripts conf files contents (faults.Script name why) read h = (contents, read, h)
no_scripts conf files contents faults.NoMemory read h = tt
