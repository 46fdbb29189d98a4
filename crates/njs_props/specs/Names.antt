-- Names that are array indices, and the order in which a script sees names.
use Rattle.std.specs.Prelude.{◌≡◌, ◌≢◌, ◌<◌, ℕ, List, [], ◌++◌, Bool, true, not, ◌&&◌, nat_lt, Option, Some, None, if◌then◌else◌, filter, fold, map, is_some, codes}
use Rattle.std.specs.Option.{option_map_or}
use Rattle.std.specs.Ordering.{nat_cmp}
use Rattle.std.specs.BTreeMap.{insert_entry}
use Rattle.std.specs.Fmt.{decimal}
use Rattle.std.specs.BTreeSet.{insert_key}
use Rattle.std.specs.List.{filter_map}
use Rattle.std.specs.Str.{bytes_eq}
use Rattle.std.specs.Str.Parse.{digits_value}

-- names are compared by content
abbrev pub same_name : List ℕ → List ℕ → Bool
same_name a b = bytes_eq a b

-- the name of an array's length (ECMA-262 5.1 §15.4.5.2)
abbrev pub length_name : List ℕ
length_name = codes "length"

-- the array index that a name is: a name is one where it is the decimal text of a number below 2^32 - 1
-- (ECMA-262 5.1 §15.4)
abbrev pub index_of : List ℕ → Option ℕ
index_of name =
    let number = digits_value 10 name in
    if same_name (decimal number) name && nat_lt number 4294967295 then Some number else None

-- what may be answered for a name, in the standard's words
abbrev pub NamesIndex : List ℕ → Option ℕ → Type 0
NamesIndex name (Some i) = (name ≡ decimal i) × (i < 4294967295)
NamesIndex name None = (i : ℕ) → i < 4294967295 → name ≢ decimal i

abbrev pub is_index : List ℕ → Bool
is_index name = is_some (index_of name)

-- an array index below a length, or a name that is no index
abbrev pub is_below : ℕ → List ℕ → Bool
is_below length name = option_map_or (λ i. nat_lt i length) (index_of name) true

-- the numbers rising, each once
abbrev pub rising : List ℕ → List ℕ
rising numbers = fold (insert_key nat_cmp) [] numbers

-- the array indices among the names, rising by their numbers, and then the other names in their order
abbrev pub in_key_order : List (List ℕ) → List (List ℕ)
in_key_order names = map decimal (rising (filter_map index_of names)) ++ filter (λ name. not (is_index name)) names

-- array indices by their numbers, with one more name if it is one
abbrev pub with_index : List (ℕ × List ℕ) → List ℕ → List (ℕ × List ℕ)
with_index es name = option_map_or (λ i. insert_entry nat_cmp es i name) (index_of name) es
