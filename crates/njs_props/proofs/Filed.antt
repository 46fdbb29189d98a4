-- One more name is filed, by its number or behind the others.
use Rattle.std.proofs.Common.{◌≡◌, ℕ, ◌+◌, List, [], ◌∷◌, ◌++◌, Option, None, Some, ap, sym, ◌∙◌, refl, take, slice_get, filter, map, not, Ordering, Less, Equal, Greater}
use Rattle.std.specs.BTreeMap.{insert_entry}
use Rattle.std.specs.BTreeSet.{insert_key}
use Rattle.std.specs.Fmt.{decimal}
use Rattle.std.specs.List.{filter_map, cons_option}
use Rattle.std.specs.Map.{values_of}
use Rattle.std.specs.Option.{option_map, option_map_or}
use Rattle.std.specs.Ordering.{nat_cmp, match_ordering}
use Rattle.std.proofs.lemmas.Cmp.{ranked}
use Rattle.std.proofs.lemmas.Option.{slice_get_within, get_or_from_slice_get, slice_get-map}
use Rattle.std.proofs.lemmas.List.{take_more, append-nil}
use Rattle.std.proofs.lemmas.List.Sums.{fold-append}
use Rattle.std.proofs.lemmas.List.Elements.{filter-append, filter_map-append}
use Rattle.njs_props.specs.Names.{index_of, is_index, rising, with_index}
use Rattle.njs_props.specs.Props.{names_of}
use Rattle.njs_props.proofs.Indices.{NamesIndex-index_of}

-- numbers with their texts
abbrev pub texts_of : List ℕ → List (ℕ × List ℕ)
texts_of numbers = map (λ i. (i, decimal i)) numbers

pub values_of-texts_of : (numbers : List ℕ) → values_of (texts_of numbers) ≡ map decimal numbers
values_of-texts_of [] = refl
values_of-texts_of (n ∷ ns) = ap (λ t. decimal n ∷ t) (values_of-texts_of ns)

-- a number's text goes to the number's place
insert_entry-texts_of : (numbers : List ℕ) (i : ℕ) → insert_entry nat_cmp (texts_of numbers) i (decimal i) ≡ texts_of (insert_key nat_cmp numbers i)
insert_entry-texts_of [] i = refl
insert_entry-texts_of (n ∷ ns) i = by (nat_cmp i n) refl (insert_entry-texts_of ns i)
  where
    by : (r : Ordering) → r ≡ nat_cmp i n → insert_entry nat_cmp (texts_of ns) i (decimal i) ≡ texts_of (insert_key nat_cmp ns i)
        → match_ordering r ((i, decimal i) ∷ texts_of (n ∷ ns)) ((n, decimal i) ∷ texts_of ns) ((n, decimal n) ∷ insert_entry nat_cmp (texts_of ns) i (decimal i)) ≡ texts_of (match_ordering r (i ∷ n ∷ ns) (n ∷ ns) (n ∷ insert_key nat_cmp ns i))
    by Less is rest = refl
    by Equal is rest = ap (λ k. (n, decimal k) ∷ texts_of ns) (ranked i n Equal is)
    by Greater is rest = ap (λ t. (n, decimal n) ∷ t) rest

-- and a name that is no index changes nothing
with_index-texts_of : (numbers : List ℕ) (name : List ℕ) → with_index (texts_of (rising numbers)) name ≡ texts_of (rising (numbers ++ filter_map index_of (name ∷ [])))
with_index-texts_of numbers name = by (index_of name) refl
  where
    by : (r : Option ℕ) → index_of name ≡ r → option_map_or (λ i. insert_entry nat_cmp (texts_of (rising numbers)) i name) r (texts_of (rising numbers)) ≡ texts_of (rising (numbers ++ cons_option r []))
    by None is = ap (λ ns. texts_of (rising ns)) (sym (append-nil numbers))
    by (Some i) is =
        ap (insert_entry nat_cmp (texts_of (rising numbers)) i) (NamesIndex-index_of name (Some i) is).0 ∙ insert_entry-texts_of (rising numbers) i
        ∙ ap texts_of (sym (fold-append (insert_key nat_cmp) [] numbers (i ∷ [])))

take_next : (names : List (List ℕ)) (place : ℕ) (name : List ℕ) → slice_get names place ≡ Some name → take (place + 1) names ≡ take place names ++ name ∷ []
take_next names place name there = take_more names place name (slice_get_within names place name there) ∙ ap (λ n. take place names ++ n ∷ []) (get_or_from_slice_get names place name name there)

-- the name of an entry
pub name_at : {P : Type 0} (es : List (List ℕ × P)) (place : ℕ) (name : List ℕ) (p : P) → slice_get es place ≡ Some (name, p) → slice_get (names_of es) place ≡ Some name
name_at es place name p there = slice_get-map (λ e. e.0) es place ∙ ap (option_map (λ e. e.0)) there

pub next_rising : (names : List (List ℕ)) (place : ℕ) (name : List ℕ) (es new : List (ℕ × List ℕ)) → slice_get names place ≡ Some name → es ≡ texts_of (rising (filter_map index_of (take place names))) → new ≡ with_index es name → new ≡ texts_of (rising (filter_map index_of (take (place + 1) names)))
next_rising names place name es new there so_far filed =
    filed ∙ ap (λ es. with_index es name) so_far ∙ with_index-texts_of (filter_map index_of (take place names)) name
    ∙ ap (λ ns. texts_of (rising ns)) (sym (filter_map-append index_of (take place names) (name ∷ []))) ∙ ap (λ ns. texts_of (rising (filter_map index_of ns))) (sym (take_next names place name there))

pub next_others : (names : List (List ℕ)) (place : ℕ) (name : List ℕ) (so_far new : List (List ℕ)) → slice_get names place ≡ Some name → so_far ≡ filter (λ name. not (is_index name)) (take place names)
    → new ≡ so_far ++ filter (λ name. not (is_index name)) (name ∷ []) → new ≡ filter (λ name. not (is_index name)) (take (place + 1) names)
next_others names place name so_far new there is filed =
    filed ∙ ap (λ s. s ++ filter (λ name. not (is_index name)) (name ∷ [])) is ∙ sym (filter-append (λ name. not (is_index name)) (take place names) (name ∷ [])) ∙ ap (filter (λ name. not (is_index name))) (sym (take_next names place name there))
