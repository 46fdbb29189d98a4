use Rattle.std.proofs.Common.{◌≡◌, ◌++◌, Some, slice_get, rules, arith, ap, ◌∙◌, take, filter, map, not}
use Rattle.std.proofs.lemmas.List.{take_all}
use Rattle.std.proofs.lemmas.Map.Entries.{length-keys_of}
use Rattle.std.specs.Fmt.{decimal}
use Rattle.std.specs.List.{filter_map}
use Rattle.std.specs.Map.{values_of}
use Rattle.njs_props.specs.Names.{index_of, is_index, rising}
use Rattle.njs_props.specs.Props.{names_of}
use Rattle.njs_props.proofs.Filed.{name_at, next_rising, next_others, values_of-texts_of}
use Rattle.njs_props.proofs.map.PropMap.keys.Goals as goal

pub loop-place-preserved : goal.loop-place-preserved
loop-place-preserved g c =
    let props = c.args.self.now in
    let name = c.unwrap.result.0.now in
    let there : slice_get (names_of props) c.loop-place.place ≡ Some name =
    name_at props c.loop-place.place name (record { value = c.unwrap.result.1.now; flags = c.unwrap.result.2 }) (search rules) in
    record {
      rising = next_rising (names_of props) c.loop-place.place name c.loop-place.indices.entries c.file_name.new.indices.entries there c.loop-place.invariant.rising c.in_ok-file_name.ensures.indices;
      others = next_others (names_of props) c.loop-place.place name c.loop-place.others.items c.file_name.new.others.items there c.loop-place.invariant.others c.in_ok-file_name.ensures.others;
    }

pub returns : goal.returns
returns g c =
    let names = names_of c.args.self.now in
    let whole : take c.loop-place.place names ≡ names = take_all c.loop-place.place names (omega (arith, length-keys_of c.args.self.now)) in
    let collected : c.in_ok-names.names.items ≡ values_of c.loop-place.indices.entries = search rules in
    let indices : c.in_ok-names.names.items ≡ map decimal (rising (filter_map index_of names)) =
    collected ∙ ap values_of c.loop-place.invariant.rising ∙ values_of-texts_of (rising (filter_map index_of (take c.loop-place.place names)))
    ∙ ap (λ ns. map decimal (rising (filter_map index_of ns))) whole in
    let others : c.loop-place.others.items ≡ filter (λ name. not (is_index name)) names =
    c.loop-place.invariant.others ∙ ap (filter (λ name. not (is_index name))) whole in
    c.in_ok-append.ensures.items ∙ ap (λ front. front ++ c.loop-place.others.items) indices ∙ ap (λ back. map decimal (rising (filter_map index_of names)) ++ back) others
