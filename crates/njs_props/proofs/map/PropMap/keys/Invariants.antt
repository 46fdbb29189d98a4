use Rattle.std.proofs.Common.{◌≡◌, take, filter, not}
use Rattle.std.specs.List.{filter_map}
use Rattle.njs_props.proofs.Filed.{texts_of}
use Rattle.njs_props.specs.Names.{index_of, is_index, rising}
use Rattle.njs_props.specs.Props.{names_of}
use Rattle.njs_props.proofs.map.PropMap.keys.Given as goal

-- the names so far, in two parts
abbrev pub invariant-loop-place : goal.invariant-loop-place
invariant-loop-place g l = record {
  rising : l.indices.entries ≡ texts_of (rising (filter_map index_of (take l.place (names_of l.self))));
  others : l.others.items ≡ filter (λ name. not (is_index name)) (take l.place (names_of l.self));
}
