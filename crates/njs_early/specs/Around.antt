-- What the code knows of the surroundings of a node, as the definitions have it.
use Rattle.std.specs.Prelude.{ℕ, List, [], ◌∷◌}
use Rattle.njs_early.specs.declared.around.Labels.{Labels}
use Rattle.njs_early.specs.declared.around.Labels.TheOpen.{Labels-F}
use Rattle.njs_early.specs.declared.around.Labels.TheFolds.{fold-Labels}
use Rattle.njs_early.specs.declared.around.Around.{Around}
use Rattle.njs_tree.specs.Early as early

abbrev pub label_step : Labels-F (List (List ℕ)) → List (List ℕ)
label_step Labels-F.Nothing = []
label_step (Labels-F.Inside label others) = label.now ∷ others.now

-- the labels, the innermost first
unfoldable pub labels_of : Labels → List (List ℕ)
labels_of = fold-Labels (List (List ℕ)) label_step

abbrev pub around_of : Around → early.Around
around_of a = record { in_function = a.in_function; in_loop = a.in_loop; in_switch = a.in_switch; labels = labels_of a.labels.now }
