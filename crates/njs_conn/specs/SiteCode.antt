-- How a site is told from others: as the pair of its parts.
use Rattle.std.specs.Prelude.{List, refl}
use Rattle.std.specs.Coded.{Coded, code_by, coded×, coded_list}
use Rattle.njs_tree.specs.declared.tree.Script.{Script}
use Rattle.njs_tree.specs.contracts.tree.Script as scripts
use Rattle.conf_read.specs.declared.conf.Conf.{Conf}
use Rattle.conf_read.specs.contracts.conf.Conf as confs
use Rattle.njs_conn.specs.Site.{Site}

abbrev pub site_code : Coded Site
site_code =
    code_by (Conf × List Script) (coded× confs.the_row.coded (coded_list scripts.the_row.coded)) (λ s. (s.conf, s.trees)) (λ p. record { conf = p.0; trees = p.1 }) (λ _. refl)
