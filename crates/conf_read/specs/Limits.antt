-- What every configuration that is read keeps.
use Rattle.std.specs.Prelude.{◌≤◌, ◌<◌, length, All}
use Rattle.dict_model.specs.Operation.{IsSpec}
use Rattle.conf_read.specs.declared.conf.Conf.{Conf}

-- numbers within their bounds, few scripts, zones and locations, zones that can be opened, and for each location a script that is there
pub record IsWithinLimits (conf : Conf) : Type 0 where
  pub workers_least : 1 ≤ conf.workers
  pub workers_most : conf.workers ≤ 32
  pub port_least : 1 ≤ conf.port
  pub port_most : conf.port ≤ 65535
  pub fuel_least : 1 ≤ conf.fuel
  pub fuel_most : conf.fuel ≤ 10000000
  pub imports : length conf.imports ≤ 64
  pub zones : length conf.zones ≤ 16
  pub locations : length conf.locations ≤ 64
  pub specs : All IsSpec conf.zones
  pub modules : All (λ l. l.module < length conf.imports) conf.locations
