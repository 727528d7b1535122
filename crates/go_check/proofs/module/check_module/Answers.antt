use Rattle.std.proofs.Common.{refl}
use Rattle.go_check.proofs.module.check_module.Goals as goal

pub returns : goal.returns
returns g c = record {
  path_is = c.in_ok-clone.ensures.cases;
  version_is = refl;
  first_is = c.new.ensures.items;
  packages = c.in_ok-reports.ensures;
}
