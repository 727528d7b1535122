-- Lines that are added in their order.
use Rattle.std.specs.Prelude.{◌≡◌, List, ◌++◌}
use Rattle.go_report.specs.LineOrder.{IsInOrder}
use Rattle.go_report.specs.Report.{LineData}

-- what was found is added in its order
pub record AddsInOrder (found old new : List LineData) : Type 0 where
  pub here : List LineData
  pub in_order : IsInOrder found here
  pub added : new ≡ old ++ here
