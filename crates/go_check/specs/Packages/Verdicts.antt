-- The verdict on a package that breaks no rule.
use Rattle.std.specs.Prelude.{◌≡◌, ℕ, List, Option}
use Rattle.go_base.specs.declared.ids.ObjId.{ObjId}
use Rattle.go_tree.specs.declared.node.NodeId.{NodeId}
use Rattle.go_module.specs.Modules.Module.{PackageData}
use Rattle.go_judge.specs.Naming.{Naming}
use Rattle.go_report.specs.Outline.{Outline}
use Rattle.go_report.specs.PackageLines.{AreLines, named_in}
use Rattle.go_report.specs.Report.{LineData, VerdictData, accepted}
use Rattle.go_judge.specs.Headers.{Headers}

-- it is accepted with its lines, and with the objects that their types name
pub record IsAccepting (outline : Outline) (k : ℕ) (p : PackageData) (denotes : NodeId → Option ObjId) (naming : Naming) (headers : Headers) (verdict : VerdictData) : Type 0 where
  pub lines : List LineData
  pub are_lines : AreLines outline k p denotes naming headers lines
  pub is : verdict ≡ accepted lines (named_in outline lines)
