-- Which import specs have a mark.
use Rattle.std.specs.Prelude.{Bool, false, ◌&&◌, List, Option}
use Rattle.std.specs.List.{list_any}
use Rattle.std.specs.Option.{option_map_or}
use Rattle.go_tree.specs.declared.node.NodeId.{NodeId}
use Rattle.go_module.specs.declared.block.Region.{Region}
use Rattle.go_module.specs.Scopes.{same_node}
use Rattle.go_module.specs.Names.Rules.BlockRules.{is_repeated}
use Rattle.go_module.specs.Names.Regions.{has_name}

abbrev pub is_import : NodeId → Option NodeId → Bool
is_import id import = option_map_or (λ spec. same_node id spec) import false

abbrev pub marks_conflict : List Region → NodeId → Region → Bool
marks_conflict block id r = is_import id r.import && list_any (has_name r.object.name) block

abbrev pub marks_repeat : List Region → NodeId → Region → Bool
marks_repeat file id r = is_import id r.import && is_repeated file r.object.name
