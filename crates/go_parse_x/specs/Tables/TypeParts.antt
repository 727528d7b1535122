-- Which parts make a node of a kind a type: `is_type` by the kind and the parts alone.
use Rattle.std.specs.Prelude.{Bool, true, false, ◌&&◌}
use Rattle.go_tree.specs.declared.node_kind.NodeKind.{NodeKind}
use Rattle.go_tree.specs.declared.node_kind.NodeKind.TheVariants.{Name, SelectorExpr, IndexExpr, ParenExpr, StarExpr, ArrowExpr, ArrayType, EllipsisArrayType, SliceType, MapType, ChanType, FuncType, StructType, InterfaceType}
use Rattle.go_tree.specs.Tree.{Tree, branch, Trees, no_trees, more_trees}
use Rattle.go_tree.specs.Grammar.Trees.TypeTrees.{is_name, is_type_name, all_types}
use Rattle.go_parse_x.specs.declared.type_tree.TypeShape.{TypeShape}
use Rattle.go_parse_x.specs.declared.type_tree.TypeShape.TheVariants.{Always, Qualified, Instance, OfTypes, Receives, Never}

-- the kind's line of `is_type`
abbrev pub shape_of : NodeKind → TypeShape
shape_of Name = Always
shape_of SelectorExpr = Qualified
shape_of IndexExpr = Instance
shape_of ParenExpr = OfTypes
shape_of StarExpr = OfTypes
shape_of ArrowExpr = Receives
shape_of ArrayType = Always
shape_of EllipsisArrayType = Always
shape_of SliceType = Always
shape_of MapType = Always
shape_of ChanType = Always
shape_of FuncType = Always
shape_of StructType = Always
shape_of InterfaceType = Always
shape_of _ = Never

abbrev pub first_is_name : Trees → Bool
first_is_name no_trees = false
first_is_name (more_trees x parts) = is_name x

-- the kind's line of `is_type_name`
abbrev pub is_type_name_of : NodeKind → Trees → Bool
is_type_name_of Name parts = true
is_type_name_of SelectorExpr parts = first_is_name parts
is_type_name_of _ parts = false

-- a type name, and its arguments
abbrev pub is_instance : Trees → Bool
is_instance no_trees = false
is_instance (more_trees x parts) = is_type_name x && all_types parts

abbrev pub is_channel : Tree → Bool
is_channel (branch id from to ChanType text element) = all_types element
is_channel _ = false

abbrev pub is_channel_of : NodeKind → Trees → Bool
is_channel_of ChanType parts = all_types parts
is_channel_of _ parts = false

-- what stands behind a `<-`
abbrev pub first_is_channel : Trees → Bool
first_is_channel no_trees = false
first_is_channel (more_trees x parts) = is_channel x

abbrev pub has_shape : TypeShape → Trees → Bool
has_shape Always parts = true
has_shape Qualified parts = first_is_name parts
has_shape Instance parts = is_instance parts
has_shape OfTypes parts = all_types parts
has_shape Receives parts = first_is_channel parts
has_shape Never parts = false
