-- Which expressions are written as types are.
use Rattle.std.specs.Prelude.{Bool, true, false, ◌&&◌}
use Rattle.go_tree.specs.declared.node_kind.NodeKind.TheVariants.{Name, SelectorExpr, IndexExpr, ParenExpr, StarExpr, ArrowExpr, ArrayType, EllipsisArrayType, SliceType, MapType, ChanType, FuncType, StructType, InterfaceType}
use Rattle.go_tree.specs.Tree.{Tree, branch, Trees, no_trees, more_trees}

abbrev pub is_name : Tree → Bool
is_name (branch id from to Name text parts) = true
is_name _ = false

-- `T` and `p.T`
abbrev pub is_type_name : Tree → Bool
is_type_name (branch id from to Name text parts) = true
is_type_name (branch id from to SelectorExpr text (more_trees x parts)) = is_name x
is_type_name _ = false

abbrev mutual
  -- Type = TypeName [ TypeArgs ] | TypeLit | "(" Type ")" .
  pub is_type : Tree → Bool
  is_type (branch id from to Name text parts) = true
  is_type (branch id from to SelectorExpr text (more_trees x parts)) = is_name x
  is_type (branch id from to IndexExpr text (more_trees x parts)) = is_type_name x && all_types parts
  is_type (branch id from to ParenExpr text parts) = all_types parts
  is_type (branch id from to StarExpr text parts) = all_types parts
  is_type (branch id from to ArrowExpr text (more_trees (branch c f t ChanType x element) others)) = all_types element
  is_type (branch id from to ArrayType text parts) = true
  is_type (branch id from to EllipsisArrayType text parts) = true
  is_type (branch id from to SliceType text parts) = true
  is_type (branch id from to MapType text parts) = true
  is_type (branch id from to ChanType text parts) = true
  is_type (branch id from to FuncType text parts) = true
  is_type (branch id from to StructType text parts) = true
  is_type (branch id from to InterfaceType text parts) = true
  is_type _ = false

  pub all_types : Trees → Bool
  all_types no_trees = true
  all_types (more_trees t ts) = is_type t && all_types ts
