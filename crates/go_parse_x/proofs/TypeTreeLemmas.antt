-- Which trees are written as types are, by their kinds and their parts.
use Rattle.std.proofs.Common.{◌≡◌, Bool, true, false, ◌↔◌, IsTrue, refl}
use Rattle.go_tree.specs.declared.node_kind.NodeKind.TheVariants as k
use Rattle.go_tree.specs.Tree.{Tree, branch, no_trees, more_trees, kind_of, parts_of}
use Rattle.go_tree.specs.Grammar.Trees.TypeTrees.{is_name, is_type_name, is_type}
use Rattle.go_parse_x.specs.Tables.Opened.{unnumbered, all_unnumbered}
use Rattle.go_parse_x.specs.Tables.TypeParts.{shape_of, has_shape, is_type_name_of, is_channel, is_channel_of}

pub name_from_kind : (t : Tree) (b : Bool) → (IsTrue b ↔ (kind_of t ≡ k.Name)) → b ≡ is_name (unnumbered t)
name_from_kind (branch id from to k.Name text parts) b h = h.1 refl
name_from_kind (branch id from to _ text parts) true h = cc (h.0 refl)
name_from_kind (branch id from to _ text parts) false h = refl

pub type_name_by_kind : (t : Tree) → is_type_name (unnumbered t) ≡ is_type_name_of (kind_of t) (all_unnumbered (parts_of t))
type_name_by_kind (branch id from to k.Name text parts) = refl
type_name_by_kind (branch id from to k.SelectorExpr text no_trees) = refl
type_name_by_kind (branch id from to k.SelectorExpr text (more_trees x parts)) = refl
type_name_by_kind (branch id from to _ text parts) = refl

pub channel_by_kind : (t : Tree) → is_channel (unnumbered t) ≡ is_channel_of (kind_of t) (all_unnumbered (parts_of t))
channel_by_kind (branch id from to k.ChanType text parts) = refl
channel_by_kind (branch id from to _ text parts) = refl

pub type_by_shape : (t : Tree) → is_type (unnumbered t) ≡ has_shape (shape_of (kind_of t)) (all_unnumbered (parts_of t))
type_by_shape (branch id from to k.SelectorExpr text no_trees) = refl
type_by_shape (branch id from to k.SelectorExpr text (more_trees x parts)) = refl
type_by_shape (branch id from to k.IndexExpr text no_trees) = refl
type_by_shape (branch id from to k.IndexExpr text (more_trees x parts)) = refl
type_by_shape (branch id from to k.ArrowExpr text no_trees) = refl
type_by_shape (branch id from to k.ArrowExpr text (more_trees (branch c f t k.ChanType x element) others)) = refl
type_by_shape (branch id from to k.ArrowExpr text (more_trees (branch c f t _ x element) others)) = refl
type_by_shape (branch id from to _ text parts) = refl
