-- What a table leaves to another.
use Rattle.std.proofs.Common.{◌≡◌, refl}
use Rattle.go_tree.specs.declared.node_kind.NodeKind.{NodeKind}
use Rattle.go_tree.specs.declared.node_kind.NodeKind.TheVariants as k
use Rattle.go_tree.specs.Tree.{Trees}
use Rattle.go_form.specs.BuiltForms.{expression_parts}
use Rattle.go_form.specs.BuiltOperators.{operator_parts}
use Rattle.go_form.specs.BuiltTypes.{channel_element_parts, literal_parts, result_parts, type_parts}

pub behind_types : (kind : NodeKind) (parts : Trees) → (kind ≡ k.Name → ⊥) → (kind ≡ k.SelectorExpr → ⊥) → (kind ≡ k.IndexExpr → ⊥) → (kind ≡ k.ParenExpr → ⊥) → (kind ≡ k.StarExpr → ⊥) → literal_parts kind parts ≡ type_parts kind parts
behind_types k.Name parts a b c d e = absurd (a refl)
behind_types k.SelectorExpr parts a b c d e = absurd (b refl)
behind_types k.IndexExpr parts a b c d e = absurd (c refl)
behind_types k.ParenExpr parts a b c d e = absurd (d refl)
behind_types k.StarExpr parts a b c d e = absurd (e refl)
behind_types _ parts a b c d e = refl

pub behind_arrow : (kind : NodeKind) (parts : Trees) → (kind ≡ k.ArrowExpr → ⊥) → type_parts kind parts ≡ channel_element_parts kind parts
behind_arrow k.ArrowExpr parts a = absurd (a refl)
behind_arrow _ parts a = refl

pub behind_list : (kind : NodeKind) (parts : Trees) → (kind ≡ k.Params → ⊥) → type_parts kind parts ≡ result_parts kind parts
behind_list k.Params parts a = absurd (a refl)
behind_list _ parts a = refl

pub behind_operands : (kind : NodeKind) (parts : Trees) → (kind ≡ k.IntLit → ⊥) → (kind ≡ k.FloatLit → ⊥) → (kind ≡ k.RuneLit → ⊥) → (kind ≡ k.StringLit → ⊥) → (kind ≡ k.Name → ⊥) → (kind ≡ k.SelectorExpr → ⊥) → (kind ≡ k.ParenExpr → ⊥) → operator_parts kind parts ≡ expression_parts kind parts
behind_operands k.IntLit parts a b c d e f g = absurd (a refl)
behind_operands k.FloatLit parts a b c d e f g = absurd (b refl)
behind_operands k.RuneLit parts a b c d e f g = absurd (c refl)
behind_operands k.StringLit parts a b c d e f g = absurd (d refl)
behind_operands k.Name parts a b c d e f g = absurd (e refl)
behind_operands k.SelectorExpr parts a b c d e f g = absurd (f refl)
behind_operands k.ParenExpr parts a b c d e f g = absurd (g refl)
behind_operands _ parts a b c d e f g = refl
