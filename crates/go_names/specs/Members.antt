-- Names within types, as the code finds them.
use Rattle.std.specs.Prelude.{List, [], ◌∷◌}
use Rattle.go_tree.specs.Tree.{Tree}
use Rattle.go_module.specs.Names.Rules.MemberRules.{type_name, unqualified}

-- the name of an embedded field, by its parts
abbrev pub type_names : List Tree → List Tree
type_names [] = []
type_names (type ∷ tag) = unqualified (type_name type) ∷ []
