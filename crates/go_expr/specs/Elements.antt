-- Elements of interfaces and fields of structs, as the code finds them.
use Rattle.std.specs.Prelude.{ℕ, Option, Some, None, List, [], ◌∷◌}
use Rattle.std.specs.List.{AllByRecursion}
use Rattle.go_tree.specs.Tree.{Tree, id_of}
use Rattle.go_module.specs.Names.Declarations.{name_text}
use Rattle.go_term.specs.declared.shape.FieldShape.{FieldShape}
use Rattle.go_term.specs.declared.term.Term.{Term}
use Rattle.go_term.specs.Types.{TypeData, made, method}
use Rattle.go_constructs.specs.Signatures.{is_variadic, types_in}

abbrev pub some_list : Option TypeData → List TypeData
some_list (Some t) = t ∷ []
some_list None = []

-- the method of this name and this signature, with these types in it
abbrev pub method_tree : List ℕ → Tree → Tree → List TypeData → TypeData
method_tree home name signature ts =
    made (method (record { object = record { 0 = id_of name }; name = name_text name; «package» = home; variadic = is_variadic signature })) (types_in signature ts)

-- the type of each field is one of its own
abbrev pub AreOwnFields : (Term → Type 0) → List FieldShape → Type 0
AreOwnFields own fields = AllByRecursion (λ f. own f.ty) fields
