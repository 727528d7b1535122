-- A spec, a declaration and a file is what it stands for, where its parts are what they stand for; and so of all nodes.
use Rattle.std.proofs.Common.{◌≡◌, ℕ, false, List, [], ◌∷◌, map, Contains, subst, ⊎_elim}
use Rattle.std.specs.List.{flat_map}
use Rattle.go_tree.specs.declared.node_kind.NodeKind.TheVariants as k
use Rattle.go_tree.specs.Tree.{Tree, branch, kind_of, list_of, more_trees, no_trees}
use Rattle.go_module.specs.Names.Declarations.{Spec, const_spec, specs_in, specs_in_file, type_spec, var_spec}
use Rattle.go_module.proofs.MemberLemmas.{cons_cases, contains_none}
use Rattle.go_form.specs.declared.role.Role.{Role}
use Rattle.go_form.specs.declared.role.Role.TheVariants as r
use Rattle.go_model.proofs.FlatLemmas.{flat_cases, map_cases, only_is}
use Rattle.go_laws.specs.BuiltTrees.{IsBuilt, IsIdentifier, identifier}
use Rattle.go_laws.proofs.BuiltRoleLemmas.{as_channel_element, as_expression, as_field, as_identifier, as_interface_elem, as_parameter, as_parameters, as_receive_channel, as_result, as_signature, as_type}
use Rattle.go_laws.proofs.BuiltRoles.{AreCopied, AreValues, HasBuiltParts, HasPartsAs, Stands, each_stands}
use Rattle.go_laws.proofs.FloatLemmas.{is_float}

-- SPECS

as_values : (t : Tree) → HasPartsAs r.ExpressionList t → AreValues t
as_values (branch id from to k.ExprList text (more_trees x parts)) h = record {
  some = tt;
  built = λ t among. each_stands r.Expression (more_trees x parts) h t among;
}
as_values t h = absurd h

as_const_copy : (t : Tree) → HasPartsAs r.ConstCopy t → AreCopied t
as_const_copy (branch id from to k.ConstCopy text (more_trees list no_trees)) h = record { some = h.some; built = h.built }
as_const_copy (branch id from to k.ConstCopy text (more_trees type (more_trees list no_trees))) h = absurd h.0
as_const_copy t h = absurd h

-- of constants, behind whose names stand values alone, written or copied, or a type too
untyped_spec : (id from to : ℕ) (text : List ℕ) (names list : Tree)
    → HasPartsAs r.ConstSpec (branch id from to k.ConstSpec text (more_trees names (more_trees list no_trees)))
    → (file : ℕ)
    → HasBuiltParts (const_spec file (branch id from to k.ConstSpec text (more_trees names (more_trees list no_trees))))
untyped_spec id from to text names (branch i a b k.ExprList name values) h file = record { is = h.1.some; built = h.1.built }
untyped_spec id from to text names (branch i a b k.ConstCopy name parts) h file = record { is = h.1.some; built = h.1.built }
untyped_spec id from to text names list h file = absurd h

typed_spec : (id from to : ℕ) (text : List ℕ) (names type list : Tree)
    → HasPartsAs r.ConstSpec (branch id from to k.ConstSpec text (more_trees names (more_trees type (more_trees list no_trees)))) → ⊥
typed_spec id from to text names type (branch i a b k.ExprList name values) h = h.1
typed_spec id from to text names type list h = h

as_const_spec : (t : Tree) → HasPartsAs r.ConstSpec t → (file : ℕ) → HasBuiltParts (const_spec file t)
as_const_spec (branch id from to k.ConstSpec text (more_trees names (more_trees list no_trees))) h file =
    untyped_spec id from to text names list h file
as_const_spec (branch id from to k.ConstSpec text (more_trees names (more_trees type (more_trees list no_trees)))) h file =
    absurd (typed_spec id from to text names type list h)
as_const_spec t h file = absurd h

as_var_spec : (t : Tree) → HasPartsAs r.VarSpec t → (file : ℕ) → HasBuiltParts (var_spec file t)
as_var_spec (branch id from to k.VarSpec text (more_trees names (more_trees (branch i a b k.ExprList name values) no_trees))) h file =
    absurd h
as_var_spec (branch id from to k.VarSpec text (more_trees names (more_trees (branch i a b kind name parts) no_trees))) h file =
    record { is = tt; built = λ t among. subst IsBuilt (only_is (branch i a b kind name parts) t among) h.1 }
as_var_spec t h file = absurd h

type_alone_built : (t x : Tree) → IsBuilt x → Contains (x ∷ []) t → IsBuilt t
type_alone_built t x built among = subst IsBuilt (only_is x t among) built

as_type_spec : (t : Tree) → HasPartsAs r.TypeSpec t → (file : ℕ) (d : Spec) → Contains (type_spec file t) d → HasBuiltParts d
as_type_spec (branch id from to k.TypeSpec text (more_trees name (more_trees x no_trees))) h file d among =
    subst HasBuiltParts (only_is _ d among) (record { is = tt; built = λ t inside. type_alone_built t x h.1 inside })
as_type_spec (branch id from to k.AliasSpec text (more_trees name (more_trees x no_trees))) h file d among =
    subst HasBuiltParts (only_is _ d among) (record { is = tt; built = λ t inside. type_alone_built t x h.1 inside })
as_type_spec (branch id from to k.GenericTypeSpec text parts) h file d among = absurd (contains_none d among)
as_type_spec (branch id from to k.GenericAliasSpec text parts) h file d among = absurd (contains_none d among)
as_type_spec t h file d among = absurd h

-- DECLARATIONS

of_each : (make : Tree → Spec) (parts : List Tree) → ((t : Tree) → Contains parts t → HasBuiltParts (make t)) → (d : Spec)
    → Contains (map make parts) d → HasBuiltParts d
of_each make parts each d h = let z = map_cases make parts d h in subst HasBuiltParts z.2 (each z.0 z.1)

of_each_type : (file : ℕ) (parts : List Tree) → ((t : Tree) → Contains parts t → Stands r.TypeSpec t) → (d : Spec)
    → Contains (flat_map (type_spec file) parts) d → HasBuiltParts d
of_each_type file parts each d h = let z = flat_cases (type_spec file) parts d h in each z.0 z.1 file d z.2

as_declaration : (t : Tree) → HasPartsAs r.Declaration t → (file : ℕ) (d : Spec) → Contains (specs_in file t) d → HasBuiltParts d
as_declaration (branch id from to k.ImportDecl text parts) h file d among = absurd (contains_none d among)
as_declaration (branch id from to k.ImportGroup text parts) h file d among = absurd (contains_none d among)
as_declaration (branch id from to k.ConstDecl text (more_trees x no_trees)) h file d among =
    of_each (const_spec file) (x ∷ []) (λ t i. each_stands r.ConstSpec (more_trees x no_trees) (h, tt) t i file) d among
as_declaration (branch id from to k.ConstGroup text parts) h file d among =
    of_each (const_spec file) (list_of parts) (λ t i. each_stands r.ConstSpec parts h t i file) d among
as_declaration (branch id from to k.VarDecl text (more_trees x no_trees)) h file d among =
    of_each (var_spec file) (x ∷ []) (λ t i. each_stands r.VarSpec (more_trees x no_trees) (h, tt) t i file) d among
as_declaration (branch id from to k.VarGroup text parts) h file d among =
    of_each (var_spec file) (list_of parts) (λ t i. each_stands r.VarSpec parts h t i file) d among
as_declaration (branch id from to k.TypeDecl text (more_trees x no_trees)) h file d among =
    of_each_type file (x ∷ []) (λ t i. each_stands r.TypeSpec (more_trees x no_trees) (h, tt) t i) d among
as_declaration (branch id from to k.TypeGroup text parts) h file d among =
    of_each_type file (list_of parts) (λ t i. each_stands r.TypeSpec parts h t i) d among
as_declaration t h file d among = absurd h

-- an identifier declares nothing
no_specs : (file : ℕ) {t : Tree} → IsIdentifier t → (d : Spec) → Contains (specs_in file t) d → ⊥
no_specs file (identifier id from to text) d h = contains_none d h

as_file : (t : Tree) → HasPartsAs r.SourceFile t → (file : ℕ) (d : Spec) → Contains (specs_in_file file t) d → HasBuiltParts d
as_file (branch id from to k.File text (more_trees name parts)) h file d among =
    let z = flat_cases (specs_in file) (name ∷ list_of parts) d among in
    ⊎_elim
    (λ (here : name ≡ z.0). absurd (no_specs file (subst IsIdentifier here h.0) d z.2))
    (λ (there : Contains (list_of parts) z.0). each_stands r.Declaration parts h.1 z.0 there file d z.2)
    (cons_cases name (list_of parts) z.0 z.1)
as_file t h file d among = absurd h

-- ALL

pub stands_by : (role : Role) (t : Tree) → is_float (kind_of t) ≡ false → HasPartsAs role t → Stands role t
stands_by r.SourceFile t plain h = as_file t h
stands_by r.Declaration t plain h = as_declaration t h
stands_by r.ConstSpec t plain h = as_const_spec t h
stands_by r.ConstCopy t plain h = as_const_copy t h
stands_by r.VarSpec t plain h = as_var_spec t h
stands_by r.TypeSpec t plain h = as_type_spec t h
stands_by r.IdentifierList t plain h = tt
stands_by r.ExpressionList t plain h = as_values t h
stands_by r.Identifier t plain h = as_identifier t h
stands_by r.Expression t plain h = as_expression t plain h
stands_by r.AnyType t plain h = as_type t h
stands_by r.ChannelElement t plain h = as_channel_element t h
stands_by r.ReceiveChannel t plain h = as_receive_channel t h
stands_by r.Signature t plain h = as_signature t h
stands_by r.Parameters t plain h = as_parameters t h
stands_by r.Results t plain h = as_result t h
stands_by r.ParameterDecl t plain h = as_parameter t h
stands_by r.FieldDecl t plain h = as_field t h
stands_by r.Tag t plain h = tt
stands_by r.InterfaceElem t plain h = as_interface_elem t h
stands_by r.Unbuilt t plain h = h
