-- Type literals name what the types of their operands name, so that what is asked of such a node is fine.
use Rattle.std.proofs.Common.{ℕ, zero, suc, ◌&&◌, Bool, true, false, if◌then◌else◌, List, [], ◌∷◌, ◌++◌, length, map}
use Rattle.std.specs.Prelude.{drop, is_some, take, unwrap_or}
use Rattle.std.specs.List.{AllByRecursion, list_any, zip}
use Rattle.go_term.specs.declared.term.Dir.{Dir}
use Rattle.go_term.specs.Types as types
use Rattle.go_term.specs.Types.{TypeData, parts_of}
use Rattle.go_tree.specs.declared.node_kind.NodeKind.TheVariants.{MethodElem, Params, Union}
use Rattle.go_tree.specs.Tree.{Tree, branch, kind_of, list_of, more_trees, no_trees, parts_of as tree_parts}
use Rattle.go_module.specs.Names.Inner.{is_named_param, is_unnamed_param}
use Rattle.go_module.specs.Names.Rules.MemberRules.{field_names}
use Rattle.go_module.specs.NodeParts.{all_but_first}
use Rattle.go_operands.specs.Operands.{operands_of}
use Rattle.go_constructs.specs.Array.{array, is_length, length_in}
use Rattle.go_constructs.specs.Channel.{channel}
use Rattle.go_constructs.specs.Function.{function}
use Rattle.go_constructs.specs.Interface.{elem_in, elems_in, interface_of, terms_in}
use Rattle.go_constructs.specs.MapType.{map_of}
use Rattle.go_constructs.specs.Operators.Operations.{is_integer}
use Rattle.go_constructs.specs.Operators.Sorts.{by_sort}
use Rattle.go_constructs.specs.Pointer.{pointer_to}
use Rattle.go_constructs.specs.Signatures.{is_variadic, list_types, many_params, param_types, params_of, result_types, types_in}
use Rattle.go_constructs.specs.Slice.{slice}
use Rattle.go_constructs.specs.Struct.{field_by, fields_by, fields_in, struct_of}
use Rattle.go_judge.specs.Judged.{RuleTest}
use Rattle.go_judge.specs.Kinds.{no_length}
use Rattle.go_judge.specs.Limits.{makes, makes_of, within_limits}
use Rattle.go_judge.specs.Operands.{are_types, is_type, of_all, of_one, type_or_none}
use Rattle.go_judge.specs.Quests.{Done}
use Rattle.go_judge.specs.Records.{HeaderData, RecData, type_record}
use Rattle.go_judge.specs.declared.outcome.Spot.TheVariants.{Part}
use Rattle.go_same_laws.specs.Named.{AsksOnly, NameOnly, NamesOnly}
use Rattle.go_same_laws.proofs.EveryLemmas.{every_both, every_so, every_to_flat, every_to_map}
use Rattle.go_same_laws.proofs.NamedLemmas.{AnyOf}
use Rattle.go_same_laws.proofs.NamedSortLemmas.{by_sort_asks, type_names}
use Rattle.go_laws.proofs.PlainLemmas.{AreGoodTests, ArePlain, IsFine, IsPlain, all_plain, done, each_good, either_asks, not_constant, one_plain, two_plain}

module _ (good : ℕ → Type 0) where
  -- TYPES FROM TYPES

  abbrev EachNames : List TypeData → Type 0
  EachNames ts = AllByRecursion (NamesOnly good) ts

  parts_name : (ts : List TypeData) → EachNames ts → NameOnly good (parts_of ts)
  parts_name [] all = tt
  parts_name (t ∷ ts) all = (all.0, parts_name ts all.1)

  take_name : (n : ℕ) (ts : List TypeData) → EachNames ts → EachNames (take n ts)
  take_name zero ts all = tt
  take_name (suc n) [] all = tt
  take_name (suc n) (t ∷ ts) all = (all.0, take_name n ts all.1)

  drop_name : (n : ℕ) (ts : List TypeData) → EachNames ts → EachNames (drop n ts)
  drop_name zero ts all = all
  drop_name (suc n) [] all = tt
  drop_name (suc n) (t ∷ ts) all = drop_name n ts all.1

  -- SIGNATURES

  again_name : (b : Bool) (t : TypeData) (ts : List TypeData) → EachNames (t ∷ ts) → EachNames (if b then t ∷ ts else ts)
  again_name true t ts all = all
  again_name false t ts all = all.1

  param_names : (named : Bool) (ps : List Tree) (ts : List TypeData) → EachNames ts → EachNames (param_types named ps ts)
  param_names named [] ts all = tt
  param_names named (p ∷ ps) [] all = tt
  param_names named (p ∷ ps) (t ∷ ts) all =
      let again = named && is_unnamed_param (kind_of p) in
      (all.0, param_names named ps (if again then t ∷ ts else ts) (again_name again t ts all))

  list_names : (params : List Tree) (ts : List TypeData) → EachNames ts → EachNames (list_types params ts)
  list_names params ts all = param_names (list_any (λ p. is_named_param (kind_of p)) params) params ts all

  result_names : (results : List Tree) (ts : List TypeData) → EachNames ts → EachNames (result_types results ts)
  result_names (branch id from to Params text parts ∷ []) ts all = list_names (list_of parts) ts all
  result_names results ts all = all

  signature_names : (signature : Tree) (ts : List TypeData) → EachNames ts → NameOnly good (types_in signature ts)
  signature_names signature ts all =
      let many = many_params signature in
      let params = list_types (params_of signature) (take many ts) in
      let results = result_types (all_but_first (tree_parts signature)) (drop many ts) in
      let first = parts_name params (list_names (params_of signature) (take many ts) (take_name many ts all)) in
      let second = parts_name results (result_names (all_but_first (tree_parts signature)) (drop many ts) (drop_name many ts all)) in
      ((tt, first), ((tt, second), tt))

  -- STRUCTS

  pair_names : (decls : List Tree) (ts : List TypeData) → EachNames ts → AllByRecursion (λ (p : Tree × TypeData). NamesOnly good p.1) (zip decls ts)
  pair_names [] ts all = tt
  pair_names (d ∷ decls) [] all = tt
  pair_names (d ∷ decls) (t ∷ ts) all = (all.0, pair_names decls ts all.1)

  each_field : (home : List ℕ) (decl : Tree) (type : TypeData) → NamesOnly good type → (names : List Tree) → EachNames (map (field_by home decl type) names)
  each_field home decl type is [] = tt
  each_field home decl type is (name ∷ names) = ((tt, (is, tt)), each_field home decl type is names)

  fields_name : (home : List ℕ) (decls : List Tree) (ts : List TypeData) → EachNames ts → EachNames (fields_in home decls ts)
  fields_name home decls ts all =
      every_to_flat (NamesOnly good) (λ (p : Tree × TypeData). fields_by home p.0 p.1) (zip decls ts)
      (every_so (λ (p : Tree × TypeData). NamesOnly good p.1) (λ (p : Tree × TypeData). EachNames (fields_by home p.0 p.1))
      (λ p is. each_field home p.0 p.1 is (field_names p.0)) (zip decls ts) (pair_names decls ts all))

  -- INTERFACES

  terms_name : (terms : List Tree) (ts : List TypeData) → EachNames ts → EachNames (terms_in terms ts)
  terms_name [] ts all = tt
  terms_name (term ∷ terms) [] all = tt
  terms_name (term ∷ terms) (t ∷ ts) all = ((tt, (all.0, tt)), terms_name terms ts all.1)

  elem_names : (home : List ℕ) (elem : Tree) (ts : List TypeData) → EachNames ts → EachNames (elem_in home elem ts)
  elem_names home (branch id from to MethodElem text (more_trees name (more_trees signature no_trees))) ts all = ((tt, signature_names signature ts all), tt)
  elem_names home (branch id from to Union text terms) ts all = ((tt, parts_name (terms_in (list_of terms) ts) (terms_name (list_of terms) ts all)), tt)
  elem_names home elem ts all = tt

  elems_name : (home : List ℕ) (elems : List Tree) (ts : List TypeData) → EachNames ts → EachNames (elems_in home elems ts)
  elems_name home [] ts all = tt
  elems_name home (elem ∷ elems) ts all =
      let many = length (operands_of elem) in
      every_both (NamesOnly good) (elem_in home elem (take many ts)) (elems_in home elems (drop many ts))
      (elem_names home elem (take many ts) (take_name many ts all)) (elems_name home elems (drop many ts) (drop_name many ts all))

  -- WHAT IS ASKED

  own : (r : RecData) → IsFine good r → NamesOnly good (type_or_none r)
  own r fine = type_names good r fine.0

  each_own : (rs : List RecData) → AllByRecursion (IsFine good) rs → EachNames (map type_or_none rs)
  each_own rs fine = every_to_map (NamesOnly good) type_or_none rs (every_so (IsFine good) (λ r. NamesOnly good (type_or_none r)) own rs fine)

  -- the record of a type is that of no constant
  typed : (tests : List (RuleTest HeaderData)) (type : TypeData) → AreGoodTests good (tests ++ within_limits type) → NamesOnly good type → IsPlain good (makes tests type)
  typed tests type asks names = done good (tests ++ within_limits type) (type_record type) asks (names, not_constant)

  -- a type literal whose operands are types
  literal_type : (rs : List RecData) (type : TypeData) → NamesOnly good type → IsPlain good (makes_of rs type)
  literal_type rs type names = typed (are_types 0 rs ∷ []) type (each_good good is_type 0 rs, ((tt, tt), ((tt, tt), tt))) names

  -- of one type, and of any number
  of_one_type : (type : RecData → TypeData) → ((x : RecData) → IsFine good x → NamesOnly good (type x)) → ArePlain good (of_one (λ x. makes_of (x ∷ []) (type x)))
  of_one_type type names = one_plain good _ (λ x fine. literal_type (x ∷ []) (type x) (names x fine))

  of_all_types : (many : ℕ) (type : List RecData → TypeData) → ((rs : List RecData) → AllByRecursion (IsFine good) rs → NamesOnly good (type rs)) → ArePlain good (of_all many (λ rs. makes_of rs (type rs)))
  of_all_types many type names = all_plain good many _ (λ rs fine. literal_type rs (type rs) (names rs fine))

  length_asks : (n : RecData) → IsFine good n → AsksOnly good AnyOf (is_length n)
  length_asks n fine = either_asks good (is_some (length_in n)) (by_sort n is_integer) (Done false) (by_sort_asks good n is_integer fine.0) tt

  pub array_plain : ArePlain good array
  array_plain = two_plain good _ (λ n x here fine.
      typed (record { rule = no_length; spots = record { spot = Part 0; holds = is_length n } ∷ [] } ∷ (are_types 1 (x ∷ []) ∷ []))
      (types.of_one (types.array (unwrap_or (length_in n) 0)) (type_or_none x))
      ((length_asks n here, tt), ((tt, tt), ((tt, tt), ((tt, tt), tt)))) (tt, (own x fine, tt)))

  pub map_plain : ArePlain good map_of
  map_plain = two_plain good _ (λ k v first second. literal_type (k ∷ (v ∷ [])) (types.of_two types.map_type (type_or_none k) (type_or_none v)) (tt, (own k first, (own v second, tt))))

  pub pointer_plain : ArePlain good pointer_to
  pointer_plain = of_one_type (λ x. types.of_one types.pointer (type_or_none x)) (λ x fine. (tt, (own x fine, tt)))

  pub slice_plain : ArePlain good slice
  slice_plain = of_one_type (λ x. types.of_one types.slice (type_or_none x)) (λ x fine. (tt, (own x fine, tt)))

  pub channel_plain : (dir : Dir) → ArePlain good (channel dir)
  channel_plain dir = of_one_type (λ x. types.of_one (types.channel dir) (type_or_none x)) (λ x fine. (tt, (own x fine, tt)))

  pub function_plain : (many : ℕ) (signature : Tree) → ArePlain good (function many signature)
  function_plain many signature =
      of_all_types many (λ rs. types.made (types.function (is_variadic signature)) (types_in signature (map type_or_none rs)))
      (λ rs fine. (tt, signature_names signature (map type_or_none rs) (each_own rs fine)))

  pub struct_plain : (home : List ℕ) (many : ℕ) (decls : List Tree) → ArePlain good (struct_of home many decls)
  struct_plain home many decls =
      of_all_types many (λ rs. types.of_list types.struct_type (fields_in home decls (map type_or_none rs)))
      (λ rs fine. (tt, parts_name (fields_in home decls (map type_or_none rs)) (fields_name home decls (map type_or_none rs) (each_own rs fine))))

  pub interface_plain : (home : List ℕ) (many : ℕ) (elems : List Tree) → ArePlain good (interface_of home many elems)
  interface_plain home many elems =
      of_all_types many (λ rs. types.of_list types.interface_type (elems_in home elems (map type_or_none rs)))
      (λ rs fine. (tt, parts_name (elems_in home elems (map type_or_none rs)) (elems_name home elems (map type_or_none rs) (each_own rs fine))))
