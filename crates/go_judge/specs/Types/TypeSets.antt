-- Interface types; Embedded interfaces; General interfaces (Go specification).
-- Decides what an interface has, with all that it embeds: its methods, what its unions leave of all types, and whether it
-- has `comparable`. Its type set is "the intersection of the type sets of its interface elements", that of a union "the union
-- of the type sets of the terms". A name that is embedded is opened: what its underlying type has is taken in
-- its place. What is left out yet: which types of a union `comparable` leaves.
use Rattle.std.specs.Prelude.{ℕ, zero, suc, ◌+◌, Bool, true, false, ◌||◌, Option, None, Some, if◌then◌else◌, List, [], ◌∷◌, ◌++◌, map, codes}
use Rattle.std.specs.List.{flat_map}
use Rattle.std.specs.Option.{option_map}
use Rattle.go_base.specs.declared.ids.ObjId.{ObjId}
use Rattle.go_term.specs.declared.basic.Basic.{Basic}
use Rattle.go_term.specs.declared.basic.Basic.TheVariants as B
use Rattle.go_term.specs.Types.{Head, basic, function, interface_type, named, param, field, method, union, union_term, MethodHead, TypeData, Parts, made, no_parts, more_parts, basic_type, signature_parts}
use Rattle.go_module.specs.Names.Exported.{is_exported}
use Rattle.go_judge.specs.Records.{HeaderData}
use Rattle.go_judge.specs.Types.Forms.{found_in}
use Rattle.go_judge.specs.Types.UnderlyingType.{under}
use Rattle.go_judge.specs.Quests.{Quest, Done, then_ask}

-- a type but for the objects of its fields and methods, which say where these are declared and at which no question looks
abbrev pub no_object : ObjId
no_object = record { 0 = 0 }

abbrev pub without_object : Head → Head
without_object (field f) = field (record f { object = no_object })
without_object (method m) = method (record m { object = no_object })
without_object head = head

abbrev mutual
  pub plain : TypeData → TypeData
  plain (made head parts) = made (without_object head) (plain_all parts)

  pub plain_all : Parts → Parts
  plain_all no_parts = no_parts
  plain_all (more_parts t ts) = more_parts (plain t) (plain_all ts)

-- a method: its name, the path of its package where the name is not exported, its type, and how many names were opened on the
-- way to it
pub record MethodData : Type 0 where
  pub name : List ℕ
  pub home : List ℕ
  pub type : TypeData
  pub opened : ℕ

-- a term of a union, and how many names were opened on the way to it
pub record TermData : Type 0 where
  pub tilde : Bool
  pub type : TypeData
  pub opened : ℕ

-- the types that have these methods, lie in one term of each of these unions, and are comparable if that is so
pub record SetData : Type 0 where
  pub methods : List MethodData
  pub unions : List (List TermData)
  pub comparable : Bool

-- asked, with a number of names that may be opened on the way to each method and term: None where that is too few, or where
-- a name has no underlying type
abbrev pub SetAsked : Type 0
SetAsked = Quest HeaderData (Option SetData)

-- all types
abbrev pub all_types : SetData
all_types = record { methods = []; unions = []; comparable = false }

-- the intersection of two sets
abbrev pub both_sets : SetData → SetData → SetData
both_sets a b = record { methods = a.methods ++ b.methods; unions = a.unions ++ b.unions; comparable = a.comparable || b.comparable }

-- the unions of which a type lies in each, where it lies in each of the ones or in each of the others
abbrev pub either_unions : List (List TermData) → List (List TermData) → List (List TermData)
either_unions us vs = flat_map (λ u. map (λ v. u ++ v) vs) us

-- the union of two sets; no union has interfaces with methods or `comparable` among several terms
abbrev pub either_set : SetData → SetData → SetData
either_set a b = record { methods = []; unions = either_unions a.unions b.unions; comparable = false }

-- the second is asked where there is a first
abbrev pub joined_to : (SetData → SetData → SetData) → SetAsked → Option SetData → SetAsked
joined_to join b None = Done None
joined_to join b (Some x) = then_ask b (λ o. Done (option_map (join x) o))

abbrev pub joined : (SetData → SetData → SetData) → SetAsked → SetAsked → SetAsked
joined join a b = then_ask a (joined_to join b)

-- the set of one term
abbrev pub term_set : Bool → TypeData → SetData
term_set tilde t = record all_types { unions = (record { tilde = tilde; type = t; opened = 0 } ∷ []) ∷ [] }

-- the path of a package, where a name is its own
abbrev pub home_of : List ℕ → List ℕ → List ℕ
home_of name home = if is_exported name then [] else home

abbrev pub method_set : MethodHead → Parts → SetData
method_set m parts =
    record all_types { methods = record { name = m.name; home = home_of m.name m.«package»; type = made (function m.variadic) parts; opened = 0 } ∷ [] }

-- `error` is the interface with the one method `Error() string`
abbrev pub error_set : SetData
error_set = record all_types { methods = record { name = codes "Error"; home = []; type = made (function false) (signature_parts [] (basic_type B.String ∷ [])); opened = 0 } ∷ [] }

-- one name more was opened on the way
abbrev pub opened_method : MethodData → MethodData
opened_method m = record m { opened = m.opened + 1 }

abbrev pub opened_term : TermData → TermData
opened_term t = record t { opened = t.opened + 1 }

abbrev pub opened_set : SetData → SetData
opened_set s = record s { methods = map opened_method s.methods; unions = map (map opened_term) s.unions }

-- an interface: a literal, or one that is predeclared
abbrev pub is_interface_head : Head → Bool
is_interface_head interface_type = true
is_interface_head (basic B.Error) = true
is_interface_head (basic B.Comparable) = true
is_interface_head head = false

abbrev pub is_interface : TypeData → Bool
is_interface (made head parts) = is_interface_head head

-- by the underlying type of a name: the set of an interface, with one name less to open, else the term alone
abbrev pub named_set_by : (TypeData → SetAsked) → TypeData → Option TypeData → SetAsked
named_set_by opening t (Some u) =
    if is_interface u then then_ask (opening (plain u)) (λ s. Done (option_map opened_set s)) else Done (Some (term_set false t))
named_set_by opening t None = Done None

abbrev pub named_set : (TypeData → SetAsked) → TypeData → SetAsked
named_set opening t = then_ask (under t) (λ reach. named_set_by opening t (found_in reach))

abbrev pub basic_set : Basic → SetData
basic_set B.Error = error_set
basic_set B.Comparable = record all_types { comparable = true }
basic_set b = term_set false (basic_type b)

-- a term without `~`, of a type with this head, whose elements have that set where it is an interface
abbrev pub plain_term_by : (TypeData → SetAsked) → SetAsked → Head → TypeData → SetAsked
plain_term_by opening elements interface_type t = elements
plain_term_by opening elements (basic b) t = Done (Some (basic_set b))
plain_term_by opening elements (named d) t = named_set opening t
plain_term_by opening elements (param d i) t = named_set opening t
plain_term_by opening elements head t = Done (Some (term_set false t))

-- a term with `~`; a type parameter counts as its constraint
abbrev pub tilde_set_by : (TypeData → SetAsked) → Head → TypeData → SetAsked
tilde_set_by opening (param d i) t = named_set opening t
tilde_set_by opening head t = Done (Some (term_set true t))

abbrev pub tilde_set : (TypeData → SetAsked) → TypeData → SetAsked
tilde_set opening (made head parts) = tilde_set_by opening head (made head parts)

-- opening says what the set of an interface is to which a name leads
abbrev mutual
  -- the elements of an interface, all together
  pub elements_set : (TypeData → SetAsked) → Parts → SetAsked
  elements_set opening no_parts = Done (Some all_types)
  elements_set opening (more_parts e es) = joined both_sets (element_set opening e) (elements_set opening es)

  pub element_set : (TypeData → SetAsked) → TypeData → SetAsked
  element_set opening (made (method m) parts) = Done (Some (method_set m parts))
  element_set opening (made union terms) = union_set opening terms
  element_set opening (made head parts) = Done (Some all_types)

  -- the terms of a union, one or another; one alone is embedded
  pub union_set : (TypeData → SetAsked) → Parts → SetAsked
  union_set opening no_parts = Done (Some all_types)
  union_set opening (more_parts u no_parts) = union_term_set opening u
  union_set opening (more_parts u us) = joined either_set (union_term_set opening u) (union_set opening us)

  pub union_term_set : (TypeData → SetAsked) → TypeData → SetAsked
  union_term_set opening (made (union_term true) (more_parts t no_parts)) = tilde_set opening t
  union_term_set opening (made (union_term false) (more_parts t no_parts)) = type_set opening t
  union_term_set opening (made head parts) = Done (Some all_types)

  pub type_set : (TypeData → SetAsked) → TypeData → SetAsked
  type_set opening (made head parts) = plain_term_by opening (elements_set opening parts) head (made head parts)

-- what an interface has, where at most so many names are opened on the way to each method and term
abbrev pub set_of : ℕ → TypeData → SetAsked
set_of zero = type_set (λ t. Done None)
set_of (suc n) = type_set (set_of n)
