-- Interface types; Embedded interfaces (Go specification).
-- Decides which interfaces get one method with two types: "The name of each explicitly specified method must be unique"; "When
-- embedding interfaces, methods with the same names must have identical signatures." Each method is held against the one of
-- its name that is declared first, so that the order of elements does not count (own).
use Rattle.std.specs.Prelude.{◌≡◌, ◌≤◌, Bool, true, false, List, [], ◌∷◌, Contains}
use Rattle.std.specs.List.{flat_map}
use Rattle.go_base.specs.declared.rule.Rule.{Rule}
use Rattle.go_base.specs.declared.rule.Family.TheVariants.{C}
use Rattle.go_term.specs.Types.{MethodHead, Parts, TypeData, function, made, method}
use Rattle.go_model.specs.Obligations.Embedded.{Embeds, elements_of}
use Rattle.go_judge.specs.Headers.{Headers}
use Rattle.go_judge.specs.Types.Heads as heads
use Rattle.go_judge.specs.Types.TypeIdentity.{identical}
use Rattle.go_judge.specs.Types.TypeSets.{home_of}
use Rattle.go_judge.specs.Quests.{Decided, run}

-- C19: an interface gets one method name with two types
abbrev pub differing_methods : Rule
differing_methods = record { family = C; number = 19 }

-- a method that a literal has itself
pub record OwnMethod : Type 0 where
  pub head : MethodHead
  pub parts : Parts

abbrev pub method_in : TypeData → List OwnMethod
method_in (made (method m) parts) = record { head = m; parts = parts } ∷ []
method_in elem = []

abbrev pub methods_in : TypeData → List OwnMethod
methods_in t = flat_map method_in (elements_of t)

abbrev pub signature_of : OwnMethod → TypeData
signature_of m = made (function m.head.variadic) m.parts

-- "the names are identical": of names that are not exported the packages too
abbrev pub same_name : OwnMethod → OwnMethod → Bool
same_name a b = heads.same_name home_of a.head.name a.head.«package» b.head.name b.head.«package»

-- over these headers the interface literal t has the method, or what it embeds has it
pub record Gets (headers : Headers) (t : TypeData) (m : OwnMethod) : Type 0 where
  pub part : TypeData
  pub embeds : Embeds headers t part
  pub has : Contains (methods_in part) m

-- a method whose type is another than that of the first of its name
pub record GetsTwo (headers : Headers) (t : TypeData) : Type 0 where
  pub first : OwnMethod
  pub other : OwnMethod
  pub gets_first : Gets headers t first
  pub gets_other : Gets headers t other
  pub named_alike : same_name first other ≡ true
  pub is_first : (m : OwnMethod) → Gets headers t m → same_name first m ≡ true → first.head.object.0 ≤ m.head.object.0
  pub differ : run headers (identical (signature_of first) (signature_of other)) ≡ Decided false
