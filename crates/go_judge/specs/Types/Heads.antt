-- Type identity; Struct types; Interface types (Go specification).
-- Decides which heads of types are the same: fields with "the same names, and identical types, and identical tags", and
-- embedded or not, where "non-exported field names from different packages are always different".
use Rattle.std.specs.Prelude.{ℕ, ◌==◌, ◌&&◌, Bool, true, false, List}
use Rattle.go_term.specs.declared.basic.Basic.{Basic}
use Rattle.go_term.specs.declared.basic.Basic.TheVariants as B
use Rattle.go_term.specs.declared.term.Dir.{Dir}
use Rattle.go_term.specs.declared.term.Dir.TheVariants as D
use Rattle.go_term.specs.Types.{Head, basic, pointer, slice, array, map_type, channel, function, struct_type, interface_type, tuple, named, param, bound, list, field, method, union, union_term, FieldHead, MethodHead, TypeData, Parts, made, no_parts, more_parts}
use Rattle.go_module.specs.Modules.Paths.{same_text}

-- basic types, and directions, by their places
abbrev pub basic_number : Basic → ℕ
basic_number B.Bool = 0
basic_number B.Comparable = 1
basic_number B.Complex64 = 2
basic_number B.Complex128 = 3
basic_number B.Error = 4
basic_number B.Float32 = 5
basic_number B.Float64 = 6
basic_number B.Int = 7
basic_number B.Int8 = 8
basic_number B.Int16 = 9
basic_number B.Int32 = 10
basic_number B.Int64 = 11
basic_number B.String = 12
basic_number B.Uint = 13
basic_number B.Uint8 = 14
basic_number B.Uint16 = 15
basic_number B.Uint32 = 16
basic_number B.Uint64 = 17
basic_number B.Uintptr = 18
basic_number B.UntypedBool = 19
basic_number B.UntypedInt = 20
basic_number B.UntypedRune = 21
basic_number B.UntypedString = 22
basic_number B.UntypedNil = 23

abbrev pub dir_number : Dir → ℕ
dir_number D.Both = 0
dir_number D.Receive = 1
dir_number D.Send = 2

abbrev pub same_truth : Bool → Bool → Bool
same_truth true b = b
same_truth false true = false
same_truth false false = true

-- home says which path counts of a name that is declared in a package
module _ (home : List ℕ → List ℕ → List ℕ) where
  abbrev pub same_name : List ℕ → List ℕ → List ℕ → List ℕ → Bool
  same_name a p b q = same_text a b && same_text (home a p) (home b q)

  abbrev pub same_field : FieldHead → FieldHead → Bool
  same_field f g = same_name f.name f.«package» g.name g.«package» && same_truth f.embedded g.embedded && same_text f.tag g.tag

  abbrev pub same_method : MethodHead → MethodHead → Bool
  same_method m n = same_name m.name m.«package» n.name n.«package» && same_truth m.variadic n.variadic

  abbrev pub same_head : Head → Head → Bool
  same_head (basic a) (basic b) = basic_number a == basic_number b
  same_head pointer pointer = true
  same_head slice slice = true
  same_head (array m) (array n) = m == n
  same_head map_type map_type = true
  same_head (channel d) (channel e) = dir_number d == dir_number e
  same_head (function v) (function w) = same_truth v w
  same_head struct_type struct_type = true
  same_head interface_type interface_type = true
  same_head tuple tuple = true
  same_head (named d) (named e) = d.0 == e.0
  same_head (param d i) (param e j) = (d.0 == e.0) && (i == j)
  same_head (bound i) (bound j) = i == j
  same_head list list = true
  same_head (field f) (field g) = same_field f g
  same_head (method m) (method n) = same_method m n
  same_head union union = true
  same_head (union_term t) (union_term u) = same_truth t u
  same_head h g = false

-- equal, but for the objects of fields and methods
abbrev mutual
  pub alike : TypeData → TypeData → Bool
  alike (made h ts) (made g us) = same_head (λ name home. home) h g && all_alike ts us

  pub all_alike : Parts → Parts → Bool
  all_alike no_parts no_parts = true
  all_alike (more_parts t ts) (more_parts u us) = alike t u && all_alike ts us
  all_alike ts us = false
