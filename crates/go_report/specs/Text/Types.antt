-- Types (Go specification).
-- The text of types: decides how a type reads, by the objects that the types of a package's lines name.
use Prim.Native.Char.{code}
use Rattle.std.specs.Prelude.{ℕ, Bool, true, false, if◌then◌else◌, List, [], ◌∷◌, ◌++◌, find, codes, decimal, slice_get, unwrap_or, Option, Some, None}
use Rattle.std.specs.List.{flat_map}
use Rattle.std.specs.Option.{option_map_or}
use Rattle.go_base.specs.declared.ids.ObjId.{ObjId}
use Rattle.go_module.specs.declared.places.At.{At}
use Rattle.go_module.specs.Scopes.{same_object}
use Rattle.go_term.specs.declared.term.Dir.{Dir}
use Rattle.go_term.specs.declared.term.Dir.TheVariants.{Both, Receive, Send}
use Rattle.go_term.specs.Basics.{basic_text}
use Rattle.go_term.specs.Types.{FieldHead, Head, basic, pointer, slice, array, map_type, channel, function, struct_type, interface_type, tuple, named, param, field, method, union, union_term, TypeData, Parts, made, no_parts, more_parts}
use Rattle.go_report.specs.Report.{NamedData}
use Rattle.go_report.specs.Text.Places.{place_text}
use Rattle.go_num.specs.Strings.{quoted}

-- the path of a package and a `.`; a universe name has no path
abbrev pub path_text : List ℕ → List ℕ
path_text [] = []
path_text (b ∷ bs) = (b ∷ bs) ++ codes "."

-- `@` and a place, if there is one
abbrev pub at_text : Option At → List ℕ
at_text None = []
at_text (Some at) = code "@" ∷ place_text at

-- `path.Name`, and behind it `@place` where it is declared in a function
abbrev pub named_text : NamedData → List ℕ
named_text n = (path_text n.path ++ n.name) ++ (if n.local then at_text n.at else [])

-- texts behind each other, with another between them
abbrev pub behind_each : List ℕ → List (List ℕ) → List ℕ
behind_each between texts = flat_map (λ text. between ++ text) texts

abbrev pub joined : List ℕ → List (List ℕ) → List ℕ
joined between [] = []
joined between (text ∷ texts) = text ++ behind_each between texts

abbrev pub comma_list : List (List ℕ) → List ℕ
comma_list texts = joined (codes ", ") texts

-- the parameters of a function: the last of a variadic one behind `...`
abbrev pub with_dots : List (List ℕ) → List (List ℕ)
with_dots [] = []
with_dots (text ∷ []) = (codes "..." ++ text) ∷ []
with_dots (text ∷ (next ∷ texts)) = text ∷ with_dots (next ∷ texts)

abbrev pub parameters_text : Bool → List (List ℕ) → List ℕ
parameters_text variadic texts = codes "(" ++ (comma_list (if variadic then with_dots texts else texts) ++ codes ")")

-- no result, one, or several in parentheses
abbrev pub results_text : List (List ℕ) → List ℕ
results_text [] = []
results_text (text ∷ []) = codes " " ++ text
results_text (text ∷ (next ∷ texts)) = codes " (" ++ (comma_list (text ∷ (next ∷ texts)) ++ codes ")")

abbrev pub arguments_text : List (List ℕ) → List ℕ
arguments_text [] = []
arguments_text (text ∷ texts) = codes "[" ++ (comma_list (text ∷ texts) ++ codes "]")

-- `chan (<-chan T)` alone has parentheses
abbrev pub receives : Parts → Bool
receives (more_parts (made (channel Receive) parts) rest) = true
receives parts = false

abbrev pub channel_text : Dir → Parts → List ℕ → List ℕ
channel_text Receive parts text = codes "<-chan " ++ text
channel_text Send parts text = codes "chan<- " ++ text
channel_text Both parts text = if receives parts then codes "chan (" ++ (text ++ codes ")") else codes "chan " ++ text

-- a tag reads as a string does, but whole
abbrev pub tag_text : List ℕ → List ℕ
tag_text [] = []
tag_text (b ∷ bs) = codes " " ++ quoted (b ∷ bs)

-- `a T "tag"`; an embedded field has no name
abbrev pub field_text : FieldHead → List ℕ → List ℕ
field_text f text = (if f.embedded then [] else f.name ++ codes " ") ++ (text ++ tag_text f.tag)

-- by the objects that the types of the package's lines name
module _ (objects : List NamedData) where
  abbrev pub object_by : ObjId → Option NamedData
  object_by d = find (λ n. same_object d n.object) objects

  abbrev pub object_text : ObjId → List ℕ
  object_text d = option_map_or named_text (object_by d) []

  -- the name of a type parameter
  abbrev pub param_text : ObjId → ℕ → List ℕ
  param_text d i = option_map_or (λ n. unwrap_or (slice_get n.params i) []) (object_by d) []

  -- what stands at a head, whose parts read so
  abbrev pub head_text : Head → Parts → List (List ℕ) → List ℕ
  head_text (basic b) parts texts = basic_text b
  head_text pointer parts texts = codes "*" ++ joined [] texts
  head_text slice parts texts = codes "[]" ++ joined [] texts
  head_text (array n) parts texts = codes "[" ++ (decimal n ++ (codes "]" ++ joined [] texts))
  head_text map_type parts texts = codes "map[" ++ joined (codes "]") texts
  head_text (channel d) parts texts = channel_text d parts (joined [] texts)
  head_text struct_type parts texts = codes "struct{" ++ (joined (codes "; ") texts ++ codes "}")
  head_text interface_type parts texts = codes "interface{" ++ (joined (codes "; ") texts ++ codes "}")
  head_text tuple parts texts = codes "(" ++ (comma_list texts ++ codes ")")
  head_text (named d) parts texts = object_text d ++ arguments_text texts
  head_text (param d i) parts texts = param_text d i
  head_text (field f) parts texts = field_text f (joined [] texts)
  head_text union parts texts = joined (codes "|") texts
  head_text (union_term tilde) parts texts = (if tilde then codes "~" else []) ++ joined [] texts
  head_text head parts texts = []

  abbrev mutual
    pub type_text : TypeData → List ℕ
    type_text (made (function variadic) parts) = codes "func" ++ signature_text variadic parts
    type_text (made (method m) parts) = m.name ++ signature_text m.variadic parts
    type_text (made head parts) = head_text head parts (texts_of parts)

    pub signature_text : Bool → Parts → List ℕ
    signature_text variadic (more_parts (made head params) (more_parts (made other results) rest)) = parameters_text variadic (texts_of params) ++ results_text (texts_of results)
    signature_text variadic parts = []

    pub texts_of : Parts → List (List ℕ)
    texts_of no_parts = []
    texts_of (more_parts t ts) = type_text t ∷ texts_of ts
