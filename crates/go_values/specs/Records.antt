-- Constant declarations; Variable declarations; Type declarations (Go specification).
-- Decides the record of an expression over a map of headers, which is that of its outcome, and the header that a
-- declaration has by it.
use Rattle.std.specs.Prelude.{List, [], Option, None, option_and_then, slice_get}
use Rattle.std.specs.Option.{option_map}
use Rattle.go_tree.specs.Tree.{Tree}
use Rattle.go_judge.specs.Naming.{Naming}
use Rattle.go_module.specs.declared.declaration.Built.{Built}
use Rattle.go_module.specs.declared.declaration.Built.TheVariants.{Itself, Pair}
use Rattle.go_module.specs.declared.object.ObjKind.{ObjKind}
use Rattle.go_module.specs.declared.object.ObjKind.TheVariants.{Alias, Const, Defined, Var}
use Rattle.go_module.specs.Names.Declarations.{Declaration}
use Rattle.go_judge.specs.Judged.{OutcomeData}
use Rattle.go_model.specs.Outcomes.Readings.{record_by}
use Rattle.go_judge.specs.Records.{HeaderData, RecData, alias, constant, definition, type_in, variable}
use Rattle.go_judge.specs.Headers.{Headers}
use Rattle.go_model.specs.Outcomes.Walk.{outcome}

-- the node by whose record a declaration has a header: the expression that stands for the name of a constant; the type of a
-- variable; what stands behind the name of a type or an alias
abbrev pub tells_by : ObjKind → Built → List Tree → List Tree → Option Tree
tells_by Const Pair types values = slice_get values 0
tells_by Var Itself types values = slice_get types 0
tells_by Defined Itself types values = slice_get types 0
tells_by Alias Itself types values = slice_get types 0
tells_by kind built types values = None

-- the header of a constant that is declared with this record and without a type; one with a type is not built
abbrev pub declared_header : RecData → Option HeaderData
declared_header r = option_and_then (λ type. option_map (constant type) r.value) r.type

-- and the header by it, where it is a constant or a type; a type that is defined has no methods yet
abbrev pub told_by : ObjKind → RecData → Option HeaderData
told_by Const r = declared_header r
told_by Var r = option_map variable (type_in r)
told_by Defined r = option_map (λ type. definition [] type []) (type_in r)
told_by Alias r = option_map alias (type_in r)
told_by kind r = None

abbrev pub header_by : (Tree → OutcomeData RecData) → Declaration → Option HeaderData
header_by outcome d = option_and_then (told_by d.kind) (option_and_then (record_by outcome) (tells_by d.kind d.built d.types d.values))

-- both over the headers
abbrev pub record_of : Naming → Headers → Tree → Option RecData
record_of naming headers t = record_by (outcome naming headers) t

abbrev pub header_over : Naming → Headers → Declaration → Option HeaderData
header_over naming headers d = header_by (outcome naming headers) d
