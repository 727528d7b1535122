-- Constants (Go specification).
-- Says which records are those of untyped integer constants without a name.
use Rattle.std.specs.Prelude.{ℤ, Some, None}
use Rattle.go_num.specs.declared.value.Value.TheVariants.{Int}
use Rattle.go_term.specs.declared.basic.Basic.TheVariants.{UntypedInt}
use Rattle.go_term.specs.Types.{TypeData, basic_type}
use Rattle.go_judge.specs.declared.rec.Mode.TheVariants as M
use Rattle.go_judge.specs.Records.{RecData}

-- the kind of an untyped integer constant
abbrev pub untyped_int : TypeData
untyped_int = basic_type UntypedInt

-- the record of an untyped integer constant without a name
abbrev pub integer_record : ℤ → RecData
integer_record v = record { mode = M.Const; type = Some untyped_int; value = Some (Int v); object = None; span = None }
