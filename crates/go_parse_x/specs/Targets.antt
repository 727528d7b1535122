-- What is read: pieces, and whole files.
use Rattle.std.specs.Prelude.{Bool, true, false}
use Rattle.go_tree.specs.declared.production.Form.TheVariants as form
use Rattle.go_tree.specs.declared.production.Production.{Production}
use Rattle.go_tree.specs.declared.production.Production.TheVariants as p
use Rattle.go_parse_x.specs.declared.reading.Reading.{Reading}
use Rattle.go_parse_x.specs.declared.reading.Reading.TheVariants.{Plain, Header, TypeOnly, Signature, Params, TypeParams}
use Rattle.go_parse_x.specs.declared.reading.Target.{Target}
use Rattle.go_parse_x.specs.declared.reading.Target.TheVariants as target

-- the production of a piece
abbrev pub reads : Reading → Production
reads Plain = p.Expr form.Plain
reads Header = p.Expr form.Header
reads TypeOnly = p.AnyType
reads Signature = p.Signature
reads Params = p.Params
reads TypeParams = p.TypeParams

-- the production that is read
abbrev pub piece : Target → Production
piece (target.Piece r) = reads r
piece target.File = p.File

-- whether the blocks of function literals are handed over
abbrev pub hands : Target → Bool
hands (target.Piece r) = true
hands target.File = false
