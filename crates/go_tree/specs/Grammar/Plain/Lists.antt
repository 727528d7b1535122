-- Plain lines of lists: items with separators between them, of which one may stand last.
use Rattle.go_tree.specs.declared.production.Items.{Items}
use Rattle.go_tree.specs.declared.production.Production.{Production}
use Rattle.go_tree.specs.Grammar.RightSide.{RightSide}
use Rattle.go_tree.specs.Grammar.Words.{◌•◌, opt, many, separator, item}

-- { "," X } [ "," ] , and with `;` likewise
abbrev pub plain_rest : Items → RightSide Production
plain_rest l = many (separator l • item l) • opt (separator l)

-- [ X { "," X } [ "," ] ]
abbrev pub plain_items : Items → RightSide Production
plain_items l = opt (item l • plain_rest l)
