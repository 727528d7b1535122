-- Lines as the code holds them.
use Rattle.go_mod.specs.declared.module_lines.Line.{Line}
use Rattle.go_mod.specs.ModuleLines.{LineText}

-- a line without where it lies in memory
abbrev pub seen : Line → LineText
seen line = record { offset = line.offset; text = line.text.now }
