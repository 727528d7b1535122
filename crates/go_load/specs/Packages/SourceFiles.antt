-- Files of their texts and trees.
use Rattle.std.specs.Prelude.{List, [], ◌∷◌, Option, None, Some}
use Rattle.go_tree.specs.declared.node.File.{File}
use Rattle.go_tree.specs.Tree.{tree_of}
use Rattle.go_module.specs.Modules.Texts.{SourceText}
use Rattle.go_module.specs.Modules.Module.{FileData}

-- the file with that text and tree
abbrev pub file_with : SourceText → File → FileData
file_with text file = record { path = text.path; bytes = text.bytes; number = file.number; tree = tree_of file.root }

-- the same, if there is a text
abbrev pub file_if : Option SourceText → File → List FileData
file_if None file = []
file_if (Some text) file = file_with text file ∷ []

-- the files that texts and trees make
abbrev pub joined : List SourceText → List File → List FileData
joined (text ∷ texts) (file ∷ files) = file_with text file ∷ joined texts files
joined _ _ = []
