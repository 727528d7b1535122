-- The texts that are read of a tree.
use Rattle.std.specs.Prelude.{◌≡◌, ℕ, Bool, true, false, List, [], ◌++◌, Option, None, Some, All, map}
use Rattle.go_base.specs.declared.tree.MemFile.{MemFile}
use Rattle.go_mod.specs.Folders.{AreGoFiles}
use Rattle.go_module.specs.Modules.Texts.{SourceText}
use Rattle.go_load.specs.Texts.Calls.{IsListed, IsReadAt}

-- the text was read below the root
pub record IsTextRead (told : Option (List MemFile)) (root : List ℕ) (stub : Bool) (text : SourceText) : Type 0 where
  pub stub_is : text.stub ≡ stub
  pub bytes_are : IsReadAt told root text.path text.bytes

-- a text for each path
pub record AreTextsRead (told : Option (List MemFile)) (root : List ℕ) (stub : Bool) (paths : List (List ℕ)) (texts : List SourceText) : Type 0 where
  pub paths_are : map (λ text. text.path) texts ≡ paths
  pub are_read : All (IsTextRead told root stub) texts

-- they stand behind those that were there
pub record Adds (told : Option (List MemFile)) (root : List ℕ) (stub : Bool) (paths : List (List ℕ)) (old new : List SourceText) : Type 0 where
  pub texts : List SourceText
  pub read : AreTextsRead told root stub paths texts
  pub are : new ≡ old ++ texts

-- the same, where there may be no root
abbrev pub AddsStubs : Option (List MemFile) → Option (List ℕ) → List (List ℕ) → List SourceText → List SourceText → Type 0
AddsStubs told None paths old new = new ≡ old
AddsStubs told (Some root) paths old new = Adds told root true paths old new

-- the Go files of these paths, whatever the files have
abbrev pub AreGoFilesOf : List (List ℕ) → List (List ℕ) → Type 0
AreGoFilesOf names paths = (bytes : List ℕ → List ℕ) → AreGoFiles (record { paths = names; bytes = bytes }) paths

-- the Go files below a root
pub record AreStubFiles (told : Option (List MemFile)) (root : List ℕ) (paths : List (List ℕ)) : Type 0 where
  pub names : List (List ℕ)
  pub listed : IsListed told root names
  pub are_files : AreGoFilesOf names paths

-- the same, where there may be no root
abbrev pub AreSomeStubFiles : Option (List MemFile) → Option (List ℕ) → List (List ℕ) → Type 0
AreSomeStubFiles told None paths = paths ≡ []
AreSomeStubFiles told (Some root) paths = AreStubFiles told root paths

-- the texts of the Go files of both roots
pub record AreBothRead (told : Option (List MemFile)) (root : List ℕ) (stubs : Option (List ℕ)) (own_paths stub_paths : List (List ℕ)) (texts : List SourceText) : Type 0 where
  pub own : List SourceText
  pub own_are : AreTextsRead told root false own_paths own
  pub both : AddsStubs told stubs stub_paths own texts

-- the texts of a module, where these are the paths of all files below its root
pub record AreAllRead (told : Option (List MemFile)) (root : List ℕ) (stubs : Option (List ℕ)) (names : List (List ℕ)) (texts : List SourceText) : Type 0 where
  pub own_paths : List (List ℕ)
  pub are_own : AreGoFilesOf names own_paths
  pub stub_paths : List (List ℕ)
  pub are_stubs : AreSomeStubFiles told stubs stub_paths
  pub read : AreBothRead told root stubs own_paths stub_paths texts
