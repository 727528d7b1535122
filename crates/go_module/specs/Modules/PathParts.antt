-- Paths of files and of packages, as lists of bytes.
-- Decides what the elements and the folders of a path are, and which path an import names.
use Prim.Native.Char.{code}
use Rattle.std.specs.Prelude.{◌==◌, ◌||◌, ℕ, Bool, List, [], ◌∷◌, ◌++◌}
use Rattle.std.specs.Prelude.{codes, filter, length, map, slice_index, take}
use Rattle.std.specs.Char.{is_ascii_alphanumeric}
use Rattle.std.specs.List.{after_last, before_last, list_all, list_any, range_with_len}

-- `/` separates the elements of a path
abbrev pub is_slash : ℕ → Bool
is_slash byte = byte == code "/"

-- the last element of a path: the name of the file or of the folder
abbrev pub last_element : List ℕ → List ℕ
last_element path = after_last is_slash path

-- the folder of a file: the bytes before the last `/`, or none where there is none
abbrev pub folder_of_path : List ℕ → List ℕ
folder_of_path path = before_last is_slash path

-- the folders on a path's way, the root aside: its fronts that end before a `/`
abbrev pub folders : List ℕ → List (List ℕ)
folders path =
    map (λ end. take end path)
    (filter (λ end. is_slash (slice_index path end)) (range_with_len 0 (length path)))

-- an ASCII letter, a digit, or one of - . _ ~ + /
abbrev pub is_plain_byte : ℕ → Bool
is_plain_byte byte = is_ascii_alphanumeric byte || list_any (λ mark. mark == byte) (codes "-._~+/")

abbrev pub is_plain : List ℕ → Bool
is_plain path = list_all is_plain_byte path

-- the path that imports the package in a folder of a module
abbrev pub import_path_of : List ℕ → List ℕ → List ℕ
import_path_of module_path [] = module_path
import_path_of module_path (byte ∷ bytes) = module_path ++ code "/" ∷ byte ∷ bytes
