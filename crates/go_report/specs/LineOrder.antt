-- The order of lines.
-- Decides in which order the lines of a kind stand that were found in a file: by their places, of two nodes that start at
-- one place the longer one first. Files stand by their paths, as in their package.
use Rattle.std.specs.Prelude.{◌≡◌, Bool, List, [], ◌∷◌, ◌++◌}
use Rattle.std.specs.List.Sorted.{IsPermutation, IsSortedBy, IsStableBy}
use Rattle.std.specs.declared.cmp.Ordering.{Ordering}
use Rattle.std.specs.Ordering.{is_lt, nat_cmp, ordering_then}
use Rattle.go_base.specs.declared.places.LineCol.{LineCol}
use Rattle.go_report.specs.Report.{LineData, WhatData, defined, used, expression}

-- where the node of a line ends; of other lines one place for all
abbrev pub end_of : WhatData → LineCol
end_of (defined name kind) = record { line = 0; col = 0 }
end_of (used name declared) = record { line = 0; col = 0 }
end_of (expression end mode type value) = end

-- by lines, in a line by columns
abbrev pub place_cmp : LineCol → LineCol → Ordering
place_cmp a b = ordering_then (nat_cmp a.line b.line) (nat_cmp a.col b.col)

abbrev pub start_of_line : LineData → LineCol
start_of_line line = record { line = line.at.line; col = line.at.col }

-- the one line stands before the other in a file: it starts earlier, or there too and ends later
abbrev pub is_before : LineData → LineData → Bool
is_before a b = is_lt (ordering_then (place_cmp (start_of_line a) (start_of_line b)) (place_cmp (end_of b.what) (end_of a.what)))

-- the lines that were found, each as often, none behind one that it stands before; lines at one place as they were found
pub record IsInOrder (found lines : List LineData) : Type 0 where
  pub same : IsPermutation found lines
  pub ordered : IsSortedBy is_before lines
  pub stable : IsStableBy is_before found lines

-- those of each file in order, file after file
pub data AreInOrder : List (List LineData) → List LineData → Type 0 where
  no_file : AreInOrder [] []
  one_more : (found here : List LineData) (others : List (List LineData)) (rest lines : List LineData)
      → IsInOrder found here → AreInOrder others rest → lines ≡ here ++ rest → AreInOrder (found ∷ others) lines
