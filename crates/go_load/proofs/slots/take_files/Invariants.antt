use Rattle.std.proofs.Common.{◌≡◌, ◌++◌, drop, map}
use Rattle.go_module.specs.Modules.Module.{file_view}
use Rattle.go_load.specs.Packages.Assembly.{cleared, files_left, taken}
use Rattle.go_load.proofs.slots.take_files.Given as goal

-- what was taken so far and what is taken of what is left are what is taken
abbrev pub invariant-loop-number : goal.invariant-loop-number
invariant-loop-number l = record {
  files_are : map file_view l.files.items ++ taken (files_left l.slots) (drop l.number-index l.numbers) ≡ taken (files_left l.fn.slots) l.numbers;
  rest_is : cleared (files_left l.slots) (drop l.number-index l.numbers) ≡ cleared (files_left l.fn.slots) l.numbers;
}
