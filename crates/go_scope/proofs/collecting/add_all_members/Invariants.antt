use Rattle.std.proofs.Common.{◌≡◌, map, take}
use Rattle.std.specs.List.{flat_map}
use Rattle.indexmap.specs.IndexMap.{insert_all}
use Rattle.go_module.specs.Scopes.{same_object}
use Rattle.go_scope.specs.Checked.{all_of}
use Rattle.go_scope.specs.Known.{known_by}
use Rattle.go_scope.specs.Resolved.{member_entry, members_by}
use Rattle.go_scope.proofs.collecting.add_all_members.Given as goal

abbrev pub invariant-loop-list : goal.invariant-loop-list
invariant-loop-list l = l.objects.entries ≡ insert_all same_object l.fn.objects.entries (map member_entry (flat_map (members_by (known_by l.before)) (all_of (map (λ list. list.items) (take l.list-index l.lists)))))
