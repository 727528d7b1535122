use Rattle.std.proofs.Common.{◌≡◌, ◌∙◌, length, map, ap, arith}
use Rattle.std.proofs.lemmas.List.{length-map}
use Rattle.std.specs.Option.{option_map}
use Rattle.go_term.specs.View.{type_of}
use Rattle.go_module.specs.Modules.Module.{package_view}
use Rattle.go_judge.specs.Records.{header_as}
use Rattle.go_check.specs.Packages.Book.{Standing}
use Rattle.go_check.proofs.StateLemmas.{all_reports, first_state}
use Rattle.go_check.proofs.module.check_packages.Goals as goal

pub loop-place-init : goal.loop-place-init
loop-place-init g c =
    first_state c.args.module.now c.args.names.now (record { marks = c.new.result; book = c.new-2.result; known = c.new-3.result; reports = c.new-4.result })
    c.new.ensures.items c.new-2.ensures.headers (λ d. ap (option_map (header_as type_of)) (c.new-3.ensures d)) c.new-4.ensures.items
    (ap (λ (s : Standing). s.«module») c.new-2.ensures.standing) (ap (λ (s : Standing). s.scopes) c.new-2.ensures.standing ∙ c.deref.ensures.value)

pub returns : goal.returns
returns g c =
    let same = length-map c.args.module.now.packages.items package_view in
    let last : c.loop-place.place ≡ length (map package_view c.args.module.now.packages.items) = omega (arith, same) in
    all_reports c.args.module.now c.args.names.now c.loop-place.place c.loop-place.state c.loop-place.invariant last
