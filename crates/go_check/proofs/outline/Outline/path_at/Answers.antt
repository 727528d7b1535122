use Rattle.std.proofs.Common.{◌≡◌, [], length, rules, refl, sym, ◌∙◌}
use Rattle.std.proofs.lemmas.Option.{slice_get_past, slice_get_read}
use Rattle.go_module.specs.Modules.Module.{package_view}
use Rattle.go_check.proofs.DeclaredLemmas.{path_there, no_path}
use Rattle.go_check.proofs.outline.Outline.path_at.Goals as goal

pub returns-in_ok-clone-in-Some : goal.returns-in_ok-clone-in-Some
returns-in_ok-clone-in-Some c =
    let packages = c.args.self.now.packages.now in
    let own = c.in-Some.own.now in
    let found = c.in-Some.ensures.lookup in
    let copied : c.in_ok-clone-in-Some.field-0 ≡ (package_view own).path = search rules in
    copied ∙ sym (path_there c.args.self.now c.args.place own (slice_get_read packages (length packages) c.args.place own refl found.3.0 found.1))

pub returns-in-None : goal.returns-in-None
returns-in-None c =
    let missing = c.in-None.ensures.lookup in
    let empty : c.new-in-None.result ≡ [] = search rules in
    empty ∙ sym (no_path c.args.self.now c.args.place (slice_get_past c.args.self.now.packages.now c.args.place missing.3))
