use Rattle.std.proofs.Common.{ap, ◌∙◌, map}
use Rattle.go_module.specs.Places.{placed_in}
use Rattle.go_load.proofs.ParsedLemmas.{adds-tree, adds-rules}
use Rattle.go_load.proofs.parse_texts.add_text.Goals as goal

pub returns-in_ok-push-in-Whole : goal.returns-in_ok-push-in-Whole
returns-in_ok-push-in-Whole c =
    adds-tree c.args.text.now c.as_bytes.result.now c.bytes.result.now c.args.number c.args.parsed.now.next c.in_ok-read.read c.in-Whole.file c.args.parsed.now.files.items c.push.new.self.items c.in_ok-parsed-in-Whole.field-0 c.args.parsed.now.broken.items
    (c.as_bytes.ensures ∙ c.path.ensures) c.bytes.ensures c.in-Whole.is c.in_ok-read.ensures c.in_ok-push-in-Whole.ensures.items c.in_ok-parsed-in-Whole.ensures

pub returns-in_ok-append-in-Broken : goal.returns-in_ok-append-in-Broken
returns-in_ok-append-in-Broken c =
    adds-rules c.args.text.now c.as_bytes.result.now c.bytes.result.now c.args.number c.args.parsed.now.next c.in_ok-read.read c.in-Broken.list c.args.parsed.now.files.items c.in_ok-placed-in-Broken.placed.items c.args.parsed.now.broken.items c.append.new.self.items
    (c.as_bytes.ensures ∙ c.path.ensures) c.bytes.ensures c.in-Broken.is c.in_ok-read.ensures (c.in_ok-placed-in-Broken.ensures ∙ ap (map (placed_in c.args.text.now)) c.deref.ensures.value) c.in_ok-append-in-Broken.ensures.items
