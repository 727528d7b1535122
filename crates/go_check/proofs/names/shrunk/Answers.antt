use Rattle.std.proofs.Common.{◌∙◌}
use Rattle.go_check.proofs.names.shrunk.Goals as goal

pub returns : goal.returns
returns c = λ m k is. record {
  p = is.p;
  at = is.at;
  sound = is.sound;
  tables = record {
    objects = c.shrink_to_fit.ensures.entries ∙ is.tables.objects;
    uses = c.shrink_to_fit-2.ensures.entries ∙ is.tables.uses;
    iotas = c.shrink_to_fit-3.ensures.entries ∙ is.tables.iotas;
    methods = is.tables.methods;
    names = is.tables.names;
  };
}
