use Rattle.std.proofs.Common.{◌≡◌, take, map}
use Rattle.std.specs.List.{flat_map}
use Rattle.flip_steps.specs.Remembering.{form_in, links_in}
use Rattle.flip_steps.proofs.gathering.gather.Given as goal

abbrev pub invariant-each : goal.invariant-each
invariant-each l = record {
  forms : l.list.items ≡ map (form_in l.forms) (take l.arg-index l.args);
  links : l.links.items ≡ flat_map (links_in l.forms) (take l.arg-index l.args);
}
