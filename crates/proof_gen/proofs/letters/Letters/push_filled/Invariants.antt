use Rattle.std.specs.List.{slice_range}
use Rattle.std.proofs.Common.{◌≡◌, ◌≤◌, ◌++◌, take}
use Rattle.proof_gen.specs.Templates.{filled}
use Rattle.proof_gen.proofs.letters.Letters.push_filled.Given as goal

abbrev pub invariant-loop-at : goal.invariant-loop-at
invariant-loop-at l = record {
  before : l.start ≤ l.at;
  text : l.text.items ++ slice_range l.template l.start l.at ≡ l.initial.text.items ++ filled l.self.number (take l.at l.template);
}
