use Rattle.std.proofs.Common.{◌≡◌, ◌++◌, take}
use Rattle.proof_gen.specs.Templates.{numbered}
use Rattle.proof_gen.proofs.numbers.push_numbered.Given as goal

abbrev pub invariant-loop-byte : goal.invariant-loop-byte
invariant-loop-byte l = l.text.items ≡ l.initial.text.items ++ numbered l.number (take l.byte-index l.template)
