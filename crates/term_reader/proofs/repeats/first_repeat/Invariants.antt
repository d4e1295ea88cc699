use Rattle.std.proofs.Common.{◌-◌}
use Rattle.problem_text.specs.Forms.{LetBinds}
use Rattle.term_reader.specs.Layers.{AreBinds}
use Rattle.term_reader.proofs.RepeatLemmas.{AreLeft}
use Rattle.term_reader.proofs.repeats.first_repeat.Given as goal

abbrev pub invariant-pairs : goal.invariant-pairs
invariant-pairs l = record {
  there : (bs : LetBinds) × AreBinds l.items l.k bs l.body;
  left : AreLeft l.items l.first l.k l.body l.earlier.keys;
}

abbrev pub decreases-pairs : goal.decreases-pairs
decreases-pairs l = l.body - l.k
