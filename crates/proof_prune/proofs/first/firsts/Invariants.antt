use Rattle.std.proofs.Common.{◌≡◌, List, length, take}
use Rattle.term_model.specs.Terms.{Term}
use Rattle.term_pool.specs.Views.{ReferToAll}
use Rattle.flip_keys.specs.Assertions.{references_of, AreAssertionsReady}
use Rattle.proof_prune.specs.Firsts.{AreFirsts}
use Rattle.proof_prune.proofs.first.firsts.Given as goal

abbrev pub invariant-wanted : goal.invariant-wanted
invariant-wanted l =
    (l.terms ≡ l.fn.terms) × (references_of l.among ≡ l.assertions) × AreAssertionsReady l.fn.terms l.among × (length l.marks.items ≡ length l.assertions)
    × ((ts : List Term) → ReferToAll l.symbols l.fn.terms l.assertions ts → AreFirsts l.symbols l.fn.terms ts (take l.r-index l.wanted) l.marks.items)
