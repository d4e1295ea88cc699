use Rattle.std.proofs.Common.{◌≡◌, ◌≢◌, ◌⊎◌, ◌≤◌, ◌+◌, ◌-◌, List, length, Contains}
use Rattle.clause_chain.specs.declared.signed_term.SignedTerm.{SignedTerm}
use Rattle.chain_plan.specs.Carried.{AreSound, IsGoing}
use Rattle.chain_plan.specs.Lowering.{StandsBelow}
use Rattle.chain_plan.specs.Towers.{item_of, nots_at, plain_of}
use Rattle.chain_plan.proofs.raising.raise_to.Given as goal

abbrev pub invariant-pairs : goal.invariant-pairs
invariant-pairs l = record {
  sound : (given : List (List SignedTerm)) → AreSound l.spellings given l.fn.steps.items → AreSound l.spellings given l.steps.items;
  going : (given : List (List SignedTerm)) → IsGoing l.spellings given l.fn.steps.items l.fn.carry → IsGoing l.spellings given l.steps.items l.carry;
  there : Contains l.carry.list (item_of l.current);
  was : (x : SignedTerm) → Contains l.carry.list x →
      (Contains l.fn.carry.list x × (x ≢ item_of (plain_of l.spellings l.fn.goal))) ⊎ (x ≡ item_of l.current);
  below : StandsBelow l.spellings l.current l.fn.goal;
  count : length l.steps.items + l.fn.goal ≤ length l.fn.steps.items + nots_at l.spellings l.fn.goal + l.current;
}

abbrev pub decreases-pairs : goal.decreases-pairs
decreases-pairs l = l.fn.goal - l.current
