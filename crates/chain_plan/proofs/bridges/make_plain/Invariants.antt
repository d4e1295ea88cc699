use Rattle.std.proofs.Common.{◌≡◌, ◌≤◌, ◌+◌, ◌*◌, ◌⊎◌, List, [], length}
use Rattle.clause_chain.specs.declared.signed_term.SignedTerm.{SignedTerm}
use Rattle.chain_plan.specs.Carried.{AreSound, IsGoing, KeepsSources}
use Rattle.chain_plan.specs.Lowering.{HasComeDown}
use Rattle.chain_plan.specs.Towers.{nots_at}
use Rattle.chain_plan.proofs.bridges.make_plain.Given as goal

abbrev pub invariant-pairs : goal.invariant-pairs
invariant-pairs l = record {
  sound : (given : List (List SignedTerm)) → AreSound l.spellings given l.fn.steps.items → AreSound l.spellings given l.steps.items;
  going : (given : List (List SignedTerm)) → IsGoing l.spellings given l.fn.steps.items l.fn.carry → IsGoing l.spellings given l.steps.items l.carry;
  down : HasComeDown l.spellings l.fn.number l.current l.fn.carry.list l.carry.list;
  kept : KeepsSources l.fn.steps.items l.steps.items;
  some : ((l.carry ≡ l.fn.carry) × (l.current ≡ l.fn.number)) ⊎ (2 ≤ nots_at l.spellings l.fn.number);
  first : l.carry.pivots ≡ [] → l.carry ≡ l.fn.carry;
  count : 2 * length l.steps.items + nots_at l.spellings l.current ≤ 2 * length l.fn.steps.items + nots_at l.spellings l.fn.number;
}

abbrev pub decreases-pairs : goal.decreases-pairs
decreases-pairs l = l.current
