use Rattle.std.proofs.Common.{◌⊎◌, ◌≤◌, ◌+◌, List, length, take, drop, Contains}
use Rattle.clause_chain.specs.declared.signed_term.SignedTerm.{SignedTerm}
use Rattle.chain_plan.specs.Carried.{AreSound, IsGoing}
use Rattle.chain_plan.specs.Lowering.{ArePlainsOf, IsPlainOfSome}
use Rattle.chain_plan.specs.Towers.{nots_of}
use Rattle.chain_plan.proofs.raising.raise_all.Given as goal

abbrev pub invariant-literals : goal.invariant-literals
invariant-literals l = record {
  sound : (given : List (List SignedTerm)) → AreSound l.spellings given l.fn.steps.items → AreSound l.spellings given l.steps.items;
  going : (given : List (List SignedTerm)) → IsGoing l.spellings given l.fn.steps.items l.fn.carry → IsGoing l.spellings given l.steps.items l.carry;
  within : ArePlainsOf l.spellings l.fn.carry.list l.goal → (x : SignedTerm) → Contains l.carry.list x →
      Contains l.goal x ⊎ IsPlainOfSome l.spellings (drop l.literal-index l.goal) x;
  count : length l.steps.items ≤ length l.fn.steps.items + nots_of l.spellings (take l.literal-index l.goal);
}
