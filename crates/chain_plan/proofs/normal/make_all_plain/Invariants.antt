use Rattle.std.proofs.Common.{◌≡◌, ◌≤◌, ◌+◌, ◌*◌, ◌⊎◌, List, [], length, take, drop, Contains}
use Rattle.std.specs.List.{sum_by}
use Rattle.clause_chain.specs.declared.signed_term.SignedTerm.{SignedTerm}
use Rattle.chain_plan.specs.Carried.{AreSound, IsGoing, KeepsSources}
use Rattle.chain_plan.specs.Lowering.{AreAlike, IsPlain}
use Rattle.chain_plan.specs.Towers.{nots_at}
use Rattle.chain_plan.proofs.normal.make_all_plain.Given as goal

abbrev pub invariant-literals : goal.invariant-literals
invariant-literals l = record {
  sound : (given : List (List SignedTerm)) → AreSound l.spellings given l.fn.steps.items → AreSound l.spellings given l.steps.items;
  going : (given : List (List SignedTerm)) → IsGoing l.spellings given l.fn.steps.items l.fn.carry → IsGoing l.spellings given l.steps.items l.carry;
  alike : AreAlike l.spellings l.fn.carry.list l.carry.list;
  plain : (x : SignedTerm) → Contains l.carry.list x → IsPlain l.spellings x ⊎ Contains (drop l.literal-index l.clause) x;
  kept : KeepsSources l.fn.steps.items l.steps.items;
  some : (l.carry ≡ l.fn.carry) ⊎ (2 ≤ sum_by (λ (x : SignedTerm). nots_at l.spellings x.term) (take l.literal-index l.clause));
  first : l.carry.pivots ≡ [] → l.carry ≡ l.fn.carry;
  count : 2 * length l.steps.items ≤ 2 * length l.fn.steps.items + sum_by (λ (x : SignedTerm). nots_at l.spellings x.term) (take l.literal-index l.clause);
}
