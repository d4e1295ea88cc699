use Rattle.std.proofs.Common.{◌≤◌, ℕ, List, length, take, All, Contains}
use Rattle.term_model.specs.Terms.{Term}
use Rattle.rule_model.specs.Chaining.{AreFalse}
use Rattle.rule_model.specs.Consequence.{Leads}
use Rattle.rule_model.specs.declared.literal.Literal.{Literal}
use Rattle.clause_chain.specs.Chaining.{clauses_of}
use Rattle.clause_chain.specs.declared.signed_term.SignedTerm.{SignedTerm}
use Rattle.chain_plan.specs.Carried.{IsGoing}
use Rattle.chain_plan.specs.Lowering.{IsPlain}
use Rattle.chain_plan.specs.Normals.{IsStanding}
use Rattle.chain_plan.specs.Plans.{PlannedStep}
use Rattle.chain_plan.specs.Towers.{AreNumbered, terms_of}
use Rattle.chain_plan.specs.Trails.{falses_after, literals_of}
use Rattle.chain_plan.proofs.taking.take_back.Given as goal

abbrev pub invariant-units : goal.invariant-units
invariant-units l = record {
  within : l.left ≤ length l.units;
  going : (steps : List PlannedStep) → All (IsStanding (clauses_of l.given) steps) l.normals →
      IsGoing l.spellings (clauses_of l.given) steps l.fn.carry → IsGoing l.spellings (clauses_of l.given) steps l.carry;
  plain : (x : SignedTerm) → Contains l.carry.list x → IsPlain l.spellings x;
  back : (terms : ℕ → Term) → AreNumbered l.spellings terms → (falses : List (Literal Term)) (last : ℕ) →
      Leads (literals_of terms (clauses_of l.given)) falses l.units last →
      AreFalse (falses_after (literals_of terms (clauses_of l.given)) falses l.units) (terms_of terms l.fn.carry.list) →
      AreFalse (falses_after (literals_of terms (clauses_of l.given)) falses (take l.left l.units)) (terms_of terms l.carry.list);
}

abbrev pub decreases-units : goal.decreases-units
decreases-units l = l.left
