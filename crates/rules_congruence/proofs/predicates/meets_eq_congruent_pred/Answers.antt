use Rattle.std.proofs.Common.{◌↔◌, ◌∙◌, List, IsTrue, sym, refl}
use Rattle.rule_model.specs.Congruence.{Denies}
use Rattle.term_model.specs.Terms.{Term}
use Rattle.rules_congruence.specs.Predicates.{GivesOther, GivesPredicate}
use Rattle.term_pool.specs.Views.{ReferToAll}
use Rattle.term_parts.specs.Judging.{ReferToClauses}
use Rattle.rules_congruence.proofs.Options.{if_ok}
use Rattle.rules_congruence.proofs.PredicateLemmas.{sorted_are_terms, first_denies, second_denies}
use Rattle.rules_congruence.proofs.predicates.meets_eq_congruent_pred.Goals as goal

pub returns-then-branch-clause-met : goal.returns-then-branch-clause-met
returns-then-branch-clause-met c ps ts premises clause =
    (λ e. first_denies c.args.uses ps ts ((c.in_ok-meets_equated.ensures.met ps ts premises clause).0 c.if-branch.true), λ h. refl)

pub meets_given-requires : goal.meets_given-requires
meets_given-requires c =
    rw c.meets_equated.ensures.same (record { clause = sorted_are_terms c.args.symbols.now c.args.terms.now c.args.clause.now c.requires.clause })

pub returns-clause-met : goal.returns-clause-met
returns-clause-met c =
    let s = c.args.symbols.now in
    let v = c.args.terms.now in
    if_ok (λ yes. (ps : List (List Term)) (ts : List Term) → ReferToClauses s v c.args.premises.now ps → ReferToAll s v c.args.clause.now ts → IsTrue yes ↔ Denies (GivesOther c.args.uses) ps ts)
    (λ yes. (ps : List (List Term)) (ts : List Term) → ReferToClauses s v c.args.premises.now ps → ReferToAll s v c.args.clause.now ts → IsTrue yes ↔ Denies (GivesPredicate c.args.uses) ps ts)
    c.meets_given.result
    (λ yes h ps ts premises clause.
    second_denies c.args.uses yes ps ts (λ first. let clash = sym c.if-branch.false ∙ (c.in_ok-meets_equated.ensures.met ps ts premises clause).1 first in absurd cc) (h ps ts premises clause))
    (rw c.meets_equated.ensures.same at c.meets_given.ensures.met)
