use Rattle.std.proofs.Common.{◌↔◌, ◌∙◌, sym, List, IsTrue}
use Rattle.rule_model.specs.Congruence.{IsLinked}
use Rattle.term_model.specs.Terms.{Term}
use Rattle.term_pool.specs.Views.{RefersTo}
use Rattle.rules_congruence.specs.Links.{TellsSides}
use Rattle.rules_congruence.proofs.Options.{if_ok}
use Rattle.rules_congruence.proofs.congruence.are_crosswise.Goals as goal
use Rattle.term_parts.proofs.PartLemmas.{false_is}

pub returns-then-not-branch-clause-linked : goal.returns-then-not-branch-clause-linked
returns-then-not-branch-clause-linked c ps a b x d tells one two three four =
    false_is (λ h. let clash = sym c.if-not-branch.true ∙ (c.in_ok-is_linked.ensures.linked ps a d tells one four).1 h.0 in cc)

pub returns-clause-linked : goal.returns-clause-linked
returns-clause-linked c =
    if_ok (λ yes. (ps : List (List Term)) (t u : Term) → TellsSides c.args.symbols.now c.args.terms.now c.args.links.now ps → RefersTo c.args.symbols.now c.args.terms.now c.args.left.1 t → RefersTo c.args.symbols.now c.args.terms.now c.args.right.0 u → IsTrue yes ↔ IsLinked ps t u)
    (λ yes. (ps : List (List Term)) (a b x d : Term) → TellsSides c.args.symbols.now c.args.terms.now c.args.links.now ps → RefersTo c.args.symbols.now c.args.terms.now c.args.left.0 a → RefersTo c.args.symbols.now c.args.terms.now c.args.left.1 b → RefersTo c.args.symbols.now c.args.terms.now c.args.right.0 x → RefersTo c.args.symbols.now c.args.terms.now c.args.right.1 d → IsTrue yes ↔ (IsLinked ps a d × IsLinked ps b x))
    c.is_linked-2.result
    (λ yes h ps a b x d tells one two three four. (
      λ e. ((c.in_ok-is_linked.ensures.linked ps a d tells one four).0 c.if-not-branch.false, (h ps b x tells two three).0 e),
      λ both. (h ps b x tells two three).1 both.1,
    ))
    (rw c.is_linked.ensures.same at c.is_linked-2.ensures.linked)
