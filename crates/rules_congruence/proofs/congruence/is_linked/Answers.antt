use Rattle.std.proofs.Common.{◌↔◌, ◌∙◌, inl, inr, ⊎_elim, sym, refl, List, IsTrue}
use Rattle.rule_model.specs.Congruence.{IsLinked, AreSides}
use Rattle.term_model.specs.Flips.{EqualUpToFlips}
use Rattle.term_model.specs.Terms.{Term}
use Rattle.term_pool.specs.Views.{RefersTo}
use Rattle.rules_congruence.specs.Links.{TellsSides}
use Rattle.rules_congruence.proofs.Options.{if_ok}
use Rattle.rules_congruence.proofs.congruence.is_linked.Goals as goal

pub returns-then-has-clause-linked : goal.returns-then-has-clause-linked
returns-then-has-clause-linked c ps t u tells left right =
    (λ e. inr ((tells c.args.left c.args.right t u left right).0 (c.has.ensures.0 c.if-has.true)), λ h. refl)

pub returns-clause-linked : goal.returns-clause-linked
returns-clause-linked c =
    if_ok (λ yes. (t u : Term) → RefersTo c.args.symbols.now c.args.terms.now c.args.left t → RefersTo c.args.symbols.now c.args.terms.now c.args.right u → IsTrue yes ↔ EqualUpToFlips t u)
    (λ yes. (ps : List (List Term)) (t u : Term) → TellsSides c.args.symbols.now c.args.terms.now c.args.links.now ps → RefersTo c.args.symbols.now c.args.terms.now c.args.left t → RefersTo c.args.symbols.now c.args.terms.now c.args.right u → IsTrue yes ↔ IsLinked ps t u)
    c.same_up_to_flips.result
    (λ yes h ps t u tells left right. (
      λ e. inl ((h t u left right).0 e),
      ⊎_elim (λ (flips : EqualUpToFlips t u). (h t u left right).1 flips)
          (λ (sides : AreSides ps t u). absurd (let clash = sym c.if-has.false ∙ c.has.ensures.1 ((tells c.args.left c.args.right t u left right).1 sides) in cc)),
    ))
    c.same_up_to_flips.ensures.same
