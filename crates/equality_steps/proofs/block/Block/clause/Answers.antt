use Rattle.std.proofs.Common.{◌≡◌, List, length, get_or, sym, ◌∙◌, ap, subst}
use Rattle.elaborator.specs.Sources.{linked_clause}
use Rattle.proof_store.specs.AddedSteps.{AddedStep}
use Rattle.equality_steps.specs.Links.{IsLinkAt}
use Rattle.equality_steps.proofs.LawLemmas.{premise_command}
use Rattle.equality_steps.proofs.StepLemmas.{clause_there}
use Rattle.equality_steps.proofs.block.Block.clause.Goals as goal

pub clause-requires : goal.clause-requires
clause-requires c =
    premise_command c.args.at.now.proof.now c.args.at.now.command c.in-Old.command c.count-commands.ensures.well_formed
    (subst (IsLinkAt c.args.at.now (length c.args.self.now)) c.in-Old.is c.requires.link)

pub returns-in-New : goal.returns-in-New
returns-in-New c =
    let below = subst (IsLinkAt c.args.at.now (length c.args.self.now)) c.in-New.is c.requires.link in
    let there = subst (λ (xs : List AddedStep). c.index.result.now ≡ get_or xs c.in-New.number c.index.result.now) c.self.view_is c.index.ensures in
    let clause = clause_there c.args.at.now.proof.now c.args.self.now c.in-New.number c.index.result.now below there in
    c.deref.ensures.value
    ∙ (ap (λ (x : AddedStep). x.clause) c.behind-self.view_is
    ∙ sym (subst (λ k. linked_clause c.args.at.now.proof.now c.args.self.now k ≡ c.index.result.now.clause) (sym c.in-New.is) clause))
