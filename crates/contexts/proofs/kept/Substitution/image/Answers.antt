use Rattle.std.proofs.Common.{◌∙◌, sym, subst}
use Rattle.contexts.specs.Kept.{all_bindings}
use Rattle.contexts.proofs.FoundImages.{IsFoundFor, first_found, found_refers, found_where}
use Rattle.contexts.proofs.kept.Substitution.image.Goals as goal

pub returns-clause-image : goal.returns-clause-image
returns-clause-image c v x q here stand =
    let found = c.copied.ensures ∙ c.get.ensures.value ∙ c.requires.right.images c.args.variable in
    found_refers _ v q x c.copied.result
    (subst (IsFoundFor c.args.symbols.now v q x) (sym found) (first_found _ c.leaves_differ.ensures.table v c.args.variable x here (all_bindings c.args.self.now) q stand))

pub returns-clause-replaced : goal.returns-clause-replaced
returns-clause-replaced c v x q here stand =
    let found = c.copied.ensures ∙ c.get.ensures.value ∙ c.requires.right.images c.args.variable in
    found_where c.args.symbols.now v q x c.copied.result
    (subst (IsFoundFor c.args.symbols.now v q x) (sym found) (first_found _ c.leaves_differ.ensures.table v c.args.variable x here (all_bindings c.args.self.now) q stand))
