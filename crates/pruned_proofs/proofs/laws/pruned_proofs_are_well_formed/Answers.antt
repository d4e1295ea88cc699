-- Item by item.
use Rattle.rule_model.specs.Scopes.{outermost}
use Rattle.pruned_proofs.proofs.Forming.{formed_kept, sorted_kept}
use Rattle.pruned_proofs.proofs.Nested.{reached_nested}
use Rattle.pruned_proofs.proofs.laws.pruned_proofs_are_well_formed.Goals as goal

pub returns-clause-formed : goal.returns-clause-formed
returns-clause-formed c proof from marks formed within outer are = formed_kept marks outermost proof tt (reached_nested proof formed from within outer marks are) formed

pub returns-clause-sorted : goal.returns-clause-sorted
returns-clause-sorted c proof marks sorted = sorted_kept marks outermost proof sorted
