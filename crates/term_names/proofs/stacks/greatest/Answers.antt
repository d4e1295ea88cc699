-- The greatest is a bound, and it is reached.
use Rattle.std.proofs.Common.{refl, arith, rules}
use Rattle.std.proofs.lemmas.Grind.{common_steps}
use Rattle.std.proofs.lemmas.List.Recursion.{max_bounds, max_least}
use Rattle.term_names.specs.Stacks.{greatest}
use Rattle.term_names.proofs.stacks.greatest.Goals as goal

pub returns : goal.returns
returns c =
    let bounds = max_bounds greatest (λ x. x) refl (λ _ _. refl) c.args.numbers.now in
    let least = max_least greatest (λ x. x) refl (λ _ _. refl) c.args.numbers.now 0 c.unwrap_or.result (search rules) in
    grind (arith, common_steps, bounds, least)
