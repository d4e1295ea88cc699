-- The assertions of a script are closed terms of Bool.
use Rattle.std.proofs.Common.{List, [], ◌∷◌}
use Rattle.std.specs.List.{AllByRecursion}
use Rattle.term_model.specs.declared.symbols.Sort.{Sort}
use Rattle.term_model.specs.FreeVariables.{IsClosed}
use Rattle.term_model.specs.Terms.{Term}
use Rattle.problem_text.specs.Soundness.{IsRead}
use Rattle.rule_model.specs.Scopes.{outermost}
use Rattle.rule_model.specs.Truth.{IsLiteralIn}

pub closed_truths : (ts : List Term) → AllByRecursion (λ t. IsRead (record { tree = t; sort = Sort.Bool })) ts → AllByRecursion IsClosed ts
    → AllByRecursion (IsLiteralIn outermost) ts
closed_truths [] truths closed = tt
closed_truths (t ∷ ts) truths closed =
    (record { sort = truths.0.sorted; closed = λ x free. absurd (closed.0 x free) }, closed_truths ts truths.1 closed.1)
