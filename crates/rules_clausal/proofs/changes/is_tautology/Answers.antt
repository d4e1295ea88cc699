use Rattle.std.proofs.Common.{arith}
use Rattle.term_model.specs.declared.symbols.Op.{Op}
use Rattle.schema_match.proofs.StepLemmas.{one_is_it}
use Rattle.rules_clausal.proofs.OppositeLemmas.{many_are_not_true, other_is_not_true, tautology_is}
use Rattle.schema_match.proofs.OverLemmas.{so_many, not_so_many}
use Rattle.rules_clausal.proofs.changes.is_tautology.Goals as goal

pub returns-in_default-2-clause-tautology : goal.returns-in_default-2-clause-tautology
returns-in_default-2-clause-tautology c ps ts premise clause =
    many_are_not_true c.args.symbols.now c.args.terms.now c.args.clause.now ps ts (λ e. let h = c.in_default.len_at_least in absurd (omega arith)) clause

pub returns-then-ne-clause-tautology : goal.returns-then-ne-clause-tautology
returns-then-ne-clause-tautology c ps ts premise clause =
    let s = c.args.symbols.now in
    let v = c.args.terms.now in
    let r = c.literal-item.result in
    other_is_not_true s v c.args.clause.now r ps ts (one_is_it c.args.clause.now r c.in-len1.len_at_least c.in-len1.len_below c.literal-item.is) clause
    (not_so_many s v r 0 Op.True c.over.result c.over.ensures.over c.over.ensures.other c.if-ne.ensures)

pub returns-clause-tautology : goal.returns-clause-tautology
returns-clause-tautology c ps ts premise clause =
    let s = c.args.symbols.now in
    let v = c.args.terms.now in
    let r = c.literal-item.result in
    tautology_is s v c.args.clause.now r ps ts c.has_opposites.result (one_is_it c.args.clause.now r c.in-len1.len_at_least c.in-len1.len_below c.literal-item.is) clause
    (so_many s v r 0 Op.True c.over.result c.over.ensures.over c.if-ne.ensures)
    ((rw c.over.ensures.same at c.has_opposites.ensures.opposites) ps premise)
