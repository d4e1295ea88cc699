use Rattle.std.proofs.Common.{arith}
use Rattle.std.proofs.lemmas.Result.{IfOk-weaker}
use Rattle.rules_clausal.specs.Changes.{relation_of}
use Rattle.rules_clausal.specs.declared.changes.Change.{Change}
use Rattle.rules_clausal.proofs.ChangeLemmas.{no_change, one_change, weakened, contracted, reordered}
use Rattle.schema_match.proofs.StepLemmas.{one_is_it}
use Rattle.rules_clausal.proofs.changes.meets_change.Goals as goal

pub returns-in_default-2-clause-meets : goal.returns-in_default-2-clause-meets
returns-in_default-2-clause-meets c ps ts premises clause =
    no_change c.args.symbols.now c.args.terms.now (relation_of c.args.change) c.args.premises.now ps ts (λ e. let h = c.in_default.len_at_least in absurd (omega arith)) premises

pub returns-in-Contraction-clause-meets : goal.returns-in-Contraction-clause-meets
returns-in-Contraction-clause-meets c =
    let s = c.args.symbols.now in
    let v = c.args.terms.now in
    let one = c.equal_exactly_where_terms_are.ensures s c.leaves_differ.ensures.table in
    rw c.in-Contraction.is
    (IfOk-weaker c.contracts.result _ _ (λ b test ps ts premises clause.
    one_change s v (relation_of Change.Contraction) c.premise-item.result c.args.premises.now ps ts b (one_is_it c.args.premises.now c.premise-item.result c.in-len1.len_at_least c.in-len1.len_below c.premise-item.is)
    (λ p premise. contracted s v one c.premise-item.result.now c.args.clause.now p ts premise clause b test) premises) c.contracts.ensures)

pub returns-in-Reordering-clause-meets : goal.returns-in-Reordering-clause-meets
returns-in-Reordering-clause-meets c =
    let s = c.args.symbols.now in
    let v = c.args.terms.now in
    let one = c.equal_exactly_where_terms_are.ensures s c.leaves_differ.ensures.table in
    rw c.in-Reordering.is
    (IfOk-weaker c.reorders.result _ _ (λ b test ps ts premises clause.
    one_change s v (relation_of Change.Reordering) c.premise-item.result c.args.premises.now ps ts b (one_is_it c.args.premises.now c.premise-item.result c.in-len1.len_at_least c.in-len1.len_below c.premise-item.is)
    (λ p premise. reordered s v one c.premise-item.result.now c.args.clause.now p ts premise clause b test) premises) c.reorders.ensures)

pub returns-in-Weakening-clause-meets : goal.returns-in-Weakening-clause-meets
returns-in-Weakening-clause-meets c =
    let s = c.args.symbols.now in
    let v = c.args.terms.now in
    let one = c.equal_exactly_where_terms_are.ensures s c.leaves_differ.ensures.table in
    rw c.in-Weakening.is
    (IfOk-weaker c.weakens.result _ _ (λ b test ps ts premises clause.
    one_change s v (relation_of Change.Weakening) c.premise-item.result c.args.premises.now ps ts b (one_is_it c.args.premises.now c.premise-item.result c.in-len1.len_at_least c.in-len1.len_below c.premise-item.is)
    (λ p premise. weakened s v one c.premise-item.result.now c.args.clause.now p ts premise clause b test) premises) c.weakens.ensures)

pub returns-in-Tautology-clause-meets : goal.returns-in-Tautology-clause-meets
returns-in-Tautology-clause-meets c =
    let s = c.args.symbols.now in
    let v = c.args.terms.now in
    rw c.in-Tautology.is
    (IfOk-weaker c.is_tautology.result _ _ (λ b test ps ts premises clause.
    one_change s v (relation_of Change.Tautology) c.premise-item.result c.args.premises.now ps ts b (one_is_it c.args.premises.now c.premise-item.result c.in-len1.len_at_least c.in-len1.len_below c.premise-item.is)
    (λ p premise. test p ts premise clause) premises) c.is_tautology.ensures.tautology)
