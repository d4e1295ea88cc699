use Rattle.std.proofs.Common.{arith, ◌∙◌, ap, sym, length, drop}
use Rattle.std.proofs.lemmas.List.{length-map}
use Rattle.term_names.specs.declared.faults.ReadFault.{ReadFault}
use Rattle.term_expansion.specs.declared.values.Value.{Value}
use Rattle.term_names.proofs.LetBinding.{bound-lengths}
use Rattle.term_names.proofs.LetClosing.{leaves-few, bound-known, let-made, let-full}
use Rattle.term_names.proofs.MadeTerms.{handed_on}
use Rattle.term_names.proofs.ValueLists.{greatest-low}
use Rattle.term_names.proofs.lets.close.Goals as goal

pub overflow_add-height : goal.overflow_add-height
overflow_add-height c =
    let low = greatest-low c.args.variables.now.from c.args.variables.now.values.now c.requires.low in
    let e = c.highest_from.ensures in
    let f = c.max-height.ensures in
    let body = c.requires.body_low in
    omega arith

pub let_term-requires-clause-vars : goal.let_term-requires-clause-vars
let_term-requires-clause-vars c =
    let (bs, t, bound, is) = c.requires.bound in
    let few = c.leaves_differ.ensures.few in
    leaves-few _ _ c.args.variables.now.leaves.now _ bs (omega arith) bound

pub let_term-requires-clause-values : goal.let_term-requires-clause-values
let_term-requires-clause-values c =
    let (bs, t, bound, is) = c.requires.bound in
    rw c.terms_from.ensures (bound-known _ _ c.args.variables.now.leaves.now _ bs bound)

pub let_term-requires-clause-one_each : goal.let_term-requires-clause-one_each
let_term-requires-clause-one_each c =
    let (bs, t, bound, is) = c.requires.bound in
    bound-lengths _ _ c.args.variables.now.leaves.now _ bs bound ∙ sym (length-map (drop c.args.variables.now.from c.args.variables.now.values.now) (λ (v : Value). v.term)) ∙ sym (ap length c.terms_from.ensures)

pub returns-clause-makes : goal.returns-clause-makes
returns-clause-makes c =
    λ p bs t bound is same.
    let e = c.highest_from.ensures in
    let f = c.max-height.ensures in
    let-made _ _ c.let_term.new.self c.args.variables.now.leaves.now _ bs p t c.args.body c.args.replaces_lets c.trees_are_built_of_parts.ensures.let_term bound is same
    c.if-replaces_lets.false c.in_ok-term.term _ (rw c.terms_from.ensures at c.in_ok-term.ensures.term) (rw c.terms_from.ensures at c.in_ok-term.ensures.built)
    (omega arith)

pub returns-in_err-term-clause-makes : goal.returns-in_err-term-clause-makes
returns-in_err-term-clause-makes c =
    λ p bs t bound is same.
    let-full _ _ c.let_term.new.self c.args.variables.now.leaves.now _ bs p t c.args.body c.args.replaces_lets c.trees_are_built_of_parts.ensures.let_term bound is same
    c.if-replaces_lets.false c.from_residual.result (rw c.terms_from.ensures at c.in_err-term.ensures.full)
    (handed_on c.from_residual.result ReadFault.PoolFull c.from_residual.ensures.1)
