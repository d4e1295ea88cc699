-- The pair is a symbol and a sort.
use Rattle.std.proofs.Common.{◌≡◌, ◌∙◌, ◌∷◌, arith, Err, Ok, subst, rules}
use Rattle.text_items.specs.ItemsAt.{item_at}
use Rattle.problem_text.specs.Sorts.{parameter_from}
use Rattle.smtlib_reader.specs.Parameters.{AreKeysOf}
use Rattle.smtlib_reader.proofs.ParameterLists.{pair_fits, is_free}
use Rattle.smtlib_reader.proofs.parameters.parameter_at.Goals as goal

pub returns-in_err-sort : goal.returns-in_err-sort
returns-in_err-sort c = λ names are.
    let fit = pair_fits (item_at c.args.items.now c.args.k) _ _ _ c.requires.pair (c.node-pair.ensures.children ∙ c.in-Some.ensures.split) in
    let e : parameter_from c.args.symbols.now.sorts names (item_at c.args.items.now c.args.k) ≡ Err c.in_err-sort.field-0.0 =
    is_free c.args.symbols.now.sorts names _ _ _ _ _ fit.1 c.name_of-name.result.now c.name_of-name.ensures
    c.in_ok-add_name.field-0 c.if-not-branch.false (c.in_ok-add_name.ensures.free names are) (Err c.in_err-sort.field-0.0) c.in_err-sort.ensures in
    search rules

pub returns : goal.returns
returns c = λ names are.
    let fit = pair_fits (item_at c.args.items.now c.args.k) _ _ _ c.requires.pair (c.node-pair.ensures.children ∙ c.in-Some.ensures.split) in (
      rw c.name_of-name.ensures at
          (is_free c.args.symbols.now.sorts names _ _ _ _ _ fit.1 c.name_of-name.result.now c.name_of-name.ensures
          c.in_ok-add_name.field-0 c.if-not-branch.false (c.in_ok-add_name.ensures.free names are) (Ok c.in_ok-sort.sort) c.in_ok-sort.ensures),
      record { inside = omega (arith, c.in-Some.ensures.later, c.in-Some.ensures.less, c.node-pair.ensures.inside); symbol = fit.0 },
      subst (λ n. AreKeysOf c.add_name.new.earlier.keys (n ∷ names)) c.name_of-name.ensures (c.in_ok-add_name.ensures.added names are c.if-not-branch.false),
    )
