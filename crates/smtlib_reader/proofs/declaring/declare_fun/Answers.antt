use Rattle.text_items.specs.Stepping.{name_in}
use Rattle.std.proofs.Common.{ℕ, ap, sym, ◌∙◌}
use Rattle.std.proofs.lemmas.Result.{err_from_is_err_and}
use Rattle.sexpr.specs.declared.causes.Cause.TheVariants.{Repeated}
use Rattle.problem_text.specs.Scripts.{is_taken}
use Rattle.text_items.specs.ItemsAt.{item_at, items_at}
use Rattle.smtlib_reader.proofs.FunctionDeclarations.{may_be_declared, function_repeated, arguments_refused, target_refused, function_added}
use Rattle.smtlib_reader.proofs.declaring.declare_fun.Goals as goal

pub returns-then-is_taken-clause-performs : goal.returns-then-is_taken-clause-performs
returns-then-is_taken-clause-performs c = λ v sc is.
    function_repeated c.args.symbols.now v _ _ (name_in c.args.items.now c.args.head.name) (items_at c.args.items.now c.args.head.first c.args.head.end) (item_at c.args.items.now c.args.head.target) sc is
    c.refused.result (sym (c.is_taken.ensures c.args.symbols.now v sc is.idle.script ∙ ap (is_taken sc) c.name_of-spelled.ensures) ∙ c.if-is_taken.true)
    (c.refused.ensures ∙ ap (λ (p : ℕ). record { cause = Repeated; at = p }) c.node-place.ensures.start)

pub returns-in_err-sorts_at-clause-performs : goal.returns-in_err-sorts_at-clause-performs
returns-in_err-sorts_at-clause-performs c = λ v sc is.
    let p = err_from_is_err_and c.from_residual.result c.from_residual.ensures.1 in
    rw (p.1, p.2)
    (arguments_refused c.args.symbols.now v _ _ (name_in c.args.items.now c.args.head.name) (items_at c.args.items.now c.args.head.first c.args.head.end) (item_at c.args.items.now c.args.head.target) sc is
    c.in_err-sorts_at.field-0.0 (sym (c.is_taken.ensures c.args.symbols.now v sc is.idle.script ∙ ap (is_taken sc) c.name_of-spelled.ensures) ∙ c.if-is_taken.false)
    c.in_err-sorts_at.ensures.fault)

pub returns-in_err-sort-clause-performs : goal.returns-in_err-sort-clause-performs
returns-in_err-sort-clause-performs c = λ v sc is.
    let p = err_from_is_err_and c.from_residual-in_err-sort.result c.from_residual-in_err-sort.ensures.1 in
    rw (p.1, p.2)
    (target_refused c.args.symbols.now v _ _ (name_in c.args.items.now c.args.head.name) (items_at c.args.items.now c.args.head.first c.args.head.end) (item_at c.args.items.now c.args.head.target) sc is
    c.sorts_at.new.out.items c.in_err-sort.field-0.0 (sym (c.is_taken.ensures c.args.symbols.now v sc is.idle.script ∙ ap (is_taken sc) c.name_of-spelled.ensures) ∙ c.if-is_taken.false)
    c.in_ok-sorts_at.ensures.sorts (sym c.in_err-sort.ensures))

pub add_function-requires-clause-free : goal.add_function-requires-clause-free
add_function-requires-clause-free c =
    let (v, sc, is) = c.requires.session in
    may_be_declared c.args.symbols.now v _ sc c.name_of-spelled.result.now is (sym (c.is_taken.ensures c.args.symbols.now v sc is.idle.script) ∙ c.if-is_taken.false)

pub returns-clause-performs : goal.returns-clause-performs
returns-clause-performs c = λ v sc is.
    let same = c.name_of-spelled.ensures in
    function_added c.args.symbols.now v _ _ (name_in c.args.items.now c.args.head.name) (items_at c.args.items.now c.args.head.first c.args.head.end) (item_at c.args.items.now c.args.head.target) sc is
    c.add_function.new.symbols c.add_function.new.names.own c.add_function.new.names.scope c.add_function.result c.sorts_at.new.out.items c.in_ok-sort.sort
    (sym (c.is_taken.ensures c.args.symbols.now v sc is.idle.script ∙ ap (is_taken sc) same) ∙ c.if-is_taken.false)
    c.in_ok-sorts_at.ensures.sorts (sym c.in_ok-sort.ensures)
    (rw (sym same, sym c.deref.ensures.value) c.add_function.ensures.added)
    c.add_function.ensures.fault c.add_function.ensures.keeps
    (rw (sym same) c.add_function.ensures.names) c.add_function.ensures.macros c.add_function.ensures.named c.add_function.ensures.scope
