use Rattle.text_items.specs.Stepping.{name_in}
use Rattle.std.proofs.Common.{◌∙◌, true, ap, sym, ℕ}
use Rattle.std.proofs.lemmas.Result.{err_from_is_err_and}
use Rattle.sexpr.specs.declared.causes.Cause.TheVariants.{Repeated}
use Rattle.problem_text.specs.Scripts.{is_taken, with_name}
use Rattle.text_items.specs.ItemsAt.{item_at, items_at}
use Rattle.smtlib_reader.specs.Parameters.{parameters_said}
use Rattle.smtlib_reader.proofs.DefinedFunctions.{name_taken, signature_fails, is_defining, is_performed}
use Rattle.smtlib_reader.proofs.defining.define_fun.Goals as goal

pub returns-then-is_taken-clause-performs : goal.returns-then-is_taken-clause-performs
returns-then-is_taken-clause-performs c = λ sc session.
    name_taken _ (name_in c.args.items.now c.args.definition.head.name) (items_at c.args.items.now c.args.definition.head.first c.args.definition.head.end)
    (item_at c.args.items.now c.args.definition.head.target) (item_at c.args.items.now c.args.definition.body) sc c.refused.result
    (sym (c.is_taken.ensures _ _ sc session.idle.script ∙ ap (is_taken sc) c.name_of-spelled.ensures) ∙ c.if-is_taken.true)
    (c.refused.ensures ∙ ap (λ (p : ℕ). record { cause = Repeated; at = p }) c.node-place.ensures.start)

pub returns-in_err-sort-clause-performs : goal.returns-in_err-sort-clause-performs
returns-in_err-sort-clause-performs c = λ sc session.
    let free = sym (c.is_taken.ensures _ _ sc session.idle.script ∙ ap (is_taken sc) c.name_of-spelled.ensures) ∙ c.if-is_taken.false in
    let p = err_from_is_err_and c.from_residual-in_err-sort.result c.from_residual-in_err-sort.ensures.1 in
    rw (p.1, p.2)
    (signature_fails _ (name_in c.args.items.now c.args.definition.head.name) (items_at c.args.items.now c.args.definition.head.first c.args.definition.head.end)
    (item_at c.args.items.now c.args.definition.head.target) (item_at c.args.items.now c.args.definition.body) sc _ session free c.args.items.now c.args.definition.head.end
    c.signature_at.new.parameters.items c.in_err-sort.field-0.0 c.in_err-sort.ensures)

pub define_macro-requires-clause-defining : goal.define_macro-requires-clause-defining
define_macro-requires-clause-defining c =
    let (sc, session) = c.requires.session in
    let n = name_in c.args.items.now c.args.definition.head.name in
    let same = c.name_of-spelled.ensures in
    let free = sym (c.is_taken.ensures _ _ sc session.idle.script ∙ ap (is_taken sc) same) ∙ c.if-is_taken.false in (
      with_name n.name sc,
      is_defining true n (items_at c.args.items.now c.args.definition.head.first c.args.definition.head.end) (item_at c.args.items.now c.args.definition.head.target)
          (item_at c.args.items.now c.args.definition.body) sc _ session free _ _ c.name_of-spelled.result.now same
          (record { names = c.in_ok-reserve.ensures.names; macros = c.reserve.ensures.macros; named = c.reserve.ensures.named }) c.reserve.ensures.scope,
    )

pub returns-clause-performs : goal.returns-clause-performs
returns-clause-performs c = λ sc session.
    let n = name_in c.args.items.now c.args.definition.head.name in
    let pairs = items_at c.args.items.now c.args.definition.head.first c.args.definition.head.end in
    let target = item_at c.args.items.now c.args.definition.head.target in
    let value = item_at c.args.items.now c.args.definition.body in
    let same = c.name_of-spelled.ensures in
    let free = sym (c.is_taken.ensures _ _ sc session.idle.script ∙ ap (is_taken sc) same) ∙ c.if-is_taken.false in
    let defining = is_defining true n pairs target value sc _ session free _ _ c.name_of-spelled.result.now same
    (record { names = c.in_ok-reserve.ensures.names; macros = c.reserve.ensures.macros; named = c.reserve.ensures.named }) c.reserve.ensures.scope in
    is_performed _ n pairs target value sc _ session free _ c.name_of-spelled.result.now (parameters_said c.args.items.now c.signature_at.new.parameters.items) c.in_ok-sort.sort _ same
    c.in_ok-sort.ensures.0 c.define_macro.ensures.grow.symbols.keeps c.define_macro.ensures.grow.terms
    (rw c.deref.ensures.value at (c.define_macro.ensures.defines (with_name n.name sc) defining))
