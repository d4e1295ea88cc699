use Rattle.std.proofs.Common.{refl}
use Rattle.std.proofs.lemmas.Result.{err_from_is_err_and}
use Rattle.text_items.specs.ItemsAt.{item_at}
use Rattle.smtlib_reader.specs.Parameters.{parameters_said}
use Rattle.smtlib_reader.proofs.DefinedBodies.{entered_grows}
use Rattle.smtlib_reader.proofs.DefinedCommands.{with_body, is_defined}
use Rattle.smtlib_reader.proofs.JudgedTerms.{no_term, out_of_memory, other_sort}
use Rattle.term_reader.specs.ReadingViews.{reader_in}
use Rattle.smtlib_reader.proofs.defining.define_macro.Goals as goal

pub read_body-requires-clause-ready : goal.read_body-requires-clause-ready
read_body-requires-clause-ready c =
    let (sc, d) = c.requires.defining in
    (parameters_said c.args.items.now c.args.new.now.parameters.now, sc, (c.in_ok-listed.ensures.entered _ sc d.idle).1)

pub returns-in_err-value-clause-defines : goal.returns-in_err-value-clause-defines
returns-in_err-value-clause-defines c = λ sc d.
    let xs = parameters_said c.args.items.now c.args.new.now.parameters.now in
    let p = err_from_is_err_and c.from_residual-in_err-value.result c.from_residual-in_err-value.ensures.1 in
    rw (p.1, p.2)
    (no_term c.args.new.now.target (item_at c.args.items.now c.args.new.now.body) (with_body c.args.new.now.name.now xs c.args.new.now.target) (λ t q. refl)
    (c.in_err-value.ensures.reads xs sc (c.in_ok-listed.ensures.entered _ sc d.idle).1))

pub returns-in_err-expect_sort-clause-defines : goal.returns-in_err-expect_sort-clause-defines
returns-in_err-expect_sort-clause-defines c = λ sc d.
    let xs = parameters_said c.args.items.now c.args.new.now.parameters.now in
    let p = err_from_is_err_and c.from_residual-in_err-expect_sort.result c.from_residual-in_err-expect_sort.ensures.1 in
    rw (p.1, p.2)
    (other_sort c.args.new.now.target (item_at c.args.items.now c.args.new.now.body) (with_body c.args.new.now.name.now xs c.args.new.now.target) (λ t q. refl) (λ c t q m. m.is.sort)
    (c.in_ok-value.ensures.reads xs sc (c.in_ok-listed.ensures.entered _ sc d.idle).1) c.in_err-expect_sort.ensures)

pub returns-in_err-define-clause-defines : goal.returns-in_err-define-clause-defines
returns-in_err-define-clause-defines c = λ sc d.
    let xs = parameters_said c.args.items.now c.args.new.now.parameters.now in
    let p = err_from_is_err_and c.from_residual-in_err-define.result c.from_residual-in_err-define.ensures.1 in
    rw (p.1, p.2)
    (out_of_memory c.args.new.now.target (item_at c.args.items.now c.args.new.now.body) (with_body c.args.new.now.name.now xs c.args.new.now.target) (λ t q. refl)
    (c.in_ok-value.ensures.reads xs sc (c.in_ok-listed.ensures.entered _ sc d.idle).1))

pub returns-clause-defines : goal.returns-clause-defines
returns-clause-defines c = λ sc d.
    let xs = parameters_said c.args.items.now c.args.new.now.parameters.now in
    let entered = c.in_ok-listed.ensures.entered _ sc d.idle in
    is_defined c.args.new.now.name.now xs c.args.new.now.target (item_at c.args.items.now c.args.new.now.body) sc (reader_in c.args.settings.now c.read_body.new.reader) _ _ c.in_ok-listed.listed d.reserved
    (c.in_ok-value.ensures.reads xs sc entered.1) entered.0 c.read_body.ensures.grow.symbols.keeps c.in_ok-expect_sort.ensures
    (record { names = c.in_ok-define.ensures.names; macros = c.in_ok-define.ensures.macros; named = c.define.ensures.named }) c.define.ensures.scope

pub returns-in_err-value-clause-grow : goal.returns-in_err-value-clause-grow
returns-in_err-value-clause-grow c = entered_grows _ _ _ _ _ c.enter_parameters.ensures.symbols c.read_body.ensures.grow

pub returns-in_err-expect_sort-clause-grow : goal.returns-in_err-expect_sort-clause-grow
returns-in_err-expect_sort-clause-grow c = entered_grows _ _ _ _ _ c.enter_parameters.ensures.symbols c.read_body.ensures.grow

pub returns-in_err-define-clause-grow : goal.returns-in_err-define-clause-grow
returns-in_err-define-clause-grow c = entered_grows _ _ _ _ _ c.enter_parameters.ensures.symbols c.read_body.ensures.grow

pub returns-clause-grow : goal.returns-clause-grow
returns-clause-grow c = entered_grows _ _ _ _ _ c.enter_parameters.ensures.symbols c.read_body.ensures.grow
