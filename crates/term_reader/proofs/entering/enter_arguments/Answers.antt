-- The application is read as if its form were open.
use Rattle.std.proofs.Common.{◌∙◌, arith, ap, List}
use Rattle.std.proofs.lemmas.Result.{err_from_is_err_and, IfOk-weaker}
use Rattle.term_expansion.specs.declared.values.Value.{Value}
use Rattle.term_pool.proofs.Keeping.{terms-trans}
use Rattle.term_reader.proofs.EnteringTerms.{name_here}
use Rattle.term_reader.proofs.EnteringArguments.{no_arguments, at_some, some_reader, opened_here, opened_inside, opened_few, opened_progress, opened_own, symbol_refused, symbol_forgotten, last_read, last_goes, last_inside, last_few, last_progress, next_argument}
use Rattle.term_reader.proofs.entering.enter_arguments.Goals as goal

pub arguments-init : goal.arguments-init
arguments-init c = no_arguments _ _ _ _ _ _ _

pub symbol_at-requires-clause-there : goal.symbol_at-requires-clause-there
symbol_at-requires-clause-there c = let (g, a) = at_some _ _ _ _ _ _ _ _ _ _ c.arguments.invariant c.requires.at in a.inside

pub returns-in_default-clause-goes : goal.returns-in_default-clause-goes
returns-in_default-clause-goes c g a =
    opened_here _ _ _ _ _ _ _ _ _ _ c.arguments.invariant c.open_form.new.reader c.open_form.result c.open_form.ensures.opened c.open_form.ensures.fault g a

pub returns-in_default-clause-inside : goal.returns-in_default-clause-inside
returns-in_default-clause-inside c =
    let (g, a) = at_some _ _ _ _ _ _ _ _ _ _ c.arguments.invariant c.requires.at in
    opened_inside _ _ _ _ _ _ _ _ _ _ c.arguments.invariant c.open_form.new.reader c.open_form.result c.open_form.ensures.opened a.inside

pub returns-in_default-clause-few : goal.returns-in_default-clause-few
returns-in_default-clause-few c =
    let (g, a) = at_some _ _ _ _ _ _ _ _ _ _ c.arguments.invariant c.requires.at in
    opened_few _ _ _ _ _ _ _ _ _ _ c.arguments.invariant c.open_form.new.reader c.open_form.result c.open_form.ensures.opened a.inside

pub returns-in_default-clause-progress : goal.returns-in_default-clause-progress
returns-in_default-clause-progress c =
    let (g, a) = at_some _ _ _ _ _ _ _ _ _ _ c.arguments.invariant c.requires.at in
    opened_progress _ _ _ _ _ _ _ _ _ _ c.arguments.invariant c.open_form.new.reader c.open_form.result c.open_form.ensures.opened a.inside

pub returns-in_default-clause-keeps : goal.returns-in_default-clause-keeps
returns-in_default-clause-keeps c = c.arguments.invariant.keeps

pub returns-in_default-clause-own : goal.returns-in_default-clause-own
returns-in_default-clause-own c =
    opened_own _ _ _ _ _ _ _ _ _ _ c.arguments.invariant c.open_form.new.reader c.open_form.result c.open_form.ensures.opened

pub symbol_value-requires : goal.symbol_value-requires
symbol_value-requires c = record { reader = some_reader _ _ _ _ _ _ _ _ _ _ c.arguments.invariant c.requires.at }

pub returns-in_err-value-clause-goes : goal.returns-in_err-value-clause-goes
returns-in_err-value-clause-goes c g a =
    let p = err_from_is_err_and c.from_residual.result c.from_residual.ensures.1 in
    rw (p.1, p.2)
    (symbol_refused _ _ _ _ _ _ _ _ _ _ c.arguments.invariant c.in-Some.ensures.0 _
    (name_here c.args.items.now c.arguments.at c.place_at.result c.in-Some.name.now c.place_at.ensures c.in-Some.ensures.1)
    c.symbol_value.new.terms c.symbol_value.ensures.keeps c.in_err-value.field-0.0 _ c.in_err-value.ensures.reads g a)

pub returns-in_err-value-clause-keeps : goal.returns-in_err-value-clause-keeps
returns-in_err-value-clause-keeps c = terms-trans _ _ _ c.arguments.invariant.keeps c.symbol_value.ensures.keeps

pub overflow_add-at : goal.overflow_add-at
overflow_add-at c =
    let (g, a) = at_some _ _ _ _ _ _ _ _ _ _ c.arguments.invariant c.requires.at in
    let inside = a.inside in omega arith

pub leave_arguments-requires : goal.leave_arguments-requires
leave_arguments-requires c =
    let (g, a) = c.requires.at in
    record {
      read = (
        c.args.items.now,
        g,
        last_read _ _ _ _ _ _ _ _ _ _ c.arguments.invariant c.in-Some.ensures.0 _
            (name_here c.args.items.now c.arguments.at c.place_at.result c.in-Some.name.now c.place_at.ensures c.in-Some.ensures.1)
            c.symbol_value.new.terms c.symbol_value.ensures.keeps c.in_ok-value.value c.in_ok-value.ensures.reads c.if-at-form.true g a,
      );
    }

pub returns-then-at-form-clause-goes : goal.returns-then-at-form-clause-goes
returns-then-at-form-clause-goes c g a =
    last_goes _ _ _ _ _ _ _ _ _ _ c.arguments.invariant c.in-Some.ensures.0 _
    (name_here c.args.items.now c.arguments.at c.place_at.result c.in-Some.name.now c.place_at.ensures c.in-Some.ensures.1)
    c.symbol_value.new.terms c.symbol_value.ensures.keeps c.in_ok-value.value c.in_ok-value.ensures.reads c.if-at-form.true
    c.leave_arguments.new.terms _ c.leave_arguments.result c.leave_arguments.ensures.keeps (c.leave_arguments.ensures.leaves c.args.items.now) g a

pub returns-then-at-form-clause-inside : goal.returns-then-at-form-clause-inside
returns-then-at-form-clause-inside c =
    let (g, a) = c.requires.at in
    let inside = (c.arguments.invariant.goes g a).answer.inside in
    let read = last_read _ _ _ _ _ _ _ _ _ _ c.arguments.invariant c.in-Some.ensures.0 _
    (name_here c.args.items.now c.arguments.at c.place_at.result c.in-Some.name.now c.place_at.ensures c.in-Some.ensures.1)
    c.symbol_value.new.terms c.symbol_value.ensures.keeps c.in_ok-value.value c.in_ok-value.ensures.reads c.if-at-form.true g a in
    last_inside _ _ _ _ _ _ _ _ _ _ c.arguments.invariant c.in-Some.ensures.0 _
    (name_here c.args.items.now c.arguments.at c.place_at.result c.in-Some.name.now c.place_at.ensures c.in-Some.ensures.1)
    c.symbol_value.new.terms c.symbol_value.ensures.keeps c.in_ok-value.value c.in_ok-value.ensures.reads c.if-at-form.true
    inside c.leave_arguments.new.reader c.leave_arguments.result
    ((c.leave_arguments.ensures.leaves c.args.items.now g read).spends (omega arith))

pub returns-then-at-form-clause-few : goal.returns-then-at-form-clause-few
returns-then-at-form-clause-few c =
    let (g, a) = c.requires.at in
    let inside = (c.arguments.invariant.goes g a).answer.inside in
    let read = last_read _ _ _ _ _ _ _ _ _ _ c.arguments.invariant c.in-Some.ensures.0 _
    (name_here c.args.items.now c.arguments.at c.place_at.result c.in-Some.name.now c.place_at.ensures c.in-Some.ensures.1)
    c.symbol_value.new.terms c.symbol_value.ensures.keeps c.in_ok-value.value c.in_ok-value.ensures.reads c.if-at-form.true g a in
    last_few _ _ _ _ _ _ _ _ _ _ c.arguments.invariant c.in-Some.ensures.0 _
    (name_here c.args.items.now c.arguments.at c.place_at.result c.in-Some.name.now c.place_at.ensures c.in-Some.ensures.1)
    c.symbol_value.new.terms c.symbol_value.ensures.keeps c.in_ok-value.value c.in_ok-value.ensures.reads c.if-at-form.true
    inside c.leave_arguments.new.reader c.leave_arguments.result
    ((c.leave_arguments.ensures.leaves c.args.items.now g read).spends (omega arith))

pub returns-then-at-form-clause-progress : goal.returns-then-at-form-clause-progress
returns-then-at-form-clause-progress c =
    let (g, a) = c.requires.at in
    let inside = (c.arguments.invariant.goes g a).answer.inside in
    let read = last_read _ _ _ _ _ _ _ _ _ _ c.arguments.invariant c.in-Some.ensures.0 _
    (name_here c.args.items.now c.arguments.at c.place_at.result c.in-Some.name.now c.place_at.ensures c.in-Some.ensures.1)
    c.symbol_value.new.terms c.symbol_value.ensures.keeps c.in_ok-value.value c.in_ok-value.ensures.reads c.if-at-form.true g a in
    last_progress _ _ _ _ _ _ _ _ _ _ c.arguments.invariant c.in-Some.ensures.0 _
    (name_here c.args.items.now c.arguments.at c.place_at.result c.in-Some.name.now c.place_at.ensures c.in-Some.ensures.1)
    c.symbol_value.new.terms c.symbol_value.ensures.keeps c.in_ok-value.value c.in_ok-value.ensures.reads c.if-at-form.true
    inside c.leave_arguments.new.reader c.leave_arguments.result
    ((c.leave_arguments.ensures.leaves c.args.items.now g read).spends (omega arith))

pub returns-then-at-form-clause-keeps : goal.returns-then-at-form-clause-keeps
returns-then-at-form-clause-keeps c =
    terms-trans _ _ _ (terms-trans _ _ _ c.arguments.invariant.keeps c.symbol_value.ensures.keeps) c.leave_arguments.ensures.keeps

pub returns-then-at-form-clause-own : goal.returns-then-at-form-clause-own
returns-then-at-form-clause-own c =
    IfOk-weaker c.leave_arguments.result _ _ (λ t same. same ∙ c.arguments.invariant.own) c.leave_arguments.ensures.own

pub returns-in_err-push-clause-goes : goal.returns-in_err-push-clause-goes
returns-in_err-push-clause-goes c g a =
    let p = err_from_is_err_and c.from_residual-in_err-push.result c.from_residual-in_err-push.ensures.1 in
    rw (p.1, p.2)
    (symbol_forgotten _ _ _ _ _ _ _ _ _ _ c.arguments.invariant c.in-Some.ensures.0 _
    (name_here c.args.items.now c.arguments.at c.place_at.result c.in-Some.name.now c.place_at.ensures c.in-Some.ensures.1)
    c.symbol_value.new.terms c.symbol_value.ensures.keeps c.in_ok-value.value c.in_ok-value.ensures.reads _ g a)

pub returns-in_err-push-clause-keeps : goal.returns-in_err-push-clause-keeps
returns-in_err-push-clause-keeps c = terms-trans _ _ _ c.arguments.invariant.keeps c.symbol_value.ensures.keeps

pub overflow_add-at-in-arguments : goal.overflow_add-at-in-arguments
overflow_add-at-in-arguments c =
    let (g, a) = at_some _ _ _ _ _ _ _ _ _ _ c.arguments.invariant c.requires.at in
    let inside = a.inside in omega arith

pub arguments-smaller : goal.arguments-smaller
arguments-smaller c =
    let (g, a) = at_some _ _ _ _ _ _ _ _ _ _ c.arguments.invariant c.requires.at in
    let inside = a.inside in omega arith

pub arguments-preserved : goal.arguments-preserved
arguments-preserved c =
    next_argument _ _ _ _ _ _ _ _ _ _ c.arguments.invariant c.in-Some.ensures.0 _
    (name_here c.args.items.now c.arguments.at c.place_at.result c.in-Some.name.now c.place_at.ensures c.in-Some.ensures.1)
    c.symbol_value.new.terms c.symbol_value.ensures.keeps c.in_ok-value.value c.in_ok-value.ensures.reads _
    c.if-at-form.false (ap (λ (values : List Value). record c.arguments.reader { values = values }) c.in_ok-push.ensures.pushed)
