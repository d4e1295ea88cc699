use Rattle.std.proofs.Common.{refl}
use Rattle.std.proofs.lemmas.Result.{err_from_is_err_and}
use Rattle.term_model.specs.declared.symbols.Sort.{Sort}
use Rattle.text_items.specs.ItemsAt.{item_at}
use Rattle.smtlib_reader.specs.Sessions.{top}
use Rattle.term_reader.specs.ReadingViews.{reader_in}
use Rattle.smtlib_reader.proofs.AssertedTerms.{asserting, asserted, is_asserted}
use Rattle.smtlib_reader.proofs.JudgedTerms.{no_term, out_of_memory, other_sort}
use Rattle.term_reader.proofs.Coming.{same_outcome}
use Rattle.smtlib_reader.proofs.asserting.assert_term.Goals as goal

pub returns-in_err-value-clause-performs : goal.returns-in_err-value-clause-performs
returns-in_err-value-clause-performs c = λ sc session.
    let i = item_at c.args.items.now c.args.term in
    let b = c.args.settings.now.replaces_lets in
    let p = err_from_is_err_and c.from_residual.result c.from_residual.ensures.1 in
    rw (p.1, p.2) (same_outcome (asserted b i sc) (no_term Sort.Bool i asserting (λ t q. refl) (c.in_err-value.ensures.reads sc (top b) session.idle)))

pub returns-in_err-expect_sort-clause-performs : goal.returns-in_err-expect_sort-clause-performs
returns-in_err-expect_sort-clause-performs c = λ sc session.
    let i = item_at c.args.items.now c.args.term in
    let b = c.args.settings.now.replaces_lets in
    let p = err_from_is_err_and c.from_residual-in_err-expect_sort.result c.from_residual-in_err-expect_sort.ensures.1 in
    rw (p.1, p.2)
    (same_outcome (asserted b i sc)
    (other_sort Sort.Bool i asserting (λ t q. refl) (λ c t q m. m.is.sort) (c.in_ok-value.ensures.reads sc (top b) session.idle) c.in_err-expect_sort.ensures))

pub returns-in_err-push-clause-performs : goal.returns-in_err-push-clause-performs
returns-in_err-push-clause-performs c = λ sc session.
    let i = item_at c.args.items.now c.args.term in
    let b = c.args.settings.now.replaces_lets in
    let p = err_from_is_err_and c.from_residual-in_err-push.result c.from_residual-in_err-push.ensures.1 in
    rw (p.1, p.2) (same_outcome (asserted b i sc) (out_of_memory Sort.Bool i asserting (λ t q. refl) (c.in_ok-value.ensures.reads sc (top b) session.idle)))

pub returns-clause-performs : goal.returns-clause-performs
returns-clause-performs c = λ sc session.
    let i = item_at c.args.items.now c.args.term in
    is_asserted i sc (reader_in c.args.settings.now c.read.new.reader) _ c.push.new.self session (c.in_ok-value.ensures.reads sc (top c.args.settings.now.replaces_lets) session.idle) c.read.ensures.grow c.in_ok-expect_sort.ensures c.in_ok-push.ensures.items
