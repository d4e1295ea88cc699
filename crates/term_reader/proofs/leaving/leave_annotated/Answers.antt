-- The names are given to the term, or the first that is taken is refused.
use Rattle.std.proofs.lemmas.Result.{err_from_is_err_and}
use Rattle.term_names.specs.Scope.{all_names}
use Rattle.term_reader.proofs.LeavingAnnotated.{names_given, names_refused}
use Rattle.term_reader.proofs.leaving.leave_annotated.Goals as goal

pub returns-in_err-give_names-clause-leaves : goal.returns-in_err-give_names-clause-leaves
returns-in_err-give_names-clause-leaves c = λ g h.
    let p = err_from_is_err_and c.from_residual.result c.from_residual.ensures.1 in
    rw (p.1, p.2)
    (names_refused _ _ _ _ _ _ _ _ h _ c.give_names.ensures.unchanged (all_names c.args.settings.now c.give_names.new.names)
    _ c.in_err-give_names.ensures.given _)

pub returns-clause-leaves : goal.returns-clause-leaves
returns-clause-leaves c = λ g h.
    names_given _ _ _ _ _ _ _ _ h _ c.give_names.ensures.keeps c.give_names.ensures.unchanged (all_names c.args.settings.now c.give_names.new.names)
    c.give_names.ensures.scope c.give_names.ensures.macros c.in_ok-give_names.ensures.given
