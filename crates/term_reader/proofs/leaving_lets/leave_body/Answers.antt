-- The let is whole with its body.
use Rattle.std.proofs.Common.{◌∙◌, ◌-◌, ap, drop}
use Rattle.std.proofs.lemmas.List.{take_rest}
use Rattle.std.proofs.lemmas.Result.{err_from_is_err_and}
use Rattle.term_names.specs.Entries.{EntriesView}
use Rattle.term_names.specs.Known.{base_of}
use Rattle.term_names.specs.Scope.{all_names}
use Rattle.term_reader.specs.ReadingViews.{reader_in}
use Rattle.term_reader.proofs.LeavingBodies.{body_fault, body_refused, body_settled}
use Rattle.term_reader.proofs.leaving_lets.leave_body.Goals as goal

pub returns-in_err-made-clause-leaves : goal.returns-in_err-made-clause-leaves
returns-in_err-made-clause-leaves c = λ items g h.
    let p = err_from_is_err_and c.from_residual.result c.from_residual.ensures.1 in
    let rest = take_rest c.deref.result.now c.args.form.now.leaves ∙ ap (drop c.args.form.now.leaves) c.deref.ensures.value in
    rw (p.1, p.2) (body_fault _ _ _ _ _ _ _ _ h c.close.new.terms c.in_err-made.field-0.0 (_, rest, c.in_err-made.ensures.makes) _)

pub returns-in_err-term-clause-leaves : goal.returns-in_err-term-clause-leaves
returns-in_err-term-clause-leaves c = λ items g h.
    let p = err_from_is_err_and c.from_residual-in_err-term.result c.from_residual-in_err-term.ensures.1 in
    let rest = take_rest c.deref.result.now c.args.form.now.leaves ∙ ap (drop c.args.form.now.leaves) c.deref.ensures.value in
    rw (p.1, p.2)
    (body_refused _ _ _ _ _ _ _ _ h c.close.new.terms c.in_ok-made.made (_, rest, c.in_ok-made.ensures.makes) c.in_err-term.field-0.0 c.in_err-term.ensures _)

pub returns-clause-leaves : goal.returns-clause-leaves
returns-clause-leaves c = λ items g h.
    let rest = take_rest c.deref.result.now c.args.form.now.leaves ∙ ap (drop c.args.form.now.leaves) c.deref.ensures.value in
    body_settled _ _ _ _ _ _ _ _ h
    (record (reader_in c.args.settings.now c.args.reader.now) {
      names = all_names c.args.settings.now c.unbind.new.names;
      values = c.truncate.new.self;
      leaves = c.truncate-2.new.self;
    }) (
      ap (λ (own : EntriesView). record { base = base_of c.args.settings.now.base; own = own }) c.unbind.ensures.own,
      c.unbind.ensures.scope ∙ ap (λ k. drop (k - c.args.form.now.leaves) c.args.reader.now.names.scope) (c.len.ensures ∙ c.args.reader.now.leaves.ok.0),
      c.truncate.ensures,
      c.truncate-2.ensures.items,
    )
    c.close.new.terms c.close.ensures.keeps c.in_ok-made.made (_, rest, c.in_ok-made.ensures.makes) c.in_ok-term.term c.in_ok-term.ensures
