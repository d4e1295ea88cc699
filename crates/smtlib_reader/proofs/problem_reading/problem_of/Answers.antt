-- The problem's parts are those that the session had.
use Rattle.std.proofs.Common.{◌∙◌, ap}
use Rattle.term_names.specs.Known.{base_of}
use Rattle.term_names.specs.Scope.{OwnNames, known_in}
use Rattle.smtlib_reader.proofs.KeptEntries.{script_of_own}
use Rattle.smtlib_reader.proofs.problem_reading.problem_of.Goals as goal

pub returns : goal.returns
returns c = λ e s v sc none is.
    let own = c.into_own.ensures ∙ ap (λ (n : OwnNames). n.own) c.replace-names.ensures.value in
    rw (c.new-3.ensures, c.replace-assertions.ensures.value)
    (record {
      script = script_of_own s v (known_in e c.args.session.now.reader.names) c.into_own.result sc (ap base_of none) own is.idle.script;
      assertions = is.assertions;
    })
