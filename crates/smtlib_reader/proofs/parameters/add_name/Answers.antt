-- The set has the names of the parameters before, and the test for built-in words is the table's.
use Rattle.std.proofs.Common.{◌∙◌, sym}
use Rattle.problem_text.specs.Words.{is_among}
use Rattle.smtlib_reader.proofs.ParameterLists.{built_in, built_so, new_so}
use Rattle.smtlib_reader.proofs.parameters.add_name.Goals as goal

pub returns-then-is_built_in-clause-free : goal.returns-then-is_built_in-clause-free
returns-then-is_built_in-clause-free c = λ names are.
    built_so _ (is_among names c.args.name.now) (sym c.if-is_built_in.true ∙ built_in c.is_built_in.result c.args.name.now c.is_built_in.ensures)

pub returns-clause-free : goal.returns-clause-free
returns-clause-free c = λ names are.
    new_so _ _ (is_among names c.args.name.now) c.in_ok-is_new.is_new (sym c.if-is_built_in.false ∙ built_in c.is_built_in.result c.args.name.now c.is_built_in.ensures)
    (are c.args.name.now) c.in_ok-is_new.ensures.added
