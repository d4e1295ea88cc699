-- A command is reached where the commands before it are written, and the next index there is how many these are.
use Rattle.std.proofs.Common.{length, sym, ◌∙◌, ap, arith}
use Rattle.std.proofs.lemmas.List.{length-take-le}
use Rattle.std.proofs.lemmas.Option.{slice_get_within}
use Rattle.rule_model.specs.Commands.{lines_in}
use Rattle.rule_model.specs.Scopes.{outermost}
use Rattle.rule_model.proofs.Numbers.{lines_in_count, lines_count}
use Rattle.rule_model.proofs.Lines.{lines_before}
use Rattle.rule_model.proofs.laws.commands.commands_have_indices.Goals as goal

pub returns-clause-count : goal.returns-clause-count
returns-clause-count c proof = lines_in_count outermost proof

pub returns-clause-index : goal.returns-clause-index
returns-clause-index c proof i l h =
    let within = slice_get_within (lines_in outermost proof) i l h in
    sym (lines_count l.scope) ∙ (ap length (lines_before outermost proof i l h) ∙ length-take-le i (lines_in outermost proof) (omega arith))

pub returns-clause-before : goal.returns-clause-before
returns-clause-before c proof i l h = lines_before outermost proof i l h
