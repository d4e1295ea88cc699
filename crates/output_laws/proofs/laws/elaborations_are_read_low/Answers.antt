use Rattle.std.proofs.Common.{Some, sym, subst}
use Rattle.problem_text.specs.Limits.{AreLow, most_height}
use Rattle.problem_text.specs.Scripts.{Script}
use Rattle.output_laws.proofs.laws.elaborations_are_read_low.Goals as goal

pub returns : goal.returns
returns c = λ problem options proof status bytes out apart half.
    let script = out.checked.script in
    let read = out.read_back apart in
    subst (λ (s : Script). AreLow (Some most_height) s.terms) (sym read.behind)
    (c.low_proofs_are_printed_low.ensures most_height read.plan script out.elaboration (out.is.low 995 half.asserted half.low)
    (c.printed_terms_are_low.ensures.scripts problem options.replaces_lets script out.checked.problem_text))
