-- By what the id is found to be.
use Rattle.std.proofs.Common.{◌∙◌, sym, ap, Err}
use Rattle.std.specs.Prelude.{⊤}
use Rattle.sexpr.specs.declared.causes.Refusal.{Refusal}
use Rattle.problem_text.specs.Outcomes.{given}
use Rattle.alethe_reader.specs.IdsInUse.{ids_in}
use Rattle.alethe_reader.specs.Judging.{is_named}
use Rattle.alethe_reader.proofs.JudgedIds.{judged_new, judged_used}
use Rattle.alethe_reader.proofs.WrittenStays.{unused_now, used_here}
use Rattle.alethe_reader.proofs.judging.judge_id.Goals as goal

pub returns-in-None-clause-judged : goal.returns-in-None-clause-judged
returns-in-None-clause-judged c p unused = judged_new c.args.of_anchor (is_named c.args.id) p (unused_now (ids_in p.scope) c.args.id.name.now c.args.found unused c.in-None.is)

pub returns-in-Some-clause-judged : goal.returns-in-Some-clause-judged
returns-in-Some-clause-judged c p used =
    judged_used c.args.of_anchor (is_named c.args.id) p c.in-Some.found (used_here (ids_in p.scope) c.args.id.name.now c.args.found c.in-Some.found used c.in-Some.is)
    ∙ ap (λ (r : Refusal). given {A = ⊤} (Err r) p) (sym (c.refused.ensures ∙ ap (λ k. record { cause = k; at = c.args.id.place }) c.cause_of.ensures))
