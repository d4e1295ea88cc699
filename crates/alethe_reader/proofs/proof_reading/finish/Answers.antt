-- The end is judged, and the proof that is written then is the one that was read.
use Rattle.std.proofs.Common.{◌∙◌, ℕ, sym, ap}
use Rattle.std.proofs.lemmas.Result.{err_from_is_err_and}
use Rattle.rule_model.specs.Scopes.{Scope}
use Rattle.alethe_reader.proofs.ReadProofs.{none_open, proof_finished}
use Rattle.alethe_reader.proofs.proof_reading.finish.Goals as goal

pub judge_end-requires : goal.judge_end-requires
judge_end-requires c = let (s, v, settings, p, behind, here, session) = c.requires in (behind, here)

pub returns-in_err-judge_end : goal.returns-in_err-judge_end
returns-in_err-judge_end c s v settings p behind here session =
    let e = err_from_is_err_and c.from_residual.result c.from_residual.ensures.1 in
    rw (e.1, e.2) (c.in_err-judge_end.ensures s v settings p behind here session)

pub finish-requires : goal.finish-requires
finish-requires c =
    let (s, v, settings, p, behind, here, session) = c.requires in
    let (none, closed) = c.in_ok-judge_end.ensures s v settings p behind here session in
    rw c.replace-builder.ensures.value (none_open s v settings c.args.session.now p behind session closed)

pub returns-in_err-finish : goal.returns-in_err-finish
returns-in_err-finish c s v settings p behind here session =
    let e = err_from_is_err_and c.from_residual-in_err-finish.result c.from_residual-in_err-finish.ensures.1 in rw (e.1, e.2) tt

pub returns : goal.returns
returns c s v settings p behind here session =
    let (none, closed) = c.in_ok-judge_end.ensures s v settings p behind here session in
    proof_finished s v settings c.args.session.now p behind session (sym none) closed
    c.in_ok-finish.field-0 (c.in_ok-finish.ensures ∙ ap (λ (scope : Scope ℕ ℕ). scope.items) c.replace-builder.ensures.value)
