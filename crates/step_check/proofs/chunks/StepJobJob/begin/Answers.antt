use Rattle.std.proofs.Common.{get_or, refl, ◌∙◌}
use Rattle.term_pool.proofs.References.{refer_are_terms}
use Rattle.step_check.proofs.AssumeLemmas.{known}
use Rattle.step_check.proofs.Growing.{kept_same_terms}
use Rattle.step_check.proofs.chunks.StepJobJob.begin.Goals as goal

pub new-requires : goal.new-requires
new-requires c = record { proof = c.requires.fits.proof; stand = c.requires.fits.stand }

pub new-requires-2 : goal.new-requires-2
new-requires-2 c =
    let s = c.args.self.now.symbols.now in
    let v = c.args.terms.now in
    let asserted = c.args.self.now.problem.now.assertions in
    let a = c.requires.fits.asserted in
    rw c.assertions_of.ensures
    (λ k d below. known s v v (get_or asserted k d) refl (refer_are_terms s v asserted a.assertions a.refer k d below))

pub returns-clause-kept : goal.returns-clause-kept
returns-clause-kept c = record {
  references = c.in_ok-asserted.ensures.references ∙ c.assertions_of.ensures;
  ready = c.in_ok-asserted.ensures.ready;
  scopes = kept_same_terms _ _ _ _ _ c.new-2.ensures.same c.in_ok-scopes.ensures.kept;
  arguments = c.new-4.ensures c.new-2.new.terms;
}
