use Rattle.elab_equality.proofs.WorkLemmas.{handed_on}
use Rattle.std.proofs.Common.{sym, subst}
use Rattle.term_pool.specs.Placing.{PlacesCellsOf}
use Rattle.term_pool.specs.Views.{TermsView, KeepsTerms}
use Rattle.equality_blocks.specs.Commands.{IsToElaborate}
use Rattle.equality_blocks.specs.Made.{IsPlacedFor}
use Rattle.elab_equality.specs.Walking.{IsClauseOfSides}
use Rattle.elab_equality.proofs.EndingLemmas.{sides_later}
use Rattle.elab_equality.proofs.ReflectLemmas.{refl_states}
use Rattle.elab_equality.proofs.ScopeLemmas.{image_later, left_side, placed_then, right_side, side_later}
use Rattle.flip_steps.proofs.OrderLemmas.{keeps_then}
use Rattle.elab_equality.proofs.reflecting.put_in_both.Goals as goal

pub ends-left-requires-clause-equates : goal.ends-left-requires-clause-equates
ends-left-requires-clause-equates c = refl_states c.args.at.now c.args.terms.now c.requires.job c.requires.rule

pub image-requires-clause-job : goal.image-requires-clause-job
image-requires-clause-job c =
    c.commands_stay.ensures.command c.args.at.now c.ends-left.new.terms c.scope.new.terms c.in_ok-scopes.ensures.keeps c.one_to_one.ensures (subst (IsToElaborate c.args.at.now) (sym c.ends-left.ensures.same) c.requires.job)

pub image-requires-clause-side : goal.image-requires-clause-side
image-requires-clause-side c =
    side_later c.args.at.now c.ends-left.new.terms c.scope.new.terms c.in_ok-scopes.ensures.keeps c.ends-left.result.0
    (left_side c.args.at.now c.ends-left.new.terms (subst (IsToElaborate c.args.at.now) (sym c.ends-left.ensures.same) c.requires.job) c.ends-left.result.0 c.ends-left.result.1 (subst (λ x. IsClauseOfSides c.args.at.now x c.ends-left.result.0 c.ends-left.result.1) (sym c.ends-left.ensures.same) c.ends-left.ensures.sides))

pub returns-in_err-left_image-clause-placed : goal.returns-in_err-left_image-clause-placed
returns-in_err-left_image-clause-placed c =
    subst (λ (x : TermsView). PlacesCellsOf c.args.at.now.symbols.now x.pass c.image.new.terms.pass (IsPlacedFor c.args.at.now c.image.new.terms)) c.ends-left.ensures.same
    (placed_then c.args.at.now c.ends-left.new.terms c.scope.new.terms c.image.new.terms c.in_err-left_image.ensures.keeps c.in_ok-scopes.ensures.placed
    c.in_err-left_image.ensures.placed)

pub returns-in_err-left_image-clause-full : goal.returns-in_err-left_image-clause-full
returns-in_err-left_image-clause-full c = handed_on _ c.from_residual-in_err-left_image.result c.from_residual-in_err-left_image.ensures.1 c.in_err-left_image.ensures.full

pub returns-in_err-left_image-clause-keeps : goal.returns-in_err-left_image-clause-keeps
returns-in_err-left_image-clause-keeps c =
    subst (λ (x : TermsView). KeepsTerms x c.image.new.terms) c.ends-left.ensures.same
    (keeps_then c.ends-left.new.terms c.scope.new.terms c.image.new.terms c.in_ok-scopes.ensures.keeps c.in_err-left_image.ensures.keeps)

pub image-requires-2-clause-job : goal.image-requires-2-clause-job
image-requires-2-clause-job c =
    let first = keeps_then c.ends-left.new.terms c.scope.new.terms c.image.new.terms c.in_ok-scopes.ensures.keeps c.in_ok-left_image.ensures.keeps in
    c.commands_stay.ensures.command c.args.at.now c.ends-left.new.terms c.image.new.terms first c.one_to_one-2.ensures (subst (IsToElaborate c.args.at.now) (sym c.ends-left.ensures.same) c.requires.job)

pub image-requires-2-clause-side : goal.image-requires-2-clause-side
image-requires-2-clause-side c =
    let first = keeps_then c.ends-left.new.terms c.scope.new.terms c.image.new.terms c.in_ok-scopes.ensures.keeps c.in_ok-left_image.ensures.keeps in
    side_later c.args.at.now c.ends-left.new.terms c.image.new.terms first c.ends-left.result.1
    (right_side c.args.at.now c.ends-left.new.terms (subst (IsToElaborate c.args.at.now) (sym c.ends-left.ensures.same) c.requires.job) c.ends-left.result.0 c.ends-left.result.1 (subst (λ x. IsClauseOfSides c.args.at.now x c.ends-left.result.0 c.ends-left.result.1) (sym c.ends-left.ensures.same) c.ends-left.ensures.sides))

pub returns-in_err-right_image-clause-placed : goal.returns-in_err-right_image-clause-placed
returns-in_err-right_image-clause-placed c =
    subst (λ (x : TermsView). PlacesCellsOf c.args.at.now.symbols.now x.pass c.image-2.new.terms.pass (IsPlacedFor c.args.at.now c.image-2.new.terms)) c.ends-left.ensures.same
    (placed_then c.args.at.now c.ends-left.new.terms c.image.new.terms c.image-2.new.terms c.in_err-right_image.ensures.keeps
    (placed_then c.args.at.now c.ends-left.new.terms c.scope.new.terms c.image.new.terms c.in_ok-left_image.ensures.keeps c.in_ok-scopes.ensures.placed
    c.in_ok-left_image.ensures.placed)
    c.in_err-right_image.ensures.placed)

pub returns-in_err-right_image-clause-full : goal.returns-in_err-right_image-clause-full
returns-in_err-right_image-clause-full c =
    handed_on _ c.from_residual-in_err-right_image.result c.from_residual-in_err-right_image.ensures.1 c.in_err-right_image.ensures.full

pub returns-in_err-right_image-clause-keeps : goal.returns-in_err-right_image-clause-keeps
returns-in_err-right_image-clause-keeps c =
    subst (λ (x : TermsView). KeepsTerms x c.image-2.new.terms) c.ends-left.ensures.same
    (keeps_then c.ends-left.new.terms c.image.new.terms c.image-2.new.terms
    (keeps_then c.ends-left.new.terms c.scope.new.terms c.image.new.terms c.in_ok-scopes.ensures.keeps c.in_ok-left_image.ensures.keeps)
    c.in_err-right_image.ensures.keeps)

pub returns-clause-reflected : goal.returns-clause-reflected
returns-clause-reflected c =
    let p = c.args.at.now in
    let first = keeps_then c.ends-left.new.terms c.scope.new.terms c.image.new.terms c.in_ok-scopes.ensures.keeps c.in_ok-left_image.ensures.keeps in
    let all = keeps_then c.ends-left.new.terms c.image.new.terms c.image-2.new.terms first c.in_ok-right_image.ensures.keeps in
    record {
      ends = sides_later p c.ends-left.new.terms c.image-2.new.terms c.ends-left.result.0 c.ends-left.result.1 all (subst (λ x. IsClauseOfSides p x c.ends-left.result.0 c.ends-left.result.1) (sym c.ends-left.ensures.same) c.ends-left.ensures.sides);
      left_is = image_later p c.image.new.terms c.image-2.new.terms c.in_ok-right_image.ensures.keeps c.ends-left.result.0 c.in_ok-left_image.left_image
          c.in_ok-left_image.ensures.image;
      right_is = c.in_ok-right_image.ensures.image;
    }

pub returns-clause-placed : goal.returns-clause-placed
returns-clause-placed c =
    subst (λ (x : TermsView). PlacesCellsOf c.args.at.now.symbols.now x.pass c.image-2.new.terms.pass (IsPlacedFor c.args.at.now c.image-2.new.terms)) c.ends-left.ensures.same
    (placed_then c.args.at.now c.ends-left.new.terms c.image.new.terms c.image-2.new.terms c.in_ok-right_image.ensures.keeps
    (placed_then c.args.at.now c.ends-left.new.terms c.scope.new.terms c.image.new.terms c.in_ok-left_image.ensures.keeps c.in_ok-scopes.ensures.placed
    c.in_ok-left_image.ensures.placed)
    c.in_ok-right_image.ensures.placed)

pub returns-clause-keeps : goal.returns-clause-keeps
returns-clause-keeps c =
    subst (λ (x : TermsView). KeepsTerms x c.image-2.new.terms) c.ends-left.ensures.same
    (keeps_then c.ends-left.new.terms c.image.new.terms c.image-2.new.terms
    (keeps_then c.ends-left.new.terms c.scope.new.terms c.image.new.terms c.in_ok-scopes.ensures.keeps c.in_ok-left_image.ensures.keeps)
    c.in_ok-right_image.ensures.keeps)

pub returns-in_err-scopes-clause-placed : goal.returns-in_err-scopes-clause-placed
returns-in_err-scopes-clause-placed c =
    subst (λ (x : TermsView). PlacesCellsOf c.args.at.now.symbols.now x.pass c.scope.new.terms.pass (IsPlacedFor c.args.at.now c.scope.new.terms)) c.ends-left.ensures.same
    c.in_err-scopes.ensures.placed

pub returns-in_err-scopes-clause-full : goal.returns-in_err-scopes-clause-full
returns-in_err-scopes-clause-full c = handed_on _ c.from_residual.result c.from_residual.ensures.1 c.in_err-scopes.ensures.full

pub returns-in_err-scopes-clause-keeps : goal.returns-in_err-scopes-clause-keeps
returns-in_err-scopes-clause-keeps c = subst (λ (x : TermsView). KeepsTerms x c.scope.new.terms) c.ends-left.ensures.same c.in_err-scopes.ensures.keeps

pub scope-requires-clause-job : goal.scope-requires-clause-job
scope-requires-clause-job c = subst (IsToElaborate c.args.at.now) (sym c.ends-left.ensures.same) c.requires.job
