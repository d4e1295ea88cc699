use Rattle.std.proofs.Common.{Contains, subst, sym, false, refl, IsTrue}
use Rattle.rule_model.specs.declared.statuses.Status.{Status}
use Rattle.verdict_merge.proofs.Joining.{hole_of_piece, no_hole_next, whole}
use Rattle.verdict_merge.proofs.holes.has_hole.Goals as goal

not_true : IsTrue false → ⊥
not_true e = cc

pub returns-then-is_among : goal.returns-then-is_among
returns-then-is_among c =
    let has = (rw (c.if-is_among.true, c.deref.ensures.value) at c.is_among.ensures).0 refl in
    (λ e. hole_of_piece _ _ _ c.pieces-test.true c.piece-item.is has, λ h. refl)

pub pieces-preserved : goal.pieces-preserved
pieces-preserved c =
    no_hole_next _ _ _ c.pieces-test.true c.piece-item.is c.pieces.invariant
    (λ has. not_true ((rw (c.if-is_among.false, c.deref.ensures.value) at c.is_among.ensures).1 has))

pub returns : goal.returns
returns c = (
  λ e. absurd (not_true e),
  λ h. absurd (c.pieces.invariant (subst (λ ss. Contains ss Status.Hole) (sym (whole _ _ c.pieces-test.false)) h)),
)
