use Rattle.std.proofs.Common.{◌≡◌, ℕ, Contains, refl, sym, ◌∙◌, subst, arith}
use Rattle.std.proofs.lemmas.List.Elements.{All-more, All-contains, Contains-get_or}
use Rattle.elab_denials.proofs.NeedLemmas.{all_taken, clash}
use Rattle.elab_denials.proofs.needs.is_among.Goals as goal

pub others-preserved : goal.others-preserved
others-preserved c =
    let pairs = c.args.pairs.now in
    let k = c.others.other-index in
    All-more (λ (y : ℕ × ℕ). c.args.pair ≡ y → ⊥) pairs k c.other-item.result c.others-test.true c.others.invariant
    (subst (λ (y : ℕ × ℕ). c.args.pair ≡ y → ⊥) c.other-item.is (λ e. clash c.are_one-same.result (c.are_one-same.ensures.1 e) c.if-same.false))

pub returns-then-same : goal.returns-then-same
returns-then-same c = (
  λ yes. subst (Contains c.args.pairs.now) (sym (c.are_one-same.ensures.0 c.if-same.true ∙ c.other-item.is))
      (Contains-get_or c.args.pairs.now c.others.other-index c.other-item.result c.others-test.true),
  λ has. refl,
)

pub returns : goal.returns
returns c =
    let pairs = c.args.pairs.now in
    let each = all_taken (λ (y : ℕ × ℕ). c.args.pair ≡ y → ⊥) pairs c.others.other-index (λ less. let past = c.others-test.false in omega arith) c.others.invariant in
    (λ yes. absurd cc, λ has. absurd (All-contains (λ (y : ℕ × ℕ). c.args.pair ≡ y → ⊥) pairs c.args.pair each has refl))
