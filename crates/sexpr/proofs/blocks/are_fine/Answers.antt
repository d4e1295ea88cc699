-- The bytes seen so far are fine, and so is the next one.
use Rattle.std.proofs.Common.{◌≡◌, ◌∙◌, ◌+◌, Bool, true, false, not, ◌||◌, refl, sym, subst, arith, inl, inr}
use Rattle.std.proofs.lemmas.Bool.{and_parts, cases_lt}
use Rattle.sexpr.specs.Blocks.{IsFineAt}
use Rattle.sexpr.proofs.blocks.are_fine.Goals as goal

goes_on : (word digit : Bool) → (word || not digit) ≡ true → digit ≡ true → word ≡ true
goes_on true digit either is = refl
goes_on false true either is = absurd (cc)
goes_on false false either is = absurd (cc)

pub loop-k-preserved : goal.loop-k-preserved
loop-k-preserved c = record {
  within = omega (arith, c.loop-k-test.true);
  seen = λ all k less.
      let parts = and_parts _ _ all in
      let before = and_parts _ _ parts.0 in
      elim (cases_lt k c.loop-k.k) [
        | inl early ↦ c.loop-k.invariant.seen before.0 k early
        | inr late ↦
            let same : c.loop-k.k ≡ k = omega arith in
            let here : IsFineAt c.args.bytes.now (c.args.at + c.loop-k.k) = record {
              fine = sym c.is_fine.ensures ∙ before.1;
              joined = λ digit. sym c.is_common.ensures ∙ goes_on _ _ parts.1 (c.is_ascii_digit.ensures.value ∙ digit);
            } in
            subst (λ j. IsFineAt c.args.bytes.now (c.args.at + j)) same here
      ];
}
