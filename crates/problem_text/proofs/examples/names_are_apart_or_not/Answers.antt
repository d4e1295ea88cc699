-- One function and one variable of a let, whose names differ or do not.
use Rattle.std.proofs.Common.{◌≡◌, ℕ, zero, suc, List, [], ◌∷◌, refl, ap, ◌∙◌, sym, get_or, arith}
use Rattle.std.specs.Prelude.{Contains, codes}
use Rattle.term_model.specs.declared.symbols.Sort.{Sort}
use Rattle.term_model.specs.Terms.{Fun}
use Rattle.problem_text.specs.Examples.{first_fault, script_in}
use Rattle.problem_text.proofs.examples.names_are_apart_or_not.Goals as goal

only : {X : Type 0} (x y : X) → Contains (x ∷ []) y → x ≡ y
only x y (zero, inside, same) = same
only x y (suc k, inside, same) = absurd (omega arith)

abbrev x_is : Fun
x_is = record { name = codes "x"; arguments = []; target = Sort.Bool }

pub returns-clause-apart : goal.returns-clause-apart
unfolding first_fault script_in
returns-clause-apart c = λ f declared bound.
    let names : codes "x" ≡ codes "y" = ap (λ (g : Fun). g.name) (only x_is f declared) ∙ sym (only (codes "y") f.name bound) in
    let first : 120 ≡ 121 = ap (λ (name : List ℕ). get_or name 0 0) names in
    absurd (omega (arith, first))

pub returns-clause-not_apart : goal.returns-clause-not_apart
unfolding first_fault script_in
returns-clause-not_apart c = λ apart. apart x_is (0, omega arith, refl) (0, omega arith, refl)
