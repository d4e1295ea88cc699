-- Private. Terms that are equal up to flips have one form.
use Rattle.std.proofs.Common.{◌≡◌, inl, inr, Bool, true, false, not, if◌then◌else◌, refl, ◌∙◌, ap}
use Rattle.term_model.specs.declared.symbols.Op.{Op}
use Rattle.term_model.specs.Flips.{equality, EqualUpToFlips, same, operations, calls, flipped, AllEqualUpToFlips, none, each}
use Rattle.term_model.specs.Terms.{Term, call, Terms, no_terms, term}
use Rattle.rule_model.specs.Forms.{IsSideOrder, ordered, form, forms}

module _ (before : Term → Term → Bool) (order : IsSideOrder before) where
  -- the sides of an equality may be exchanged
  sides_turned : (a b : Term) → ordered before Op.Equal (term a (term b no_terms)) ≡ ordered before Op.Equal (term b (term a no_terms))
  sides_turned a b =
      elim (order a b) [
        | inl one ↦ rw one refl
        | inr other ↦ picked (before a b) (before b a) other
      ]
    where
      picked : (x y : Bool) → x ≡ not y → (if y then equality b a else equality a b) ≡ (if x then equality a b else equality b a)
      picked x true e = rw e refl
      picked x false e = rw e refl

  mutual
    pub one_form : (t u : Term) → EqualUpToFlips t u → form before t ≡ form before u
    one_form _ _ (same t) = refl
    one_form _ _ (operations op ts us all) = ap (ordered before op) (one_forms ts us all)
    one_form _ _ (calls f ts us all) = ap (call f) (one_forms ts us all)
    one_form _ _ (flipped a b c d outer inner) =
        ap (λ x. ordered before Op.Equal (term x (term (form before b) no_terms))) (one_form a d outer)
        ∙ ap (λ x. ordered before Op.Equal (term (form before d) (term x no_terms))) (one_form b c inner)
        ∙ sides_turned (form before d) (form before c)

    one_forms : (ts us : Terms) → AllEqualUpToFlips ts us → forms before ts ≡ forms before us
    one_forms _ _ none = refl
    one_forms _ _ (each t u ts us here rest) =
        ap (λ x. term x (forms before ts)) (one_form t u here) ∙ ap (term (form before u)) (one_forms ts us rest)
