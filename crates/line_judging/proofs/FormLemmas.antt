-- Coefficients of forms as those of sums.
use Rattle.std.proofs.Common.{◌≡◌, ◌≢◌, ◌⊎◌, inl, inr, ◌<◌, ℕ, ℤ, pos, ◌+◌, ◌^◌, ◌+ℤ◌, ◌==◌, unsigned_abs, if◌then◌else◌, List, [], ◌∷◌, ◌++◌, length, get_or, take, map, All, refl, sym, ap, subst, ◌∙◌, arith}
use Rattle.std.proofs.lemmas.List.{take_more, map-append}
use Rattle.std.proofs.lemmas.List.Elements.{All-head, All-tail, All-cons}
use Rattle.std.proofs.lemmas.List.Kept.{AllPairs-cons}
use Rattle.sym_table.specs.Table.{Table}
use Rattle.term_model.specs.Terms.{Term}
use Rattle.term_pool.specs.Views.{TermsView, IsTerm}
use Rattle.rule_model.specs.Arith.{Comparison, coefficient_in}
use Rattle.linear_forms.specs.declared.nodes.Coefficient as found
use Rattle.linear_forms.specs.declared.forms.Numbers.{Numbers}
use Rattle.linear_forms.specs.Coefficients as forms
use Rattle.linear_forms.specs.Forms.{IsDifferenceForm}
use Rattle.linear_forms.specs.Forms as forms_referred
use Rattle.scaled_sums.specs.declared.coefficients.Coefficient.{Coefficient}
use Rattle.scaled_sums.specs.Coefficients.{sum_at, sizes_of, AreOfDifferentTerms}
use Rattle.linear_lines.specs.Lines.{IsReferred}
use Rattle.line_judging.specs.LineForms.{as_sum, IsNarrowForm}

same_number : (cs : List found.Coefficient) (r : ℕ) → sum_at (map as_sum cs) r ≡ forms.sum_at cs r
same_number [] r = refl
same_number (c ∷ cs) r = ap (λ x. (if c.term == r then c.number else pos 0) +ℤ x) (same_number cs r)

same_sizes : (cs : List found.Coefficient) → sizes_of (map as_sum cs) ≡ forms.sizes_of cs
same_sizes [] = refl
same_sizes (c ∷ cs) = ap (λ x. unsigned_abs c.number + x) (same_sizes cs)

others_apart : (c : found.Coefficient) (cs : List found.Coefficient) → All (λ (d : found.Coefficient). d.term ≢ c.term) cs → All (λ (d : Coefficient). c.term ≢ d.term) (map as_sum cs)
others_apart c [] all = λ k d below. absurd (omega (arith, below))
others_apart c (d ∷ cs) all =
    All-cons (λ (e : Coefficient). c.term ≢ e.term) (as_sum d) (map as_sum cs) (λ e. All-head (λ (e : found.Coefficient). e.term ≢ c.term) d cs all (sym e))
    (others_apart c cs (All-tail (λ (e : found.Coefficient). e.term ≢ c.term) d cs all))

same_apart : (cs : List found.Coefficient) → forms.AreOfDifferentTerms cs → AreOfDifferentTerms (map as_sum cs)
same_apart [] h = λ i j d less below. absurd (omega (arith, below))
same_apart (c ∷ cs) h =
    AllPairs-cons (λ (x y : Coefficient). x.term ≢ y.term) (as_sum c) (map as_sum cs) (others_apart c cs h.0) (same_apart cs h.1)

module _ (s : Table) (v : TermsView) where
  same_terms : (cs : List found.Coefficient) → All (λ (c : found.Coefficient). IsTerm s v c.term) cs → All (λ (c : Coefficient). IsTerm s v c.term) (map as_sum cs)
  same_terms [] all = λ k d below. absurd (omega (arith, below))
  same_terms (c ∷ cs) all =
      All-cons (λ (e : Coefficient). IsTerm s v e.term) (as_sum c) (map as_sum cs) (All-head (λ (e : found.Coefficient). IsTerm s v e.term) c cs all)
      (same_terms cs (All-tail (λ (e : found.Coefficient). IsTerm s v e.term) c cs all))

  pub narrow_form : (c : Comparison) (n : Numbers) (cs : List found.Coefficient) (ds : List Coefficient) (constant : ℤ) → IsDifferenceForm s v c.first c.second n cs → ds ≡ map as_sum cs → constant ≡ n.constant → IsNarrowForm s v c (record { constant = constant; weight = n.weight }) ds
  narrow_form c n cs ds constant is put same =
      let narrow = is.narrow in
      let light = is.light in
      subst (IsNarrowForm s v c (record { constant = constant; weight = n.weight })) (sym put)
      (record {
        form = record {
          weight_is = is.weight_is;
          constant_is = same ∙ is.constant_is;
          coefficients = record {
            right = λ r t refers. is.coefficients.right r t refers ∙ sym (same_number cs r);
            covered = λ t. covered t (is.coefficients.covered t);
            terms = same_terms cs is.coefficients.terms;
          };
        };
        apart = same_apart cs is.coefficients.apart;
        light = omega (arith, light, same_sizes cs, ap unsigned_abs same);
        narrow = subst (λ x. x < 2 ^ 127) (sym is.weight_is) is.narrow;
      })
    where
      covered : (t : Term) → (coefficient_in c t ≡ pos 0) ⊎ forms_referred.IsReferred s v t → (coefficient_in c t ≡ pos 0) ⊎ IsReferred s v t
      covered t (inl e) = inl e
      covered t (inr h) = inr (record { reference = h.reference; refers = h.refers })

pub pushed : (cs : List found.Coefficient) (k : ℕ) (c : found.Coefficient) → k < length cs → c ≡ get_or cs k c → map as_sum (take k cs) ++ as_sum c ∷ [] ≡ map as_sum (take (k + 1) cs)
pushed cs k c below is =
    sym (ap (map as_sum) (take_more cs k c below) ∙ (map-append as_sum (take k cs) (get_or cs k c ∷ []) ∙ ap (λ x. map as_sum (take k cs) ++ as_sum x ∷ []) (sym is)))
