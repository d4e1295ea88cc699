-- Weights of lines.
use Rattle.std.proofs.Common.{◌≡◌, ◌≤◌, ◌<◌, ℕ, zero, suc, ◌+◌, ◌*◌, ◌/◌, max, unsigned_abs, List, [], ◌∷◌, ◌++◌, refl, ap, ◌∙◌, arith}
use Rattle.std.proofs.Math.Nat.{div-add-mod, mod-lt}
use Rattle.sym_table.specs.Table.{Table}
use Rattle.term_pool.specs.Views.{TermsView}
use Rattle.rule_model.specs.Arith.{CoefficientLine, line_weight, lines_weight}
use Rattle.rule_model.specs.Weights.{weight}
use Rattle.linear_lines.specs.declared.lines.Line.{Line}
use Rattle.linear_lines.specs.Lines.{StandsForLine, own_weight}

module _ (s : Table) (v : TermsView) (m : ℕ) (line : Line) (l : CoefficientLine) (is : StandsForLine s v line l) where
  pub own_is : (w : ℕ) → w ≡ weight l.comparison.first + weight l.comparison.second → own_weight m line w ≡ line_weight m l
  own_is w e =
      ap (λ x. own_weight m line x) e
      ∙ (ap (λ n. max (unsigned_abs n) 1 * (m / line.denominator) * (weight l.comparison.first + weight l.comparison.second + 1) + m) is.numerator
      ∙ ap (λ d. max (unsigned_abs l.ratio.num) 1 * (m / d) * (weight l.comparison.first + weight l.comparison.second + 1) + m) is.denominator)

  -- terms that are too wide make the line too wide
  pub wide_terms : (others most : ℕ) → 0 < m / line.denominator → most ≤ weight l.comparison.first + weight l.comparison.second → most ≤ line_weight m l + others
  wide_terms others most share wide =
      omega (arith, own_is _ refl, at_least (max (unsigned_abs line.numerator) 1) (m / line.denominator) (weight l.comparison.first + weight l.comparison.second) (factor (unsigned_abs line.numerator)) share, wide)
    where
      factor : (n : ℕ) → 0 < max n 1
      factor n = omega arith

      at_least : (a b w : ℕ) → 0 < a → 0 < b → w ≤ a * b * (w + 1)
      at_least a b w h k = grind arith

pub share_some : (m d : ℕ) → 0 < d → d ≤ m → 0 < m / d
share_some m d some le = go (m / d) refl
  where
    go : (q : ℕ) → m / d ≡ q → 0 < m / d
    go zero e = absurd (omega (arith, le, mod-lt m some, div-add-mod m d, ap (λ x. d * x) e))
    go (suc q) e = omega (arith, e)

pub weight_join : (m : ℕ) (ks ls : List CoefficientLine) → lines_weight m (ks ++ ls) ≡ lines_weight m ks + lines_weight m ls
weight_join m [] ls = omega arith
weight_join m (k ∷ ks) ls = omega (arith, weight_join m ks ls)

-- what the lines weigh so far, and the next one
pub next_weight : (m total more : ℕ) (ls : List CoefficientLine) (l : CoefficientLine) → total ≡ lines_weight m ls → more ≡ line_weight m l + total → more ≡ lines_weight m (ls ++ l ∷ [])
next_weight m total more ls l e f = omega (arith, weight_join m ls (l ∷ []), e, f)

pub too_wide : (m total most : ℕ) (front : List CoefficientLine) (here : CoefficientLine) (rest ls : List CoefficientLine) → ls ≡ front ++ here ∷ rest → total ≡ lines_weight m front → most ≤ line_weight m here + total → most ≤ lines_weight m ls
too_wide m total most front here rest ls e f wide =
    omega (arith, ap (lines_weight m) e, weight_join m front (here ∷ rest), f, wide)
