-- The numbers of those that are marked.
use Rattle.std.proofs.Common.{◌≡◌, ◌<◌, ◌+◌, ◌⊎◌, inl, inr, ℕ, zero, suc, Bool, true, false, List, [], ◌∷◌, ◌++◌, length, Contains, sym, ◌∙◌, subst, arith}
use Rattle.std.proofs.lemmas.Bool.{cases_lt}
use Rattle.std.proofs.lemmas.List.Elements.{Contains-append_left, Contains-append_right, Contains-append_cases, Contains-get_or}
use Rattle.std.proofs.lemmas.List.Quantifiers.{all_pairs_push}
use Rattle.term_model.proofs.Lists.{contains_none, contains_cases, contains_head}
use Rattle.pruned_proofs.specs.Reached.{is_kept}
use Rattle.proof_prune.specs.Firsts.{IsMarked, AreNumbersTo}

false_true : false ≡ true → ⊥
false_true e = cc

pub kept_within : (marks : List Bool) (n : ℕ) → is_kept marks n ≡ true → n < length marks
kept_within [] n e = absurd (cc)
kept_within (m ∷ marks) zero e = omega arith
kept_within (m ∷ marks) (suc n) e = let less = kept_within marks n e in omega arith

-- the numbers
pub no_numbers : (marks : List Bool) → AreNumbersTo marks 0 []
no_numbers marks = record {
  rising = λ i j d less within. absurd (omega arith);
  below = λ n has. absurd (contains_none n has);
  only = λ n has. absurd (contains_none n has);
  each = λ n less is. absurd (omega arith);
}

module _ (marks : List Bool) (i : ℕ) (numbers : List ℕ) (before : AreNumbersTo marks i numbers) where
  pub one_number : is_kept marks i ≡ true → AreNumbersTo marks (i + 1) (numbers ++ i ∷ [])
  one_number is = record {
    rising = all_pairs_push (λ m n. m < n) numbers i before.rising
        (λ k d less. before.below _ (Contains-get_or numbers k d less));
    below = λ n has. elim (old_or_new n has) [ inl old ↦ (let less = before.below n old in omega arith) | inr e ↦ omega arith ];
    only = λ n has. elim (old_or_new n has) [ inl old ↦ before.only n old | inr e ↦ subst (IsMarked marks) e is ];
    each = λ n less marked. elim (cases_lt n i) [
      | inl earlier ↦ Contains-append_left numbers (i ∷ []) n (before.each n earlier marked)
      | inr later ↦ (let same : i ≡ n = omega arith in Contains-append_right numbers (i ∷ []) n (subst (Contains (i ∷ [])) same (contains_head i [])))
    ];
  }
    where
      old_or_new : (n : ℕ) → Contains (numbers ++ i ∷ []) n → Contains numbers n ⊎ (i ≡ n)
      old_or_new n has =
          elim (Contains-append_cases numbers (i ∷ []) n has) [
            | inl old ↦ inl old
            | inr new ↦ elim (contains_cases i n [] new) [ inl e ↦ inr e | inr none ↦ absurd (contains_none n none) ]
          ]

  pub same_numbers : is_kept marks i ≡ false → AreNumbersTo marks (i + 1) numbers
  same_numbers isnt = record {
    rising = before.rising;
    below = λ n has. let less = before.below n has in omega arith;
    only = before.only;
    each = λ n less marked. elim (cases_lt n i) [
      | inl earlier ↦ before.each n earlier marked
      | inr later ↦ (let same : n ≡ i = omega arith in absurd (false_true (sym isnt ∙ subst (IsMarked marks) same marked)))
    ];
  }
