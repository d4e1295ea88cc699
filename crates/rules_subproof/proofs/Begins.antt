-- Whether the clause of a step begins with the negations of what it discharges.
use Rattle.std.proofs.Common.{◌≡◌, ◌<◌, ◌≤◌, ◌+◌, ◌↔◌, ◌⊎◌, inl, inr, ℕ, zero, suc, List, [], ◌∷◌, length, slice_index_or, Contains, IsTrue, Bool, refl, sym, ◌∙◌, ap, subst, arith}
use Rattle.std.specs.List.{AllZip}
use Rattle.std.proofs.lemmas.List.Elements.{All-contains_itself, recursion_from_All}
use Rattle.sym_table.specs.Table.{Table}
use Rattle.term_model.specs.Terms.{Var, Term, numeral, not_of}
use Rattle.term_pool.specs.Views.{TermsView, RefersTo, IsTerm}
use Rattle.rule_model.specs.Subproof.{negations}
use Rattle.rule_model.specs.Proofs.{ProofItems}
use Rattle.rule_model.specs.Reading.{clause_at, discharged_at}
use Rattle.rule_model.specs.Scopes.{outermost}
use Rattle.rule_model.specs.WellFormed.{AreWellFormed}
use Rattle.rules_subproof.specs.Prefixes.{HasPrefix}
use Rattle.rules_subproof.proofs.Discharged.{discharged_assumed}
use Rattle.rules_subproof.proofs.Prefixes.{AreUnits, Matches, negated_count, of_prefix, prefix_fits, prefix_of}
use Rattle.term_model.proofs.Zips.{zip_length}
use Rattle.rules_subproof.proofs.Zips.{zip_at, zip_one}

module _ (s : Table) (v : TermsView) (refs : ProofItems ℕ ℕ) (of : ProofItems Var Term) (i : ℕ) (formed : AreWellFormed outermost refs) (same : discharged_at refs i ≡ discharged_at of i) (zip : (j : ℕ) → AllZip (RefersTo s v) (clause_at refs j) (clause_at of j)) where
  pub units : AreUnits (clause_at of) (discharged_at of i)
  units = recursion_from_All _ (discharged_at of i) (λ k d within. one _ (All-contains_itself (discharged_at of i) k d within))
    where
      one : (j : ℕ) → Contains (discharged_at of i) j → (u : Term) × (clause_at of j ≡ u ∷ [])
      one j has =
          let is = discharged_assumed refs formed i j (subst (λ ds. Contains ds j) (sym same) has) in
          let unit = zip_one s v is.term (clause_at refs j) (clause_at of j) is.clause (zip j) in
          (unit.0, unit.1)

  pub count : length (negations of i) ≡ length (discharged_at of i)
  count = negated_count (clause_at of) (discharged_at of i) units

  pub too_few : (rs ds : List ℕ) → rs ≡ clause_at refs i → ds ≡ discharged_at refs i → length rs < length ds → ¬ HasPrefix (negations of i) (clause_at of i)
  too_few rs ds e f few prefix =
      let fits = prefix_fits (clause_at of) (discharged_at of i) (clause_at of i) units prefix in
      let longs = ap length e ∙ zip_length (RefersTo s v) (clause_at refs i) (clause_at of i) (zip i) in
      let shorts = ap length (f ∙ same) in omega arith

  pub step : (rs ds : List ℕ) (k l r : ℕ) (met : Bool) → rs ≡ clause_at refs i → ds ≡ discharged_at refs i → k < length ds → length ds ≤ length rs → l ≡ slice_index_or rs k l → clause_at refs (slice_index_or ds k 0) ≡ r ∷ [] → ((t u : Term) → RefersTo s v l t → RefersTo s v r u → IsTrue met ↔ (t ≡ not_of u)) → IsTrue met ↔ Matches (clause_at of) (discharged_at of i) (clause_at of i) k
  step rs ds k l r met e f below few there own is =
      let own' : clause_at refs (slice_index_or (discharged_at of i) k 0) ≡ r ∷ [] = subst (λ xs. clause_at refs (slice_index_or xs k 0) ≡ r ∷ []) (f ∙ same) own in
      let unit = zip_one s v r _ _ own' (zip (slice_index_or (discharged_at of i) k 0)) in
      let refers : (d : Term) → RefersTo s v l (slice_index_or (clause_at of i) k d) = (λ d. subst (λ x. RefersTo s v x (slice_index_or (clause_at of i) k d)) (sym (there ∙ ap (λ xs. slice_index_or xs k l) e)) (zip_at s v (clause_at refs i) (clause_at of i) k l d (zip i) (let n = ap length e in omega arith))) in (
        λ m u g. let same_term : unit.0 ≡ u = one_same (sym unit.1 ∙ g) in subst (λ x. slice_index_or (clause_at of i) k (not_of x) ≡ not_of x) same_term ((is (slice_index_or (clause_at of i) k (not_of unit.0)) unit.0 (refers (not_of unit.0)) unit.2).0 m),
        λ matches. (is (slice_index_or (clause_at of i) k (not_of unit.0)) unit.0 (refers (not_of unit.0)) unit.2).1 (matches unit.0 unit.1),
      )
    where
      one_same : {x y : Term} → x ∷ [] ≡ y ∷ [] → x ≡ y
      one_same e = cc

  -- all literals up to the number of what is discharged
  pub begins : (rs ds : List ℕ) → rs ≡ clause_at refs i → ds ≡ discharged_at refs i → length ds ≤ length rs → ((k : ℕ) → k < length ds → Matches (clause_at of) (discharged_at of i) (clause_at of i) k) → HasPrefix (negations of i) (clause_at of i)
  begins rs ds e f few each =
      let longs = ap length e ∙ zip_length (RefersTo s v) (clause_at refs i) (clause_at of i) (zip i) in
      let shorts = ap length (f ∙ same) in
      prefix_of (clause_at of) (discharged_at of i) (clause_at of i) units (omega arith) (λ k below. each k (omega arith))

  pub fails : (k : ℕ) (ds : List ℕ) → ds ≡ discharged_at refs i → k < length ds → ¬ Matches (clause_at of) (discharged_at of i) (clause_at of i) k → ¬ HasPrefix (negations of i) (clause_at of i)
  fails k ds f below none prefix =
      let shorts = ap length (f ∙ same) in
      none (of_prefix (clause_at of) (discharged_at of i) (clause_at of i) units prefix k (omega arith))

-- a literal stands for a term
pub literal_is_term : (s : Table) (v : TermsView) (rs xs : List ℕ) (ts : List Term) (k l : ℕ) → rs ≡ xs → AllZip (RefersTo s v) xs ts → k < length rs → l ≡ slice_index_or rs k l → IsTerm s v l
literal_is_term s v rs xs ts k l e zip below there =
    record {
      means = slice_index_or ts k (numeral 0);
      refers = subst (λ x. RefersTo s v x (slice_index_or ts k (numeral 0))) (sym (there ∙ ap (λ ys. slice_index_or ys k l) e)) (zip_at s v xs ts k l (numeral 0) zip (let n = ap length e in omega arith));
    }

-- what holds below a place and there holds below the next one
pub below_next : (P : ℕ → Type 0) (n k : ℕ) → ((j : ℕ) → j < n → P j) → P n → k < n + 1 → P k
below_next P n k all here below = go (below_or_there k n (omega arith))
  where
    below_or_there : (k n : ℕ) → k ≤ n → (k < n) ⊎ (k ≡ n)
    below_or_there zero zero h = inr refl
    below_or_there zero (suc n) h = inl (omega arith)
    below_or_there (suc k) zero h = absurd (omega arith)
    below_or_there (suc k) (suc n) h = elim (below_or_there k n (omega arith)) [ inl j ↦ inl (omega (arith, j)) | inr e ↦ inr (ap suc e) ]

    go : (k < n) ⊎ (k ≡ n) → P k
    go (inl h) = all k h
    go (inr e) = subst P (sym e) here
