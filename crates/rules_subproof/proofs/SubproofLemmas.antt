-- The condition of subproof over terms, by what is read of references.
use Rattle.std.proofs.Common.{◌≡◌, ◌↔◌, ℕ, List, [], ◌∷◌, length, drop, Some, Contains, refl, sym, ◌∙◌, ap, subst}
use Rattle.std.proofs.Math.Seq.{drop-append_seam}
use Rattle.std.specs.List.{AllZip}
use Rattle.term_model.specs.Terms.{Var, Term}
use Rattle.rule_model.specs.Subproof.{IsAssumeIn, AllDischarged, negations, IsEnding, IsSubproof}
use Rattle.rule_model.specs.Proofs.{ProofItems}
use Rattle.rule_model.specs.Reading.{rule_at, clause_at, premises_at, discharged_at, scope_at, bindings_at, last_inside_at, is_assume}
use Rattle.rules_subproof.specs.Prefixes.{HasPrefix}

-- lists in step are empty together
pub empty_too : {A B : Type 0} (R : A → B → Type 0) (xs : List A) (ys : List B) → AllZip R xs ys → (xs ≡ []) ↔ (ys ≡ [])
empty_too R [] [] h = (λ e. refl, λ e. refl)
empty_too R [] (y ∷ ys) h = absurd h
empty_too R (x ∷ xs) [] h = absurd h
empty_too R (x ∷ xs) (y ∷ ys) h = (λ e. absurd cc, λ e. absurd cc)

module _ (refs : ProofItems ℕ ℕ) (of : ProofItems Var Term) (i k : ℕ) (scope : (j : ℕ) → scope_at refs j ≡ scope_at of j) (rule : (j : ℕ) → rule_at refs j ≡ rule_at of j) (discharged : discharged_at refs i ≡ discharged_at of i) where
  pub all_discharged_too : ((j : ℕ) → IsAssumeIn refs i k j → Contains (discharged_at refs i) j) ↔ AllDischarged of i k
  all_discharged_too = (
    λ all j a. subst (λ ds. Contains ds j) discharged (all j (record { before = a.before; scope = scope j ∙ a.scope; assume = ap is_assume (rule j) ∙ a.assume })),
    λ all j a. subst (λ ds. Contains ds j) (sym discharged) (all j (record { before = a.before; scope = sym (scope j) ∙ a.scope; assume = ap is_assume (sym (rule j)) ∙ a.assume })),
  )

-- the clause is the negations, and an ending drop-append_seam them
module _ (of : ProofItems Var Term) (i k last place : ℕ) (is_last : last_inside_at of k ≡ Some last) (count : length (negations of i) ≡ place) where
  pub makes_subproof : bindings_at of k ≡ [] → premises_at of i ≡ [] → AllDischarged of i k → HasPrefix (negations of i) (clause_at of i) → IsEnding (clause_at of last) (drop place (clause_at of i)) → IsSubproof of i k
  makes_subproof none no_premises all prefix ending =
      let rest : drop place (clause_at of i) ≡ prefix.rest = subst (λ n. drop n (clause_at of i) ≡ prefix.rest) count (ap (drop (length (negations of i))) prefix.is ∙ drop-append_seam (negations of i) prefix.rest) in
      record {
        no_bindings = none;
        no_premises = no_premises;
        discharged = all;
        inner = clause_at of last;
        ends = record { last = last; is_last = is_last; clause_is = refl };
        end = prefix.rest;
        ending = subst (IsEnding (clause_at of last)) rest ending;
        clause = prefix.is;
      }

  pub prefix_of_subproof : IsSubproof of i k → HasPrefix (negations of i) (clause_at of i)
  prefix_of_subproof h = record { rest = h.end; is = h.clause }

  pub ending_of_subproof : IsSubproof of i k → IsEnding (clause_at of last) (drop place (clause_at of i))
  ending_of_subproof h =
      let rest : drop place (clause_at of i) ≡ h.end = subst (λ n. drop n (clause_at of i) ≡ h.end) count (ap (drop (length (negations of i))) h.clause ∙ drop-append_seam (negations of i) h.end) in
      let same : h.ends.last ≡ last = some_same (sym h.ends.is_last ∙ is_last) in
      let inner : h.inner ≡ clause_at of last = sym h.ends.clause_is ∙ ap (clause_at of) same in
      subst (λ c. IsEnding c (drop place (clause_at of i))) inner (subst (IsEnding h.inner) (sym rest) h.ending)
    where
      some_same : {a b : ℕ} → Some a ≡ Some b → a ≡ b
      some_same e = cc
