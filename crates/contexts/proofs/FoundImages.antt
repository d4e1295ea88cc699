-- What is found for the leaf of a variable is what the variable is replaced by.
use Rattle.std.proofs.Common.{◌≡◌, ◌≢◌, ℕ, ◌⊎◌, inl, inr, ◌↔◌, List, [], ◌∷◌, Option, Some, None, IfSome, IsSome, Bool, true, false, eqb, if◌then◌else◌, refl, sym, subst, rules}
use Rattle.std.proofs.lemmas.Bool.Decides.{eqb_tells}
use Rattle.rule_model.specs.Replacement.{Replacement, replaced_by}
use Rattle.rule_model.specs.Substitution.{Replaces}
use Rattle.sym_table.specs.Table.{Table, IsLeaf, IsTable}
use Rattle.term_model.proofs.Tests.{var_eq_decides}
use Rattle.term_model.specs.Terms.{Var, var_eq}
use Rattle.term_pool.specs.StandsFor.{variable_leaf}
use Rattle.term_pool.specs.Views.{TermsView, RefersTo}
use Rattle.term_pool.proofs.Leaves.{one_variable, one_leaf}
use Rattle.contexts.specs.Firsts.{first_for}
use Rattle.contexts.specs.PutIn.{StandForReplacement}

-- what is found, and what the replacement has for the variable
abbrev pub IsFoundFor : Table → TermsView → Replacement → Var → Option ℕ → Type 0
IsFoundFor s v q x None = ¬ Replaces q x
IsFoundFor s v q x (Some r) = Replaces q x × RefersTo s v r (replaced_by q x)

module _ (s : Table) (table : IsTable s) (v : TermsView) (k : ℕ) (x : Var) (here : IsLeaf s k (variable_leaf x)) where
  pub first_found : (bs : List (ℕ × ℕ)) (q : Replacement) → StandForReplacement s v bs q → IsFoundFor s v q x (first_for bs k)
  first_found [] [] h = λ never. never
  first_found [] (c ∷ q) h = absurd h
  first_found (b ∷ bs) [] h = absurd h
  first_found (b ∷ bs) (c ∷ q) h = go (first_found bs q h.1) (eqb b.0 k) (var_eq c.0 x) (eqb_tells b.0 k) refl
    where
      behind : var_eq c.0 x ≡ false → (o : Option ℕ) → IsFoundFor s v q x o → IsFoundFor s v (c ∷ q) x o
      behind e None never = λ r. elim r [ inl same ↦ (let z = (var_eq_decides c.0 x).1 same in cc) | inr later ↦ never later ]
      behind e (Some r) found = (inr found.0, subst (λ (d : Bool). RefersTo s v r (if d then c.1 else replaced_by q x)) (sym e) found.1)

      go : IsFoundFor s v q x (first_for bs k) → (t d : Bool) → ((t ≡ true) × (b.0 ≡ k)) ⊎ ((t ≡ false) × (b.0 ≢ k)) → var_eq c.0 x ≡ d → IsFoundFor s v (c ∷ q) x (if t then Some b.1 else first_for bs k)
      go rest true true (inl both) e = (inl ((var_eq_decides c.0 x).0 e), subst (λ (d : Bool). RefersTo s v b.1 (if d then c.1 else replaced_by q x)) (sym e) h.0.term)
      go rest true true (inr both) e = absurd (let z = both.0 in cc)
      go rest true false (inl both) e =
          absurd (let same = one_variable s k c.0 x (subst (λ j. IsLeaf s j (variable_leaf c.0)) both.1 h.0.variable) here in let z = (var_eq_decides c.0 x).1 same in cc)
      go rest true false (inr both) e = absurd (let z = both.0 in cc)
      go rest false true (inl both) e = absurd (let z = both.0 in cc)
      go rest false true (inr both) e = absurd (both.1 (one_leaf s table b.0 k c.0 x h.0.variable here ((var_eq_decides c.0 x).0 e)))
      go rest false false (inl both) e = absurd (let z = both.0 in cc)
      go rest false false (inr both) e = behind e (first_for bs k) rest

pub found_refers : (s : Table) (v : TermsView) (q : Replacement) (x : Var) (o : Option ℕ) → IsFoundFor s v q x o → IfSome o (λ r. RefersTo s v r (replaced_by q x))
found_refers s v q x None h = tt
found_refers s v q x (Some r) h = h.1

pub found_where : (s : Table) (v : TermsView) (q : Replacement) (x : Var) (o : Option ℕ) → IsFoundFor s v q x o → IsSome o ↔ Replaces q x
found_where s v q x None h = ((λ e. absurd cc), (λ r. absurd (h r)))
found_where s v q x (Some r) h = ((λ e. h.0), (λ r. search rules))
