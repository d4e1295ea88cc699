-- The variables of a let and those that an anchor binds.
use Rattle.std.proofs.Common.{◌≡◌, ◌↔◌, ℕ, List, [], ◌∷◌, map, All, refl, ◌∙◌, ap, subst}
use Rattle.std.specs.List.{AllZip, AllByRecursion}
use Rattle.std.proofs.lemmas.List.Elements.{All-from_recursion, recursion_from_All}
use Rattle.sym_table.specs.Table.{Table, IsTable, IsLeaf}
use Rattle.term_model.specs.FreeVariables.{IsFree, variables_of, bound_terms}
use Rattle.term_model.specs.Terms.{Var, Term, Bindings, no_bindings, binding}
use Rattle.term_pool.specs.Building.{AreBindings}
use Rattle.term_pool.specs.StandsFor.{variable_leaf}
use Rattle.term_pool.specs.Views.{TermsView, RefersTo}
use Rattle.term_pool.specs.Bindings.{IsBindingOf}
use Rattle.term_pool.proofs.Leaves.{one_variable, one_leaf}
use Rattle.rules_subproof.specs.Lets.{AreLeavesOf}

-- the leaves that are left, and what is asked of their variables
pub record AreLeft (s : Table) (t : Term) (ks : List ℕ) (all : List Var) : Type 0 where
  pub xs : List Var
  pub leaves : AreLeavesOf s ks xs
  pub same : AllByRecursion (λ x. ¬ IsFree x t) xs ↔ All (λ x. ¬ IsFree x t) all

module _ (s : Table) (t : Term) where
  pub free_start : (ks : List ℕ) (xs : List Var) → AreLeavesOf s ks xs → AreLeft s t ks xs
  free_start ks xs leaves =
      record { xs = xs; leaves = leaves; same = (All-from_recursion (λ x. ¬ IsFree x t) xs, recursion_from_All (λ x. ¬ IsFree x t) xs) }

  module _ (k : ℕ) (ks : List ℕ) (all : List Var) where
    pub free_next : ((x : Var) → IsLeaf s k (variable_leaf x) → ¬ IsFree x t) → AreLeft s t (k ∷ ks) all → AreLeft s t ks all
    free_next none h = go h.xs h.leaves h.same
      where
        go : (xs : List Var) → AreLeavesOf s (k ∷ ks) xs → AllByRecursion (λ x. ¬ IsFree x t) xs ↔ All (λ x. ¬ IsFree x t) all → AreLeft s t ks all
        go [] leaves same = absurd leaves
        go (x ∷ xs) leaves same =
            record { xs = xs; leaves = leaves.1; same = (λ rest. same.0 (none x leaves.0, rest), λ g. (same.1 g).1) }

    pub free_found : ((x : Var) → IsLeaf s k (variable_leaf x) → IsFree x t) → AreLeft s t (k ∷ ks) all → ¬ All (λ x. ¬ IsFree x t) all
    free_found found h = go h.xs h.leaves h.same
      where
        go : (xs : List Var) → AreLeavesOf s (k ∷ ks) xs → AllByRecursion (λ x. ¬ IsFree x t) xs ↔ All (λ x. ¬ IsFree x t) all → ¬ All (λ x. ¬ IsFree x t) all
        go [] leaves same = absurd leaves
        go (x ∷ xs) leaves same = λ g. (same.1 g).0 (found x leaves.0)

  pub free_end : (all : List Var) → AreLeft s t [] all → All (λ x. ¬ IsFree x t) all
  free_end all h = go h.xs h.leaves h.same
    where
      go : (xs : List Var) → AreLeavesOf s [] xs → AllByRecursion (λ x. ¬ IsFree x t) xs ↔ All (λ x. ¬ IsFree x t) all → All (λ x. ¬ IsFree x t) all
      go [] leaves same = same.0 tt
      go (x ∷ xs) leaves same = absurd leaves

module _ (s : Table) (v : TermsView) where
  pub leaves_of : (ks rs : List ℕ) (bs : Bindings) → AreBindings s v ks rs bs → AreLeavesOf s ks (variables_of bs)
  leaves_of [] [] no_bindings h = tt
  leaves_of [] [] (binding x t bs) h = absurd h
  leaves_of [] (r ∷ rs) bs h = absurd h
  leaves_of (k ∷ ks) [] bs h = absurd h
  leaves_of (k ∷ ks) (r ∷ rs) no_bindings h = absurd h
  leaves_of (k ∷ ks) (r ∷ rs) (binding x t bs) h = (h.0, leaves_of ks rs bs h.2)

  pub values_of : (ks rs : List ℕ) (bs : Bindings) → AreBindings s v ks rs bs → AllZip (RefersTo s v) rs (bound_terms bs)
  values_of [] [] no_bindings h = tt
  values_of [] [] (binding x t bs) h = absurd h
  values_of [] (r ∷ rs) bs h = absurd h
  values_of (k ∷ ks) [] bs h = absurd h
  values_of (k ∷ ks) (r ∷ rs) no_bindings h = absurd h
  values_of (k ∷ ks) (r ∷ rs) (binding x t bs) h = (h.1, values_of ks rs bs h.2)

  -- an anchor binds the same leaves exactly where it binds the same variables
  module _ (table : IsTable s) where
    heads : {X : Type 0} {a b : X} {pairs bs : List X} → a ∷ pairs ≡ b ∷ bs → a ≡ b
    heads e = cc

    tails : {X : Type 0} {a b : X} {pairs bs : List X} → a ∷ pairs ≡ b ∷ bs → pairs ≡ bs
    tails e = cc

    pub variables_same : (anchor : List (ℕ × ℕ)) (bound : List (Var × Term)) (ks : List ℕ) (xs : List Var) → AllZip (IsBindingOf s v) anchor bound → AreLeavesOf s ks xs → (map (λ (b : ℕ × ℕ). b.0) anchor ≡ ks) ↔ (map (λ (b : Var × Term). b.0) bound ≡ xs)
    variables_same [] [] [] [] h i = (λ e. refl, λ e. refl)
    variables_same [] [] [] (x ∷ xs) h i = absurd i
    variables_same [] [] (k ∷ ks) [] h i = absurd i
    variables_same [] [] (k ∷ ks) (x ∷ xs) h i = (λ e. absurd cc, λ e. absurd cc)
    variables_same [] (b ∷ bound) ks xs h i = absurd h
    variables_same (a ∷ anchor) [] ks xs h i = absurd h
    variables_same (a ∷ anchor) (b ∷ bound) [] [] h i = (λ e. absurd cc, λ e. absurd cc)
    variables_same (a ∷ anchor) (b ∷ bound) [] (x ∷ xs) h i = absurd i
    variables_same (a ∷ anchor) (b ∷ bound) (k ∷ ks) [] h i = absurd i
    variables_same (a ∷ anchor) (b ∷ bound) (k ∷ ks) (x ∷ xs) h i =
        let later = variables_same anchor bound ks xs h.1 i.1 in (
          λ e. ap (λ y. y ∷ map (λ (c : Var × Term). c.0) bound) (one_variable s k b.0 x (subst (λ j. IsLeaf s j (variable_leaf b.0)) (heads e) h.0.variable) i.0) ∙ ap (λ ys. x ∷ ys) (later.0 (tails e)),
          λ e. ap (λ j. j ∷ map (λ (c : ℕ × ℕ). c.0) anchor) (one_leaf s table a.0 k b.0 x h.0.variable i.0 (heads e)) ∙ ap (λ js. k ∷ js) (later.1 (tails e)),
        )
