-- Private. The table of the sides of premises.
use Rattle.std.specs.Prelude.{◌≡◌, ◌↔◌, ◌⊎◌, ℕ, List, Contains}
use Rattle.sym_table.specs.Table.{Table}
use Rattle.term_model.specs.Terms.{Term}
use Rattle.term_pool.specs.Views.{TermsView, RefersTo}
use Rattle.rule_model.specs.Congruence.{AreSides}
use Rattle.rules_subproof.specs.declared.sides.Sides.{Sides}

abbrev pub sides_are : ℕ → ℕ → Sides
sides_are a b = record { left = a; right = b }

-- two sides are there in both orders, what was there stays, and nothing else is there
pub record AddsSides (old : List Sides) (a b : ℕ) (new : List Sides) : Type 0 where
  pub stays : (x : Sides) → Contains old x → Contains new x
  pub one : Contains new (sides_are a b)
  pub other : Contains new (sides_are b a)
  pub only : (x : Sides) → Contains new x → Contains old x ⊎ ((sides_are a b ≡ x) ⊎ (sides_are b a ≡ x))

-- references stand together exactly where their terms are the sides of a premise
abbrev pub TellsSides : Table → TermsView → List Sides → List (List Term) → Type 0
TellsSides s v table premises =
    (a b : ℕ) (t u : Term) → RefersTo s v a t → RefersTo s v b u → Contains table (sides_are a b) ↔ AreSides premises t u

-- two references are one, or stand together
abbrev pub AreOneBy : List Sides → ℕ → ℕ → Type 0
AreOneBy table a b = (a ≡ b) ⊎ Contains table (sides_are a b)

-- the reference and that of the binding are one, or stand together
abbrev pub IsBoundTo : List Sides → ℕ → (ℕ × ℕ) → Type 0
IsBoundTo table a b = AreOneBy table a b.1
