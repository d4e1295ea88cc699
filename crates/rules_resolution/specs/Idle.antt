-- Private. Premises from which nothing can be won.
use Rattle.std.specs.Prelude.{◌≡◌, ◌⊎◌, ℕ, ◌<◌, true, false, List, length}
use Rattle.rule_model.specs.Consequence.{literal_at, premise_at, IsOnly}
use Rattle.rule_model.specs.Literals.{negation_of}
use Rattle.rules_resolution.specs.Falsity.{is_false_in}
use Rattle.rules_resolution.specs.Literal.{Lit}

-- nothing can be won from the clause: a literal is not false, and one that is alone so is true already
pub record IsIdle (falses clause : List Lit) : Type 0 where
  pub open_at : ℕ
  pub place : open_at < length clause
  pub not_false : is_false_in falses (literal_at clause open_at) ≡ false
  pub settled : (j : ℕ) → IsOnly falses clause j → is_false_in falses (negation_of (literal_at clause j)) ≡ true

abbrev pub AllIdleBelow : List (List Lit) → List Lit → ℕ → Type 0
AllIdleBelow premises falses n = (i : ℕ) → i < n → IsIdle falses (premise_at premises i)

-- all literals of the clause are false but one, which is true
pub record IsSettled (falses clause : List Lit) : Type 0 where
  pub literal : Lit
  pub is_true : is_false_in falses (negation_of literal) ≡ true
  pub others : (k : ℕ) → k < length clause → (is_false_in falses (literal_at clause k) ≡ true) ⊎ (literal_at clause k ≡ literal)
