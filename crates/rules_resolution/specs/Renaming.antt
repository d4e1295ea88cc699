-- Private. Clauses whose atoms have new names.
use Rattle.std.specs.Prelude.{◌≡◌, ℕ, ◌+◌, Option, Some, None, List, [], ◌∷◌, ◌++◌, length, slice_index_or}
use Rattle.std.specs.List.{flat_map}
use Rattle.rule_model.specs.Consequence.{literal_at}
use Rattle.rule_model.specs.declared.literal.Literal.TheVariants.{Plain, Always, Never}
use Rattle.rules_resolution.specs.Literal.{Lit}

-- the literals of all clauses, one clause after the other
abbrev pub joined_clauses : List (List Lit) → List Lit
joined_clauses clauses = flat_map (λ (c : List Lit). c) clauses

-- the literals of the premises, and then those of the conclusion
abbrev pub all_literals : List (List Lit) → List Lit → List Lit
all_literals premises goal = joined_clauses premises ++ goal

-- the atom of a literal that is no constant
abbrev pub atom_of : Lit → Option ℕ
atom_of (Plain a s) = Some a
atom_of Always = None
atom_of Never = None

abbrev pub atom_name_at : List ℕ → ℕ → ℕ
atom_name_at names i = slice_index_or names i 0

-- a name for each literal's atom: two have the same name exactly where they are the same
pub record AreNames (literals : List Lit) (names : List ℕ) : Type 0 where
  pub size : length names ≡ length literals
  pub same : (i j a : ℕ) → atom_of (literal_at literals i) ≡ Some a → atom_of (literal_at literals j) ≡ Some a → atom_name_at names i ≡ atom_name_at names j
  pub one_atom : (i j a b : ℕ) → atom_of (literal_at literals i) ≡ Some a → atom_of (literal_at literals j) ≡ Some b →
      atom_name_at names i ≡ atom_name_at names j → a ≡ b

-- the literal with this name for its atom
abbrev pub renamed_atom : Lit → ℕ → Lit
renamed_atom (Plain a s) n = Plain n s
renamed_atom Always n = Always
renamed_atom Never n = Never

-- the literals with the names from number i on
abbrev pub renamed_from : List ℕ → ℕ → List Lit → List Lit
renamed_from names i [] = []
renamed_from names i (l ∷ ls) = renamed_atom l (atom_name_at names i) ∷ renamed_from names (i + 1) ls

-- the clauses with the names from number i on
abbrev pub renamed_in : List ℕ → ℕ → List (List Lit) → List (List Lit)
renamed_in names i [] = []
renamed_in names i (c ∷ cs) = renamed_from names i c ∷ renamed_in names (i + length c) cs
