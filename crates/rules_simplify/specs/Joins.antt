-- Private. Lists of arguments that are shortened, by their references.
use Rattle.std.specs.Prelude.{◌≡◌, ◌↔◌, ◌⊎◌, ℕ, Bool, true, false, List, [], ◌∷◌, Contains, IsTrue}
use Rattle.sym_table.specs.Table.{Table}
use Rattle.term_model.specs.declared.symbols.Op.{Op}
use Rattle.term_model.specs.Terms.{Term, operation, no_terms, terms_of}
use Rattle.term_pool.specs.Views.{TermsView, RefersTo, ReferToAll}
use Rattle.schema_match.specs.Arguments.{HasArguments, HasNoArguments}
use Rattle.schema_match.specs.declared.signs.Sign.{Sign}
use Rattle.rule_model.specs.Resolution.{LeavesWithout, IsFirstsOf}
use Rattle.rule_model.specs.Simplify.{AreOpposed, IsShortened, StandsAs, JoinsTo}
use Rattle.rules_simplify.specs.declared.joins.Junction.{Junction}
use Rattle.rules_simplify.specs.declared.joins.Side.{Side}

-- the constant of an operator
abbrev pub constant : Op → Term
constant op = operation op no_terms

-- the references stand for the list without the constant, and for the list without later repeats
pub record AreWithout (s : Table) (v : TermsView) (left_out : Term) (ts : List Term) (references : List ℕ) : Type 0 where
  pub kept : List Term
  pub refer : ReferToAll s v references kept
  pub is : LeavesWithout left_out ts kept

pub record AreOnceEach (s : Table) (v : TermsView) (ts : List Term) (references : List ℕ) : Type 0 where
  pub kept : List Term
  pub refer : ReferToAll s v references kept
  pub is : IsFirstsOf [] ts kept

-- the term is the absorbing constant, which the list has or comes to by two opposed items
abbrev pub IsAbsorbed : Op → List Term → Term → Type 0
IsAbsorbed absorbing ts t = (t ≡ constant absorbing) × (Contains ts (constant absorbing) ⊎ AreOpposed ts)

-- the term is what a shorter list stands as
abbrev pub IsShorter : Junction → List Term → Term → Type 0
IsShorter j ts t = (us : List Term) × IsShortened (constant j.neutral) ts us × StandsAs j.op (constant j.neutral) us t

-- what the arguments come to under a junction
abbrev pub Joins : Junction → List Term → Term → Type 0
Joins j = JoinsTo j.op (constant j.neutral) (constant j.absorbing)

-- the left side is an application of the junction's operator, whose arguments come to the right side
pub record IsJoined (j : Junction) (left right : Term) : Type 0 where
  pub arguments : List Term
  pub is : left ≡ operation j.op (terms_of arguments)
  pub joins : Joins j arguments right

-- the references are those of the arguments of what the side stands for, or there are none
abbrev pub HasAsArguments : Table → TermsView → Op → Term → List ℕ → Type 0
HasAsArguments s v op t references =
    HasArguments s v op Sign.Itself t references ⊎ (HasNoArguments op Sign.Itself t × (references ≡ []))

abbrev pub IsSide : Table → TermsView → Op → Side → Type 0
IsSide s v op side = (t : Term) → RefersTo s v side.term t → HasAsArguments s v op t side.arguments.items

-- the side is what a list stands as, by references
abbrev pub StandsBy : ℕ → Side → List ℕ → Type 0
StandsBy neutral side [] = side.term ≡ neutral
StandsBy neutral side (r ∷ []) = (side.term ≡ r) ⊎ (side.arguments.items ≡ r ∷ [])
StandsBy neutral side (r ∷ q ∷ references) = side.arguments.items ≡ r ∷ q ∷ references

-- by the table, references that the pass knows are the same exactly where their terms are
abbrev pub TellsTerms : Table → TermsView → Type 0
TellsTerms s v = (p q : ℕ) (t u : Term) → RefersTo s v p t → RefersTo s v q u → (p ≡ q) ↔ (t ≡ u)

-- whether the side is what a shorter list stands as, by any such table and pass
abbrev pub TellsShorter : ℕ → List ℕ → Side → Bool → Type 0
TellsShorter neutral references side told =
    (s : Table) (v : TermsView) (j : Junction) (ts : List Term) (t : Term) → TellsTerms s v → RefersTo s v neutral (constant j.neutral) →
    IsSide s v j.op side → ReferToAll s v references ts → RefersTo s v side.term t → IsTrue told ↔ IsShorter j ts t

-- the keys have come to have this number besides
abbrev pub AddsNumber : List ℕ → List ℕ → ℕ → Type 0
AddsNumber old new r = (k : ℕ) → Contains new k ↔ (Contains old k ⊎ (k ≡ r))

-- the term is noted behind its kind of number of negations, and the answer says whether it stood behind the other kind
abbrev pub IsMetOtherwise : List ℕ → List ℕ → List ℕ → List ℕ → ℕ → Bool → Bool → Type 0
IsMetOtherwise even odd new_even new_odd r true told = AddsNumber odd new_odd r × (new_even ≡ even) × (IsTrue told ↔ Contains even r)
IsMetOtherwise even odd new_even new_odd r false told = AddsNumber even new_even r × (new_odd ≡ odd) × (IsTrue told ↔ Contains odd r)
