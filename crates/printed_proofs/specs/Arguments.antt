-- Public. How the pivots of a resolution, and the variables of an anchor, are printed, and when they are read back.
use Rattle.std.specs.Prelude.{◌≡◌, ◌||◌, ℕ, Bool, true, false, List, [], ◌∷◌, codes, Ok}
use Rattle.sexpr.specs.Items.{Item, word, Items, no_items, item}
use Rattle.sexpr.specs.Printed.{placed}
use Rattle.term_model.specs.declared.symbols.Sort.{Sort}
use Rattle.term_model.specs.Terms.{Var, Term}
use Rattle.rule_model.specs.Scopes.{Nesting, Scope}
use Rattle.problem_text.specs.Outcomes.{done}
use Rattle.problem_text.specs.Scripts.{Script, with_let_name}
use Rattle.problem_text.specs.Sorts.{sort_from}
use Rattle.problem_text.specs.Terms.{read_term}
use Rattle.problem_text.specs.TypedTerms.{Typed}
use Rattle.problem_text.specs.Words.{is_among, is_built_in}
use Rattle.alethe_text.specs.Anchors.{bound_names}
use Rattle.alethe_text.specs.PrintedCommands.{ArgumentItems}
use Rattle.alethe_text.specs.ProofTerms.{place_in}
use Rattle.alethe_text.specs.States.{ProofSettings}

-- Wherever the item stands, it is read to this term.
abbrev pub IsTermItem : ProofSettings → Nesting Var Term → Item → Script → Typed → Script → Type 0
IsTermItem settings nesting i s t u = (at : ℕ) → read_term (placed at i) (place_in settings nesting) s ≡ done t u

-- the item of a pivot's term, and the pivot with its truth value
pub record PivotItem : Type 0 where
  pub term : Item
  pub pivot : Term × Bool

abbrev pub truth_word : Bool → List ℕ
truth_word true = codes "true"
truth_word false = codes "false"

abbrev pub pivot_items : List PivotItem → Items
pivot_items [] = no_items
pivot_items (p ∷ ps) = item p.term (item (word 0 (truth_word p.pivot.1)) (pivot_items ps))

abbrev pub ArePivotItems : ProofSettings → Nesting Var Term → List PivotItem → Script → Script → Type 0
ArePivotItems settings nesting [] s u = s ≡ u
ArePivotItems settings nesting (p ∷ ps) s u =
    (sort : Sort) × (next : Script) × IsTermItem settings nesting p.term s (record { tree = p.pivot.0; sort = sort }) next
    × ArePivotItems settings nesting ps next u

-- The variable of an anchor has a name that no variable has that is in scope, and its sort and its term are read to its own.
pub record BindsAs (settings : ProofSettings) (scope : Scope Var Term) (earlier : List (List ℕ)) (x : ArgumentItems) (s : Script)
    (b : Var × Term) (u : Script) : Type 0 where
  pub named : b.0.name ≡ x.name
  pub not_built_in : is_built_in x.name ≡ false
  pub unbound : (is_among earlier x.name || is_among (bound_names scope.nesting) x.name) ≡ false
  pub sort : (at : ℕ) → sort_from s.sorts (placed at x.sort) ≡ Ok b.0.sort
  pub term : IsTermItem settings scope.nesting x.term (with_let_name x.name s) (record { tree = b.1; sort = b.0.sort }) u
