-- Private. The arguments of a resolution in a strict proof, read two by two: a term, and what is to be its truth value.
use Rattle.std.specs.Prelude.{◌≡◌, ◌≤◌, ℕ, Bool, List, [], ◌∷◌, ◌++◌, Option, Some, None, option_map, option_and_then, unwrap_or, if◌then◌else◌, ⊤}
use Rattle.std.specs.List.{AllZip}
use Rattle.sexpr.specs.Items.{Item, Items, no_items, item}
use Rattle.term_model.specs.Terms.{Var, Term}
use Rattle.rule_model.specs.Scopes.{Nesting}
use Rattle.proof_store.specs.Meaning.{IsPivotOf}
use Rattle.text_items.specs.ItemsAt.{ItemsView, end_at, items_at}
use Rattle.text_items.specs.Stepping.{EndBy}
use Rattle.term_reader.specs.ProblemViews.{ReaderView}
use Rattle.alethe_text.specs.Arguments.{named_among, truth_of}
use Rattle.text_items.specs.Keywords.{behind_first}
use Rattle.alethe_text.specs.ProofTerms.{term_in}
use Rattle.alethe_text.specs.States.{ProofSettings, ProofState, Reading, ◌>>=◌, give}
use Rattle.alethe_reader.specs.Behind.{IsBehind}
use Rattle.term_expansion.specs.SymbolsAndTerms.{SymbolsAndTerms}

-- the first of some items, where there is one
abbrev pub first_alone : Items → Items
first_alone no_items = no_items
first_alone (item i rest) = item i no_items

-- Before node m the first of the items ends, and the one behind it where there is one; the others stand from there on.
pub record EndsPair (items : ItemsView) (k m end : ℕ) : Type 0 where
  pub behind : end_at items k ≤ m
  pub inside : m ≤ end
  pub nested : EndBy items (end_at items k) m
  pub pair : items_at items (end_at items k) m ≡ first_alone (items_at items (end_at items k) end)
  pub others : items_at items m end ≡ behind_first (items_at items (end_at items k) end)

-- the truth value that the first of some items is
abbrev pub truth_among : Items → Option Bool
truth_among no_items = None
truth_among (item i rest) = truth_of i

abbrev pub with_truth : {T : Type 0} → T → Option Bool → Option (T × Bool)
with_truth t truth = option_map (λ b. (t, b)) truth

-- a term and what stands behind it: the pivot that they are, where that is a truth value
unfoldable pub pivot_read : ProofSettings → Nesting Var Term → Item → Items → Reading (Option (Term × Bool))
pivot_read settings nesting i truth = do
  t ← term_in settings nesting i
  _ ← named_among settings nesting truth
  give (with_truth t.tree (truth_among truth))

-- a pivot as a list, where there is one; one list behind another, where both are there; and the pivots that are held, where all
-- are there so far
abbrev pub one_pivot : {T : Type 0} → Option (T × Bool) → Option (List (T × Bool))
one_pivot pivot = option_map (λ p. p ∷ []) pivot

abbrev pub both_lists : {A : Type 0} → Option (List A) → Option (List A) → Option (List A)
both_lists before behind = option_and_then (λ xs. option_map (λ ys. xs ++ ys) behind) before

abbrev pub held_pivots : Bool → List (ℕ × Bool) → Option (List (ℕ × Bool))
held_pivots all pivots = if all then Some pivots else None

-- both are there and so related, or neither is there
abbrev pub BothOrNeither : {A B : Type 0} → (A → B → Type 0) → Option A → Option B → Type 0
BothOrNeither R (Some a) (Some b) = R a b
BothOrNeither R (Some a) None = ⊥
BothOrNeither R None (Some b) = ⊥
BothOrNeither R None None = ⊤

-- a term was read with what stands behind it, and their pivot stands for the one that they are
pub record IsReadPivot (w : SymbolsAndTerms) (settings : ProofSettings) (nesting : Nesting Var Term) (r : ReaderView) (old : ProofState)
    (pivot : Option (ℕ × Bool)) (of : Option (Term × Bool)) (new : ProofState) : Type 0 where
  pub stands : BothOrNeither (IsPivotOf w.symbols w.terms) pivot of
  pub behind : IsBehind w settings nesting r old new

-- arguments were read, and these pivots stand for those that they are
pub record AreReadPivots (w : SymbolsAndTerms) (settings : ProofSettings) (nesting : Nesting Var Term) (r : ReaderView) (old : ProofState)
    (pivots : List (ℕ × Bool)) (_ : ⊤) (of : Option (List (Term × Bool))) (new : ProofState) : Type 0 where
  pub stand : AllZip (IsPivotOf w.symbols w.terms) pivots (unwrap_or of [])
  pub behind : IsBehind w settings nesting r old new
