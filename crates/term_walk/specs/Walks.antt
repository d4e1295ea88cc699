-- Public. What a walk over a term finds: what the term is at its top, and the first of its arguments and of its bindings.
use Rattle.std.specs.Prelude.{◌≡◌, ◌<◌, ◌^◌, ℕ, Bool, true, false, List, [], ◌∷◌, ◌++◌, length, Option, Some, None, ⊤}
use Rattle.pair_pool.specs.Trees.{Tree, leaf}
use Rattle.pair_pool.specs.Views.{Knows}
use Rattle.sym_table.specs.Leaf.{Leaf, operator}
use Rattle.sym_table.specs.Table.{Table, IsLeaf}
use Rattle.term_model.specs.Terms.{Var, Term, operation, call, let_in, Terms, no_terms, term, Bindings, no_bindings, binding}
use Rattle.term_pool.specs.StandsFor.{variable_leaf, function_leaf, StandsFor, StandsForList, StandsForBindings}
use Rattle.term_pool.specs.Views.{TermsView, RefersTo}
use Rattle.term_walk.specs.declared.lists.Binding.{Binding as Found}
use Rattle.term_walk.specs.declared.tasks.Task.{Task}
use Rattle.term_walk.specs.declared.tops.Top.{Top}

-- the reference is that of the list of these terms, and of these bindings
pub record IsListOf (s : Table) (v : TermsView) (r : ℕ) (ts : Terms) : Type 0 where
  pub tree : Tree
  pub known : Knows v.pass r tree
  pub stands : StandsForList s tree ts

pub record IsSomeList (s : Table) (v : TermsView) (r : ℕ) : Type 0 where
  pub terms : Terms
  pub is : IsListOf s v r terms

pub record ArePairsOf (s : Table) (v : TermsView) (r : ℕ) (bs : Bindings) : Type 0 where
  pub tree : Tree
  pub known : Knows v.pass r tree
  pub stands : StandsForBindings s tree bs

pub record AreSomePairs (s : Table) (v : TermsView) (r : ℕ) : Type 0 where
  pub bindings : Bindings
  pub are : ArePairsOf s v r bindings

-- THE TOP OF A TERM

-- the term is this symbol applied to these terms
abbrev pub IsSymbolWith : Term → Leaf → Terms → Type 0
IsSymbolWith (operation op ts) l us = (l ≡ operator op) × (us ≡ ts)
IsSymbolWith (call f ts) l us = (l ≡ function_leaf f) × (us ≡ ts)
IsSymbolWith _ l us = ⊥

-- the term is an application with this head and this list of arguments, of which there are some
pub record IsAppliedAt (s : Table) (v : TermsView) (head list : ℕ) (t : Term) : Type 0 where
  pub symbol : Leaf
  pub first : Term
  pub others : Terms
  pub leaf_is : IsLeaf s head symbol
  pub applied : IsSymbolWith t symbol (term first others)
  pub arguments : IsListOf s v list (term first others)

-- the term is a let with this list of bindings and this body
pub record IsLetAt (s : Table) (v : TermsView) (list body : ℕ) (t : Term) : Type 0 where
  pub bindings : Bindings
  pub inside : Term
  pub is : t ≡ let_in bindings inside
  pub pairs : ArePairsOf s v list bindings
  pub refers : RefersTo s v body inside

-- the term of the reference is this at its top
abbrev pub IsTop : Table → TermsView → ℕ → Top → Term → Type 0
IsTop s v r (Top.Leaf k) t = (k ≡ r) × (r < 2 ^ 30) × StandsFor s (leaf k) t
IsTop s v r (Top.Application head list) t = IsAppliedAt s v head list t
IsTop s v r (Top.Let list body) t = IsLetAt s v list body t

-- the leaf of what it is, or of its head, is in the table
abbrev pub HasLeaf : Table → Top → Type 0
HasLeaf s (Top.Leaf k) = k < length s.leaves
HasLeaf s (Top.Application head list) = head < length s.leaves
HasLeaf s (Top.Let list body) = ⊤

-- LISTS

-- The first of these terms, and those behind it, were put as tasks.
pub record PutsArgument (s : Table) (v : TermsView) (old_tasks new_tasks : List Task) (ts : Terms) : Type 0 where
  pub first : Term
  pub others : Terms
  pub is : ts ≡ term first others
  pub of_first : ℕ
  pub of_others : ℕ
  pub put : new_tasks ≡ old_tasks ++ (Task.Arguments of_others ∷ Task.Term of_first ∷ [])
  pub refers : RefersTo s v of_first first
  pub list : IsListOf s v of_others others

abbrev pub TakesArgument : Bool → Table → TermsView → List Task → List Task → Terms → Type 0
TakesArgument true s v old_tasks new_tasks ts = PutsArgument s v old_tasks new_tasks ts
TakesArgument false s v old_tasks new_tasks ts = (ts ≡ no_terms) × (new_tasks ≡ old_tasks)

-- the first of these bindings, by the leaf of its variable and the references of its value and of the list of the others
pub record IsBindingAt (s : Table) (v : TermsView) (k of_value rest : ℕ) (bs : Bindings) : Type 0 where
  pub bound : Var
  pub value : Term
  pub others : Bindings
  pub is : bs ≡ binding bound value others
  pub leaf_is : IsLeaf s k (variable_leaf bound)
  pub refers : RefersTo s v of_value value
  pub list : ArePairsOf s v rest others

abbrev pub IsFirstBinding : Table → TermsView → Option Found → Bindings → Type 0
IsFirstBinding s v None bs = bs ≡ no_bindings
IsFirstBinding s v (Some b) bs = IsBindingAt s v b.variable b.value b.rest bs

-- The first binding was taken: its value, and the bindings behind it, were put as tasks.
pub record PutsBinding (s : Table) (v : TermsView) (k : ℕ) (old_tasks new_tasks : List Task) (bs : Bindings) : Type 0 where
  pub of_value : ℕ
  pub rest : ℕ
  pub has : IsBindingAt s v k of_value rest bs
  pub put : new_tasks ≡ old_tasks ++ (Task.Bindings rest ∷ Task.Close ∷ Task.Term of_value ∷ [])

abbrev pub TakesBinding : Option ℕ → Table → TermsView → List Task → List Task → Bindings → Type 0
TakesBinding None s v old_tasks new_tasks bs = (bs ≡ no_bindings) × (new_tasks ≡ old_tasks)
TakesBinding (Some k) s v old_tasks new_tasks bs = PutsBinding s v k old_tasks new_tasks bs
