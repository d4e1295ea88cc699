-- Public. What holds of every script that a text stands for.
use Rattle.std.specs.Prelude.{◌≡◌, ℕ, ◌≤◌, Bool, true, false, List, Contains, Option, Some, IfSome}
use Rattle.std.specs.List.{AllByRecursion}
use Rattle.term_model.specs.declared.symbols.Sort.{Sort}
use Rattle.term_model.specs.FreeVariables.{IsFree, IsClosed}
use Rattle.term_model.specs.Terms.{Var, Term, variable}
use Rattle.term_model.specs.Sorts.{IsOf}
use Rattle.term_model.specs.Heights.{height}
use Rattle.problem_text.specs.Limits.{most_height}
use Rattle.rule_model.specs.Replacement.{HasNoLet}
use Rattle.problem_text.specs.TypedTerms.{Typed}
use Rattle.problem_text.specs.Scripts.{Script}
use Rattle.problem_text.specs.Names.{Bound, Place}

-- the term is well sorted, and no higher than the limit
pub record IsReadWithin (limit : Option ℕ) (t : Typed) : Type 0 where
  pub sorted : IsOf t.tree t.sort
  pub low : IfSome limit (λ most. height t.tree ≤ most)

-- the term is one of a problem
abbrev pub IsRead : Typed → Type 0
IsRead t = IsReadWithin (Some most_height) t

-- each variable stands for a term of its sort
abbrev pub AreBoundSorted : List Bound → Type 0
AreBoundSorted scope = AllByRecursion (λ b. IsOf b.stands_for b.variable.sort) scope

-- Named terms have their sorts, a macro's body has its target sort, and assertions are formulas.
pub record IsSound (s : Script) : Type 0 where
  pub named : AllByRecursion (λ n. IsOf n.meant.tree n.meant.sort) s.named
  pub macros : AllByRecursion (λ m. IsOf m.body m.target) s.macros
  pub assertions : AllByRecursion (λ t. IsRead (record { tree = t; sort = Sort.Bool })) s.assertions

-- The bodies of macros have no let, and where lets are replaced no assertion has one.
pub record HasNoLets (replaces_lets : Bool) (s : Script) : Type 0 where
  pub macros : AllByRecursion (λ m. HasNoLet m.body) s.macros
  pub assertions : replaces_lets ≡ true → AllByRecursion HasNoLet s.assertions

-- Each variable that is free in the term is free in what a variable in scope stands for.
abbrev pub IsScoped : List Bound → Term → Type 0
IsScoped scope t = (x : Var) → IsFree x t → (b : Bound) × Contains scope b × IsFree x b.stands_for

-- where lets are kept each variable in scope stands for itself
abbrev pub AreThemselves : Place → Type 0
AreThemselves p = p.settings.replaces_lets ≡ false → AllByRecursion (λ b. b.stands_for ≡ variable b.variable) p.scope

-- The free variables of a macro's body are its parameters, and an assertion has none.
pub record HasScopedTerms (s : Script) : Type 0 where
  pub macros : AllByRecursion (λ m. (x : Var) → IsFree x m.body → Contains m.parameters x) s.macros
  pub assertions : AllByRecursion IsClosed s.assertions
