-- Private. What is put in for variables while the lets of a term are replaced: terms by the leaves of variables, the innermost
-- first.
use Rattle.std.specs.Prelude.{◌≡◌, ℕ, ◌==◌, if◌then◌else◌, List, [], ◌∷◌, Option, Some, None, nat_eq}
use Rattle.std.specs.declared.hash.FoldHasher.{FoldHasher}
use Rattle.std.specs.declared.hash.BuildHasherDefault.{BuildHasherDefault}
use Rattle.std.specs.HashMap.{get, HashMap}
use Rattle.term_expansion.specs.declared.assignments.Assigned.{Assigned}

-- references by leaves
abbrev pub Numbers : Type 0
Numbers = HashMap ℕ ℕ (BuildHasherDefault FoldHasher)

-- what is put in for the variable with this leaf
abbrev pub assigned_for : ℕ → List Assigned → Option ℕ
assigned_for k [] = None
assigned_for k (a ∷ assigned) = if a.variable == k then Some a.term else assigned_for k assigned

-- each knows what is put in for its variable further out
abbrev pub KnowOuter : List Assigned → Type 0
KnowOuter [] = Unit {0}
KnowOuter (a ∷ assigned) = (a.outer ≡ assigned_for a.variable assigned) × KnowOuter assigned

pub record AreAssignedInside (innermost : Numbers) (assigned : List Assigned) : Type 0 where
  pub outer : KnowOuter assigned
  pub innermost_is : (k : ℕ) → get nat_eq innermost k ≡ assigned_for k assigned

-- what stands for the variable with this leaf: the leaf where nothing else does
abbrev pub term_of : ℕ → List Assigned → ℕ
term_of k [] = k
term_of k (a ∷ assigned) = if a.variable == k then a.term else term_of k assigned

-- the variables with these leaves stand for these terms, the first of them innermost
abbrev pub assigned_all : List ℕ → List ℕ → List Assigned → List Assigned
assigned_all [] is outer = outer
assigned_all (k ∷ ks) [] outer = outer
assigned_all (k ∷ ks) (i ∷ is) outer =
    record { variable = k; term = i; outer = assigned_for k (assigned_all ks is outer) } ∷ assigned_all ks is outer
