-- Private. Replacing lets and putting terms in for variables, where what becomes of a term is placed at once.
use Rattle.std.specs.Prelude.{◌≡◌, ℕ, List, [], ◌∷◌, map, Some, Vec, nat_eq, Contains}
use Rattle.std.specs.HashMap.{HashMap, get}
use Rattle.std.specs.Cmp.Lexicographic.{pointwise}
use Rattle.std.specs.List.{AllByRecursion, AllZip}
use Rattle.std.specs.declared.alloc.Global.{Global}
use Rattle.std.specs.declared.hash.BuildHasherDefault.{BuildHasherDefault}
use Rattle.std.specs.declared.hash.FoldHasher.{FoldHasher}
use Rattle.pair_pool.specs.Trees.{Tree}
use Rattle.sym_table.specs.Table.{Table, IsLeaf}
use Rattle.term_model.specs.Terms.{Var, Term}
use Rattle.term_pool.specs.Building.{PlacesOnlyIn, IsFullIn}
use Rattle.term_pool.specs.StandsFor.{variable_leaf, StandsFor}
use Rattle.term_pool.specs.Trees.{IsPartOf}
use Rattle.term_pool.specs.Views.{TermsView, RefersTo, ReferToAll}
use Rattle.term_expansion.specs.Assigned.{term_of}
use Rattle.term_expansion.specs.Free.{HasVariable}
use Rattle.term_expansion.specs.Needs.{IsNeeded, value_of, AreNeeds}
use Rattle.rule_model.specs.Replacement.{Replacement, replaced_by, replaced}
use Rattle.term_expansion.specs.declared.assignments.Assigned.{Assigned}
use Rattle.term_expansion.specs.declared.expanding.Expansion.{Expansion}
use Rattle.term_expansion.specs.SymbolsAndTerms.{SymbolsAndTerms}

-- only variables have something put in for them
abbrev pub AreVariables : Table → List Assigned → Type 0
AreVariables s assigned = AllByRecursion (λ a. (x : Var) × IsLeaf s a.variable (variable_leaf x)) assigned

-- what is put in for the variables that the term needs is as the replacement says
pub record Says (w : SymbolsAndTerms) (assigned : List Assigned) (q : Replacement) (t : Term) : Type 0 where
  pub variables : AreVariables w.symbols assigned
  pub puts : (k : ℕ) (x : Var) → IsLeaf w.symbols k (variable_leaf x) → IsNeeded x t → RefersTo w.symbols w.terms (term_of k assigned) (replaced_by q x)

-- what is put in for any variable is as the replacement says
pub record SaysWhole (w : SymbolsAndTerms) (assigned : List Assigned) (q : Replacement) : Type 0 where
  pub variables : AreVariables w.symbols assigned
  pub puts : (k : ℕ) (x : Var) → IsLeaf w.symbols k (variable_leaf x) → RefersTo w.symbols w.terms (term_of k assigned) (replaced_by q x)

-- and so for what each of the terms needs
abbrev pub SaysAll : SymbolsAndTerms → List Assigned → Replacement → List Term → Type 0
SaysAll w assigned q ts = AllByRecursion (Says w assigned q) ts

-- the reference stands for a term, and for what that needs something is put in
pub record IsSaid (w : SymbolsAndTerms) (assigned : List Assigned) (r : ℕ) : Type 0 where
  pub means : Term
  pub refers : RefersTo w.symbols w.terms r means
  pub puts : Replacement
  pub says : Says w assigned puts means

pub record AreSaid (w : SymbolsAndTerms) (assigned : List Assigned) (rs : List ℕ) : Type 0 where
  pub means : List Term
  pub refer : ReferToAll w.symbols w.terms rs means
  pub puts : Replacement
  pub says : SaysAll w assigned puts means

-- the terms with this put in
abbrev pub replaced_each : Replacement → List Term → List Term
replaced_each q ts = map (replaced q) ts

-- a part of the tree stands for the term
pub record HasPart (s : Table) (whole : Tree) (t : Term) : Type 0 where
  pub tree : Tree
  pub stands : StandsFor s tree t
  pub part : IsPartOf tree whole

abbrev pub HasPartTerms : Table → Tree → List Term → Type 0
HasPartTerms s whole ts = AllByRecursion (HasPart s whole) ts

-- the new pass has what the term of the reference becomes, and has it by the reference i
abbrev pub ExpandsOne : SymbolsAndTerms → TermsView → List Assigned → ℕ → ℕ → Type 0
ExpandsOne old new a r i = (t : Term) (q : Replacement) → RefersTo old.symbols old.terms r t → Says old a q t → RefersTo old.symbols new i (replaced q t)

-- what the new pass placed and the old one had not, are cells of each tree that has what the term becomes
abbrev pub PlacesOne : SymbolsAndTerms → TermsView → List Assigned → ℕ → Type 0
PlacesOne old new a r = (t : Term) (q : Replacement) (whole : Tree) → RefersTo old.symbols old.terms r t → Says old a q t →
    HasPart old.symbols whole (replaced q t) → PlacesOnlyIn old.terms.pass new.pass whole

-- the new pass has seen all places occupied by other cells than one of such a tree
abbrev pub FillsOne : SymbolsAndTerms → TermsView → List Assigned → ℕ → Type 0
FillsOne old new a r = (t : Term) (q : Replacement) (whole : Tree) → RefersTo old.symbols old.terms r t → Says old a q t →
    HasPart old.symbols whole (replaced q t) → IsFullIn new.pass whole

-- the same for what each of the terms becomes, in order
abbrev pub ExpandsAll : SymbolsAndTerms → TermsView → List Assigned → List ℕ → List ℕ → Type 0
ExpandsAll old new a rs is = (ts : List Term) (q : Replacement) → ReferToAll old.symbols old.terms rs ts → SaysAll old a q ts →
    ReferToAll old.symbols new is (replaced_each q ts)

abbrev pub PlacesAll : SymbolsAndTerms → TermsView → List Assigned → List ℕ → Type 0
PlacesAll old new a rs = (ts : List Term) (q : Replacement) (whole : Tree) → ReferToAll old.symbols old.terms rs ts → SaysAll old a q ts →
    HasPartTerms old.symbols whole (replaced_each q ts) → PlacesOnlyIn old.terms.pass new.pass whole

abbrev pub FillsAll : SymbolsAndTerms → TermsView → List Assigned → List ℕ → Type 0
FillsAll old new a rs = (ts : List Term) (q : Replacement) (whole : Tree) → ReferToAll old.symbols old.terms rs ts → SaysAll old a q ts →
    HasPartTerms old.symbols whole (replaced_each q ts) → IsFullIn new.pass whole

-- a reference, and what is put in for the variables with these leaves
abbrev pub pairs_of : List Assigned → List ℕ → List ℕ
pairs_of assigned [] = []
pairs_of assigned (k ∷ ks) = k ∷ term_of k assigned ∷ pairs_of assigned ks

abbrev pub key_of : ℕ → List Assigned → List ℕ → List ℕ
key_of r assigned leaves = r ∷ pairs_of assigned leaves

-- what terms have become, by such lists
abbrev pub Done : Type 0
Done = HashMap (Vec ℕ Global) ℕ (BuildHasherDefault FoldHasher)

pub record HasBecomeBy (w : SymbolsAndTerms) (key : List ℕ) (i : ℕ) : Type 0 where
  pub cell : ℕ
  pub assigned : List Assigned
  pub leaves : List ℕ
  pub key_is : key ≡ key_of cell assigned leaves
  pub means : Term
  pub refers : RefersTo w.symbols w.terms cell means
  pub covered : (x : Var) → IsNeeded x means → HasVariable w.symbols leaves x
  pub puts : Replacement
  pub says : Says w assigned puts means
  pub becomes : RefersTo w.symbols w.terms i (replaced puts means)

pub record AreDone (w : SymbolsAndTerms) (done : Done) : Type 0 where
  pub each : (key : Vec ℕ Global) (i : ℕ) → get (λ x y. pointwise nat_eq x.items y.items) done key ≡ Some i → HasBecomeBy w key.items i

-- what is kept while a term is expanded is right
pub record IsExpansion (w : SymbolsAndTerms) (e : Expansion) : Type 0 where
  pub needs : AreNeeds w e.needs.leaves
  pub done : AreDone w e.done

-- of the variables with these leaves those that are given values, and the values
abbrev pub AreGiven : List ℕ → List ℕ → List ℕ → List ℕ → List ℕ → Type 0
AreGiven leaves vars values ks rs = AllZip (λ k r. Contains leaves k × (value_of k vars values ≡ Some r)) ks rs

pub record AreValuesGiven (leaves vars values ks rs : List ℕ) : Type 0 where
  pub are : AreGiven leaves vars values ks rs
  pub all : (k r : ℕ) → Contains leaves k → value_of k vars values ≡ Some r → Contains ks k
