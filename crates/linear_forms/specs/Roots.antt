-- Private. The nodes of one term and of two, and what a sweep that begins there comes to.
use Rattle.std.specs.Prelude.{◌≡◌, ◌≢◌, ◌⊎◌, [], ℕ, ℤ, pos, neg_ℤ, ◌+◌, ◌<◌, ◌≤◌, unsigned_abs, nat_lt, if◌then◌else◌, List, replicate, Option, Some, None}
use Rattle.sym_table.specs.Table.{Table}
use Rattle.term_model.specs.Terms.{Term}
use Rattle.term_pool.specs.Views.{TermsView}
use Rattle.rule_model.specs.Arith.{limit}
use Rattle.rule_model.specs.LinearForms.{constant, coefficient}
use Rattle.rule_model.specs.Weights.{weight}
use Rattle.linear_forms.specs.declared.forms.Numbers.{Numbers}
use Rattle.linear_forms.specs.declared.forms.OneForm.{OneForm}
use Rattle.linear_forms.specs.declared.forms.Pair.{Pair}
use Rattle.linear_forms.specs.declared.graph.Graph.{Graph}
use Rattle.linear_forms.specs.declared.memory.Item.TheVariants as Item
use Rattle.linear_forms.specs.declared.nodes.Coefficient.{Coefficient}
use Rattle.linear_forms.specs.Coefficients.{sizes_of}
use Rattle.linear_forms.specs.Factors.{added}
use Rattle.linear_forms.specs.Forms.{ListsCoefficients}
use Rattle.linear_forms.specs.Graphs.{IsGraph, IsRemembered}
use Rattle.linear_forms.specs.Infos.{limit_weight}

abbrev pub told_weight : ℕ → Option ℕ
told_weight w = if nat_lt w limit_weight then Some w else None

-- a graph in which a term has this number
pub record IsRootNumber (s : Table) (v : TermsView) (graph : Graph) (r k : ℕ) : Type 0 where
  pub right : IsGraph s v graph
  pub here : IsRemembered graph (Item.Term r) k

pub record IsRootPair (s : Table) (v : TermsView) (graph : Graph) (r q : ℕ) (p : Pair) : Type 0 where
  pub right : IsGraph s v graph
  pub one : IsRemembered graph (Item.Term r) p.first
  pub other : IsRemembered graph (Item.Term q) p.second

abbrev pub single_factors : ℕ → ℕ → List ℤ
single_factors n k = added (replicate n (pos 0)) k (pos 1)

abbrev pub pair_factors : ℕ → ℕ → ℕ → List ℤ
pair_factors n k l = added (single_factors n k) l (neg_ℤ (pos 1))

-- the linear form of a term, whose coefficients stand in a list
pub record IsExpandedForm (s : Table) (v : TermsView) (t : Term) (n : Numbers) (cs : List Coefficient) : Type 0 where
  pub weight_is : n.weight ≡ weight t
  pub narrow : weight t < limit
  pub constant_is : n.constant ≡ constant t
  pub coefficients : ListsCoefficients s v cs (coefficient t)
  pub light : unsigned_abs n.constant + sizes_of cs ≤ n.weight

abbrev pub IsExpanded : Table → TermsView → Term → Option Numbers → List Coefficient → Type 0
IsExpanded s v t None cs = limit ≤ weight t
IsExpanded s v t (Some n) cs = IsExpandedForm s v t n cs

-- whether a constant is 0 and a list of coefficients empty
abbrev pub IsTold : ℤ → List Coefficient → OneForm → Type 0
IsTold c cs OneForm.Yes = (c ≡ pos 0) × (cs ≡ [])
IsTold c cs OneForm.No = (c ≢ pos 0) ⊎ (cs ≢ [])
IsTold c cs OneForm.TooWide = ⊥
