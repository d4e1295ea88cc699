-- Public. What the values of the code stand for.
use Rattle.std.specs.Prelude.{◌≡◌, List, true}
use Rattle.std.specs.List.{AllZip}
use Rattle.sym_table.specs.Table.{IsLeaf}
use Rattle.term_model.specs.Terms.{Var, Term}
use Rattle.term_model.specs.Heights.{height}
use Rattle.term_pool.specs.StandsFor.{variable_leaf}
use Rattle.term_pool.specs.Views.{RefersTo}
use Rattle.term_expansion.specs.SymbolsAndTerms.{SymbolsAndTerms}
use Rattle.term_expansion.specs.declared.values.Value.{Value}
use Rattle.term_expansion.specs.declared.values.Bound.{Bound}
use Rattle.rule_model.specs.Replacement.{Replacement, HasNoLet}
use Rattle.problem_text.specs.TypedTerms.{Typed}

-- The value stands for the term, of this sort.
pub record IsValue (w : SymbolsAndTerms) (c : Value) (t : Typed) : Type 0 where
  pub refers : RefersTo w.symbols w.terms c.term t.tree
  pub sort : c.sort ≡ t.sort
  pub high : c.height ≡ height t.tree
  pub plain : c.plain ≡ true → HasNoLet t.tree

abbrev pub AreValues : SymbolsAndTerms → List Value → List Typed → Type 0
AreValues w cs ts = AllZip (IsValue w) cs ts

-- The leaf is that of the variable, and the value stands for the term, which has the variable's sort.
pub record PutsIn (w : SymbolsAndTerms) (b : Bound) (x : Var) (t : Term) : Type 0 where
  pub leaf : IsLeaf w.symbols b.variable (variable_leaf x)
  pub value : IsValue w b.value (record { tree = t; sort = x.sort })

-- The list says the replacement.
abbrev pub IsReplacement : SymbolsAndTerms → List Bound → Replacement → Type 0
IsReplacement w bs q = AllZip (λ b p. PutsIn w b p.0 p.1) bs q
