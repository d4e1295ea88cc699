-- Public. Terms about which a question may be asked: what has to hold of them, so that its text is read as the question.
use Rattle.std.specs.Prelude.{◌≡◌, ℕ, ◌<◌, ◌^◌, false, List, [], ◌∷◌, ⊤}
use Rattle.std.specs.List.{AllByRecursion}
use Rattle.term_model.specs.declared.symbols.Sort.{Sort}
use Rattle.term_model.specs.Sorts.{IsOf}
use Rattle.term_model.specs.Terms.{Term, numeral, variable, operation, call, let_in, Terms, no_terms, term, Bindings, no_bindings, binding}
use Rattle.problem_text.specs.PrintedTerms.{BindsSome}
use Rattle.problem_text.specs.Words.{is_among}

-- Numerals are ones that are read, and each let binds something, and no name twice.
abbrev mutual
  pub IsAskable : Term → Type 0
  IsAskable (numeral n) = n < 2 ^ 127
  IsAskable (variable x) = ⊤
  IsAskable (operation op ts) = AreAskable ts
  IsAskable (call f ts) = AreAskable ts
  IsAskable (let_in bs t) = BindsSome bs × AreBoundAskable [] bs × IsAskable t

  pub AreAskable : Terms → Type 0
  AreAskable no_terms = ⊤
  AreAskable (term t ts) = IsAskable t × AreAskable ts

  -- behind bindings of these names
  pub AreBoundAskable : List (List ℕ) → Bindings → Type 0
  AreBoundAskable earlier no_bindings = ⊤
  AreBoundAskable earlier (binding x t bs) = (is_among earlier x.name ≡ false) × IsAskable t × AreBoundAskable (x.name ∷ earlier) bs

-- such a term of Bool
pub record IsAskedFormula (t : Term) : Type 0 where
  pub askable : IsAskable t
  pub formula : IsOf t Sort.Bool

abbrev pub AreAskedFormulas : List Term → Type 0
AreAskedFormulas ts = AllByRecursion IsAskedFormula ts
