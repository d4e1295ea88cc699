-- Public. Terms over a vocabulary: what has to hold of a term, wherever it stands, so that it can be printed.
use Rattle.std.specs.Prelude.{◌≡◌, ℕ, ◌^◌, ◌<◌, true, false, List, [], ◌∷◌, map, Contains, Some, ⊤}
use Rattle.term_model.specs.FreeVariables.{Binds, IsFree, variables_of}
use Rattle.term_model.specs.Terms.{Var, Term, numeral, variable, operation, call, let_in, Terms, no_terms, term, Bindings, no_bindings, binding}
use Rattle.problem_text.specs.Names.{Bound, itself, innermost}
use Rattle.problem_text.specs.PrintedTerms.{BindsSome}
use Rattle.problem_text.specs.Words.{is_among}
use Rattle.readable_proofs.specs.Names.{Vocabulary}

abbrev pub names_of : Bindings → List (List ℕ)
names_of bs = map (λ x. x.name) (variables_of bs)

-- no two of the bindings have one name, and none has one of these
abbrev pub BindOnce : List (List ℕ) → Bindings → Type 0
BindOnce earlier no_bindings = ⊤
BindOnce earlier (binding x t bs) = (is_among earlier x.name ≡ false) × BindOnce (x.name ∷ earlier) bs

-- A let with this body binds something, and no name twice. It hides nothing: where a variable that is free in the body has a name
-- that the let binds, it is the variable that the let binds.
pub record IsProperLet (bs : Bindings) (body : Term) : Type 0 where
  pub some : BindsSome bs
  pub once : BindOnce [] bs
  pub hides_none : (x : Var) → IsFree x body → is_among (names_of bs) x.name ≡ true → Binds bs x

-- Numerals are ones that are read, functions are those of the vocabulary, and lets bind names of it.
abbrev mutual
  pub IsTermOver : Vocabulary → Term → Type 0
  IsTermOver v (numeral n) = n < 2 ^ 127
  IsTermOver v (variable x) = ⊤
  IsTermOver v (operation op ts) = AreTermsOver v ts
  IsTermOver v (call f ts) = Contains v.functions f × AreTermsOver v ts
  IsTermOver v (let_in bs t) = IsProperLet bs t × AreBoundOver v bs × IsTermOver v t

  pub AreTermsOver : Vocabulary → Terms → Type 0
  AreTermsOver v no_terms = ⊤
  AreTermsOver v (term t ts) = IsTermOver v t × AreTermsOver v ts

  pub AreBoundOver : Vocabulary → Bindings → Type 0
  AreBoundOver v no_bindings = ⊤
  AreBoundOver v (binding x t bs) = Contains v.variables x.name × IsTermOver v t × AreBoundOver v bs

-- Of each variable that is free in the term, the innermost binding of its name is one of this variable, which stands for itself.
abbrev pub BindsFree : List Bound → Term → Type 0
BindsFree scope t = (x : Var) → IsFree x t → innermost scope x.name ≡ Some (itself x)
