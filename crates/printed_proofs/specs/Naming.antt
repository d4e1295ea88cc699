-- Public. When names may be given to terms, and what has to be apart from them, so that terms that are printed with names are read
-- back.
use Rattle.std.specs.Prelude.{◌≡◌, ℕ, false, true, List, [], Contains, bytes_eq, find, None, ⊤}
use Rattle.sexpr.specs.Printed.{IsSymbolItem}
use Rattle.term_model.specs.Terms.{Term, numeral, variable, operation, call, let_in, Terms, no_terms, term, Bindings, no_bindings, binding}
use Rattle.term_model.specs.Sorts.{IsOf}
use Rattle.rule_model.specs.Replacement.{free_variables}
use Rattle.problem_text.specs.Names.{Place, innermost}
use Rattle.problem_text.specs.PrintedTerms.{IsUsable, HasNotName, MeansTerm}
use Rattle.problem_text.specs.Scripts.{Named, Script}
use Rattle.problem_text.specs.Words.{is_among, is_built_in}
use Rattle.printed_proofs.specs.Shared.{Plan}

-- Each name is one that a term may be given, its term has no free variable, and no two are one.
pub record IsPlan (plan : Plan) : Type 0 where
  pub usable : (n : Named) → Contains plan n → IsUsable n.name
  pub symbol : (n : Named) → Contains plan n → IsSymbolItem n.name
  pub free_word : (n : Named) → Contains plan n → is_built_in n.name ≡ false
  pub sorted : (n : Named) → Contains plan n → IsOf n.meant.tree n.meant.sort
  pub closed : (n : Named) → Contains plan n → free_variables n.meant.tree ≡ []
  pub distinct : (m n : Named) → Contains plan m → Contains plan n → m.name ≡ n.name → m ≡ n

-- A name of the plan that is taken was given to its term, and named terms take their names.
pub record IsReady (plan : Plan) (s : Script) : Type 0 where
  pub given : (n : Named) → Contains plan n → is_among s.taken n.name ≡ true → MeansTerm s n.name n.meant
  pub taken : (name : List ℕ) → is_among s.taken name ≡ false → find (λ m. bytes_eq m.name name) s.named ≡ None

-- no let in the term binds the name
abbrev mutual
  pub BindsNot : List ℕ → Term → Type 0
  BindsNot name (numeral n) = ⊤
  BindsNot name (variable x) = ⊤
  BindsNot name (operation op ts) = BindNot name ts
  BindsNot name (call f ts) = BindNot name ts
  BindsNot name (let_in bs t) = AreOtherNames name bs × BindsNot name t

  pub BindNot : List ℕ → Terms → Type 0
  BindNot name no_terms = ⊤
  BindNot name (term t ts) = BindsNot name t × BindNot name ts

  pub AreOtherNames : List ℕ → Bindings → Type 0
  AreOtherNames name no_bindings = ⊤
  AreOtherNames name (binding x t bs) = (bytes_eq x.name name ≡ false) × BindsNot name t × AreOtherNames name bs

-- No name of the plan stands in the term, and none is bound where it stands.
abbrev pub IsApart : Plan → Term → Type 0
IsApart plan t = (n : Named) → Contains plan n → HasNotName n.name t × BindsNot n.name t

abbrev pub IsPlaceApart : Plan → Place → Type 0
IsPlaceApart plan p = (n : Named) → Contains plan n → innermost p.scope n.name ≡ None
