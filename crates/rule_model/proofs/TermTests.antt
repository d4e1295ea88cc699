-- The tests whether two terms are one decide it.
use Rattle.std.proofs.Common.{◌≡◌, Decides, ◌&&◌, refl, ap}
use Rattle.std.proofs.lemmas.Bool.Decides.{Decides-eqb, Decides-and, Decides-like}
use Rattle.term_model.specs.declared.symbols.Op.{Op}
use Rattle.term_model.specs.Terms.{var_eq, Term, numeral, variable, operation, call, let_in, Terms, no_terms, term, Bindings, no_bindings, binding}
use Rattle.term_model.proofs.Tests.{var_eq_decides}
use Rattle.term_model.proofs.Existence.{fun_eq_decides}
use Rattle.rule_model.specs.TermTests.{op_eq, fun_eq, term_eq, terms_eq, bindings_eq}

pub op_eq_decides : (o p : Op) → Decides (op_eq o p) (o ≡ p)
op_eq_decides Op.True Op.True = (λ e. refl, λ e. refl)
op_eq_decides Op.False Op.False = (λ e. refl, λ e. refl)
op_eq_decides Op.Not Op.Not = (λ e. refl, λ e. refl)
op_eq_decides Op.Implies Op.Implies = (λ e. refl, λ e. refl)
op_eq_decides Op.And Op.And = (λ e. refl, λ e. refl)
op_eq_decides Op.Or Op.Or = (λ e. refl, λ e. refl)
op_eq_decides Op.Xor Op.Xor = (λ e. refl, λ e. refl)
op_eq_decides Op.Equal Op.Equal = (λ e. refl, λ e. refl)
op_eq_decides Op.Distinct Op.Distinct = (λ e. refl, λ e. refl)
op_eq_decides Op.Ite Op.Ite = (λ e. refl, λ e. refl)
op_eq_decides Op.Minus Op.Minus = (λ e. refl, λ e. refl)
op_eq_decides Op.Plus Op.Plus = (λ e. refl, λ e. refl)
op_eq_decides Op.Times Op.Times = (λ e. refl, λ e. refl)
op_eq_decides Op.Div Op.Div = (λ e. refl, λ e. refl)
op_eq_decides Op.Mod Op.Mod = (λ e. refl, λ e. refl)
op_eq_decides Op.LessEq Op.LessEq = (λ e. refl, λ e. refl)
op_eq_decides Op.Less Op.Less = (λ e. refl, λ e. refl)
op_eq_decides Op.GreaterEq Op.GreaterEq = (λ e. refl, λ e. refl)
op_eq_decides Op.Greater Op.Greater = (λ e. refl, λ e. refl)
op_eq_decides _ _ = (λ e. cc, λ e. cc)

mutual
  pub term_eq_decides : (t u : Term) → Decides (term_eq t u) (t ≡ u)
  term_eq_decides (numeral m) (numeral n) =
      Decides-like (term_eq (numeral m) (numeral n)) (ap numeral) (λ e. cc) (Decides-eqb m n)
  term_eq_decides (variable x) (variable y) =
      Decides-like (term_eq (variable x) (variable y)) (ap variable) (λ e. cc) (var_eq_decides x y)
  term_eq_decides (operation o ts) (operation p us) =
      Decides-like (term_eq (operation o ts) (operation p us)) (λ h. let e = h.0 in let f = h.1 in cc) (λ e. (cc, cc))
      (Decides-and (op_eq o p) (terms_eq ts us) (op_eq_decides o p) (terms_eq_decides ts us))
  term_eq_decides (call f ts) (call g us) =
      Decides-like (term_eq (call f ts) (call g us)) (λ h. let e = h.0 in let f = h.1 in cc) (λ e. (cc, cc))
      (Decides-and (fun_eq f g) (terms_eq ts us) (fun_eq_decides f g) (terms_eq_decides ts us))
  term_eq_decides (let_in bs t) (let_in cs u) =
      Decides-like (term_eq (let_in bs t) (let_in cs u)) (λ h. let e = h.0 in let f = h.1 in cc) (λ e. (cc, cc))
      (Decides-and (bindings_eq bs cs) (term_eq t u) (bindings_eq_decides bs cs) (term_eq_decides t u))
  term_eq_decides _ _ = (λ e. cc, λ e. cc)

  pub terms_eq_decides : (ts us : Terms) → Decides (terms_eq ts us) (ts ≡ us)
  terms_eq_decides no_terms no_terms = (λ e. refl, λ e. refl)
  terms_eq_decides (term t ts) (term u us) =
      Decides-like (terms_eq (term t ts) (term u us)) (λ h. let e = h.0 in let f = h.1 in cc) (λ e. (cc, cc))
      (Decides-and (term_eq t u) (terms_eq ts us) (term_eq_decides t u) (terms_eq_decides ts us))
  terms_eq_decides _ _ = (λ e. cc, λ e. cc)

  pub bindings_eq_decides : (bs cs : Bindings) → Decides (bindings_eq bs cs) (bs ≡ cs)
  bindings_eq_decides no_bindings no_bindings = (λ e. refl, λ e. refl)
  bindings_eq_decides (binding x t bs) (binding y u cs) =
      Decides-like (bindings_eq (binding x t bs) (binding y u cs)) (λ h. let e = h.0 in let f = h.1.0 in let g = h.1.1 in cc) (λ e. (cc, (cc, cc)))
      (Decides-and (var_eq x y) (term_eq t u && bindings_eq bs cs) (var_eq_decides x y)
      (Decides-and (term_eq t u) (bindings_eq bs cs) (term_eq_decides t u) (bindings_eq_decides bs cs)))
  bindings_eq_decides _ _ = (λ e. cc, λ e. cc)
