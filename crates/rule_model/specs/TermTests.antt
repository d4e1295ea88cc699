-- Public. Whether two terms are one, as a test.
use Rattle.std.specs.Prelude.{Bool, true, false, ◌==◌, ◌&&◌, bytes_eq}
use Rattle.term_model.specs.declared.symbols.Op.{Op}
use Rattle.term_model.specs.Terms.{sort_eq, var_eq, Fun, Term, numeral, variable, operation, call, let_in, Terms, no_terms, term}
use Rattle.term_model.specs.Terms.{Bindings, no_bindings, binding}
use Rattle.term_model.specs.Sorts.{sorts_eq}

abbrev pub op_eq : Op → Op → Bool
op_eq Op.True Op.True = true
op_eq Op.False Op.False = true
op_eq Op.Not Op.Not = true
op_eq Op.Implies Op.Implies = true
op_eq Op.And Op.And = true
op_eq Op.Or Op.Or = true
op_eq Op.Xor Op.Xor = true
op_eq Op.Equal Op.Equal = true
op_eq Op.Distinct Op.Distinct = true
op_eq Op.Ite Op.Ite = true
op_eq Op.Minus Op.Minus = true
op_eq Op.Plus Op.Plus = true
op_eq Op.Times Op.Times = true
op_eq Op.Div Op.Div = true
op_eq Op.Mod Op.Mod = true
op_eq Op.LessEq Op.LessEq = true
op_eq Op.Less Op.Less = true
op_eq Op.GreaterEq Op.GreaterEq = true
op_eq Op.Greater Op.Greater = true
op_eq _ _ = false

abbrev pub fun_eq : Fun → Fun → Bool
fun_eq f g = bytes_eq f.name g.name && (sorts_eq f.arguments g.arguments && sort_eq f.target g.target)

abbrev mutual
  pub term_eq : Term → Term → Bool
  term_eq (numeral m) (numeral n) = m == n
  term_eq (variable x) (variable y) = var_eq x y
  term_eq (operation o ts) (operation p us) = op_eq o p && terms_eq ts us
  term_eq (call f ts) (call g us) = fun_eq f g && terms_eq ts us
  term_eq (let_in bs t) (let_in cs u) = bindings_eq bs cs && term_eq t u
  term_eq _ _ = false

  pub terms_eq : Terms → Terms → Bool
  terms_eq no_terms no_terms = true
  terms_eq (term t ts) (term u us) = term_eq t u && terms_eq ts us
  terms_eq _ _ = false

  pub bindings_eq : Bindings → Bindings → Bool
  bindings_eq no_bindings no_bindings = true
  bindings_eq (binding x t bs) (binding y u cs) = var_eq x y && (term_eq t u && bindings_eq bs cs)
  bindings_eq _ _ = false
