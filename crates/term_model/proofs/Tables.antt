-- Tables of interpretations, and values of variables.
use Rattle.std.proofs.Common.{◌≡◌, ◌≢◌, List, [], ◌∷◌, Contains, All, refl, ap, ◌∙◌}
use Rattle.std.specs.List.{AllByRecursion}
use Rattle.std.proofs.lemmas.List.Elements.{All-from_recursion, recursion_from_All, All-contains}
use Rattle.term_model.specs.declared.symbols.Op.{Op}
use Rattle.term_model.specs.Terms.{Var, Fun, Term, variable, operation, let_in, terms_of, Bindings, no_bindings, binding, var_eq}
use Rattle.term_model.specs.Values.{Value, HasSort, HaveSorts}
use Rattle.term_model.specs.Operators.{meaning}
use Rattle.term_model.specs.Interpretations.{Row, RowFits, Interpretation, first_row, values_eq}
use Rattle.term_model.specs.Meaning.{Valuation, value_at, value}
use Rattle.term_model.proofs.Basics.{then_branch, else_branch}
use Rattle.term_model.proofs.Tests.{var_eq_decides, values_eq_decides}
use Rattle.term_model.proofs.Sorting.{first_row_fits}

pub first_row_here : (row : Row) (rows : List Row) (default : Value) → first_row (row ∷ rows) default row.arguments ≡ row.result
first_row_here row rows default =
    then_branch (values_eq row.arguments row.arguments) row.result (first_row rows default row.arguments)
    ((values_eq_decides row.arguments row.arguments).1 refl)

pub first_row_later : (row : Row) (rows : List Row) (default : Value) (vs : List Value) → row.arguments ≢ vs → first_row (row ∷ rows) default vs ≡ first_row rows default vs
first_row_later row rows default vs n =
    else_branch (values_eq row.arguments vs) row.result (first_row rows default vs) (λ e. n ((values_eq_decides row.arguments vs).0 e))

pub first_row_none : (rows : List Row) (default : Value) (vs : List Value) → AllByRecursion (λ row. row.arguments ≢ vs) rows → first_row rows default vs ≡ default
first_row_none [] default vs n = refl
first_row_none (row ∷ rows) default vs n = first_row_later row rows default vs n.0 ∙ first_row_none rows default vs n.1

pub first_row_default : (rows : List Row) (default : Value) (vs : List Value) → All (λ row. row.arguments ≢ vs) rows → first_row rows default vs ≡ default
first_row_default rows default vs n = first_row_none rows default vs (recursion_from_All (λ row. row.arguments ≢ vs) rows n)

pub table_result_fits : (I : Interpretation) (f : Fun) (vs : List Value) → HasSort f.target (first_row (I.table f).rows (I.table f).default vs)
table_result_fits I f vs = first_row_fits f (I.table f).rows (I.table f).default vs (I.fits f).rows (I.fits f).default

pub table_row_fits : (I : Interpretation) (f : Fun) (row : Row) → Contains (I.table f).rows row → HaveSorts f.arguments row.arguments
table_row_fits I f row here =
    (All-contains (RowFits f) (I.table f).rows row (All-from_recursion (RowFits f) (I.table f).rows (I.fits f).rows) here).arguments

pub value_at_here : (r : Valuation) (x : Var) (v : Value) → value_at ((x, v) ∷ r) x ≡ v
value_at_here r x v = then_branch (var_eq x x) v (value_at r x) ((var_eq_decides x x).1 refl)

pub value_at_later : (r : Valuation) (x y : Var) (v : Value) → y ≢ x → value_at ((y, v) ∷ r) x ≡ value_at r x
value_at_later r x y v n = else_branch (var_eq y x) v (value_at r x) (λ e. n ((var_eq_decides y x).0 e))

-- two variables that a let exchanges
abbrev pub exchange : Var → Var → Bindings
exchange x y = binding x (variable y) (binding y (variable x) no_bindings)

abbrev pub minus : Term → Term → Term
minus s t = operation Op.Minus (terms_of (s ∷ t ∷ []))

pub let_exchanges : (I : Interpretation) (r : Valuation) (x y : Var) → x ≢ y → value I r (let_in (exchange x y) (minus (variable x) (variable y))) ≡ value I r (minus (variable y) (variable x))
let_exchanges I r x y n =
    let s : Valuation = (x, value_at r y) ∷ (y, value_at r x) ∷ r in
    let e : value_at s x ≡ value_at r y = value_at_here ((y, value_at r x) ∷ r) x (value_at r y) in
    let f : value_at s y ≡ value_at r x =
    value_at_later ((y, value_at r x) ∷ r) y x (value_at r y) n ∙ value_at_here r y (value_at r x) in
    ap (λ v. meaning Op.Minus (v ∷ value_at s y ∷ [])) e ∙ ap (λ v. meaning Op.Minus (value_at r y ∷ v ∷ [])) f
