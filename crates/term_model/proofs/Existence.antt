-- Interpretations that give a function two values.
use Rattle.std.proofs.Common.{◌≡◌, ◌≢◌, List, [], ◌∷◌, Bool, true, false, ◌&&◌, Decides, bytes_eq, if◌then◌else◌, refl, ap, ◌∙◌, subst}
use Rattle.std.proofs.lemmas.Bool.Decides.{Decides-and, Decides-like}
use Rattle.std.proofs.lemmas.Slice.Eq.{bytes_eq-Decides}
use Rattle.term_model.specs.Terms.{Fun, sort_eq}
use Rattle.term_model.specs.Values.{Value, HasSort, HaveSorts, some_value}
use Rattle.term_model.specs.Interpretations.{Row, FunctionTable, TableFits, Interpretation, first_row}
use Rattle.term_model.specs.Sorts.{sorts_eq}
use Rattle.term_model.proofs.Basics.{then_branch}
use Rattle.term_model.proofs.Tests.{sort_eq_decides, sorts_eq_decides}
use Rattle.term_model.proofs.Sorting.{some_value_fits}
use Rattle.term_model.proofs.Tables.{first_row_here, first_row_later}

abbrev pub fun_eq : Fun → Fun → Bool
fun_eq f g = bytes_eq f.name g.name && (sorts_eq f.arguments g.arguments && sort_eq f.target g.target)

same_fun : (f g : Fun) → f.name ≡ g.name → f.arguments ≡ g.arguments → f.target ≡ g.target → f ≡ g
same_fun f g p q r =
    ap (λ n. record f { name = n }) p
    ∙ (ap (λ ss. record g { arguments = ss; target = f.target }) q ∙ ap (λ s. record g { target = s }) r)

pub fun_eq_decides : (f g : Fun) → Decides (fun_eq f g) (f ≡ g)
fun_eq_decides f g =
    Decides-like (fun_eq f g) (λ h. same_fun f g h.0 h.1.0 h.1.1)
    (λ e. (ap (λ h. h.name) e, (ap (λ h. h.arguments) e, ap (λ h. h.target) e)))
    (Decides-and (bytes_eq f.name g.name) (sorts_eq f.arguments g.arguments && sort_eq f.target g.target)
    (bytes_eq-Decides f.name g.name)
    (Decides-and (sorts_eq f.arguments g.arguments) (sort_eq f.target g.target)
    (sorts_eq_decides f.arguments g.arguments) (sort_eq_decides f.target g.target)))

-- this table at one function, and constants at all others
table_for : Fun → FunctionTable → Fun → FunctionTable
table_for f table g = if fun_eq f g then table else record { rows = []; default = some_value g.target }

table_for_fits : (f : Fun) (table : FunctionTable) → TableFits f table → (g : Fun) → TableFits g (table_for f table g)
unfolding table_for
table_for_fits f table fits g = go (fun_eq f g) refl
  where
    go : (b : Bool) → fun_eq f g ≡ b → TableFits g (if b then table else record { rows = []; default = some_value g.target })
    go true e = subst (λ h. TableFits h table) ((fun_eq_decides f g).0 e) fits
    go false e = record { rows = tt; default = some_value_fits g.target }

table_for_here : (f : Fun) (table : FunctionTable) → table_for f table f ≡ table
unfolding table_for
table_for_here f table = then_branch (fun_eq f f) table _ ((fun_eq_decides f f).1 refl)

-- a function's results at two lists of arguments are free
pub two_results : (f : Fun) (vs ws : List Value) (v w : Value) → HaveSorts f.arguments vs → HasSort f.target v → HasSort f.target w → vs ≢ ws → (I : Interpretation) × (first_row (I.table f).rows (I.table f).default vs ≡ v) × (first_row (I.table f).rows (I.table f).default ws ≡ w)
two_results f vs ws v w fit at other apart = (
  record { table = table_for f table; fits = table_for_fits f table (record { rows = (record { arguments = fit; result = at }, tt); default = other }) },
  ap (λ t. first_row t.rows t.default vs) (table_for_here f table) ∙ first_row_here row [] w,
  ap (λ t. first_row t.rows t.default ws) (table_for_here f table) ∙ first_row_later row [] w ws apart,
)
  where
    row : Row
    row = record { arguments = vs; result = v }

    table : FunctionTable
    table = record { rows = row ∷ []; default = w }
