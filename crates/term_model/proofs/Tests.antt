-- The tests of equality decide it.
use Rattle.std.proofs.Common.{◌≡◌, ℕ, List, [], ◌∷◌, true, false, Decides, bytes_eq, refl, ap}
use Rattle.std.proofs.lemmas.Bool.Decides.{Decides-eqb, Decides-int_eq, Decides-and, Decides-like}
use Rattle.std.proofs.lemmas.Slice.Eq.{bytes_eq-Decides}
use Rattle.term_model.specs.declared.symbols.Sort.{Sort}
use Rattle.term_model.specs.Terms.{Var, sort_eq, var_eq}
use Rattle.term_model.specs.Values.{Value, truth, whole, value_eq}
use Rattle.term_model.specs.Interpretations.{values_eq}
use Rattle.term_model.specs.Sorts.{sorts_eq}

pub sort_eq_decides : (s t : Sort) → Decides (sort_eq s t) (s ≡ t)
sort_eq_decides Sort.Bool Sort.Bool = (λ e. refl, λ e. refl)
sort_eq_decides Sort.Bool Sort.Int = (λ e. cc, λ e. cc)
sort_eq_decides Sort.Bool (Sort.Declared n) = (λ e. cc, λ e. cc)
sort_eq_decides Sort.Int Sort.Bool = (λ e. cc, λ e. cc)
sort_eq_decides Sort.Int Sort.Int = (λ e. refl, λ e. refl)
sort_eq_decides Sort.Int (Sort.Declared n) = (λ e. cc, λ e. cc)
sort_eq_decides (Sort.Declared m) Sort.Bool = (λ e. cc, λ e. cc)
sort_eq_decides (Sort.Declared m) Sort.Int = (λ e. cc, λ e. cc)
sort_eq_decides (Sort.Declared m) (Sort.Declared n) =
    Decides-like (sort_eq (Sort.Declared m) (Sort.Declared n)) (ap Sort.Declared) (λ e. cc) (Decides-eqb m n)

pub sorts_eq_decides : (ss ts : List Sort) → Decides (sorts_eq ss ts) (ss ≡ ts)
sorts_eq_decides [] [] = (λ e. refl, λ e. refl)
sorts_eq_decides [] (t ∷ ts) = (λ e. cc, λ e. cc)
sorts_eq_decides (s ∷ ss) [] = (λ e. cc, λ e. cc)
sorts_eq_decides (s ∷ ss) (t ∷ ts) =
    Decides-like (sorts_eq (s ∷ ss) (t ∷ ts)) (λ h. let e = h.0 in let f = h.1 in cc) (λ e. (cc, cc))
    (Decides-and (sort_eq s t) (sorts_eq ss ts) (sort_eq_decides s t) (sorts_eq_decides ss ts))

var_of : List ℕ → Sort → Var
var_of n s = record { name = n; sort = s }

same_var : (n m : List ℕ) (s t : Sort) → n ≡ m → s ≡ t → var_of n s ≡ var_of m t
same_var n m s t e f = cc

pub var_eq_decides : (x y : Var) → Decides (var_eq x y) (x ≡ y)
unfolding var_of
var_eq_decides x y =
    Decides-like (var_eq x y) (λ h. same_var x.name y.name x.sort y.sort h.0 h.1) (λ e. (ap (λ v. v.name) e, ap (λ v. v.sort) e))
    (Decides-and (bytes_eq x.name y.name) (sort_eq x.sort y.sort) (bytes_eq-Decides x.name y.name) (sort_eq_decides x.sort y.sort))

pub value_eq_decides : (v w : Value) → Decides (value_eq v w) (v ≡ w)
value_eq_decides (truth true) (truth true) = (λ e. refl, λ e. refl)
value_eq_decides (truth true) (truth false) = (λ e. cc, λ e. cc)
value_eq_decides (truth false) (truth true) = (λ e. cc, λ e. cc)
value_eq_decides (truth false) (truth false) = (λ e. refl, λ e. refl)
value_eq_decides (truth true) (whole y) = (λ e. cc, λ e. cc)
value_eq_decides (truth false) (whole y) = (λ e. cc, λ e. cc)
value_eq_decides (whole x) (truth b) = (λ e. cc, λ e. cc)
value_eq_decides (whole x) (whole y) =
    Decides-like (value_eq (whole x) (whole y)) (ap whole) (λ e. cc) (Decides-int_eq x y)

pub values_eq_decides : (vs ws : List Value) → Decides (values_eq vs ws) (vs ≡ ws)
values_eq_decides [] [] = (λ e. refl, λ e. refl)
values_eq_decides [] (w ∷ ws) = (λ e. cc, λ e. cc)
values_eq_decides (v ∷ vs) [] = (λ e. cc, λ e. cc)
values_eq_decides (v ∷ vs) (w ∷ ws) =
    Decides-like (values_eq (v ∷ vs) (w ∷ ws)) (λ h. let e = h.0 in let f = h.1 in cc) (λ e. (cc, cc))
    (Decides-and (value_eq v w) (values_eq vs ws) (value_eq_decides v w) (values_eq_decides vs ws))
