-- The derived `==` of keys is equality.
use Rattle.std.proofs.Common.{◌≡◌, refl, ap, Decides}
use Rattle.std.proofs.lemmas.Bool.Decides.{Decides-eqb, Decides-int_eq, Decides-and}
use Rattle.term_model.specs.declared.symbols.Sort.{Sort}
use Rattle.term_model.specs.contracts.symbols.SortPartialEq.TheImpl as sorts
use Rattle.sym_table.specs.declared.cells.Symbol.{Symbol}
use Rattle.sym_table.specs.contracts.cells.SymbolPartialEq.TheImpl as symbols

pub Decides-sort : (s t : Sort) → Decides ((sorts.ghosts).eq s t) (s ≡ t)
Decides-sort Sort.Bool Sort.Bool = (λ h. refl, λ h. refl)
Decides-sort Sort.Int Sort.Int = (λ h. refl, λ h. refl)
Decides-sort (Sort.Declared m) (Sort.Declared n) = (λ h. ap Sort.Declared ((Decides-eqb m n).0 h), λ h. (Decides-eqb m n).1 (cc))
Decides-sort Sort.Bool Sort.Int = (λ h. cc, λ h. cc)
Decides-sort Sort.Bool (Sort.Declared n) = (λ h. cc, λ h. cc)
Decides-sort Sort.Int Sort.Bool = (λ h. cc, λ h. cc)
Decides-sort Sort.Int (Sort.Declared n) = (λ h. cc, λ h. cc)
Decides-sort (Sort.Declared m) Sort.Bool = (λ h. cc, λ h. cc)
Decides-sort (Sort.Declared m) Sort.Int = (λ h. cc, λ h. cc)

pub Decides-symbol : (x y : Symbol) → Decides ((symbols.ghosts).eq x y) (x ≡ y)
Decides-symbol (Symbol.Function m) (Symbol.Function n) = (λ h. ap Symbol.Function ((Decides-eqb m n).0 h), λ h. (Decides-eqb m n).1 (cc))
Decides-symbol (Symbol.Variable m s) (Symbol.Variable n t) =
    let both = Decides-and _ _ (Decides-eqb m n) (Decides-sort s t) in
    (λ h. let e = both.0 h in let e0 = e.0 in let e1 = e.1 in cc, λ h. both.1 ((cc), (cc)))
Decides-symbol (Symbol.Numeral m) (Symbol.Numeral n) = (λ h. ap Symbol.Numeral ((Decides-int_eq m n).0 h), λ h. (Decides-int_eq m n).1 (cc))
Decides-symbol (Symbol.Function m) (Symbol.Variable n t) = (λ h. cc, λ h. cc)
Decides-symbol (Symbol.Function m) (Symbol.Numeral n) = (λ h. cc, λ h. cc)
Decides-symbol (Symbol.Variable m s) (Symbol.Function n) = (λ h. cc, λ h. cc)
Decides-symbol (Symbol.Variable m s) (Symbol.Numeral n) = (λ h. cc, λ h. cc)
Decides-symbol (Symbol.Numeral m) (Symbol.Function n) = (λ h. cc, λ h. cc)
Decides-symbol (Symbol.Numeral m) (Symbol.Variable n t) = (λ h. cc, λ h. cc)
