-- Cited by crates above. What a term is an application of.
use Rattle.std.proofs.Common.{◌≡◌, ℕ, length, Bool, true, false, not, nat_eq, Option, Some, None, refl, ◌∙◌, ap, subst}
use Rattle.std.specs.Option.{IfSome, IfNone, option_eq}
use Rattle.std.proofs.lemmas.Bool.{eqb-true, eq-eqb}
use Rattle.sym_table.specs.Table.{Table}
use Rattle.term_model.specs.declared.symbols.Op.{Op}
use Rattle.term_model.specs.Terms.{Term, Terms, numeral, variable, operation, call, let_in, list_of}
use Rattle.term_pool.specs.Reading.{arguments_of, IsLet}
use Rattle.term_pool.specs.Views.{TermsView, RefersTo, IsTerm}
use Rattle.schema_match.specs.declared.signs.Sign.TheVariants.{Negation}
use Rattle.schema_match.specs.Arguments.{HasSoMany}
use Rattle.term_parts.specs.Parts.{IsOver, StandsUnder}
use Rattle.term_parts.proofs.PartLemmas.{one_count}
use Rattle.schema_match.specs.Signs.{IsSigned}

-- an application to so many arguments
pub over_term : (op : Op) (n : ℕ) (t : Term) → IsOver op n t → (us : Terms) × (t ≡ operation op us) × (length (list_of us) ≡ n) × (arguments_of t ≡ list_of us) × (IsLet t → ⊥)
over_term op n (operation o us) h = (us, ap (λ o. operation o us) h.0, h.1, refl, λ is. is)
over_term op n (numeral z) h = absurd h
over_term op n (variable x) h = absurd h
over_term op n (call f us) h = absurd h
over_term op n (let_in bs u) h = absurd h

pub is_over : (op : Op) (n : ℕ) (t : Term) (us : Terms) → t ≡ operation op us → length (list_of us) ≡ n → IsOver op n t
is_over op n t us e h = rw e (refl, h)

pub not_so_many : (s : Table) (v : TermsView) (r n : ℕ) (op : Op) (found : Option ℕ) → IfSome found (λ m. (t : Term) → RefersTo s v r t → IsOver op m t) → IfNone found ((t : Term) → RefersTo s v r t → (m : ℕ) → ¬ IsOver op m t) → true ≡ not (option_eq nat_eq found (Some n)) → (t : Term) → RefersTo s v r t → ¬ IsOver op n t
not_so_many s v r n op None some none other t refers h = none t refers n h
not_so_many s v r n op (Some m) some none other t refers h =
    absurd (let same = eq-eqb m n (one_count m n op t (some t refers) h) in cc)

pub so_many : (s : Table) (v : TermsView) (r n : ℕ) (op : Op) (found : Option ℕ) → IfSome found (λ m. (t : Term) → RefersTo s v r t → IsOver op m t) → false ≡ not (option_eq nat_eq found (Some n)) → (t : Term) → RefersTo s v r t → IsOver op n t
so_many s v r n op None some same t refers = absurd cc
so_many s v r n op (Some m) some same t refers =
    subst (λ k. IsOver op k t) (eqb-true m n (double (nat_eq m n) same)) (some t refers)
  where
    double : (b : Bool) → false ≡ not b → b ≡ true
    double true e = refl
    double false e = absurd cc

-- a term that has so many arguments
pub has_so_many : (s : Table) (v w : TermsView) (r n : ℕ) (op : Op) → w ≡ v → IsTerm s v r → ((t : Term) → RefersTo s v r t → IsOver op n t) → HasSoMany w r n
has_so_many s v w r n op same is over =
    rw same
    (let here = over_term op n is.means (over is.means is.refers) in
    let many : HasSoMany v r n = record { symbols = s; means = is.means; refers = is.refers; many = ap length here.3 ∙ here.2 } in
    many)

-- what a negation negates is what a literal stands for with that sign
pub under_is_signed : (s : Table) (v : TermsView) (r : ℕ) (found : Option ℕ) → IfSome found (λ a. (t : Term) → RefersTo s v r t → StandsUnder s v a t)
    → IfSome found (λ a. (t : Term) → RefersTo s v r t → IsSigned s v Negation a t)
under_is_signed s v r None under = under
under_is_signed s v r (Some a) under =
    λ t refers. (let u = under t refers in
    let signed : IsSigned s v Negation a t = record { means = u.inner; refers = u.refers; is = u.is } in
    signed)
