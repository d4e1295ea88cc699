-- Cited by crates above. Applications with one argument or more, with a sign.
use Rattle.std.proofs.Common.{◌≡◌, ◌≢◌, ◌<◌, ◌∷◌, List, ℕ, suc, length, Option, Some, None, refl, sym, ◌∙◌, ap, subst, arith}
use Rattle.std.specs.Option.{IfSome, IfNone, unwrap_or}
use Rattle.sym_table.specs.Table.{Table}
use Rattle.term_model.specs.declared.symbols.Op.{Op}
use Rattle.term_model.specs.Terms.{Term, Terms, numeral, variable, operation, call, let_in, term, no_terms, list_of, terms_of}
use Rattle.term_model.proofs.Lists.{terms_of-list_of}
use Rattle.term_pool.specs.Reading.{arguments_of}
use Rattle.term_pool.specs.Views.{TermsView, RefersTo, IsTerm, ReferToAll}
use Rattle.schema_match.specs.declared.signs.Sign.{Sign}
use Rattle.schema_match.specs.declared.signs.Sign.TheVariants.{Itself, Negation}
use Rattle.schema_match.specs.Arguments.{HasArguments, HasNoArguments, HasSoMany}
use Rattle.term_parts.specs.Parts.{IsOver}
use Rattle.schema_match.specs.Signs.{sign_of, IsSigned}
use Rattle.schema_match.proofs.OverLemmas.{has_so_many}

-- a sign turns different terms into different literals
pub one_term : (sign : Sign) (t u : Term) → sign_of sign t ≡ sign_of sign u → t ≡ u
one_term Itself t u e = e
one_term Negation t u e = cc

-- the term for which a literal stands is a term
pub unsigned_is_term : (s : Table) (v w : TermsView) (sign : Sign) (r a : ℕ) → w ≡ v → IsTerm s v r → ((t : Term) → RefersTo s v r t → IsSigned s v sign a t) → IsTerm s w a
unsigned_is_term s v w sign r a same is signed =
    rw same
    (let h = signed is.means is.refers in
    let here : IsTerm s v a = record { means = h.means; refers = h.refers } in
    here)

-- it has so many arguments
pub so_many_loaded : (s : Table) (v w : TermsView) (op : Op) (a : ℕ) (found : Option ℕ) → w ≡ v → IsTerm s v a → IfSome found (λ n. (t : Term) → RefersTo s v a t → IsOver op n t) → unwrap_or found 0 ≢ 0 → HasSoMany w a (unwrap_or found 0)
so_many_loaded s v w op a None same is over more = absurd (more refl)
so_many_loaded s v w op a (Some n) same is over more = has_so_many s v w a n op same is over

module _ (s : Table) (v : TermsView) (op : Op) (sign : Sign) (r a : ℕ) (signed : (t : Term) → RefersTo s v r t → IsSigned s v sign a t) where
  pub none_loaded : (found : Option ℕ) → IfSome found (λ n. (t : Term) → RefersTo s v a t → IsOver op n t) → IfNone found ((t : Term) → RefersTo s v a t → (n : ℕ) → ¬ IsOver op n t) → unwrap_or found 0 ≡ 0 → (t : Term) → RefersTo s v r t → HasNoArguments op sign t
  none_loaded found some none empty t refers first others e =
      let h = signed t refers in
      let is = one_term sign h.means (operation op (terms_of (first ∷ others))) (sym h.is ∙ e) in
      go found some none empty h.means h.refers is
    where
      at_none : (u : Term) → u ≡ operation op (terms_of (first ∷ others)) → ((n : ℕ) → ¬ IsOver op n u) → ⊥
      at_none u is none = none (suc (length (list_of (terms_of others)))) (rw is (refl, refl))

      at_zero : (u : Term) → u ≡ operation op (terms_of (first ∷ others)) → IsOver op 0 u → ⊥
      at_zero u is over = (let h : IsOver op 0 (operation op (terms_of (first ∷ others))) = rw is at over in let count = h.1 in cc)

      go : (found : Option ℕ) → IfSome found (λ n. (t : Term) → RefersTo s v a t → IsOver op n t) → IfNone found ((t : Term) → RefersTo s v a t → (n : ℕ) → ¬ IsOver op n t) → unwrap_or found 0 ≡ 0 → (u : Term) → RefersTo s v a u → u ≡ operation op (terms_of (first ∷ others)) → ⊥
      go None some none empty u refers is = at_none u is (none u refers)
      go (Some n) some none empty u refers is = at_zero u is (subst (λ k. IsOver op k u) empty (some u refers))

  pub loaded : (found : Option ℕ) (items : List ℕ) → IfSome found (λ n. (t : Term) → RefersTo s v a t → IsOver op n t) → unwrap_or found 0 ≢ 0 → ((t : Term) → RefersTo s v a t → length (arguments_of t) ≡ unwrap_or found 0 → ReferToAll s v items (arguments_of t)) → (t : Term) → RefersTo s v r t → HasArguments s v op sign t items
  loaded found items some more arguments t refers =
      let h = signed t refers in go found some more h.means h.is (some_at found some h.refers) (arguments h.means h.refers)
    where
      some_at : (found : Option ℕ) → IfSome found (λ n. (t : Term) → RefersTo s v a t → IsOver op n t) → {u : Term} → RefersTo s v a u → IfSome found (λ n. IsOver op n u)
      some_at None some refers = tt
      some_at (Some n) some {u} refers = some u refers

      with_arguments : (us : Terms) (u : Term) → t ≡ sign_of sign u → u ≡ operation op us → 0 < length (list_of us) → ReferToAll s v items (list_of us) → HasArguments s v op sign t items
      with_arguments no_terms u is same more refer = absurd (omega arith)
      with_arguments (term first rest) u is same more refer = record {
        first = first;
        others = list_of rest;
        is = is ∙ ap (sign_of sign) (same ∙ ap (λ us. operation op (term first us)) (sym (terms_of-list_of rest)));
        refer = refer;
      }

      at_some : (n : ℕ) (u : Term) → 0 < n → t ≡ sign_of sign u → IsOver op n u → (length (arguments_of u) ≡ n → ReferToAll s v items (arguments_of u)) → HasArguments s v op sign t items
      at_some n (operation o us) more is over arguments =
          with_arguments us (operation o us) is (ap (λ o. operation o us) over.0) (rw over.1 more) (arguments over.1)
      at_some n (numeral z) more is over arguments = absurd over
      at_some n (variable x) more is over arguments = absurd over
      at_some n (call f us) more is over arguments = absurd over
      at_some n (let_in bs u) more is over arguments = absurd over

      go : (found : Option ℕ) → IfSome found (λ n. (t : Term) → RefersTo s v a t → IsOver op n t) → unwrap_or found 0 ≢ 0 → (u : Term) → t ≡ sign_of sign u → IfSome found (λ n. IsOver op n u) → (length (arguments_of u) ≡ unwrap_or found 0 → ReferToAll s v items (arguments_of u)) → HasArguments s v op sign t items
      go None some more u is over arguments = absurd (more refl)
      go (Some n) some more u is over arguments = at_some n u (omega (arith, more)) is over arguments
