-- Cited by crates above. Lists of one item, and references in step with terms.
use Rattle.std.proofs.Common.{◌≡◌, ℕ, ◌<◌, ◌≤◌, List, [], ◌∷◌, length, get_or, sym, ap, arith}
use Rattle.std.specs.List.{AllZip}
use Rattle.sym_table.specs.Table.{Table}
use Rattle.term_model.specs.Terms.{Term}
use Rattle.term_pool.specs.Views.{TermsView, RefersTo, ReferToAll}

-- a list of one item
pub one_is_it : {X : Type 0} (xs : List X) (x : X) → 1 ≤ length xs → length xs < 2 → x ≡ get_or xs 0 x → xs ≡ x ∷ []
one_is_it [] x some few is = absurd (omega (arith, some))
one_is_it (y ∷ []) x some few is = ap (λ z. z ∷ []) (sym is)
one_is_it (y ∷ z ∷ xs) x some few is = absurd (omega (arith, few))

module _ (s : Table) (v : TermsView) where
  -- references and terms in step
  pub zip_refers : (rs : List ℕ) (ts : List Term) → AllZip (RefersTo s v) rs ts → ReferToAll s v rs ts
  zip_refers rs ts h = h
