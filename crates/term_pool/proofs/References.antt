-- Cited by crates above. In a pool each term has one reference, and references of terms are those of some.
use Rattle.std.proofs.Common.{◌≡◌, ◌↔◌, ℕ, List, [], ◌∷◌, All}
use Rattle.std.proofs.lemmas.List.Elements.{All-from_recursion}
use Rattle.std.specs.List.{AllByRecursion}
use Rattle.sym_table.specs.Table.{Table}
use Rattle.term_model.specs.Terms.{Term}
use Rattle.term_pool.specs.Views.{TermsView, RefersTo, IsTerm, ReferToAll}

abbrev pub AreOne : Table → TermsView → Type 0
AreOne s v = (p q : ℕ) (t u : Term) → RefersTo s v p t → RefersTo s v q u → (p ≡ q) ↔ (t ≡ u)

-- references of terms are those of some
pub refer_by_recursion : (s : Table) (v : TermsView) (rs : List ℕ) (ts : List Term) → ReferToAll s v rs ts → AllByRecursion (IsTerm s v) rs
refer_by_recursion s v [] ts h = tt
refer_by_recursion s v (r ∷ rs) [] h = absurd h
refer_by_recursion s v (r ∷ rs) (t ∷ ts) h = (record { means = t; refers = h.0 }, refer_by_recursion s v rs ts h.1)

pub refer_are_terms : (s : Table) (v : TermsView) (rs : List ℕ) (ts : List Term) → ReferToAll s v rs ts → All (IsTerm s v) rs
refer_are_terms s v rs ts h = All-from_recursion (IsTerm s v) rs (refer_by_recursion s v rs ts h)
