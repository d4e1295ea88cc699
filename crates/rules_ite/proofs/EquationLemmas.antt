-- Steps that state one equality, and what their rules ask of its sides.
use Rattle.std.proofs.Common.{◌≡◌, ◌↔◌, inr, ℕ, List, [], ◌∷◌, Bool, false, IsTrue, All, refl, sym, ap, ◌∙◌, subst, arith}
use Rattle.std.proofs.lemmas.List.Elements.{All-cons, All-head, All-tail}
use Rattle.sym_table.specs.Table.{Table}
use Rattle.term_model.specs.declared.symbols.Op.{Op}
use Rattle.term_model.specs.declared.symbols.Sort.{Sort}
use Rattle.term_model.specs.Flips.{equality}
use Rattle.term_model.specs.Sorts.{IsOf, AreOf}
use Rattle.term_model.specs.Terms.{Term, operation, terms_of}
use Rattle.term_model.proofs.Arities.{equality_sort}
use Rattle.term_pool.specs.Views.{TermsView}
use Rattle.rule_model.specs.Ite.{MeetsIteIntro, MeetsDistinctElim}
use Rattle.rule_model.proofs.ArgumentLists.{same_sides}
use Rattle.schema_match.specs.Equations.{StatesEquality}
use Rattle.rules_ite.specs.Distinct.{AreOfOneSort, Eliminates}
use Rattle.rules_ite.specs.Facts.{Introduces}

-- the two rules
module _ (s : Table) (v : TermsView) (p : ℕ × ℕ) (ps : List (List Term)) (ts : List Term) (is : StatesEquality s v p ps ts) (told : Bool) where
  pub introduction_is : IsTrue told ↔ Introduces is.left is.right → IsTrue told ↔ MeetsIteIntro ps ts
  introduction_is test = (
    λ e.
        (let h = test.0 e in
        record { left = is.left; first = h.first; facts = h.facts; none = is.none; literal = is.literal ∙ ap (λ z. equality is.left z ∷ []) h.is; same = h.same; say = h.say }),
    λ m.
        (let sides = same_sides is.left is.right m.left (operation Op.And (terms_of (m.first ∷ m.facts))) (sym is.literal ∙ m.literal) in
        test.1 (record { first = m.first; facts = m.facts; is = sides.1; same = rw sides.0 m.same; say = m.say })),
  )

  pub elimination_is : IsTrue told ↔ Eliminates is.left is.right → IsTrue told ↔ MeetsDistinctElim ps ts
  elimination_is test = (
    λ e.
        (let h = test.0 e in
        record { ts = h.ts; result = is.right; none = is.none; literal = is.literal ∙ ap (λ z. equality z is.right ∷ []) h.is; stands_for = h.stands_for }),
    λ m.
        (let sides = same_sides is.left is.right (operation Op.Distinct (terms_of m.ts)) m.result (sym is.literal ∙ m.literal) in
        test.1 (record { ts = m.ts; is = sides.0; stands_for = rw sides.1 m.stands_for })),
  )

-- a step that states no equality
pub no_introduction : (ps : List (List Term)) (ts : List Term) → ((u w : Term) → ps ≡ [] → ts ≡ equality u w ∷ [] → ⊥) → IsTrue false ↔ MeetsIteIntro ps ts
no_introduction ps ts other = (λ e. absurd cc, λ m. absurd (other m.left (operation Op.And (terms_of (m.first ∷ m.facts))) m.none m.literal))

pub no_elimination : (ps : List (List Term)) (ts : List Term) → ((u w : Term) → ps ≡ [] → ts ≡ equality u w ∷ [] → ⊥) → IsTrue false ↔ MeetsDistinctElim ps ts
no_elimination ps ts other = (λ e. absurd cc, λ m. absurd (other (operation Op.Distinct (terms_of m.ts)) m.result m.none m.literal))

-- the arguments of a well-sorted `distinct` are of one sort
arguments_of_sort : (s : Sort) (ts : List Term) (ss : List Sort) → AreOf (terms_of ts) ss → All (λ a. a ≡ s) ss → All (λ t. IsOf t s) ts
arguments_of_sort s [] [] h all = λ k d below. absurd (omega (arith, below))
arguments_of_sort s [] (x ∷ ss) h all = absurd h
arguments_of_sort s (t ∷ ts) [] h all = absurd h
arguments_of_sort s (t ∷ ts) (x ∷ ss) h all =
    All-cons (λ u. IsOf u s) t ts (subst (IsOf t) (All-head (λ a. a ≡ s) x ss all) h.0) (arguments_of_sort s ts ss h.1 (All-tail (λ a. a ≡ s) x ss all))

pub distinct_of_one_sort : (ts : List Term) (s : Sort) → IsOf (operation Op.Distinct (terms_of ts)) s → AreOfOneSort ts
distinct_of_one_sort ts s h =
    let alike = ((equality_sort Op.Distinct h.sorts s (inr refl)).0 h.is).0 in
    record { sort = alike.1.0; each = arguments_of_sort alike.1.0 ts h.sorts h.arguments alike.1.1 }
