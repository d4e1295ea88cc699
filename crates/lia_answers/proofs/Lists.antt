-- Private. What is used of rows, and terms that are negated.
use Rattle.std.proofs.Common.{◌≡◌, zero, suc, ℤ, pos, negsuc, List, [], ◌∷◌, map, All, refl, ap}
use Rattle.std.specs.List.{AllByRecursion}
use Rattle.std.proofs.lemmas.List.Elements.{All-head, All-tail}
use Rattle.term_model.specs.Terms.{Term, not_of}
use Rattle.lia_rows.specs.Rows.{Row}
use Rattle.lia_rows.specs.Steps.{used}

abbrev pub assertion_of : Row → Term
assertion_of row = row.assertion

-- what is so of the assertions of all rows is so of those that are used
pub of_used : (P : Term → Type 0) (rows : List Row) (ms : List ℤ) → All (λ (row : Row). P row.assertion) rows
    → AllByRecursion P (map assertion_of (used ms rows))
of_used P rows [] all = tt
of_used P [] (m ∷ ms) all = tt
of_used P (row ∷ rows) (pos zero ∷ ms) all = of_used P rows ms (All-tail (λ (x : Row). P x.assertion) row rows all)
of_used P (row ∷ rows) (pos (suc n) ∷ ms) all =
    (All-head (λ (x : Row). P x.assertion) row rows all, of_used P rows ms (All-tail (λ (x : Row). P x.assertion) row rows all))
of_used P (row ∷ rows) (negsuc n ∷ ms) all =
    (All-head (λ (x : Row). P x.assertion) row rows all, of_used P rows ms (All-tail (λ (x : Row). P x.assertion) row rows all))

-- the clause of the step, by rows and by terms
pub same_clause : (rows : List Row) → map not_of (map assertion_of rows) ≡ map (λ (row : Row). not_of row.assertion) rows
same_clause [] = refl
same_clause (row ∷ rows) = ap (λ ts. not_of row.assertion ∷ ts) (same_clause rows)

-- what is so of negations
pub of_negations : (P : Term → Type 0) (ts : List Term) → AllByRecursion (λ t. P (not_of t)) ts → AllByRecursion P (map not_of ts)
of_negations P [] all = tt
of_negations P (t ∷ ts) all = (all.0, of_negations P ts all.1)
