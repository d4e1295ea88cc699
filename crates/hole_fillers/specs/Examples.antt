-- Public. Questions that are spelled out.
use Rattle.std.specs.Prelude.{ℕ, List, [], ◌∷◌, ◌++◌, codes, flat_map}
use Rattle.term_model.specs.declared.symbols.Op.{Op}
use Rattle.term_model.specs.declared.symbols.Sort.{Sort}
use Rattle.term_model.specs.Terms.{Var, Term, variable, operation, call, let_in, no_terms, term, no_bindings, binding, terms_of, not_of}

abbrev pub in_lines : List (List ℕ) → List ℕ
in_lines ls = flat_map (λ l. l ++ 10 ∷ []) ls

-- the premises p and (not p)
abbrev pub truth_named : List ℕ → Term
truth_named name = call (record { name = name; arguments = []; target = Sort.Bool }) no_terms

abbrev pub contradicting : List (List Term)
contradicting = (truth_named (codes "p") ∷ []) ∷ (not_of (truth_named (codes "p")) ∷ []) ∷ []

abbrev pub contradiction_text : List ℕ
contradiction_text = in_lines (codes "(declare-fun f1 () Bool)" ∷ codes "(assert f1)" ∷ codes "(assert (not f1))" ∷ codes "(check-sat)" ∷ [])

-- The clause of (= (let ((y (next x))) (next y)) zero), where x, y and zero are of the declared sort 7, and next goes from it to itself.
abbrev pub element : Sort
element = Sort.Declared 7

abbrev pub next_of : Term → Term
next_of t = call (record { name = codes "next"; arguments = element ∷ []; target = element }) (term t no_terms)

abbrev pub element_named : List ℕ → Var
element_named name = record { name = name; sort = element }

abbrev pub bound_and_free : List Term
bound_and_free =
    operation Op.Equal (terms_of
    (let_in (binding (element_named (codes "y")) (next_of (variable (element_named (codes "x")))) no_bindings) (next_of (variable (element_named (codes "y"))))
    ∷ call (record { name = codes "zero"; arguments = []; target = element }) no_terms ∷ []))
    ∷ []

abbrev pub bound_and_free_text : List ℕ
bound_and_free_text = in_lines
    (codes "(declare-sort S1 0)" ∷ codes "(declare-fun f1 (S1) S1)" ∷ codes "(declare-fun f2 () S1)" ∷ codes "(declare-fun v2 () S1)"
    ∷ codes "(assert (not (= (let ((v1 (f1 v2))) (f1 v1)) f2)))" ∷ codes "(check-sat)" ∷ [])
