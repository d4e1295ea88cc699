-- The clauses of a command's premises, one after the other, and its pivots.
use Rattle.std.proofs.Common.{◌≡◌, ℕ, ◌+◌, ◌<◌, Bool, List, [], ◌∷◌, ◌++◌, length, map, get_or, take, All, sym, ◌∙◌, ap, subst}
use Rattle.std.specs.Borrow.{Bor}
use Rattle.std.specs.List.{AllZip}
use Rattle.std.proofs.lemmas.List.{map_push, map_more}
use Rattle.std.proofs.lemmas.List.Elements.{All-nil, All-cons}
use Rattle.sym_table.specs.Table.{Table}
use Rattle.term_model.specs.Terms.{Term}
use Rattle.term_parts.specs.Judging.{ReferToClauses}
use Rattle.term_pool.specs.Views.{TermsView, IsTerm, ReferToAll}
use Rattle.term_pool.proofs.References.{refer_are_terms}
use Rattle.proof_store.specs.Meaning.{IsPivotOf}

abbrev pub literals_of : List (Bor (List ℕ)) → List (List ℕ)
literals_of clauses = map (λ c. c.now) clauses

-- the next clause
pub clauses_more : (f : ℕ → List ℕ) (js : List ℕ) (k : ℕ) (list : List (Bor (List ℕ))) (p : Bor (List ℕ)) → k < length js
    → p.now ≡ f (get_or js k 0) → literals_of list ≡ map f (take k js) → literals_of (list ++ p ∷ []) ≡ map f (take (k + 1) js)
clauses_more f js k list p below here before =
    map_push (λ (q : Bor (List ℕ)). q.now) list p
    ∙ ap (λ (xs : List (List ℕ)). xs ++ p.now ∷ []) before
    ∙ ap (λ (x : List ℕ). map f (take k js) ++ x ∷ []) here
    ∙ sym (map_more f js k 0 below)

-- clauses of references that stand for clauses of terms
pub clauses_stand : (s : Table) (v : TermsView) (f : ℕ → List ℕ) (g : ℕ → List Term) (list : List (Bor (List ℕ))) (js : List ℕ)
    → ((j : ℕ) → ReferToAll s v (f j) (g j)) → literals_of list ≡ map f js → ReferToClauses s v list (map g js)
clauses_stand s v f g [] [] stand e = tt
clauses_stand s v f g [] (j ∷ js) stand e = absurd cc
clauses_stand s v f g (p ∷ list) [] stand e = absurd cc
clauses_stand s v f g (p ∷ list) (j ∷ js) stand e =
    let here : p.now ≡ f j = cc in
    (subst (λ rs. ReferToAll s v rs (g j)) (sym here) (stand j), clauses_stand s v f g list js stand cc)

pub clauses_are_terms : (s : Table) (v : TermsView) (list : List (Bor (List ℕ))) (clauses : List (List Term)) → ReferToClauses s v list clauses
    → All (λ (p : Bor (List ℕ)). All (IsTerm s v) p.now) list
clauses_are_terms s v [] clauses h = All-nil (λ (p : Bor (List ℕ)). All (IsTerm s v) p.now)
clauses_are_terms s v (p ∷ list) [] h = absurd h
clauses_are_terms s v (p ∷ list) (c ∷ clauses) h =
    All-cons (λ (q : Bor (List ℕ)). All (IsTerm s v) q.now) p list (refer_are_terms s v p.now c h.0) (clauses_are_terms s v list clauses h.1)

-- what pivots name
pub pivots_are_terms : (s : Table) (v : TermsView) (pivots : List (ℕ × Bool)) (of : List (Term × Bool)) → AllZip (IsPivotOf s v) pivots of
    → All (λ (p : ℕ × Bool). IsTerm s v p.0) pivots
pivots_are_terms s v [] of h = All-nil (λ (p : ℕ × Bool). IsTerm s v p.0)
pivots_are_terms s v (p ∷ pivots) [] h = absurd h
pivots_are_terms s v (p ∷ pivots) (q ∷ of) h =
    All-cons (λ (x : ℕ × Bool). IsTerm s v x.0) p pivots (record { means = q.0; refers = h.0.term }) (pivots_are_terms s v pivots of h.1)
