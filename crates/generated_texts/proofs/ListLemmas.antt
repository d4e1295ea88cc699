-- Private. Lists up to a place, and what references that stand for terms are known to have.
use Rattle.std.proofs.Common.{◌≡◌, ◌≤◌, ℕ, zero, suc, refl, ap, arith, List, [], ◌∷◌, ◌++◌, length, map, take}
use Rattle.std.specs.List.{AllZip, All}
use Rattle.std.proofs.lemmas.List.Elements.{All-nil, All-cons}
use Rattle.pair_pool.specs.Trees.{Tree}
use Rattle.pair_pool.specs.Views.{IsKnown}
use Rattle.sym_table.specs.Table.{Table}
use Rattle.term_model.specs.Terms.{Var, Term}
use Rattle.term_pool.specs.Bindings.{IsBindingOf}
use Rattle.term_pool.specs.StandsFor.{StandForAll}
use Rattle.term_pool.specs.Views.{TermsView, RefersTo, ReferToAll, KnowsAll}
use Rattle.rule_model.specs.Proofs.{ProofItems}
use Rattle.rule_model.specs.Reading.{clause_at, bindings_at, scope_at}
use Rattle.rule_model.specs.Scopes.{commands_in}
use Rattle.generated_texts.specs.Standing.{standing_at, standing_to, standing_in}

pub take_whole : {X : Type 0} (xs : List X) (n : ℕ) → length xs ≤ n → take n xs ≡ xs
take_whole [] zero h = refl
take_whole [] (suc n) h = refl
take_whole (x ∷ xs) zero h = absurd (omega (arith, h))
take_whole (x ∷ xs) (suc n) h = ap (λ ys. x ∷ ys) (take_whole xs n (omega (arith, h)))

-- lists in step, one behind the other
pub zip_append : {X Y : Type 0} (R : X → Y → Type 0) (xs : List X) (ys : List Y) (zs : List X) (ws : List Y) → AllZip R xs ys → AllZip R zs ws
    → AllZip R (xs ++ zs) (ys ++ ws)
zip_append R [] [] zs ws p q = q
zip_append R [] (y ∷ ys) zs ws p q = absurd p
zip_append R (x ∷ xs) [] zs ws p q = absurd p
zip_append R (x ∷ xs) (y ∷ ys) zs ws p q = (p.0, zip_append R xs ys zs ws p.1 q)

module _ (s : Table) (v : TermsView) where
  values_refer : (bs : List (ℕ × ℕ)) (cs : List (Var × Term)) → AllZip (IsBindingOf s v) bs cs
      → ReferToAll s v (map (λ (b : ℕ × ℕ). b.1) bs) (map (λ (c : Var × Term). c.1) cs)
  values_refer [] [] h = tt
  values_refer [] (c ∷ cs) h = absurd h
  values_refer (b ∷ bs) [] h = absurd h
  values_refer (b ∷ bs) (c ∷ cs) h = (h.0.term, values_refer bs cs h.1)

  module _ (refs : ProofItems ℕ ℕ) (proof : ProofItems Var Term)
      (clauses : (i : ℕ) → AllZip (RefersTo s v) (clause_at refs i) (clause_at proof i))
      (bindings : (k : ℕ) → AllZip (IsBindingOf s v) (bindings_at refs k) (bindings_at proof k))
      (scopes : (i : ℕ) → scope_at refs i ≡ scope_at proof i) where
    at_refer : (i : ℕ) → ReferToAll s v (standing_at refs i) (standing_at proof i)
    at_refer i =
        zip_append (RefersTo s v) (clause_at refs i) (clause_at proof i) _ _ (clauses i)
        (rw (scopes i) (values_refer (bindings_at refs (scope_at proof i)) (bindings_at proof (scope_at proof i)) (bindings (scope_at proof i))))

    to_refer : (n : ℕ) → ReferToAll s v (standing_to refs n) (standing_to proof n)
    to_refer zero = tt
    to_refer (suc n) = zip_append (RefersTo s v) (standing_to refs n) (standing_to proof n) _ _ (to_refer n) (at_refer n)

    pub in_refer : commands_in refs ≡ commands_in proof → (asserted : List ℕ) (assertions : List Term) → ReferToAll s v asserted assertions
        → ReferToAll s v (standing_in asserted refs) (standing_in assertions proof)
    in_refer count asserted assertions h =
        zip_append (RefersTo s v) asserted assertions _ _ h (rw count (to_refer (commands_in proof)))

  pub trees_of : (rs : List ℕ) (ts : List Term) → ReferToAll s v rs ts → List Tree
  trees_of [] [] h = []
  trees_of [] (t ∷ ts) h = absurd h
  trees_of (r ∷ rs) [] h = absurd h
  trees_of (r ∷ rs) (t ∷ ts) h = h.0.tree ∷ trees_of rs ts h.1

  pub knows_trees : (rs : List ℕ) (ts : List Term) (h : ReferToAll s v rs ts) → KnowsAll v.pass rs (trees_of rs ts h)
  unfolding trees_of
  knows_trees [] [] h = tt
  knows_trees [] (t ∷ ts) h = absurd h
  knows_trees (r ∷ rs) [] h = absurd h
  knows_trees (r ∷ rs) (t ∷ ts) h = (h.0.known, knows_trees rs ts h.1)

  pub stand_trees : (rs : List ℕ) (ts : List Term) (h : ReferToAll s v rs ts) → StandForAll s (trees_of rs ts h) ts
  unfolding trees_of
  stand_trees [] [] h = tt
  stand_trees [] (t ∷ ts) h = absurd h
  stand_trees (r ∷ rs) [] h = absurd h
  stand_trees (r ∷ rs) (t ∷ ts) h = (h.0.stands, stand_trees rs ts h.1)

  pub all_known : (rs : List ℕ) (ts : List Term) → ReferToAll s v rs ts → All (IsKnown v.pass) rs
  all_known [] [] h = All-nil (IsKnown v.pass)
  all_known [] (t ∷ ts) h = absurd h
  all_known (r ∷ rs) [] h = absurd h
  all_known (r ∷ rs) (t ∷ ts) h = All-cons (IsKnown v.pass) r rs (record { tree = h.0.tree; stands = h.0.known }) (all_known rs ts h.1)
