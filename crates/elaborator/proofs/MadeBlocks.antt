-- Cited by crates above. Blocks are made one by one, over terms of which more is known each time.
use Rattle.std.proofs.Common.{◌≡◌, ◌<◌, ◌≤◌, ◌+◌, ◌-◌, ◌*◌, ◌⊎◌, inl, inr, ℕ, List, [], ◌∷◌, ◌++◌, map, length, slice_get, Some, Vec, sym, ◌∙◌, ap, subst, arith}
use Rattle.std.specs.declared.alloc.Global.{Global}
use Rattle.std.proofs.lemmas.List.{length-append, map-append}
use Rattle.proof_store.specs.AddedSteps.{AddedStep}
use Rattle.rule_model.proofs.Lines.{get_append, get_one}
use Rattle.sym_table.specs.Table.{Table}
use Rattle.term_model.specs.Terms.{Term}
use Rattle.term_pool.specs.Views.{TermsView, KeepsTerms}
use Rattle.term_pool.proofs.Keeping.{terms-trans}
use Rattle.term_pool.proofs.PlacedCells.{places_more, places_more_then}
use Rattle.worker_crew.specs.Pieces.{Extends}
use Rattle.elaborator.specs.Pieces.{AreMadeBy, PlacesOnly, size_of_chunk}

made_next : (old new : ℕ → List AddedStep → Type 0) (n : ℕ) (blocks : List (List AddedStep)) (block : List AddedStep) → ((i : ℕ) (b : List AddedStep) → old i b → new i b)
    → AreMadeBy old n blocks → new n block → AreMadeBy new (n + 1) (blocks ++ block ∷ [])
made_next old new n blocks block more h says = record {
  count_is = let count = h.count_is in let longer = length-append blocks (block ∷ []) in omega arith;
  each = λ i b e. go i b (get_append blocks (block ∷ []) i b e);
}
  where
    go : (i : ℕ) (b : List AddedStep) → ((i < length blocks) × (slice_get blocks i ≡ Some b)) ⊎ ((length blocks ≤ i) × (slice_get (block ∷ []) (i - length blocks) ≡ Some b)) → new i b
    go i b (inl x) = more i b (h.each i b x.1)
    go i b (inr x) =
        let one = get_one block (i - length blocks) b x.1 in
        let later = x.0 in
        let zero_is = one.0 in
        let count = h.count_is in
        let here : n ≡ i = omega arith in
        subst (new i) one.1 (subst (λ k. new k block) here says)

-- at least as much is known
pub more_of : (v w : TermsView) → KeepsTerms v w → Extends v w
more_of v w keeps = record { pool = keeps.pool; grows = keeps.pass.grows }

module _ (s : Table) (wanted : TermsView → Term → Type 0) where
  pub places_both : ((old new : TermsView) (t : Term) → Extends old new → wanted old t → wanted new t) → (a b c : TermsView) → PlacesOnly s wanted a b → PlacesOnly s wanted b c → PlacesOnly s wanted a c
  places_both more a b c h k = record {
    keeps = terms-trans a b c h.keeps k.keeps;
    placed = places_more_then s a.pass b.pass c.pass (wanted c) k.keeps.pass (places_more s a.pass b.pass (wanted b) (wanted c) (λ t x. more b c t (more_of b c k.keeps) x) h.placed) k.placed;
  }

-- of the commands from an index on
pub made_pushed : (old new : ℕ → List AddedStep → Type 0) (first i : ℕ) (blocks later : List (Vec AddedStep Global)) (block : Vec AddedStep Global)
    → ((k : ℕ) (b : List AddedStep) → old k b → new k b) → first ≤ i
    → AreMadeBy (λ k b. old (first + k) b) (i - first) (map (λ (x : Vec AddedStep Global). x.items) blocks) → new i block.items → later ≡ blocks ++ block ∷ []
    → AreMadeBy (λ k b. new (first + k) b) (i + 1 - first) (map (λ (x : Vec AddedStep Global). x.items) later)
made_pushed old new first i blocks later block more from h says same =
    let here : i ≡ first + (i - first) = omega (arith, from) in
    let count : i - first + 1 ≡ i + 1 - first = omega (arith, from) in
    let all =
    made_next (λ k b. old (first + k) b) (λ k b. new (first + k) b) (i - first) (map (λ (x : Vec AddedStep Global). x.items) blocks) block.items
    (λ k b e. more (first + k) b e) h (subst (λ m. new m block.items) here says) in
    subst (AreMadeBy (λ k b. new (first + k) b) (i + 1 - first))
    (sym (ap (map (λ (x : Vec AddedStep Global). x.items)) same ∙ map-append (λ (x : Vec AddedStep Global). x.items) blocks (block ∷ [])))
    (subst (λ n. AreMadeBy (λ k b. new (first + k) b) n (map (λ (x : Vec AddedStep Global). x.items) blocks ++ block.items ∷ [])) count all)

-- none are made of no commands
pub none_made : (says : ℕ → List AddedStep → Type 0) (first : ℕ) (blocks : List (List AddedStep)) → blocks ≡ [] → AreMadeBy says (first - first) blocks
none_made says first [] e = record { count_is = omega arith; each = λ i b h. absurd cc }
none_made says first (b ∷ blocks) e = absurd cc

-- those of a chunk
pub made_chunk : (says : ℕ → List AddedStep → Type 0) (commands k first end : ℕ) (blocks : List (List AddedStep)) → first ≡ 64 * k
    → end ≡ first + size_of_chunk commands k → AreMadeBy (λ i b. says (first + i) b) (end - first) blocks
    → AreMadeBy (λ i b. says (64 * k + i) b) (size_of_chunk commands k) blocks
made_chunk says commands k first end blocks is size h = record {
  count_is = let count = h.count_is in omega (arith, count, size);
  each = λ i b e. subst (λ m. says (m + i) b) is (h.each i b e);
}
