-- Cited by crates above. The anchors that are open where a command belongs.
use Rattle.std.proofs.Common.{◌≡◌, ℕ, List, [], ◌∷◌, slice_get, Option, Some, None, refl, sym, ◌∙◌, ap, subst}
use Rattle.std.specs.Option.{option_map_or}
use Rattle.sym_table.specs.Table.{Table}
use Rattle.term_model.specs.Terms.{Var, Term}
use Rattle.term_pool.specs.Views.{TermsView}
use Rattle.proof_store.specs.Meaning.{StandForItems}
use Rattle.rule_model.specs.Commands.{IndexedCommand, assume, step, closing, Line, lines_in, closed_scope}
use Rattle.rule_model.specs.Judged.{open_anchors, anchors_at}
use Rattle.rule_model.specs.Proofs.{ProofItems}
use Rattle.rule_model.specs.Reading.{closes_at}
use Rattle.rule_model.specs.Scopes.{Nesting, outermost, inside}
use Rattle.rule_model.specs.Writing.{own_nesting}
use Rattle.rule_model.proofs.LineReading.{closes_is, none_closes, anchors_are}
use Rattle.elaborator.specs.Sources.{own_anchors}
use Rattle.elaboration_laws.specs.StrictBlocks.{AnchorsStand}
use Rattle.elaboration_laws.proofs.Reading.{anchors_stand}

-- by those that are open at it
abbrev pub own_list : {X : Type 0} → Option ℕ → List X → List X
own_list None as1 = as1
own_list (Some k) [] = []
own_list (Some k) (a ∷ as1) = as1

pub own_is : {V T : Type 0} (n : Nesting V T) (c : IndexedCommand T) → open_anchors (own_nesting n c) ≡ own_list (closed_scope n c) (open_anchors n)
own_is n (assume id t) = refl
own_is n (step s) = refl
own_is outermost (closing s) = refl
own_is (inside around before anchor) (closing s) = refl

anchors_own : (s : Table) (v : TermsView) (o : Option ℕ) (xs : List (List (ℕ × ℕ))) (ys : List (List (Var × Term))) → AnchorsStand s v xs ys
    → AnchorsStand s v (own_list o xs) (own_list o ys)
anchors_own s v None xs ys h = h
anchors_own s v (Some k) [] [] h = tt
anchors_own s v (Some k) [] (y ∷ ys) h = absurd h
anchors_own s v (Some k) (x ∷ xs) [] h = absurd h
anchors_own s v (Some k) (x ∷ xs) (y ∷ ys) h = h.1

own_refs : (refs : ProofItems ℕ ℕ) (i : ℕ) → own_anchors refs i ≡ own_list (closes_at refs i) (anchors_at refs i)
own_refs refs i = go (slice_get (lines_in outermost refs) i) refl
  where
    go : (o : Option (Line ℕ ℕ)) → slice_get (lines_in outermost refs) i ≡ o → own_anchors refs i ≡ own_list (closes_at refs i) (anchors_at refs i)
    go (Some l) there =
        ap (λ o. option_map_or (λ (x : Line ℕ ℕ). open_anchors (own_nesting x.scope.nesting x.command)) o []) there
        ∙ (own_is l.scope.nesting l.command
        ∙ (ap (λ o. own_list o (open_anchors l.scope.nesting)) (sym (closes_is refs i l there)) ∙ ap (own_list (closes_at refs i)) (sym (anchors_are refs i l there))))
    go None none =
        ap (λ o. option_map_or (λ (x : Line ℕ ℕ). open_anchors (own_nesting x.scope.nesting x.command)) o []) none
        ∙ (sym (ap (λ o. option_map_or (λ (x : Line ℕ ℕ). open_anchors x.scope.nesting) o []) none) ∙ ap (λ o. own_list o (anchors_at refs i)) (sym (none_closes refs i none)))

pub own_stand : (s : Table) (v : TermsView) (refs : ProofItems ℕ ℕ) (proof : ProofItems Var Term) → StandForItems s v refs proof → (i : ℕ)
    → AnchorsStand s v (own_anchors refs i) (own_list (closes_at refs i) (anchors_at proof i))
own_stand s v refs proof h i =
    subst (λ xs. AnchorsStand s v xs (own_list (closes_at refs i) (anchors_at proof i))) (sym (own_refs refs i))
    (anchors_own s v (closes_at refs i) (anchors_at refs i) (anchors_at proof i) (anchors_stand s v refs proof h i))
