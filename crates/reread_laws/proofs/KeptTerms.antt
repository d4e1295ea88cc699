-- What holds of each term of a proof holds of those of what is left of it.
use Rattle.std.proofs.Common.{◌≡◌, ◌+◌, Bool, true, false, List, [], ◌∷◌, refl, sym, ap, subst}
use Rattle.std.specs.List.{AllByRecursion}
use Rattle.term_model.specs.Terms.{Var, Term}
use Rattle.rule_model.specs.Proofs.{ProofItems, no_items, with_assume, with_step, with_subproof}
use Rattle.rule_model.specs.Contexts.{images}
use Rattle.rule_model.specs.Scopes.{Nesting, inner, commands_in, first_index}
use Rattle.rule_model.specs.Substitution.{put_in}
use Rattle.alethe_text.specs.Anchors.{image_of}
use Rattle.pruned_proofs.specs.Reached.{is_kept}
use Rattle.pruned_proofs.specs.Pruned.{kept_items}
use Rattle.pruned_proofs.specs.KeptScopes.{kept_nesting}
use Rattle.pruned_proofs.proofs.KeptSights.{open_anchors_kept}
use Rattle.reread_laws.proofs.BehindPrinted.{HasImageTo, HoldsIn}

module _ (P : Term → Type 0) (marks : List Bool) where
  same_image : (nesting : Nesting Var Term) (t : Term) → image_of nesting t ≡ image_of (kept_nesting marks nesting) t
  same_image nesting t = ap (λ open_now. put_in (images open_now) t) (sym (open_anchors_kept marks nesting))

  bindings_kept : (nesting : Nesting Var Term) (bs : List (Var × Term)) → AllByRecursion (HasImageTo P nesting) bs
      → AllByRecursion (HasImageTo P (kept_nesting marks nesting)) bs
  bindings_kept nesting [] h = tt
  bindings_kept nesting (b ∷ bs) h = ((h.0.0, subst P (same_image nesting b.1) h.0.1), bindings_kept nesting bs h.1)

  pub terms_kept : (nesting : Nesting Var Term) (items : ProofItems Var Term) → HoldsIn P nesting items
      → HoldsIn P (kept_nesting marks nesting) (kept_items marks (first_index nesting) items)
  terms_kept nesting no_items h = tt
  terms_kept nesting (with_assume items id t) h = go (is_kept marks (first_index nesting + commands_in items)) refl (terms_kept nesting items h.0)
    where
      go : (b : Bool) → is_kept marks (first_index nesting + commands_in items) ≡ b
          → HoldsIn P (kept_nesting marks nesting) (kept_items marks (first_index nesting) items)
          → HoldsIn P (kept_nesting marks nesting) (kept_items marks (first_index nesting) (with_assume items id t))
      go true e ih = rw e (ih, h.1)
      go false e ih = rw e ih
  terms_kept nesting (with_step items s) h = go (is_kept marks (first_index nesting + commands_in items)) refl (terms_kept nesting items h.0)
    where
      go : (b : Bool) → is_kept marks (first_index nesting + commands_in items) ≡ b
          → HoldsIn P (kept_nesting marks nesting) (kept_items marks (first_index nesting) items)
          → HoldsIn P (kept_nesting marks nesting) (kept_items marks (first_index nesting) (with_step items s))
      go true e ih = rw e (ih, record { clause = h.1.clause; pivots = h.1.pivots })
      go false e ih = rw e ih
  terms_kept nesting (with_subproof items bindings proof s) h =
      go (is_kept marks (first_index nesting + commands_in items + commands_in proof)) refl (terms_kept nesting items h.0)
      (terms_kept (inner nesting items bindings s) proof h.2)
    where
      go : (b : Bool) → is_kept marks (first_index nesting + commands_in items + commands_in proof) ≡ b
          → HoldsIn P (kept_nesting marks nesting) (kept_items marks (first_index nesting) items)
          → HoldsIn P (kept_nesting marks (inner nesting items bindings s)) (kept_items marks (first_index nesting + commands_in items) proof)
          → HoldsIn P (kept_nesting marks nesting) (kept_items marks (first_index nesting) (with_subproof items bindings proof s))
      go true e ih deeper =
          rw e (ih, bindings_kept nesting bindings h.1, deeper, record { clause = h.3.clause; pivots = h.3.pivots })
      go false e ih deeper = rw e ih
