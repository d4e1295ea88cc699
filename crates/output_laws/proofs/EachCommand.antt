-- Private. What is so of each command of a proof is so of each that is left of it.
use Rattle.std.proofs.Common.{◌≡◌, ◌+◌, ℕ, Bool, true, false, List, refl}
use Rattle.term_model.specs.Terms.{Var, Term}
use Rattle.rule_model.specs.Proofs.{Step, ProofItems, no_items, with_assume, with_step, with_subproof}
use Rattle.rule_model.specs.Scopes.{commands_in}
use Rattle.pruned_proofs.specs.Reached.{is_kept}
use Rattle.pruned_proofs.specs.Pruned.{kept_items, renumbered}
use Rattle.reread_laws.specs.EachCommand.{AreEach}

module _ (Assumed : Term → Type 0) (Bound : List (Var × Term) → Type 0) (Stepped : Step Term → Type 0) (marks : List Bool)
    (same : (x : Step Term) → Stepped x → Stepped (renumbered marks x)) where
  abbrev Are : ProofItems Var Term → Type 0
  Are items = AreEach Assumed Bound Stepped items

  pub each_kept : (first : ℕ) (items : ProofItems Var Term) → Are items → Are (kept_items marks first items)
  each_kept first no_items h = tt
  each_kept first (with_assume items id t) h = go (is_kept marks (first + commands_in items)) refl (each_kept first items h.0)
    where
      go : (b : Bool) → is_kept marks (first + commands_in items) ≡ b → Are (kept_items marks first items)
          → Are (kept_items marks first (with_assume items id t))
      go true e ih = rw e (ih, h.1)
      go false e ih = rw e ih
  each_kept first (with_step items x) h = go (is_kept marks (first + commands_in items)) refl (each_kept first items h.0)
    where
      go : (b : Bool) → is_kept marks (first + commands_in items) ≡ b → Are (kept_items marks first items)
          → Are (kept_items marks first (with_step items x))
      go true e ih = rw e (ih, same x h.1)
      go false e ih = rw e ih
  each_kept first (with_subproof items bindings proof x) h =
      go (is_kept marks (first + commands_in items + commands_in proof)) refl (each_kept first items h.0)
      (each_kept (first + commands_in items) proof h.2)
    where
      go : (b : Bool) → is_kept marks (first + commands_in items + commands_in proof) ≡ b → Are (kept_items marks first items)
          → Are (kept_items marks (first + commands_in items) proof) → Are (kept_items marks first (with_subproof items bindings proof x))
      go true e ih deeper = rw e (ih, h.1, deeper, same x h.3)
      go false e ih deeper = rw e ih
