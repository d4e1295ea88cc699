-- The step of a command that is kept may be added to what is left, and adds itself.
use Rattle.std.proofs.Common.{◌≡◌, ℕ, Bool, true, false, List, [], ◌∷◌, ◌++◌, Contains, refl, sym, ◌∙◌, subst}
use Rattle.std.proofs.lemmas.List.Elements.{Contains-append_right}
use Rattle.std.proofs.lemmas.Slice.Eq.{bytes_eq-Decides}
use Rattle.term_model.proofs.Lists.{contains_head}
use Rattle.rule_model.specs.Proofs.{Step, ProofItems}
use Rattle.rule_model.specs.Scopes.{Anchor, Nesting, outermost, inside, Scope, at}
use Rattle.rule_model.specs.Visibility.{open_ids}
use Rattle.rule_model.specs.WellFormed.{MayStand}
use Rattle.rule_model.specs.Writing.{add_step, close_scope, take_step, is_open_id, MayTake, MayCloseHere}

true_false : true ≡ false → ⊥
true_false e = cc

is_open_there : (n : Nesting ℕ ℕ) (id : List ℕ) → is_open_id n id ≡ true → Contains (open_ids n) id
is_open_there outermost id e = absurd (cc)
is_open_there (inside around before anchor) id e =
    subst (λ x. Contains (open_ids around ++ anchor.id ∷ []) x) (sym ((bytes_eq-Decides id anchor.id).0 e))
    (Contains-append_right (open_ids around) (anchor.id ∷ []) anchor.id (contains_head anchor.id []))

not_open : (b : Bool) → (b ≡ true → ⊥) → b ≡ false
not_open true h = absurd (h refl)
not_open false h = refl

module _ (scope : Scope ℕ ℕ) (s : Step ℕ) where
  shut : MayStand scope.nesting scope.items s → is_open_id scope.nesting s.id ≡ false
  shut h = not_open (is_open_id scope.nesting s.id) (λ e. h.id.not_open (is_open_there scope.nesting s.id e))

  pub may_stand : MayStand scope.nesting scope.items s → MayTake scope s
  may_stand h = record { closing = λ e. absurd (true_false (sym e ∙ shut h)); standing = λ e. h }

  pub takes_step : MayStand scope.nesting scope.items s → take_step scope s ≡ add_step scope s
  takes_step h = rw (shut h) refl

module _ (around : Nesting ℕ ℕ) (before : ProofItems ℕ ℕ) (anchor : Anchor ℕ ℕ) (items : ProofItems ℕ ℕ) (s : Step ℕ) (own : s.id ≡ anchor.id) where
  opened : is_open_id (inside around before anchor) s.id ≡ true
  opened = (bytes_eq-Decides s.id anchor.id).1 own

  pub may_close : MayCloseHere (inside around before anchor) items s → MayTake (at (inside around before anchor) items) s
  may_close h = record { closing = λ e. h; standing = λ e. absurd (true_false (sym opened ∙ e)) }

  pub takes_closing : take_step (at (inside around before anchor) items) s ≡ close_scope (inside around before anchor) items s
  takes_closing = rw opened refl
