-- The coefficients of a step of a well-formed proof are in lowest terms.
use Rattle.std.proofs.Common.{◌≡◌, ℕ, zero, suc, List, [], ◌∷◌, map, slice_get, Some, None, refl}
use Rattle.std.specs.Prelude.{All, IfSome}
use Rattle.std.specs.Option.{option_map_or}
use Rattle.rule_model.specs.Commands.{IndexedCommand, assume, step, closing, Line, entry_of, lines_in}
use Rattle.rule_model.specs.Proofs.{ProofItems}
use Rattle.rule_model.specs.Reading.{ratios_of, ratios_at}
use Rattle.rule_model.specs.Scopes.{Scope, Nesting, outermost, inside, at}
use Rattle.rule_model.specs.WellFormed.{IsLowest, IsWellFormed}
use Rattle.rule_model.specs.Writing.{MayAddHere}
use Rattle.rule_model.proofs.Standing.{command_may}

module _ {V T : Type 0} where
  command_lowest : (scope : Scope V T) (c : IndexedCommand T) → MayAddHere scope c → IfSome (ratios_of c) (All IsLowest)
  command_lowest scope (assume id t) may = tt
  command_lowest scope (step s) may = may.rule.lowest
  command_lowest scope (closing s) may = close scope.nesting scope.items may
    where
      close : (nesting : Nesting V T) (items : ProofItems V T) → MayAddHere (at nesting items) (closing s) → IfSome s.ratios (All IsLowest)
      close outermost items may = absurd may
      close (inside around before anchor) items may = may.rule.lowest

  lowest_in : (xs : List (Line V T)) (i : ℕ) → ((l : Line V T) → slice_get xs i ≡ Some l → IfSome (ratios_of l.command) (All IsLowest)) → IfSome (option_map_or (λ e. ratios_of e.command) (slice_get (map entry_of xs) i) None) (All IsLowest)
  lowest_in [] i each = tt
  lowest_in (x ∷ xs) zero each = each x refl
  lowest_in (x ∷ xs) (suc i) each = lowest_in xs i each

  pub ratios_lowest : (proof : ProofItems V T) (i : ℕ) → IsWellFormed proof → IfSome (ratios_at proof i) (All IsLowest)
  ratios_lowest proof i formed =
      lowest_in (lines_in outermost proof) i (λ l there. command_lowest l.scope l.command (command_may proof i l formed there))
