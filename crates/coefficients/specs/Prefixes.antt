-- Private. Arguments one after another.
use Rattle.std.specs.Prelude.{Bool, true, false, List, [], ◌∷◌, ◌++◌, map, Option, Some, None, option_map, option_and_then, Result, Ok, Err}
use Rattle.sexpr.specs.declared.causes.Refusal.{Refusal}
use Rattle.rule_model.specs.Proofs.{Fraction}
use Rattle.proof_store.specs.Ratios.{fraction_of_ratio}
use Rattle.proof_store.specs.declared.answers.Ratio.{Ratio}

-- what was read so far, where all of it are coefficients
abbrev pub so_far : Bool → List Ratio → Option (List Fraction)
so_far true qs = Some (map fraction_of_ratio qs)
so_far false qs = None

-- the coefficients before, and one more or an argument that is none
abbrev pub with_one : Option (List Fraction) → Option Fraction → Option (List Fraction)
with_one None q = None
with_one (Some qs) None = None
with_one (Some qs) (Some q) = Some (qs ++ q ∷ [])

-- Some arguments were read, all of them coefficients or not, and then others.
abbrev pub behind_prefix : Option (List Fraction) → Result (Option (List Fraction)) Refusal → Result (Option (List Fraction)) Refusal
behind_prefix read (Ok others) = Ok (option_and_then (λ qs. option_map (λ rest. qs ++ rest) others) read)
behind_prefix read (Err refusal) = Err refusal
