-- Private. How a term that was made is settled.
use Rattle.std.specs.Prelude.{◌≡◌, ◌≤◌, ℕ, Option, Some, Result, Ok, Err}
use Rattle.sexpr.specs.declared.causes.Cause.{Cause}
use Rattle.problem_text.specs.Limits.{most_height}
use Rattle.problem_text.specs.TypedTerms.{Typed}
use Rattle.problem_text.specs.Outcomes.{done}
use Rattle.problem_text.specs.Scripts.{Script, with_term}
use Rattle.problem_text.specs.Terms.{settled}
use Rattle.term_expansion.specs.Values.{IsValue}
use Rattle.term_names.specs.declared.faults.ReadFault.{ReadFault}
use Rattle.term_expansion.specs.declared.values.Value.{Value}
use Rattle.term_expansion.specs.SymbolsAndTerms.{SymbolsAndTerms}

-- The value is a term that is read, or the fault of a term that begins at this place, of this cause where none was made.
abbrev pub SettlesTerm : SymbolsAndTerms → Cause → ℕ → Option Typed → Script → Result Value ReadFault → Type 0
SettlesTerm w cause place o sc (Ok c) =
    (t : Typed) × (o ≡ Some t) × (settled cause (Some most_height) place o sc ≡ done t (with_term t.tree sc)) × IsValue w c t × (c.height ≤ most_height)
SettlesTerm w cause place o sc (Err (ReadFault.Text r)) = (settled cause (Some most_height) place o sc).result ≡ Err r
SettlesTerm w cause place o sc (Err ReadFault.PoolFull) = ⊥
SettlesTerm w cause place o sc (Err ReadFault.Memory) = ⊥
