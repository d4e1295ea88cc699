-- Private. Giving names to a term.
use Rattle.std.specs.Prelude.{◌≡◌, ◌≤◌, ℕ, List, Result, Ok, Err}
use Rattle.term_expansion.specs.Free.{AreFreeLeaves}
use Rattle.problem_text.specs.Limits.{most_height}
use Rattle.term_names.specs.Known.{KnownView}
use Rattle.rule_model.specs.Replacement.{free_variables}
use Rattle.problem_text.specs.TypedTerms.{Typed}
use Rattle.problem_text.specs.Outcomes.{Outcome, done}
use Rattle.problem_text.specs.Scripts.{Script}
use Rattle.term_names.specs.Standing.{IsScript}
use Rattle.term_expansion.specs.Values.{IsValue}
use Rattle.term_names.specs.declared.faults.ReadFault.{ReadFault}
use Rattle.term_expansion.specs.declared.values.Value.{Value}
use Rattle.term_expansion.specs.SymbolsAndTerms.{SymbolsAndTerms}

-- The term has the names now, or the first that is taken is refused.
abbrev pub GivesNames : SymbolsAndTerms → KnownView → Typed → Outcome Script Typed → Result Unit ReadFault → Type 0
GivesNames w k t whole (Ok _) = (sc : Script) × (whole ≡ done t sc) × IsScript w k sc
GivesNames w k t whole (Err (ReadFault.Text r)) = whole.result ≡ Err r
GivesNames w k t whole (Err ReadFault.PoolFull) = ⊥
GivesNames w k t whole (Err ReadFault.Memory) = Unit {0}

-- The value stands for the term, which is low enough for a name, and the leaves are those of its free variables.
pub record IsFreeIn (w : SymbolsAndTerms) (c : Value) (leaves : List ℕ) (t : Typed) : Type 0 where
  pub value : IsValue w c t
  pub low : c.height ≤ most_height
  pub free : AreFreeLeaves w.symbols leaves (free_variables t.tree)
