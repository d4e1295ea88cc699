-- Public. What a call returns whose definition comes to an outcome.
use Rattle.std.specs.Prelude.{◌≡◌, ◌≤◌, List, [], Contains, Result, Ok, Err}
use Rattle.pair_pool.specs.Views.{PassView}
use Rattle.sexpr.specs.declared.causes.Refusal.{Refusal}
use Rattle.sym_table.specs.Table.{Table}
use Rattle.term_model.specs.Terms.{Term}
use Rattle.term_pool.specs.Views.{TermsView}
use Rattle.problem_text.specs.Limits.{limited, most_height}
use Rattle.problem_text.specs.Names.{Place}
use Rattle.problem_text.specs.Outcomes.{Outcome, done}
use Rattle.problem_text.specs.Scripts.{Script}
use Rattle.problem_text.specs.TypedTerms.{Typed}
use Rattle.term_expansion.specs.SymbolsAndTerms.{SymbolsAndTerms}
use Rattle.term_expansion.specs.Values.{IsValue}
use Rattle.term_expansion.specs.declared.values.Value.{Value}
use Rattle.term_names.specs.InScope.{IsScope}
use Rattle.term_pool.specs.Placing.{PlacesCellsOf, LacksCellOf}
use Rattle.term_names.specs.Standing.{IsScript}
use Rattle.term_names.specs.declared.faults.ReadFault.{ReadFault}
use Rattle.term_reader.specs.ReadingViews.{ReadingView}

-- A term that was read by the end. The state of a reading says which were.
abbrev pub IsReadBy : {S A : Type 0} → (S → List Term) → Outcome S A → Term → Type 0
IsReadBy read o t = Contains (read o.state) t

abbrev pub terms_read : Script → List Term
terms_read sc = sc.terms

-- The reading ends with this fault: one of the text, or for want of room for a cell of a term that is read.
abbrev pub EndsWith : {A : Type 0} → Table → PassView → Result A Refusal → (Term → Type 0) → ReadFault → Type 0
EndsWith s pass outcome IsWanted (ReadFault.Text r) = outcome ≡ Err r
EndsWith s pass outcome IsWanted ReadFault.PoolFull = LacksCellOf s pass IsWanted
EndsWith s pass outcome IsWanted ReadFault.Memory = Unit {0}

-- an answer, after which this is so; or the fault with which the reading ends
abbrev pub IsAnswer : {S A T : Type 0} → (S → List Term) → SymbolsAndTerms → (T → Type 0) → Outcome S A → Result T ReadFault → Type 0
IsAnswer read w After o (Ok t) = After t
IsAnswer read w After o (Err fault) = EndsWith w.symbols w.terms.pass o.result (IsReadBy read o) fault

-- The result is that of a reading that comes to this outcome, and what was placed since are cells of terms that were read.
pub record Comes {S A T : Type 0} (read : S → List Term) (before : TermsView) (w : SymbolsAndTerms) (After : T → Type 0) (o : Outcome S A)
    (result : Result T ReadFault) : Type 0 where
  pub answer : IsAnswer read w After o result
  pub placed : PlacesCellsOf w.symbols before.pass w.terms.pass (IsReadBy read o)

-- There was no fault, and this is so of the answer, of what was read and of the state after it.
pub record Gives {S A T : Type 0} (After : T → A → S → Type 0) (o : Outcome S A) (t : T) : Type 0 where
  pub value : A
  pub state : S
  pub is : o ≡ done value state
  pub after : After t value state

-- the same where the reading ends with the call
abbrev pub ComesTo : {S A T : Type 0} → (S → List Term) → TermsView → SymbolsAndTerms → (T → A → S → Type 0) → Outcome S A → Result T ReadFault → Type 0
ComesTo read before w After o result = Comes read before w (Gives After o) o result

-- The reader holds nothing of a term, and what it holds stands for the script and the place.
pub record IsReaderIdle (w : SymbolsAndTerms) (r : ReadingView) (sc : Script) (p : Place) : Type 0 where
  pub script : IsScript w r.names.known sc
  pub scope : IsScope w r.names.scope p.scope
  pub settings : p.settings ≡ limited r.replaces_lets
  pub no_values : r.values ≡ []
  pub no_leaves : r.leaves.items ≡ []
  pub no_frames : r.frames ≡ []

-- A term was read, and the reader is ready for the next one.
pub record IsTermRead (w : SymbolsAndTerms) (r : ReadingView) (p : Place) (c : Value) (t : Typed) (sc : Script) : Type 0 where
  pub is : IsValue w c t
  pub low : c.height ≤ most_height
  pub idle : IsReaderIdle w r sc p
