-- Private. A term that is being read: where the reader is from turn to turn.
use Rattle.std.specs.Prelude.{◌≡◌, ◌≤◌, ◌<◌, ℕ, List, length, Result}
use Rattle.term_pool.specs.Views.{TermsView}
use Rattle.term_reader.specs.Frames.{WholeReading, AreFrames}
use Rattle.problem_text.specs.Limits.{limited, most_height}
use Rattle.term_names.specs.InScope.{IsScope, AreValuesLow}
use Rattle.term_reader.specs.Layers.{form_at}
use Rattle.problem_text.specs.Names.{Place}
use Rattle.term_reader.specs.Resuming.{Waiting, resumed}
use Rattle.problem_text.specs.TypedTerms.{Typed}
use Rattle.problem_text.specs.Outcomes.{done}
use Rattle.problem_text.specs.Scripts.{Script}
use Rattle.term_names.specs.Standing.{IsScript}
use Rattle.problem_text.specs.Terms.{term_from}
use Rattle.term_expansion.specs.Values.{IsValue}
use Rattle.term_names.specs.declared.faults.ReadFault.{ReadFault}
use Rattle.text_items.specs.ItemsAt.{ItemsView, end_at}
use Rattle.term_reader.specs.ReadingViews.{ReadingView}
use Rattle.term_reader.specs.declared.reader.Turn.{Turn}
use Rattle.term_expansion.specs.declared.values.Value.{Value}
use Rattle.term_reader.specs.Reading.{terms_read, Comes}
use Rattle.term_expansion.specs.SymbolsAndTerms.{SymbolsAndTerms}

-- the reader's own tables stand for the script and the place
pub record ReaderStands (w : SymbolsAndTerms) (r : ReadingView) (sc : Script) (p : Place) : Type 0 where
  pub script : IsScript w r.names.known sc
  pub scope : IsScope w r.names.scope p.scope
  pub settings : p.settings ≡ limited r.replaces_lets
  pub low : AreValuesLow r.values

-- The term that is read now is that of node k: what comes of it for all that wait is what comes of the whole term.
pub record IsAt (items : ItemsView) (g : WholeReading) (w : SymbolsAndTerms) (r : ReadingView) (k : ℕ) : Type 0 where
  pub script : Script
  pub place : Place
  pub waiting : List Waiting
  pub stands : ReaderStands w r script place
  pub inside : k < length items.nodes
  pub frames : AreFrames items g w r.names.known r.frames r.values r.leaves.items r.names.scope place (end_at items k) waiting
  pub comes : resumed waiting (term_from (form_at items k) place script) ≡ g.whole

-- A term was read, and the next item begins at node n.
pub record HasRead (items : ItemsView) (g : WholeReading) (w : SymbolsAndTerms) (r : ReadingView) (c : Value) (n : ℕ) : Type 0 where
  pub script : Script
  pub place : Place
  pub term : Typed
  pub waiting : List Waiting
  pub stands : ReaderStands w r script place
  pub is : IsValue w c term
  pub low : c.height ≤ most_height
  pub frames : AreFrames items g w r.names.known r.frames r.values r.leaves.items r.names.scope place n waiting
  pub comes : resumed waiting (done term script) ≡ g.whole

abbrev pub IsTurn : ItemsView → WholeReading → SymbolsAndTerms → ReadingView → Turn → Type 0
IsTurn items g w r (Turn.Read k) = IsAt items g w r k
IsTurn items g w r (Turn.Use c n) = HasRead items g w r c n

-- It goes on with this turn, or ends with the fault of the whole term.
abbrev pub Goes : ItemsView → WholeReading → TermsView → SymbolsAndTerms → ReadingView → Result Turn ReadFault → Type 0
Goes items g before w r result = Comes terms_read before w (IsTurn items g w r) g.whole result
