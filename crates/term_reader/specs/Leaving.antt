-- Private. What is done with a term that was read, by the form that waits for it.
use Rattle.std.specs.Prelude.{◌≤◌, ◌<◌, ℕ, ◌∷◌, length, Result, IfOk}
use Rattle.sym_table.specs.Table.{Table}
use Rattle.term_reader.specs.Frames.{WholeReading}
use Rattle.term_reader.specs.Turns.{Goes}
use Rattle.term_reader.specs.Credits.{node_of, bound_of, effort}
use Rattle.term_names.specs.declared.faults.ReadFault.{ReadFault}
use Rattle.term_reader.specs.declared.frames.Frame.{Frame}
use Rattle.text_items.specs.ItemsAt.{ItemsView}
use Rattle.term_reader.specs.ReadingViews.{ReadingView}
use Rattle.term_reader.specs.declared.reader.Turn.{Turn}
use Rattle.term_expansion.specs.declared.values.Value.{Value}
use Rattle.term_expansion.specs.SymbolsAndTerms.{SymbolsAndTerms}

-- the reader with this form as the innermost open one
abbrev pub with_open : ReadingView → Frame → ReadingView
with_open r frame = record r { frames = frame ∷ r.frames }

-- The next turn is at one of the nodes or behind them, needs no more leaves, and has less left to be done.
pub record Spends (items : ItemsView) (s : Table) (r : ReadingView) (turn : Turn) (t : Table) (q : ReadingView) (next : Turn) : Type 0 where
  pub inside : node_of next ≤ length items.nodes
  pub few : bound_of t items.nodes q.frames (node_of next) ≤ bound_of s items.nodes r.frames (node_of turn)
  pub progress : effort items.nodes q.frames next < effort items.nodes r.frames turn

-- The term c was read, and the next item begins at node n. From these symbols and terms and the reader r it goes on with the
-- new ones and q.
pub record Leaves (items : ItemsView) (g : WholeReading) (old : SymbolsAndTerms) (r : ReadingView) (c : Value) (n : ℕ) (new : SymbolsAndTerms)
    (q : ReadingView) (result : Result Turn ReadFault) : Type 0 where
  pub goes : Goes items g old.terms new q result
  pub spends : n ≤ length items.nodes → IfOk result (λ (next : Turn). Spends items old.symbols r (Turn.Use c n) new.symbols q next)
