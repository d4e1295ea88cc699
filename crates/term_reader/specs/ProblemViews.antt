-- Public. What contracts see of a problem and of a reader of terms, and what these stand for.
use Rattle.std.specs.Prelude.{◌≡◌, ◌≤◌, ◌++◌, ℕ, Bool, List, [], map, Contains, Result}
use Rattle.sexpr.specs.Items.{Items, StandsForItems}
use Rattle.sym_table.specs.Leaf.{first_leaves}
use Rattle.sym_table.specs.Table.{Table}
use Rattle.term_model.specs.Terms.{Term, Var}
use Rattle.term_pool.specs.Views.{TermsView, RefersTo, ReferToAll}
use Rattle.term_names.specs.Entries.{EntriesView, no_entries}
use Rattle.problem_text.specs.Limits.{most_height}
use Rattle.problem_text.specs.Names.{Bound, Place, itself}
use Rattle.problem_text.specs.Problems.{problem}
use Rattle.term_reader.specs.Lately.{LatelyView, AreRight}
use Rattle.term_reader.specs.Reading.{IsReaderIdle, terms_read, ComesTo}
use Rattle.problem_text.specs.TypedTerms.{Typed}
use Rattle.problem_text.specs.Outcomes.{Outcome}
use Rattle.problem_text.specs.Scripts.{Script}
use Rattle.term_expansion.specs.Values.{IsValue}
use Rattle.term_names.specs.Standing.{IsScript, AreLeavesOf}
use Rattle.term_names.specs.declared.faults.ReadFault.{ReadFault}
use Rattle.term_expansion.specs.declared.values.Value.{Value}
use Rattle.term_reader.specs.ReadingViews.{ReadingView}
use Rattle.term_expansion.specs.SymbolsAndTerms.{both}

-- what its names are those of, and its assertions
pub record ProblemView : Type 0 where
  pub entries : EntriesView
  pub assertions : List ℕ

-- the problem stands for the script
pub record IsProblemOf (s : Table) (v : TermsView) (p : ProblemView) (sc : Script) : Type 0 where
  pub script : IsScript (both s v) (record { base = p.entries; own = no_entries }) sc
  pub assertions : ReferToAll s v p.assertions sc.assertions

-- a table without declarations, numerals and variables
pub record IsNewTable (s : Table) : Type 0 where
  pub leaves : s.leaves ≡ first_leaves
  pub sorts : s.sorts ≡ []

-- A term that counts as read of the text: one of those that were read up to its end or its first fault.
pub record IsCounted (source : List ℕ) (replaces_lets : Bool) (t : Term) : Type 0 where
  pub items : Items
  pub nested : StandsForItems source items
  pub read : Contains (problem replaces_lets items).state.terms t

-- What a reader holds; the variables that were pushed since it read a term, by their leaves, the last one first; and what it
-- keeps of the lists that it read before.
pub record ReaderView : Type 0 where
  pub reader : ReadingView
  pub pushed : List ℕ
  pub lately : LatelyView

-- The reader stands for the script and the place, whose scope begins with the variables that were pushed. What it keeps of lists
-- is right outside them.
pub record IsReaderOf (s : Table) (v : TermsView) (r : ReaderView) (sc : Script) (p : Place) : Type 0 where
  pub variables : List Var
  pub around : List Bound
  pub scope : p.scope ≡ map itself variables ++ around
  pub pushed : AreLeavesOf s r.pushed variables
  pub idle : IsReaderIdle (both s v) r.reader sc (record { scope = around; settings = p.settings })
  pub lists : AreRight (both s v) (record { scope = around; settings = p.settings }) sc r.lately

-- The reader stands for the script and the place, and no variable is left to be put in scope.
pub record HasEntered (s : Table) (v : TermsView) (r : ReaderView) (sc : Script) (p : Place) : Type 0 where
  pub none : r.pushed ≡ []
  pub idle : IsReaderIdle (both s v) r.reader sc p
  pub lists : AreRight (both s v) p sc r.lately

-- A term was read, and the reader is ready for the next one.
pub record IsReferenceRead (s : Table) (v : TermsView) (r : ReaderView) (p : Place) (k : ℕ) (t : Typed) (sc : Script) : Type 0 where
  pub refers : RefersTo s v k t.tree
  pub reader : IsReaderOf s v r sc p

abbrev pub ReadsTerm : Table → TermsView → TermsView → ReaderView → Place → Outcome Script Typed → Result ℕ ReadFault → Type 0
ReadsTerm s old new r p whole result = ComesTo terms_read old (both s new) (IsReferenceRead s new r p) whole result

-- the same, with its sort and its height
pub record IsValueRead (s : Table) (v : TermsView) (r : ReaderView) (p : Place) (c : Value) (t : Typed) (sc : Script) : Type 0 where
  pub is : IsValue (both s v) c t
  pub low : c.height ≤ most_height
  pub reader : IsReaderOf s v r sc p

abbrev pub ReadsValue : Table → TermsView → TermsView → ReaderView → Place → Outcome Script Typed → Result Value ReadFault → Type 0
ReadsValue s old new r p whole result = ComesTo terms_read old (both s new) (IsValueRead s new r p) whole result
