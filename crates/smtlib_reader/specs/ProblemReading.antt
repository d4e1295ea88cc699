-- Private. A problem's text that is being read, item by item.
use Rattle.std.specs.Prelude.{◌≡◌, ◌+◌, ◌-◌, ℕ, Bool, true, false, List, [], length, ⊤}
use Rattle.sexpr.specs.Items.{Item, Items, no_items, item, AreItems}
use Rattle.sexpr.specs.Tokens.{AreTokens}
use Rattle.sexpr.specs.declared.lexing.Token.{Token}
use Rattle.text_items.specs.Nesting.{AreItsNodes}
use Rattle.problem_text.specs.Problems.{script_commands}
use Rattle.problem_text.specs.Outcomes.{Outcome, done}
use Rattle.problem_text.specs.Scripts.{Script}
use Rattle.smtlib_reader.specs.Sessions.{SessionView, IsSession}
use Rattle.text_items.specs.declared.nodes.Node.{Node}
use Rattle.term_expansion.specs.SymbolsAndTerms.{SymbolsAndTerms}

-- from this place on the text is that of these items
pub record HasItems (source : List ℕ) (at : ℕ) (items : Items) : Type 0 where
  pub tokens : List Token
  pub read : AreTokens source at tokens
  pub nested : AreItems source tokens items []

-- The nodes are those of the first of the items, and the others stand from this place on.
pub record IsFirstItem (source : List ℕ) (nodes : List Node) (at : ℕ) (items : Items) : Type 0 where
  pub first : Item
  pub others : Items
  pub split : items ≡ item first others
  pub here : AreItsNodes source nodes first
  pub left : HasItems source at others

-- whether there was an item
abbrev pub IsItemFound : List ℕ → List Node → ℕ → Items → Bool → Type 0
IsItemFound source nodes at items true = IsFirstItem source nodes at items
IsItemFound source nodes at items false = items ≡ no_items

-- The commands that are left of a text come to this outcome.
pub record AreLeft (source : List ℕ) (replaces_lets : Bool) (at : ℕ) (sc : Script) (whole : Outcome Script ⊤) : Type 0 where
  pub items : Items
  pub here : HasItems source at items
  pub comes : script_commands replaces_lets items sc ≡ whole

-- A command was read, and others may be left; or the text is at its end or at an exit.
abbrev pub IsCommandRead : List ℕ → SymbolsAndTerms → SessionView → ℕ → Outcome Script ⊤ → Bool → Type 0
IsCommandRead source w d at whole true = (sc : Script) × AreLeft source d.reader.replaces_lets at sc whole × IsSession w d sc
IsCommandRead source w d at whole false = (sc : Script) × (whole ≡ done tt sc) × IsSession w d sc

-- how many names and leaves a table may have once the rest of a text is read: one for each byte
abbrev pub most_after : ℕ → List ℕ → ℕ → ℕ
most_after count source at = count + (length source - at)
