-- Private. A problem that is being read, command by command.
use Rattle.std.specs.Prelude.{◌≡◌, ℕ, Bool, [], Vec, ⊤}
use Rattle.std.specs.declared.alloc.Global.{Global}
use Rattle.term_pool.specs.Views.{ReferToAll}
use Rattle.term_expansion.specs.SymbolsAndTerms.{SymbolsAndTerms}
use Rattle.problem_text.specs.Limits.{limited}
use Rattle.problem_text.specs.Names.{Place}
use Rattle.problem_text.specs.Scripts.{Script}
use Rattle.term_names.specs.declared.settings.ReadSettings.{ReadSettings}
use Rattle.term_reader.specs.Reading.{IsReaderIdle}
use Rattle.term_reader.specs.ReadingViews.{ReadingView, reader_in}
use Rattle.smtlib_reader.specs.declared.session.Session.{Session}

-- at the top of a problem no variable is in scope
abbrev pub top : Bool → Place
top replaces_lets = record { scope = []; settings = limited replaces_lets }

-- what was read of a problem, with the settings of the reading
pub record SessionView : Type 0 where
  pub reader : ReadingView
  pub assertions : Vec ℕ Global
  pub has_logic : Bool
  pub is_checked : Bool

abbrev pub session_in : ReadSettings → Session → SessionView
session_in e d = record {
  reader = reader_in e d.reader;
  assertions = d.assertions;
  has_logic = d.has_logic;
  is_checked = d.is_checked;
}

-- what was read of a problem stands for the script
pub record IsSession (w : SymbolsAndTerms) (d : SessionView) (sc : Script) : Type 0 where
  pub idle : IsReaderIdle w d.reader sc (top d.reader.replaces_lets)
  pub assertions : ReferToAll w.symbols w.terms d.assertions.items sc.assertions
  pub has_logic : d.has_logic ≡ sc.has_logic
  pub is_checked : d.is_checked ≡ sc.is_checked

-- commands have been performed, and what was read stands for the script after them
pub record IsPerformed (w : SymbolsAndTerms) (d : SessionView) (answer : Unit {0}) (done : ⊤) (sc : Script) : Type 0 where
  pub session : IsSession w d sc
