-- Public. What a reader of terms holds, with the settings of the reading.
use Rattle.std.specs.Prelude.{ℕ, Bool, List, Vec}
use Rattle.std.specs.declared.alloc.Global.{Global}
use Rattle.term_expansion.specs.declared.values.Value.{Value}
use Rattle.term_names.specs.Scope.{NamesView, all_names}
use Rattle.term_names.specs.declared.settings.ReadSettings.{ReadSettings}
use Rattle.term_reader.specs.declared.frames.Frame.{Frame}
use Rattle.term_reader.specs.declared.reader.Reader.{Reader}

pub record ReadingView : Type 0 where
  pub replaces_lets : Bool
  pub names : NamesView
  pub values : List Value
  pub leaves : Vec ℕ Global
  pub frames : List Frame

abbrev pub reader_in : ReadSettings → Reader → ReadingView
reader_in e r = record {
  replaces_lets = e.replaces_lets;
  names = all_names e r.names;
  values = r.values;
  leaves = r.leaves;
  frames = r.frames;
}
