-- Public. What was written to a sink.
use Rattle.std.specs.Prelude.{ℕ, List, Option}
use Rattle.std.specs.Io.KnownBytes.{Appends}
use Rattle.file_ports.specs.Texts.{AppendsPrefix}

-- a sink as contracts see it: what was written, and its count of faults
pub record SinkView : Type 0 where
  pub written : Option (List ℕ)
  pub faults : ℕ

-- the whole of a text of which this is so was written, or a prefix of one
pub record WritesWhole (Is : List ℕ → Type 0) (old new : Option (List ℕ)) : Type 0 where
  pub text : List ℕ
  pub is : Is text
  pub printed : Appends old new text

pub record WritesPrefix (Is : List ℕ → Type 0) (old new : Option (List ℕ)) : Type 0 where
  pub text : List ℕ
  pub is : Is text
  pub printed : AppendsPrefix old new text
