-- Private. What one step of a printer does: bytes are printed, and what is left are parts of a term and stages behind it.
use Rattle.std.specs.Prelude.{◌≡◌, ℕ, Bool, List, [], ◌∷◌, ◌++◌, drop, reverse, codes, Option, Some, None}
use Rattle.std.specs.List.{AllZip}
use Rattle.sexpr.specs.Items.{Item}
use Rattle.sexpr.specs.Printed.{printed}
use Rattle.sym_table.specs.Table.{Table}
use Rattle.term_model.specs.Terms.{Var, Term}
use Rattle.term_pool.specs.Bindings.{IsBindingOf}
use Rattle.term_pool.specs.Views.{TermsView}
use Rattle.rule_model.specs.Proofs.{Fraction, ProofItems}
use Rattle.rule_model.specs.Reading.{bindings_at}
use Rattle.problem_text.specs.Scripts.{Script}
use Rattle.printed_proofs.specs.Coefficients.{coefficient_items}
use Rattle.printed_proofs.specs.Parts.{Part, listed_text, parts_text, parts_behind, GoesOn}
use Rattle.printed_proofs.specs.Shared.{Plan}
use Rattle.term_printer.specs.Names.{AreGiven}
use Rattle.term_printer.specs.Pages.{ComesTo}
use Rattle.term_printer.specs.declared.page.Page.{Page}
use Rattle.alethe_printer.specs.declared.stages.Stage.{Stage}
use Rattle.alethe_printer.specs.Stages.{StandsFor}

-- The page had nothing left, and comes to its bytes and these; the stages that are left behind it are these parts.
pub record Prints (plan : Plan) (s : Table) (v : TermsView) (refs : ProofItems ℕ ℕ) (old new : Page) (before after : List Stage) (bytes : List ℕ) (end : Script)
    (parts : List Part) : Type 0 where
  pub page : ComesTo plan s v new (old.text.items ++ bytes) end
  pub stages : List Stage
  pub left : after ≡ before ++ stages
  pub are : AllZip (StandsFor s v refs) stages parts

-- In a state where the names are in step, the part was begun.
pub record DoesIn (plan : Plan) (s : Table) (v : TermsView) (refs : ProofItems ℕ ℕ) (old new : Page) (before after : List Stage) (p : Part)
    (u : Script) : Type 0 where
  pub bytes : List ℕ
  pub end : Script
  pub parts : List Part
  pub prints : Prints plan s v refs old new before after bytes end parts
  pub sorts : end.sorts ≡ u.sorts
  pub goes_on : (ps : List Part) → GoesOn plan u (p ∷ ps) bytes end (reverse parts ++ ps)

abbrev pub Does : Plan → Table → TermsView → ProofItems ℕ ℕ → Page → Page → List Stage → List Stage → Part → Type 0
Does plan s v refs old new before after p =
    (u : Script) → u.sorts ≡ s.sorts → AreGiven plan s v old.names u.taken → DoesIn plan s v refs old new before after p u

-- In this state the line of an item was begun, behind which this state stands.
pub record BeginsIn (plan : Plan) (s : Table) (v : TermsView) (refs : ProofItems ℕ ℕ) (old new : Page) (before after : List Stage) (i : Item)
    (u behind : Script) : Type 0 where
  pub bytes : List ℕ
  pub end : Script
  pub parts : List Part
  pub prints : Prints plan s v refs old new before after bytes end parts
  pub sorts : end.sorts ≡ u.sorts
  pub text : bytes ++ parts_text plan end (reverse parts) ≡ printed i ++ 10 ∷ []
  pub state : parts_behind plan end (reverse parts) ≡ behind

abbrev pub Begins : Plan → Table → TermsView → ProofItems ℕ ℕ → Page → Page → List Stage → List Stage → Item → Script → Script → Type 0
Begins plan s v refs old new before after i u behind =
    AreGiven plan s v old.names u.taken → BeginsIn plan s v refs old new before after i u behind

-- The coefficients of a step were printed, or its pivots begun, where it has any.
abbrev pub PivotsBegin : ℕ → List (ℕ × Bool) → List ℕ → List ℕ → List Stage → List Stage → Type 0
PivotsBegin i [] old new before after = (new ≡ old) × (after ≡ before)
PivotsBegin i (p ∷ ps) old new before after = (new ≡ old ++ codes " :args (") × (after ≡ before ++ Stage.Pivots i 0 ∷ [])

abbrev pub ArgumentsBegin : ℕ → Option (List Fraction) → List (ℕ × Bool) → List ℕ → List ℕ → List Stage → List Stage → Type 0
ArgumentsBegin i (Some qs) ps old new before after = (new ≡ old ++ listed_text (codes ":args") (coefficient_items qs)) × (after ≡ before)
ArgumentsBegin i None ps old new before after = PivotsBegin i ps old new before after

-- the stage is some part
pub record IsSomeStage (s : Table) (refs : ProofItems ℕ ℕ) (stage : Stage) : Type 0 where
  pub view : TermsView
  pub part : Part
  pub is : StandsFor s view refs stage part

-- what an anchor binds from one place on stands for something
pub record IsSomeVariables (s : Table) (refs : ProofItems ℕ ℕ) (scope from : ℕ) : Type 0 where
  pub view : TermsView
  pub bound : List (Var × Term)
  pub are : AllZip (IsBindingOf s view) (drop from (bindings_at refs scope)) bound
