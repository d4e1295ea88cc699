-- Private. What a printer comes to.
use Rattle.std.specs.Prelude.{◌≡◌, ℕ, true, false, Option, List, [], ◌∷◌, ◌++◌, reverse}
use Rattle.std.specs.List.{AllZip}
use Rattle.std.specs.Io.KnownBytes.{Appends}
use Rattle.file_ports.specs.Texts.{AppendsPrefix}
use Rattle.sexpr.specs.Printed.{printed_lines}
use Rattle.sym_table.specs.Table.{Table}
use Rattle.term_model.specs.Terms.{Var, Term}
use Rattle.term_pool.specs.Views.{TermsView, RefersTo}
use Rattle.rule_model.specs.Commands.{IndexedCommand, assume, step, closing}
use Rattle.rule_model.specs.Proofs.{ProofItems}
use Rattle.rule_model.specs.Reading.{is_assume, rule_at, clause_at}
use Rattle.rule_model.specs.Scopes.{outermost}
use Rattle.proof_store.specs.Meaning.{StandForItems}
use Rattle.problem_text.specs.Scripts.{Script}
use Rattle.printed_proofs.specs.FileOrder.{Event, event_items}
use Rattle.printed_proofs.specs.Parts.{Part, parts_text, parts_behind}
use Rattle.printed_proofs.specs.Shared.{Plan}
use Rattle.term_printer.specs.Pages.{ComesTo}
use Rattle.term_printer.specs.declared.page.Page.{Page}
use Rattle.alethe_printer.specs.declared.printing.Printing.{Printing}
use Rattle.alethe_printer.specs.declared.stages.Stage.{Stage}
use Rattle.alethe_printer.specs.Places.{closing_index, AreLeft}
use Rattle.alethe_printer.specs.Stages.{IsStepAt, StandsFor}

-- the command of this index, over references, is this one
abbrev pub IsCommandAt : Table → TermsView → ProofItems ℕ ℕ → ℕ → IndexedCommand Term → Type 0
IsCommandAt s v refs i (assume id t) = (is_assume (rule_at refs i) ≡ true) × AllZip (RefersTo s v) (clause_at refs i) (t ∷ [])
IsCommandAt s v refs i (step st) = (is_assume (rule_at refs i) ≡ false) × IsStepAt s v refs i st
IsCommandAt s v refs i (closing st) = (is_assume (rule_at refs i) ≡ false) × IsStepAt s v refs i st

pub record IsSomeCommand (refs : ProofItems ℕ ℕ) (i : ℕ) : Type 0 where
  pub table : Table
  pub view : TermsView
  pub command : IndexedCommand Term
  pub is : IsCommandAt table view refs i command

-- the text of events in this state
abbrev pub lines_of : Plan → ProofItems Var Term → Script → List Event → List ℕ
lines_of plan of u es = printed_lines (event_items (closing_index outermost of) plan u es)

-- The page, the stages and the events that are left come to these bytes, when all of them are printed.
pub record PrintsTo (plan : Plan) (s : Table) (v : TermsView) (refs : ProofItems ℕ ℕ) (of : ProofItems Var Term) (page : Page)
    (stages : List Stage) (opened next : ℕ) (bytes : List ℕ) : Type 0 where
  pub of_page : List ℕ
  pub state : Script
  pub comes : ComesTo plan s v page of_page state
  pub sorts : state.sorts ≡ s.sorts
  pub parts : List Part
  pub are : AllZip (StandsFor s v refs) stages parts
  pub events : List Event
  pub left : AreLeft of opened next events
  pub text : of_page ++ (parts_text plan state (reverse parts) ++ lines_of plan of (parts_behind plan state (reverse parts)) events) ≡ bytes

abbrev pub IsToPrint : Plan → Table → TermsView → ProofItems ℕ ℕ → ProofItems Var Term → Printing → List ℕ → Type 0
IsToPrint plan s v refs of p bytes = PrintsTo plan s v refs of p.page p.stages.items p.opened p.next bytes

pub record IsPrinting (s : Table) (v : TermsView) (refs : ProofItems ℕ ℕ) (p : Printing) : Type 0 where
  pub plan : Plan
  pub of : ProofItems Var Term
  pub stand : StandForItems s v refs of
  pub bytes : List ℕ
  pub prints : IsToPrint plan s v refs of p bytes

pub record IsPrintingSome (refs : ProofItems ℕ ℕ) (p : Printing) : Type 0 where
  pub table : Table
  pub view : TermsView
  pub is : IsPrinting table view refs p

-- It goes on to what it came to.
abbrev pub StillPrints : Table → TermsView → ProofItems ℕ ℕ → Printing → Printing → Type 0
StillPrints s v refs old new =
    (plan : Plan) (of : ProofItems Var Term) (bytes : List ℕ) → StandForItems s v refs of → IsToPrint plan s v refs of old bytes →
    IsToPrint plan s v refs of new bytes

-- All that it came to is its text.
abbrev pub HasPrinted : Table → TermsView → ProofItems ℕ ℕ → Printing → Printing → Type 0
HasPrinted s v refs old new =
    (plan : Plan) (of : ProofItems Var Term) (bytes : List ℕ) → StandForItems s v refs of → IsToPrint plan s v refs of old bytes →
    new.page.text.items ≡ bytes

-- What it came to was written, or a prefix of it.
abbrev pub AppendsLeft : Table → TermsView → ProofItems ℕ ℕ → Printing → Option (List ℕ) → Option (List ℕ) → Type 0
AppendsLeft s v refs p old new =
    (plan : Plan) (of : ProofItems Var Term) (bytes : List ℕ) → StandForItems s v refs of → IsToPrint plan s v refs of p bytes →
    Appends old new bytes

abbrev pub AppendsLeftPrefix : Table → TermsView → ProofItems ℕ ℕ → Printing → Option (List ℕ) → Option (List ℕ) → Type 0
AppendsLeftPrefix s v refs p old new =
    (plan : Plan) (of : ProofItems Var Term) (bytes : List ℕ) → StandForItems s v refs of → IsToPrint plan s v refs of p bytes →
    AppendsPrefix old new bytes

-- Some of the bytes that a page came to were written, and it comes to the others.
pub record IsMoved (plan : Plan) (s : Table) (v : TermsView) (page : Page) (bytes : List ℕ) (end : Script) (old new : Option (List ℕ)) : Type 0 where
  pub done : List ℕ
  pub others : List ℕ
  pub written : Appends old new done
  pub is : bytes ≡ done ++ others
  pub comes : ComesTo plan s v page others end

-- Some of the bytes were written, and it comes to the others.
pub record WritesOn (plan : Plan) (s : Table) (v : TermsView) (refs : ProofItems ℕ ℕ) (of : ProofItems Var Term) (p : Printing)
    (bytes : List ℕ) (old new : Option (List ℕ)) : Type 0 where
  pub done : List ℕ
  pub others : List ℕ
  pub written : Appends old new done
  pub prints : IsToPrint plan s v refs of p others
  pub whole : bytes ≡ done ++ others
