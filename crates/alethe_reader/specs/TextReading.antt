-- Private. A proof's text that is being read, from command to command.
use Rattle.std.specs.Prelude.{◌≡◌, ◌≤◌, ◌+◌, ◌-◌, ℕ, Bool, true, false, List, [], length, None, Result, Ok, Err, ⊤}
use Rattle.sexpr.specs.declared.causes.Refusal.{Refusal}
use Rattle.sexpr.specs.Items.{Items, no_items}
use Rattle.term_model.specs.Terms.{Var, Term}
use Rattle.term_pool.specs.Views.{TermsView}
use Rattle.rule_model.specs.Proofs.{ProofItems as Proof}
use Rattle.rule_model.specs.Scopes.{Scope, next_index, next_scope}
use Rattle.proof_store.specs.Meaning.{StandForItems}
use Rattle.text_items.specs.ItemShapes.{excess}
use Rattle.problem_text.specs.Outcomes.{Outcome, done}
use Rattle.term_names.specs.declared.faults.ReadFault.{ReadFault}
use Rattle.term_reader.specs.Reading.{Comes}
use Rattle.alethe_text.specs.ProofTexts.{commands, none_behind, finished}
use Rattle.alethe_text.specs.States.{ProofSettings, ProofState, Reading, ◌>>=◌}
use Rattle.alethe_reader.specs.Answers.{terms_in}
use Rattle.alethe_commands.specs.TextItems.{HasCommandItems}
use Rattle.alethe_text.specs.CommandNames.{HaveNames}
use Rattle.alethe_reader.specs.Sessions.{IsProofSession}
use Rattle.alethe_reader.specs.Settings.{proof_settings}
use Rattle.alethe_reader.specs.declared.session.Session.{Session}
use Rattle.alethe_reader.specs.declared.settings.SessionSettings.{SessionSettings}
use Rattle.term_expansion.specs.SymbolsAndTerms.{SymbolsAndTerms}

-- behind the commands: what stands behind their list, and the end of the proof
unfoldable pub closing_from : ProofSettings → Items → ⊤ → Reading (Proof Var Term)
closing_from settings behind _ = do
  _ ← none_behind (excess behind)
  finished

-- what these commands come to, and what stands behind their list
unfoldable pub left_from : ProofSettings → Items → Items → Reading (Proof Var Term)
left_from settings items behind = commands settings items >>= closing_from settings behind

-- The commands that are left of a text come to this outcome.
pub record AreCommandsLeft (source : List ℕ) (how : SessionSettings) (at : ℕ) (p : ProofState) (whole : Outcome ProofState (Proof Var Term)) : Type 0 where
  pub items : Items
  pub behind : Items
  pub here : HasCommandItems source how.in_list at items behind
  pub named : HaveNames items
  pub comes : left_from (proof_settings how) items behind p ≡ whole

-- No command is left, and what stands behind their list stands from this place on.
pub record NoneLeft (source : List ℕ) (settings : ProofSettings) (at : ℕ) (p : ProofState) (whole : Outcome ProofState (Proof Var Term)) : Type 0 where
  pub behind : Items
  pub here : HasCommandItems source false at behind no_items
  pub comes : closing_from settings behind tt p ≡ whole

-- All commands were read.
abbrev pub AreAllRead : List ℕ → SymbolsAndTerms → ProofSettings → Session → ℕ → Outcome ProofState (Proof Var Term) → Type 0
AreAllRead source w settings d at whole = (p : ProofState) × NoneLeft source settings at p whole × IsProofSession w settings d p

-- A command was read, and others may be left; or none was left.
abbrev pub IsProofCommandRead : List ℕ → SymbolsAndTerms → SessionSettings → Session → ℕ → Outcome ProofState (Proof Var Term)
    → Bool → Type 0
IsProofCommandRead source w how d at whole true =
    (p : ProofState) × AreCommandsLeft source how at p whole × IsProofSession w (proof_settings how) d p
IsProofCommandRead source w how d at whole false = AreAllRead source w (proof_settings how) d at whole

-- the same, or the command has a fault
abbrev pub ReadsProofCommand : List ℕ → TermsView → SymbolsAndTerms → SessionSettings → Session → ℕ → Outcome ProofState (Proof Var Term)
    → Result Bool ReadFault → Type 0
ReadsProofCommand source before w how d at whole result =
    Comes terms_in before w (IsProofCommandRead source w how d at whole) whole result

-- All commands of a text were read, or one has a fault.
abbrev pub ReadsProof : List ℕ → TermsView → SymbolsAndTerms → ProofSettings → Session → ℕ → Outcome ProofState (Proof Var Term)
    → Result Unit ReadFault → Type 0
ReadsProof source before w settings d at whole result =
    Comes terms_in before w (λ _. AreAllRead source w settings d at whole) whole result

-- Nothing stands behind the commands and no anchor is open, or the reading is refused for what stands there.
abbrev pub IsEndJudged : Session → Items → Outcome ProofState (Proof Var Term) → Result Unit Refusal → Type 0
IsEndJudged d behind whole (Ok _) = (excess behind ≡ None) × (d.anchors.items ≡ [])
IsEndJudged d behind whole (Err r) = whole.result ≡ Err r

-- The proof that was read, or the fault of what stands behind the commands, or of an anchor that is open.
abbrev pub IsFinished : SymbolsAndTerms → ProofState → Outcome ProofState (Proof Var Term) → Result (Proof ℕ ℕ) ReadFault → Type 0
IsFinished w p whole (Ok refs) = (proof : Proof Var Term) × (whole ≡ done proof p) × StandForItems w.symbols w.terms refs proof
IsFinished w p whole (Err (ReadFault.Text r)) = whole.result ≡ Err r
IsFinished w p whole (Err ReadFault.PoolFull) = ⊥
IsFinished w p whole (Err ReadFault.Memory) = ⊤

-- how many leaves a table may have once the rest of a text is read: one for each byte
abbrev pub most_after : ℕ → List ℕ → ℕ → ℕ
most_after count source at = count + (length source - at)

-- each command that is written, and each scope, has a byte before this place
pub record IsBehindCommands (scope : Scope ℕ ℕ) (at : ℕ) : Type 0 where
  pub commands : next_index scope ≤ at
  pub scopes : next_scope scope ≤ at + 1
