-- Public. What the text of a proof stands for, behind a problem, and its first fault (Alethe, "The Proof Format").
use Rattle.std.specs.Prelude.{◌≡◌, ℕ, Bool, true, false, if◌then◌else◌, List, codes, slice_index_or, Option, Some, None, Ok, Err, ⊤, ◌⊎◌}
use Rattle.sexpr.specs.declared.causes.Cause.TheVariants.{BadCommand, BadAnchor}
use Rattle.sexpr.specs.declared.causes.Refusal.{Refusal}
use Rattle.sexpr.specs.Form.{IsFormFault}
use Rattle.sexpr.specs.Items.{Item, list, Items, no_items, item, StandsForItems}
use Rattle.term_model.specs.Terms.{Var, Term}
use Rattle.rule_model.specs.Proofs.{ProofItems as Proof}
use Rattle.rule_model.specs.Scopes.{Nesting, outermost, inside}
use Rattle.text_items.specs.ItemShapes.{excess, items_of}
use Rattle.text_items.specs.Spelling.{is_list_item}
use Rattle.problem_text.specs.Scripts.{Script}
use Rattle.alethe_text.specs.Commands.{Command, assume, step, anchor, is_symbol_of, command_of}
use Rattle.alethe_text.specs.States.{ProofSettings, unread, Reading, ◌>>=◌, give, refuse, given, seen_in}
use Rattle.alethe_text.specs.Steps.{assume_read, step_read}
use Rattle.alethe_text.specs.Anchors.{anchor_read}

-- what a command adds
unfoldable pub performed : ProofSettings → Command → Reading ⊤
performed settings (assume n i) = assume_read settings n i
performed settings (step n literals attributes) = step_read settings n literals attributes
performed settings (anchor place n arguments) = anchor_read settings place n arguments

-- the commands, in their order
unfoldable pub commands : ProofSettings → Items → Reading ⊤
commands settings no_items = give tt
commands settings (item i rest) = do
  c ← given (command_of i)
  _ ← performed settings c
  commands settings rest

-- The text may begin with the answer of the solver.
abbrev pub behind_answer : Items → Items
behind_answer no_items = no_items
behind_answer (item i rest) = if is_symbol_of (codes "unsat") i then rest else item i rest

-- The first item is a list of commands: it is empty, or begins with a list.
abbrev pub is_list_of_commands : Item → Bool
is_list_of_commands (list place no_items) = true
is_list_of_commands (list place (item head others)) = is_list_item head
is_list_of_commands other = false

-- The commands stand by themselves or in one list, and behind such a list stands nothing.
abbrev pub unwrapped_commands : Items → Items
unwrapped_commands no_items = no_items
unwrapped_commands (item i rest) = if is_list_of_commands i then items_of i else item i rest

abbrev pub excess_behind : Items → Option ℕ
excess_behind no_items = None
excess_behind (item i rest) = if is_list_of_commands i then excess rest else None

abbrev pub none_behind : Option ℕ → Reading ⊤
none_behind None = give tt
none_behind (Some place) = refuse BadCommand place

-- No anchor is open at the end. The outermost one counts.
abbrev pub closed_proof : Nesting Var Term → Proof Var Term → List ℕ → Reading (Proof Var Term)
closed_proof outermost proof places = give proof
closed_proof (inside around before last) proof places = refuse BadAnchor (slice_index_or places 0 0)

abbrev pub finished : Reading (Proof Var Term)
finished = seen_in (λ s. s) >>= λ s. closed_proof s.scope.nesting s.scope.items s.anchors

-- what the items of a whole text come to
unfoldable pub proof_from : ProofSettings → Items → Reading (Proof Var Term)
proof_from settings items = do
  _ ← commands settings (unwrapped_commands (behind_answer items))
  _ ← none_behind (excess_behind (behind_answer items))
  finished

-- The text is without a fault behind a problem that stands for the script `before`. It stands for this proof, and `after` has
-- besides what the proof names, and the terms that it reads.
pub record StandsForProof (source : List ℕ) (settings : ProofSettings) (before : Script) (proof : Proof Var Term) (after : Script) : Type 0 where
  pub items : Items
  pub nested : StandsForItems source items
  pub read : (proof_from settings items (unread before)).result ≡ Ok proof
  pub script : (proof_from settings items (unread before)).state.script ≡ after

-- the text has the form of nested items, and this is the first fault of its commands
pub record IsProofCommandFault (source : List ℕ) (settings : ProofSettings) (before : Script) (refusal : Refusal) : Type 0 where
  pub items : Items
  pub nested : StandsForItems source items
  pub refused : (proof_from settings items (unread before)).result ≡ Err refusal

-- The first fault of the text: one of its form, or else one of its commands.
abbrev pub IsFirstProofFault : List ℕ → ProofSettings → Script → Refusal → Type 0
IsFirstProofFault source settings before refusal = IsFormFault source refusal ⊎ IsProofCommandFault source settings before refusal
