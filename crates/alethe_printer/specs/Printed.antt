-- Public. What is promised of a printed proof.
use Rattle.std.specs.Prelude.{◌≡◌, ◌<◌, ℕ, length, true, false, Option, None, List, Contains, ⊤}
use Rattle.std.specs.Io.KnownBytes.{Appends}
use Rattle.file_ports.specs.Texts.{AppendsPrefix}
use Rattle.sexpr.specs.Printed.{printed_lines}
use Rattle.sym_table.specs.Table.{Table, IsLeaf}
use Rattle.term_model.specs.declared.symbols.Sort.{Sort}
use Rattle.term_model.specs.Terms.{Var, Term}
use Rattle.term_pool.specs.StandsFor.{variable_leaf}
use Rattle.term_pool.specs.Views.{TermsView}
use Rattle.rule_model.specs.Proofs.{ProofItems}
use Rattle.rule_model.specs.Reading.{bindings_at}
use Rattle.rule_model.specs.Scopes.{outermost}
use Rattle.proof_store.specs.Meaning.{StandForItems}
use Rattle.problem_text.specs.Scripts.{Script}
use Rattle.alethe_text.specs.ProofTexts.{StandsForProof}
use Rattle.alethe_text.specs.States.{ProofSettings}
use Rattle.printed_proofs.specs.Naming.{IsPlan, IsReady}
use Rattle.printed_proofs.specs.Numbered.{numbered_proof}
use Rattle.printed_proofs.specs.PrintedProof.{proof_items, behind_items}
use Rattle.printed_proofs.specs.Readable.{AreReadable}
use Rattle.printed_proofs.specs.Shared.{Plan}
use Rattle.term_printer.specs.Names.{AreGiven}
use Rattle.term_printer.specs.declared.names.Names.{Names}

-- the table has the sort
abbrev pub IsDeclared : Table → Sort → Type 0
IsDeclared s Sort.Bool = ⊤
IsDeclared s Sort.Int = ⊤
IsDeclared s (Sort.Declared n) = n < length s.sorts

-- Each variable that an anchor binds has a sort that the table has.
abbrev pub HaveSorts : Table → ProofItems ℕ ℕ → Type 0
HaveSorts s refs = (k : ℕ) (b : ℕ × ℕ) (x : Var) → Contains (bindings_at refs k) b → IsLeaf s b.0 (variable_leaf x) → IsDeclared s x.sort

-- the text of a proof behind a problem's script, where terms are to have these names
abbrev pub proof_text : Plan → Script → ProofItems Var Term → List ℕ
proof_text plan script of = printed_lines (proof_items plan script of)

-- Of each proof for which the references stand, behind each script that has the table's sorts, and by each plan with which the table of
-- names is in step there.
abbrev pub OfEach : Table → TermsView → Names → ProofItems ℕ ℕ → (Plan → Script → ProofItems Var Term → Type 0) → Type 0
OfEach s v names refs P =
    (plan : Plan) (script : Script) (of : ProofItems Var Term) → script.sorts ≡ s.sorts → AreGiven plan s v names script.taken →
    StandForItems s v refs of → P plan script of

-- the table of names is in step with some plan
pub record AreSomeNames (s : Table) (v : TermsView) (names : Names) : Type 0 where
  pub plan : Plan
  pub taken : List (List ℕ)
  pub given : AreGiven plan s v names taken

-- the whole text was written, or a prefix of it
abbrev pub WritesAll : Table → TermsView → Names → ProofItems ℕ ℕ → Option (List ℕ) → Option (List ℕ) → Type 0
WritesAll s v names refs old new = OfEach s v names refs (λ plan script of. Appends old new (proof_text plan script of))

abbrev pub WritesPrefix : Table → TermsView → Names → ProofItems ℕ ℕ → Option (List ℕ) → Option (List ℕ) → Type 0
WritesPrefix s v names refs old new = OfEach s v names refs (λ plan script of. AppendsPrefix old new (proof_text plan script of))

-- What was written stands for the proof with its ids numbered.
pub record IsReadBack (settings : ProofSettings) (plan : Plan) (script : Script) (of : ProofItems Var Term) (old new : Option (List ℕ)) : Type 0 where
  pub bytes : List ℕ
  pub written : Appends old new bytes
  pub stands : StandsForProof bytes settings script (numbered_proof of) (behind_items plan script outermost of)

-- A proof whose terms are all readable in their places, behind a script: it is read as a strict proof, without a limit of heights, and
-- lets are kept.
pub record IsReadable (settings : ProofSettings) (plan : Plan) (script : Script) (of : ProofItems Var Term) : Type 0 where
  pub no_limit : settings.limit ≡ None
  pub keeps_lets : settings.replaces_lets ≡ false
  pub strict : settings.is_strict ≡ true
  pub sound : IsPlan plan
  pub ready : IsReady plan script
  pub readable : AreReadable settings plan script outermost of

abbrev pub WritesReadable : Table → TermsView → Names → ProofItems ℕ ℕ → Option (List ℕ) → Option (List ℕ) → Type 0
WritesReadable s v names refs old new =
    (settings : ProofSettings) →
    OfEach s v names refs (λ plan script of. IsReadable settings plan script of → IsReadBack settings plan script of old new)
