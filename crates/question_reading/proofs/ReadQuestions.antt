-- Private. What was read of a question, and why one is left out that has a fault or definitions.
use Rattle.std.proofs.Common.{◌≡◌, ◌⊎◌, inl, inr, ℕ, ◌<◌, ◌≤◌, ◌*◌, ◌^◌, Bool, true, false, List, [], length, sym, ◌∙◌, arith, Contains}
use Rattle.std.proofs.Math.Nat.{pow-le-pow_right}
use Rattle.pair_pool.specs.Views.{PassView, IsPassOf, IsPlaced, IsListed}
use Rattle.pair_pool.proofs.StateLemmas.{not_listed}
use Rattle.sexpr.specs.declared.causes.Refusal.{Refusal}
use Rattle.sexpr.specs.declared.lexing.Token.{Token}
use Rattle.sexpr.specs.Items.{Items, StandsForItems}
use Rattle.sexpr.specs.Tokens.{AreTokens}
use Rattle.sym_table.specs.Table.{Table}
use Rattle.term_model.specs.Terms.{Term}
use Rattle.term_pool.specs.Placing.{PlacesCellsOf, IsWantedCell}
use Rattle.term_reader.specs.ProblemViews.{IsCounted}
use Rattle.problem_text.specs.Problems.{StandsForProblem, IsFirstFault}
use Rattle.problem_text.specs.Scripts.{Script}
use Rattle.hole_fillers.specs.Questions.{most_bytes}
use Rattle.question_cells.specs.Definitions.{defines_in}
use Rattle.question_reading.specs.Questions.{IsLeftOut, long, faulty, defining, terms_in, IsReadOf}
use Rattle.question_reading.specs.ReadProblems.{IsReadInto}
use Rattle.question_reading.specs.declared.reading.ReadQuestion.{ReadQuestion}
use Rattle.question_reading.proofs.LeftOut.{among_script}

-- what stands in a pool in which nothing stood
pub holds_new : (s : Table) (old new : PassView) (IsWanted : Term → Type 0) → old.placed ≡ [] → PlacesCellsOf s old new IsWanted
    → (r a b : ℕ) → IsPlaced new r a b → IsWantedCell s new IsWanted a b
holds_new s old new IsWanted nothing placed r a b p = elim (placed r a b p) [
  | inl before ↦ let none : IsListed [] r a b = rw nothing at before in absurd (not_listed r a b none)
  | inr is ↦ is
]

-- and it is of the terms of the script
pub holds_script : ((source : List ℕ) (a b : Items) → StandsForItems source a → StandsForItems source b → a ≡ b)
    → (s : Table) (old new : PassView) (text : List ℕ) (script : Script) → StandsForProblem text false script → old.placed ≡ []
    → PlacesCellsOf s old new (IsCounted text false) → (r a b : ℕ) → IsPlaced new r a b → IsWantedCell s new (Contains script.terms) a b
holds_script one_items s old new text script stands nothing placed r a b p =
    let is = holds_new s old new (IsCounted text false) nothing placed r a b p in
    record {
      whole = is.whole;
      wanted = among_script one_items text script stands is.whole is.wanted;
      tree = is.tree;
      stands = is.stands;
      cell = is.cell;
    }

-- what the tokens of a text tell
abbrev pub Told : List ℕ → Bool → Type 0
Told text d = (tokens : List Token) → AreTokens text 0 tokens → d ≡ defines_in text false tokens

pub not_left_out : (text : List ℕ) (d : Bool) → length text ≤ most_bytes → ((r : Refusal) → IsFirstFault text false r → ⊥) → Told text d → d ≡ false
    → IsLeftOut text → ⊥
not_left_out text d short no_fault told e (long more) = omega (arith, short, more)
not_left_out text d short no_fault told e (faulty r fault) = no_fault r fault
not_left_out text d short no_fault told e (defining h) =
    let both : false ≡ true = sym e ∙ told h.tokens h.are ∙ h.defines in absurd (cc)

pub has_definitions : (text : List ℕ) (d : Bool) (script : Script) → StandsForProblem text false script → Told text d → d ≡ true → IsLeftOut text
has_definitions text d script stands told e =
    defining (record { tokens = stands.nested.tokens; are = stands.nested.read; defines = sym (told stands.nested.tokens stands.nested.read) ∙ e })

-- what was read, with its tables
pub is_read_of : (question : List ℕ) (q : ReadQuestion) → IsReadInto question q.symbols (terms_in q) q.problem → length question ≤ most_bytes
    → IsPassOf q.pool q.pass → q.pass.view.shares ≡ 65 → 4 * length question ≤ q.pass.view.places → 4096 ≤ q.pass.view.places → IsReadOf question q
is_read_of question q is short of_pool shares room places = record {
  script = is.script;
  stands = is.stands;
  problem = is.problem;
  short = short;
  of_pool = of_pool;
  holds = is.holds;
  shares = shares;
  room = room;
  places = places;
}

-- so many bits give 4,096 places
pub enough_places : (bits : ℕ) → 12 ≤ bits → 4096 ≤ 2 ^ bits
enough_places bits least = pow-le-pow_right {n = 2} (omega arith) {i = 12} {j = bits} least
