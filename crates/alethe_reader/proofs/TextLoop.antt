-- The commands of a proof's text, until none is left.
use Rattle.std.proofs.Common.{◌≡◌, ◌≤◌, refl, ◌∙◌, ap, arith, length, true, false, Ok, Err}
use Rattle.sexpr.specs.declared.lexing.Lexer.{Lexer}
use Rattle.sexpr.specs.Source.{source, position}
use Rattle.sym_table.specs.Table.{Table}
use Rattle.term_model.specs.Terms.{Var, Term}
use Rattle.term_pool.specs.Views.{TermsView, KeepsTerms}
use Rattle.term_pool.proofs.Keeping.{terms-refl, terms-trans}
use Rattle.term_pool.proofs.PlacedCells.{places_none, places_then}
use Rattle.rule_model.specs.Proofs.{ProofItems as Proof}
use Rattle.problem_text.specs.Outcomes.{Outcome}
use Rattle.term_pool.specs.Placing.{PlacesCellsOf}
use Rattle.term_names.specs.Standing.{AddsNoSymbols}
use Rattle.term_names.specs.declared.faults.ReadFault.{ReadFault}
use Rattle.term_reader.proofs.Staying.{adds_none, adds_then}
use Rattle.alethe_text.specs.States.{ProofState}
use Rattle.alethe_reader.specs.Answers.{WasRead}
use Rattle.alethe_reader.specs.Sessions.{IsProofSession}
use Rattle.alethe_reader.specs.Settings.{proof_settings}
use Rattle.alethe_reader.specs.TextReading.{AreCommandsLeft, ReadsProofCommand, ReadsProof, IsBehindCommands, most_after}
use Rattle.alethe_reader.specs.declared.session.Session.{Session}
use Rattle.alethe_reader.specs.declared.settings.SessionSettings.{SessionSettings}
use Rattle.term_expansion.specs.SymbolsAndTerms.{both}

-- what is so of each state and outcome for which what was read stands, and to which the commands come that are left
abbrev pub WhereLeft : SessionSettings → Lexer → Table → TermsView → Session → (ProofState → Outcome ProofState (Proof Var Term) → Type 0) → Type 0
WhereLeft how l s v d R =
    (p : ProofState) (whole : Outcome ProofState (Proof Var Term)) → AreCommandsLeft (source l) how (position l) p whole
    → IsProofSession (both s v) (proof_settings how) d p → R p whole

-- The reading began with these, and is here now.
pub record IsUnderWay (how : SessionSettings) (l : Lexer) (s : Table) (v : TermsView) (d : Session) (m : Lexer) (z : Table) (w : TermsView)
    (e : Session) : Type 0 where
  pub left : WhereLeft how l s v d (λ p whole.
      (now : ProofState) × AreCommandsLeft (source m) how (position m) now whole × IsProofSession (both z w) (proof_settings how) e now)
  pub placed : WhereLeft how l s v d (λ p whole. PlacesCellsOf z v.pass w.pass (WasRead whole))
  pub symbols : AddsNoSymbols s z
  pub keeps : KeepsTerms v w
  pub same_text : source m ≡ source l
  pub inside : position m ≤ length (source l)
  pub few : most_after (length z.leaves) (source m) (position m) ≤ most_after (length s.leaves) (source l) (position l)
  pub short : IsBehindCommands e.builder (position m)

pub begins : (how : SessionSettings) (l : Lexer) (s : Table) (v : TermsView) (d : Session) → position l ≤ length (source l)
    → IsBehindCommands d.builder (position l) → IsUnderWay how l s v d l s v d
begins how l s v d inside short = record {
  left = λ p whole left session. (p, left, session);
  placed = λ p whole left session. places_none s v.pass v.pass (WasRead whole) refl;
  symbols = adds_none s;
  keeps = terms-refl v;
  same_text = refl;
  inside = inside;
  few = omega arith;
  short = short;
}

module _ {how : SessionSettings} {l : Lexer} {s : Table} {v : TermsView} {d : Session} {m : Lexer} {z : Table} {w : TermsView}
    {e : Session} (h : IsUnderWay how l s v d m z w e) where
  -- the commands that are left are those of some outcome
  pub some_left : (p : ProofState) × (whole : Outcome ProofState (Proof Var Term)) × AreCommandsLeft (source l) how (position l) p whole
      × IsProofSession (both s v) (proof_settings how) d p
      → (p : ProofState) × (whole : Outcome ProofState (Proof Var Term)) × AreCommandsLeft (source m) how (position m) p whole
      × IsProofSession (both z w) (proof_settings how) e p
  some_left (p, whole, left, session) = let (now, more, stands) = h.left p whole left session in (now, whole, more, stands)

  module _ {y : Table} {x : TermsView} (symbols : AddsNoSymbols z y) (terms : KeepsTerms w x) where
    placed_so_far : WhereLeft how l s v d (λ p whole. PlacesCellsOf y w.pass x.pass (WasRead whole) → PlacesCellsOf y v.pass x.pass (WasRead whole))
    placed_so_far p whole left session placed =
        places_then z y v.pass w.pass x.pass (WasRead whole) symbols.keeps terms.pass (h.placed p whole left session) placed

  module _ (o : Lexer) {y : Table} {x : TermsView} {f : Session} (symbols : AddsNoSymbols z y) (terms : KeepsTerms w x) where
    pub goes_on : WhereLeft how m z w e (λ p whole. ReadsProofCommand (source o) w (both y x) how f (position o) whole (Ok true))
        → source o ≡ source m → position o ≤ length (source m) → IsBehindCommands f.builder (position o)
        → most_after (length y.leaves) (source o) (position o) ≤ most_after (length z.leaves) (source m) (position m)
        → IsUnderWay how l s v d o y x f
    goes_on reads text inside short few = record {
      left = λ p whole left session. let (now, more, stands) = h.left p whole left session in (reads now whole more stands).answer;
      placed = λ p whole left session.
          let (now, more, stands) = h.left p whole left session in
          placed_so_far symbols terms p whole left session (reads now whole more stands).placed;
      symbols = adds_then s z y h.symbols symbols;
      keeps = terms-trans v w x h.keeps terms;
      same_text = text ∙ h.same_text;
      inside = let same = ap (λ t. length t) h.same_text in omega arith;
      few = let a = h.few in omega arith;
      short = short;
    }

    pub fails : (fault : ReadFault) → WhereLeft how m z w e (λ p whole. ReadsProofCommand (source o) w (both y x) how f (position o) whole (Err fault))
        → WhereLeft how l s v d (λ p whole. ReadsProof (source o) v (both y x) (proof_settings how) f (position o) whole (Err fault))
    fails fault reads p whole left session =
        let (now, more, stands) = h.left p whole left session in
        let r = reads now whole more stands in
        record { answer = r.answer; placed = placed_so_far symbols terms p whole left session r.placed }

    pub ends : WhereLeft how m z w e (λ p whole. ReadsProofCommand (source o) w (both y x) how f (position o) whole (Ok false))
        → WhereLeft how l s v d (λ p whole. ReadsProof (source o) v (both y x) (proof_settings how) f (position o) whole (Ok tt))
    ends reads p whole left session =
        let (now, more, stands) = h.left p whole left session in
        let r = reads now whole more stands in
        record { answer = r.answer; placed = placed_so_far symbols terms p whole left session r.placed }
