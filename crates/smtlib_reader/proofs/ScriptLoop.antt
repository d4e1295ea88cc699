-- The commands of a text, until none is left.
use Rattle.std.proofs.Common.{◌≡◌, ◌≤◌, refl, ◌∙◌, ap, arith, length, Bool, true, Ok, Result}
use Rattle.std.specs.Prelude.{⊤}
use Rattle.sexpr.specs.declared.lexing.Lexer.{Lexer}
use Rattle.sexpr.specs.Source.{source, position}
use Rattle.sym_table.specs.Table.{Table}
use Rattle.term_pool.specs.Views.{TermsView}
use Rattle.term_pool.proofs.PlacedCells.{places_none, places_then}
use Rattle.smtlib_reader.specs.ProblemReading.{AreLeft, IsCommandRead, most_after}
use Rattle.problem_text.specs.Outcomes.{Outcome}
use Rattle.problem_text.specs.Scripts.{Script}
use Rattle.smtlib_reader.specs.Sessions.{SessionView, IsSession}
use Rattle.term_names.specs.declared.faults.ReadFault.{ReadFault}
use Rattle.term_reader.proofs.Staying.{grow_none, grow_then}
use Rattle.term_expansion.specs.SymbolsAndTerms.{both, Grow}
use Rattle.term_reader.specs.Reading.{Comes, terms_read}

-- The commands from here on come to this.
abbrev Reads : Lexer → Table → TermsView → SessionView → Table → TermsView → (Outcome Script ⊤ → Bool → Type 0) → Result Bool ReadFault → Type 0
Reads l s v d z w Now result =
    (sc : Script) (whole : Outcome Script ⊤) → AreLeft (source l) d.reader.replaces_lets (position l) sc whole → IsSession (both s v) d sc
    → Comes terms_read v (both z w) (Now whole) whole result

-- The reading began with these, and is here now.
pub record IsUnderWay (l : Lexer) (s : Table) (v : TermsView) (d : SessionView) (m : Lexer) (z : Table) (w : TermsView) (e : SessionView) : Type 0 where
  pub reads : Reads l s v d z w (IsCommandRead (source m) (both z w) e (position m)) (Ok true)
  pub grow : Grow (both s v) (both z w)
  pub same_text : source m ≡ source l
  pub inside : position m ≤ length (source l)
  pub few : most_after (length z.leaves) (source m) (position m) ≤ most_after (length s.leaves) (source l) (position l)
  pub few_sorts : most_after (length z.sorts) (source m) (position m) ≤ most_after (length s.sorts) (source l) (position l)

pub begins : (l : Lexer) (s : Table) (v : TermsView) (d : SessionView) → position l ≤ length (source l) → IsUnderWay l s v d l s v d
begins l s v d inside = record {
  reads = λ sc whole left session. record { answer = (sc, left, session); placed = places_none s v.pass v.pass _ refl };
  grow = grow_none (both s v);
  same_text = refl;
  inside = inside;
  few = omega arith;
  few_sorts = omega arith;
}

module _ {l : Lexer} {s : Table} {v : TermsView} {d : SessionView} {m : Lexer} {z : Table} {w : TermsView} {e : SessionView} (h : IsUnderWay l s v d m z w e) where
  -- the commands that are left are those of some outcome
  pub some_left : (sc : Script) × (whole : Outcome Script ⊤) × AreLeft (source l) d.reader.replaces_lets (position l) sc whole × IsSession (both s v) d sc
      → (sc : Script) × (whole : Outcome Script ⊤) × AreLeft (source m) e.reader.replaces_lets (position m) sc whole × IsSession (both z w) e sc
  some_left (sc, whole, left, session) = let (now, more, stands) = (h.reads sc whole left session).answer in (now, whole, more, stands)

  module _ {y : Table} {x : TermsView} {Now : Outcome Script ⊤ → Bool → Type 0} {result : Result Bool ReadFault} (reads : Reads m z w e y x Now result) (grow : Grow (both z w) (both y x)) where
    -- what the next command comes to
    pub then_reads : Reads l s v d y x Now result
    then_reads sc whole left session =
        let so_far = h.reads sc whole left session in
        let next = reads so_far.answer.0 whole so_far.answer.1 so_far.answer.2 in
        record { answer = next.answer; placed = places_then z y v.pass w.pass x.pass _ grow.symbols grow.terms.pass so_far.placed next.placed }

  pub goes_on : (o : Lexer) {y : Table} {x : TermsView} {f : SessionView} → Reads m z w e y x (IsCommandRead (source o) (both y x) f (position o)) (Ok true) → Grow (both z w) (both y x) → source o ≡ source m
      → position o ≤ length (source m) → most_after (length y.leaves) (source o) (position o) ≤ most_after (length z.leaves) (source m) (position m)
      → most_after (length y.sorts) (source o) (position o) ≤ most_after (length z.sorts) (source m) (position m) → IsUnderWay l s v d o y x f
  goes_on o reads grow same inside few few_sorts = record {
    reads = then_reads reads grow;
    grow = grow_then _ _ _ h.grow grow;
    same_text = same ∙ h.same_text;
    inside = let same = ap (λ t. length t) h.same_text in omega arith;
    few = let a = h.few in omega arith;
    few_sorts = let a = h.few_sorts in omega arith;
  }
