-- A reading of a term, turn by turn.
use Rattle.std.proofs.Common.{◌≡◌, ◌≤◌, ◌<◌, ◌+◌, ◌-◌, ℕ, refl, sym, ◌∙◌, ap, arith, List, [], ◌∷◌, length, Result, Ok, Err}
use Rattle.sym_table.specs.Table.{Table}
use Rattle.term_pool.specs.Views.{TermsView}
use Rattle.term_pool.proofs.PlacedCells.{places_then}
use Rattle.term_reader.specs.Frames.{WholeReading, AreFrames}
use Rattle.term_reader.specs.Credits.{credit}
use Rattle.term_names.specs.InScope.{IsScope}
use Rattle.problem_text.specs.Names.{Place}
use Rattle.term_reader.specs.Reading.{IsReadBy, terms_read, IsReaderIdle, IsTermRead, Gives, ComesTo}
use Rattle.term_reader.specs.Turns.{IsAt, HasRead, IsTurn, Goes}
use Rattle.term_reader.specs.Credits.{node_of, bound_of}
use Rattle.term_reader.specs.Resuming.{resumed}
use Rattle.term_names.specs.Scope.{Scoped}
use Rattle.problem_text.specs.Outcomes.{done}
use Rattle.problem_text.specs.Scripts.{Script}
use Rattle.term_names.specs.Standing.{GrowByTerms}
use Rattle.problem_text.specs.Terms.{read_term}
use Rattle.term_names.specs.declared.faults.ReadFault.{ReadFault}
use Rattle.term_reader.specs.declared.frames.Frame.{Frame}
use Rattle.text_items.specs.ItemsAt.{ItemsView, end_at, item_at}
use Rattle.term_reader.specs.ReadingViews.{ReadingView}
use Rattle.term_reader.specs.declared.reader.Turn.{Turn}
use Rattle.term_expansion.specs.declared.values.Value.{Value}
use Rattle.text_items.proofs.ItemsAtLemmas.{ends_behind, ends_inside}
use Rattle.term_reader.proofs.Settled.{nothing_made}
use Rattle.term_reader.proofs.Staying.{grow_by_terms_none, grow_by_terms_then}
use Rattle.term_expansion.specs.SymbolsAndTerms.{both}

-- the reading of the item at node k
abbrev pub reading : ItemsView → ℕ → List Scoped → Script → Place → WholeReading
reading items k around sc p = record { last = end_at items k; around = around; place = p; whole = read_term (item_at items k) p sc }

-- The reader began at node k with these tables, and is at this turn now.
pub record IsUnderWay (items : ItemsView) (k : ℕ) (s : Table) (v : TermsView) (r : ReadingView) (z : Table) (w : TermsView) (q : ReadingView)
    (turn : Turn) : Type 0 where
  pub goes : (sc : Script) (p : Place) → IsReaderIdle (both s v) r sc p → Goes items (reading items k r.names.scope sc p) v (both z w) q (Ok turn)
  pub grow : GrowByTerms (both s v) (both z w)
  pub inside : node_of turn ≤ length items.nodes
  pub few : bound_of z items.nodes q.frames (node_of turn) ≤ length s.leaves + (length items.nodes - k)

at_start : (items : ItemsView) (k : ℕ) (s : Table) (v : TermsView) (r : ReadingView) (sc : Script) (p : Place)
    → k < length items.nodes → IsReaderIdle (both s v) r sc p → IsAt items (reading items k r.names.scope sc p) (both s v) r k
at_start items k s v r sc p inside idle = record {
  script = sc;
  place = p;
  waiting = [];
  stands = record {
    script = idle.script;
    scope = idle.scope;
    settings = idle.settings;
    low = rw idle.no_values tt;
  };
  inside = inside;
  frames = rw idle.no_frames (refl, idle.no_values, idle.no_leaves, refl, refl, refl);
  comes = refl;
}

pub begins : (items : ItemsView) (k : ℕ) (s : Table) (v : TermsView) (r : ReadingView)
    → k < length items.nodes → (sc : Script) × (p : Place) × IsReaderIdle (both s v) r sc p
    → IsUnderWay items k s v r s v r (Turn.Read k)
begins items k s v r there (sc, p, idle) = record {
  goes = λ sc p e. nothing_made items (reading items k r.names.scope sc p) s v r (Ok (Turn.Read k)) (at_start items k s v r sc p there e);
  grow = grow_by_terms_none (both s v);
  inside = omega arith;
  few = let e : credit r.frames ≡ 0 = ap credit idle.no_frames in omega arith;
}

-- one turn and another one
module _ (items : ItemsView) (g : WholeReading) (v : TermsView) (z : Table) (w : TermsView) (q : ReadingView) (turn : Turn) (y : Table) (x : TermsView)
    (o : ReadingView) where
  pub turns : (result : Result Turn ReadFault) → Goes items g v (both z w) q (Ok turn) → (IsTurn items g (both z w) q turn → Goes items g w (both y x) o result)
      → GrowByTerms (both z w) (both y x) → Goes items g v (both y x) o result
  turns result h goes grow =
      let step = goes h.answer in
      record {
        answer = step.answer;
        placed = places_then _ _ v.pass w.pass x.pass (IsReadBy terms_read g.whole) grow.symbols.keeps grow.terms.pass h.placed step.placed;
      }

module _ (items : ItemsView) (k : ℕ) (s : Table) (v : TermsView) (r : ReadingView) (z : Table) (w : TermsView) (q : ReadingView) (turn : Turn) where
  -- the turn is one of some reading
  pub some_turn : (sc : Script) × (p : Place) × IsReaderIdle (both s v) r sc p → IsUnderWay items k s v r z w q turn
      → (g : WholeReading) × IsTurn items g (both z w) q turn
  some_turn (sc, p, idle) h = (reading items k r.names.scope sc p, (h.goes sc p idle).answer)

  module _ (y : Table) (x : TermsView) (o : ReadingView) where
    -- one turn more
    pub goes_on : (next : Turn) → IsUnderWay items k s v r z w q turn
        → ((g : WholeReading) → IsTurn items g (both z w) q turn → Goes items g w (both y x) o (Ok next))
        → GrowByTerms (both z w) (both y x)
        → node_of next ≤ length items.nodes → bound_of y items.nodes o.frames (node_of next) ≤ bound_of z items.nodes q.frames (node_of turn)
        → IsUnderWay items k s v r y x o next
    goes_on next h goes grow inside few = record {
      goes = λ sc p idle. let g = reading items k r.names.scope sc p in turns items g v z w q turn y x o (Ok next) (h.goes sc p idle) (goes g) grow;
      grow = grow_by_terms_then (both s v) (both z w) (both y x) h.grow grow;
      inside = inside;
      few = let e = h.few in omega arith;
    }

    -- a turn ends in a fault
    pub fails : (fault : ReadFault) → IsUnderWay items k s v r z w q turn
        → ((g : WholeReading) → IsTurn items g (both z w) q turn → Goes items g w (both y x) o (Err fault))
        → GrowByTerms (both z w) (both y x)
        → (sc : Script) (p : Place) → IsReaderIdle (both s v) r sc p
        → ComesTo terms_read v (both y x) (IsTermRead (both y x) o p) (read_term (item_at items k) p sc) (Err fault)
    fails fault h goes grow sc p idle =
        let g = reading items k r.names.scope sc p in
        let ended = turns items g v z w q turn y x o (Err fault) (h.goes sc p idle) (goes g) grow in
        record { answer = ended.answer; placed = ended.placed }

-- a term was read and no form is open
came_to : (items : ItemsView) (g : WholeReading) (z : Table) (w : TermsView) (q : ReadingView) (c : Value) (n : ℕ)
    → q.frames ≡ [] → HasRead items g (both z w) q c n → Gives (IsTermRead (both z w) q g.place) g.whole c
came_to items g z w q c n none h =
    let closed : AreFrames items g (both z w) q.names.known [] q.values q.leaves.items q.names.scope h.place n h.waiting = rw none at h.frames in
    let same : resumed h.waiting (done h.term h.script) ≡ done h.term h.script = ap (λ ws. resumed ws (done h.term h.script)) closed.0 in
    let scope : IsScope (both z w) q.names.scope g.place.scope = rw (ap (λ (p : Place). p.scope) closed.4) at h.stands.scope in
    record {
      value = h.term;
      state = h.script;
      is = sym h.comes ∙ same;
      after = record {
        is = h.is;
        low = h.low;
        idle = record {
          script = h.stands.script;
          scope = scope;
          settings = sym (ap (λ (p : Place). p.settings) closed.4) ∙ h.stands.settings;
          no_values = closed.1;
          no_leaves = closed.2;
          no_frames = none;
        };
      };
    }

module _ (items : ItemsView) (k : ℕ) (s : Table) (v : TermsView) (r : ReadingView) (z : Table) (w : TermsView) (q : ReadingView) (c : Value) (n : ℕ)
    (none : q.frames ≡ []) (h : IsUnderWay items k s v r z w q (Turn.Use c n)) where
  pub ends : (sc : Script) (p : Place) → IsReaderIdle (both s v) r sc p
      → ComesTo terms_read v (both z w) (IsTermRead (both z w) q p) (read_term (item_at items k) p sc) (Ok c)
  ends sc p idle =
      let read = h.goes sc p idle in
      record { answer = came_to items (reading items k r.names.scope sc p) z w q c n none read.answer; placed = read.placed }

  -- each leaf that was added has a node of the item
  pub spent : (sc : Script) × (p : Place) × IsReaderIdle (both s v) r sc p → k < length items.nodes → length z.leaves ≤ length s.leaves + (end_at items k - k)
  spent (sc, p, idle) inside =
      let read : HasRead items (reading items k r.names.scope sc p) (both z w) q c n = (h.goes sc p idle).answer in
      let last : n ≡ end_at items k = (rw none at read.frames).5 in
      omega (arith, h.few, last, ends_behind items k, ends_inside items k inside)

pub none_open : (fs : List Frame) → length fs ≡ 0 → fs ≡ []
none_open [] e = refl
none_open (f ∷ fs) e = absurd (omega arith)
