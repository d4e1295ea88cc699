-- Readings one after another: what was read of a whole, and what is left of it.
use Rattle.std.proofs.Common.{◌≡◌, ◌<◌, ◌≤◌, ◌+◌, ◌-◌, ℕ, length, arith, Result, Ok, Err, IsErrAnd, refl, sym, ap, ◌∙◌}
use Rattle.std.proofs.lemmas.Result.{err_from_is_err_and}
use Rattle.sexpr.specs.declared.causes.Refusal.{Refusal}
use Rattle.sexpr.specs.Items.{Items, no_items}
use Rattle.sym_table.specs.Table.{Table}
use Rattle.term_pool.specs.Views.{TermsView, KeepsTerms}
use Rattle.term_pool.proofs.Keeping.{terms-refl, terms-trans}
use Rattle.term_pool.proofs.PlacedCells.{places_none}
use Rattle.text_items.specs.declared.nodes.Node.{Node}
use Rattle.text_items.specs.ItemsAt.{ItemsView, items_at}
use Rattle.text_items.specs.Stepping.{EndBy, IsItemNode}
use Rattle.text_items.proofs.ItemsAtLemmas.{no_items_are}
use Rattle.problem_text.specs.Outcomes.{Outcome, done, going_on, and_then}
use Rattle.term_pool.specs.Placing.{PlacesCellsOf}
use Rattle.term_names.specs.Standing.{AddsNoSymbols}
use Rattle.term_names.specs.declared.faults.ReadFault.{ReadFault}
use Rattle.term_reader.proofs.Coming.{IsPartOf}
use Rattle.term_reader.proofs.Staying.{adds_none, adds_then}
use Rattle.alethe_text.specs.States.{ProofState, Reading, give}
use Rattle.alethe_reader.specs.Answers.{terms_in, WasRead, AnswersAs}
use Rattle.alethe_reader.specs.KeptReads.{KeepsRead}
use Rattle.alethe_reader.proofs.Answering.{part_of_whole, placed_with, fails_with}
use Rattle.term_expansion.specs.SymbolsAndTerms.{both}

-- one reading and then two more
pub and_then_then : {A B C : Type 0} (o : Outcome ProofState A) (next : A → Reading B) (last : B → Reading C) → and_then (and_then o next) last ≡ and_then o (λ a s. and_then (next a s) last)
and_then_then {A} {B} {C} o next last = go o.result o.state
  where
    go : (r : Result A Refusal) (s : ProofState) → and_then (going_on r s next) last ≡ going_on r s (λ a s. and_then (next a s) last)
    go (Ok a) s = refl
    go (Err refusal) s = refl

-- one reading and then one of two that come to the same
pub and_then_same : {A B : Type 0} (o : Outcome ProofState A) (next other : A → Reading B) → ((a : A) (s : ProofState) → next a s ≡ other a s) → and_then o next ≡ and_then o other
and_then_same {A} {B} o next other same = go o.result o.state
  where
    go : (r : Result A Refusal) (s : ProofState) → going_on r s next ≡ going_on r s other
    go (Ok a) s = same a s
    go (Err refusal) s = refl

-- one reading, and its value as it is
pub and_then_give : {A : Type 0} (o : Outcome ProofState A) (change : A → A) → ((a : A) → change a ≡ a) → and_then o (λ a. give (change a)) ≡ o
and_then_give {A} o change same = go o.result o.state
  where
    go : (r : Result A Refusal) (s : ProofState) → going_on r s (λ a. give (change a)) ≡ record { result = r; state = s }
    go (Ok a) s = ap (λ b. done b s) (same a)
    go (Err refusal) s = refl

-- a fault that a call handed on
pub hands_on : {A T : Type 0} {s : Table} {v w : TermsView} {M : T → A → ProofState → Type 0} {o : Outcome ProofState A} {fault : ReadFault} (r : Result T ReadFault) → IsErrAnd r (λ f. f ≡ fault) → AnswersAs v (both s w) M o (Err fault)
    → AnswersAs v (both s w) M o r
hands_on r is h = let e = err_from_is_err_and r is in rw (e.1, e.2) h

-- What was read, and the state after it, from which this reading of the items from node k on, to before node `end`, is left.
pub record Left {A B : Type 0} (s : Table) (old v : TermsView) (rest : Items → B → Reading A) (Holds : B → ProofState → Type 0) (items : ItemsView) (k end : ℕ) (whole : Outcome ProofState A) : Type 0 where
  pub read : B
  pub state : ProofState
  pub comes : whole ≡ rest (items_at items k end) read state
  pub holds : Holds read state
  pub placed : PlacesCellsOf s old.pass v.pass (WasRead whole)

module _ {A B : Type 0} {s : Table} {old v : TermsView} {rest : Items → B → Reading A} {Holds : B → ProofState → Type 0} {items : ItemsView} {k end : ℕ} {whole : Outcome ProofState A} where
  -- nothing was read
  pub all_left : (b : B) (p : ProofState) → whole ≡ rest (items_at items k end) b p → Holds b p → v.pass.placed ≡ old.pass.placed → Left s old v rest Holds items k end whole
  all_left b p comes holds same = record { read = b; state = p; comes = comes; holds = holds; placed = places_none s old.pass v.pass (WasRead whole) same }

  -- all was read
  pub none_left : {T : Type 0} {N : T → A → ProofState → Type 0} {t : T} (h : Left s old v rest Holds items k end whole) → end ≤ k → (a : A) → rest no_items h.read h.state ≡ done a h.state → N t a h.state
      → AnswersAs old (both s v) N whole (Ok t)
  none_left h at_end a e after = record {
    answer = record { value = a; state = h.state; is = h.comes ∙ ap (λ xs. rest xs h.read h.state) (no_items_are items k end at_end) ∙ e; after = after };
    placed = h.placed;
  }

  part : {C : Type 0} (h : Left s old v rest Holds items k end whole) (one : Outcome ProofState C) (tail : C → Reading A) → ((c : C) → KeepsRead (tail c))
      → rest (items_at items k end) h.read h.state ≡ and_then one tail → IsPartOf terms_in one whole
  part h one tail keeps splits = part_of_whole one tail keeps (sym (h.comes ∙ splits))

  -- One part more was read, with this answer, or it has a fault.
  module _ {C T : Type 0} {z : Table} {w : TermsView} {M : T → C → ProofState → Type 0} (h : Left s old v rest Holds items k end whole) (adds : AddsNoSymbols s z) (keeps : KeepsTerms v w) (one : Outcome ProofState C) (tail : C → Reading A)
      (keeps_tail : (c : C) → KeepsRead (tail c)) (splits : rest (items_at items k end) h.read h.state ≡ and_then one tail) where
    pub fails : {U : Type 0} {N : U → A → ProofState → Type 0} {fault : ReadFault} → AnswersAs v (both z w) M one (Err fault) → AnswersAs old (both z w) N whole (Err fault)
    fails this = fails_with old (part h one tail keeps_tail splits) adds.keeps keeps h.placed this

    pub no_room : {U : Type 0} {N : U → A → ProofState → Type 0} {t : T} → AnswersAs v (both z w) M one (Ok t) → AnswersAs old (both z w) N whole (Err ReadFault.Memory)
    no_room this = record { answer = tt; placed = placed_with old (part h one tail keeps_tail splits) adds.keeps keeps h.placed this }

    pub goes_on : {Now : B → ProofState → Type 0} {m : ℕ} {t : T} (this : AnswersAs v (both z w) M one (Ok t)) (b : B) → tail this.answer.value this.answer.state ≡ rest (items_at items m end) b this.answer.state
        → Now b this.answer.state
        → Left z old w rest Now items m end whole
    goes_on this b e now = record {
      read = b;
      state = this.answer.state;
      comes = h.comes ∙ splits ∙ ap (λ (o : Outcome ProofState C). and_then o tail) this.answer.is ∙ e;
      holds = now;
      placed = placed_with old (part h one tail keeps_tail splits) adds.keeps keeps h.placed this;
    }

-- one call after another
pub ruleset one_by_one = (adds_then, terms-trans)

-- The nodes from the first on were gone over up to node k, and to the end at most; each leaf that was added has one of its own.
pub record GoneOver (s z : Table) (v w : TermsView) (first k end : ℕ) : Type 0 where
  pub ordered : first ≤ k
  pub within : k - first ≤ end - first
  pub spent : length z.leaves ≤ length s.leaves + (k - first)
  pub adds : AddsNoSymbols s z
  pub keeps : KeepsTerms v w

pub none_gone : (s : Table) (v : TermsView) (first end : ℕ) → GoneOver s s v v first first end
none_gone s v first end = record { ordered = omega arith; within = omega arith; spent = omega arith; adds = adds_none s; keeps = terms-refl v }

pub more_gone : {s y z : Table} {u v w : TermsView} {first k m end : ℕ} → GoneOver s y u v first k end → AddsNoSymbols y z → KeepsTerms v w → k < m → m ≤ end → length z.leaves ≤ length y.leaves + (m - k)
    → GoneOver s z u w first m end
more_gone h adds keeps later within spent = record {
  ordered = omega (arith, h.ordered);
  within = omega (arith, h.ordered);
  spent = omega (arith, h.ordered, h.spent);
  adds = adds_then _ _ _ h.adds adds;
  keeps = terms-trans _ _ _ h.keeps keeps;
}

-- an item of those that are gone over ends where they end at most
pub within_end : {s z : Table} {v w : TermsView} {items : ItemsView} {first k end : ℕ} {node : Node} → IsItemNode items k node → EndBy items first end → GoneOver s z v w first k end → k < end
    → node.next ≤ end
within_end {s} {z} {v} {w} {items} {first} {k} read nested gone less = omega (arith, read.next, nested k gone.ordered less)
