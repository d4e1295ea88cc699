-- The innermost form is taken away, and what is done with it is what is done by the reader that still had it.
use Rattle.std.proofs.Common.{◌≡◌, ◌≤◌, ◌<◌, ap, sym, subst, ℕ, List, ◌∷◌, length, Result, IfOk}
use Rattle.std.proofs.lemmas.Result.{IfOk-weaker}
use Rattle.sym_table.specs.Table.{Table}
use Rattle.term_pool.specs.Views.{TermsView}
use Rattle.term_reader.specs.Frames.{WholeReading}
use Rattle.term_reader.specs.Leaving.{with_open, Spends, Leaves}
use Rattle.term_reader.specs.Turns.{HasRead, Goes}
use Rattle.term_reader.specs.Credits.{node_of, bound_of, effort}
use Rattle.term_names.specs.declared.faults.ReadFault.{ReadFault}
use Rattle.term_reader.specs.declared.frames.Frame.{Frame}
use Rattle.text_items.specs.ItemsAt.{ItemsView}
use Rattle.term_reader.specs.ReadingViews.{ReadingView}
use Rattle.term_reader.specs.declared.reader.Turn.{Turn}
use Rattle.term_expansion.specs.declared.values.Value.{Value}
use Rattle.term_expansion.specs.SymbolsAndTerms.{both}

-- without the innermost form
abbrev pub around : ReadingView → List Frame → ReadingView
around r frames = record r { frames = frames }

pub same_reader : {r : ReadingView} {frame : Frame} {frames : List Frame} → r.frames ≡ frame ∷ frames → r ≡ with_open (around r frames) frame
same_reader {r} {frame} {frames} is = ap (around r) is

-- What a turn says of what is left to be done.
module _ (items : ItemsView) (s : Table) (r : ReadingView) (turn : Turn) (t : Table) (q : ReadingView) (result : Result Turn ReadFault)
    (h : IfOk result (λ (x : Turn). Spends items s r turn t q x)) where
  pub spends_inside : IfOk result (λ (x : Turn). node_of x ≤ length items.nodes)
  spends_inside = IfOk-weaker result _ _ (λ x h. h.inside) h

  pub spends_few : IfOk result (λ (x : Turn). bound_of t items.nodes q.frames (node_of x) ≤ bound_of s items.nodes r.frames (node_of turn))
  spends_few = IfOk-weaker result _ _ (λ x h. h.few) h

  pub spends_progress : IfOk result (λ (x : Turn). effort items.nodes q.frames x < effort items.nodes r.frames turn)
  spends_progress = IfOk-weaker result _ _ (λ x h. h.progress) h

-- what is done with a term that was read, behind which stands node n
abbrev pub Done : ItemsView → Table → TermsView → ReadingView → Value → ℕ → Table → TermsView → ReadingView → Result Turn ReadFault → Type 0
Done items s v r c n t w q result = (g : WholeReading) → HasRead items g (both s v) r c n → Leaves items g (both s v) r c n (both t w) q result

module _ {items : ItemsView} {s : Table} {v : TermsView} {r : ReadingView} {c : Value} {n m : ℕ} {frame : Frame} {frames : List Frame}
    (is : r.frames ≡ frame ∷ frames) (at : n ≡ m) where
  module _ {t : Table} {w : TermsView} {q : ReadingView} {result : Result Turn ReadFault}
      (leaves : Done items s v (with_open (around r frames) frame) c m t w q result) where
    done : Done items s v r c n t w q result
    done = subst (λ (x : ReadingView). Done items s v x c n t w q result) (sym (same_reader is)) (rw at leaves)

    pub done_goes : (g : WholeReading) → HasRead items g (both s v) r c n → Goes items g v (both t w) q result
    done_goes g h = (done g h).goes

    -- what the next turn says of what is left to be done
    module _ (read : (g : WholeReading) × HasRead items g (both s v) r c n) (within : n ≤ length items.nodes) where
      spends : IfOk result (λ (x : Turn). Spends items s r (Turn.Use c n) t q x)
      spends = (done read.0 read.1).spends within

      pub done_inside : IfOk result (λ (x : Turn). node_of x ≤ length items.nodes)
      done_inside = spends_inside _ _ _ _ _ _ result spends

      pub done_few : IfOk result (λ (x : Turn). bound_of t items.nodes q.frames (node_of x) ≤ bound_of s items.nodes r.frames n)
      done_few = spends_few _ _ _ _ _ _ result spends

      pub done_progress : IfOk result (λ (x : Turn). effort items.nodes q.frames x < effort items.nodes r.frames (Turn.Use c n))
      done_progress = spends_progress _ _ _ _ _ _ result spends
