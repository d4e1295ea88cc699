-- Private. What calls do: more steps may be allowed for, and a call that reads places nothing.
use Rattle.std.proofs.Common.{◌≡◌, ◌≤◌, ℕ, Result, Ok, Err, IfErr, IsErrAnd, sym, ◌∙◌, ap}
use Rattle.term_model.specs.Terms.{Term}
use Rattle.term_parts.specs.declared.answers.RuleStop.{RuleStop}
use Rattle.term_pool.specs.Placing.{PlacesCellsOf}
use Rattle.term_pool.specs.Views.{TermsView}
use Rattle.term_pool.proofs.PlacedCells.{places_none}
use Rattle.equality_steps.specs.declared.site.Site.{Site}
use Rattle.elab_equality.specs.declared.work.Work.{Work}
use Rattle.elab_equality.specs.Work.{IsDone}
use Rattle.elab_equality.proofs.WorkLemmas.{done_ok}

-- more steps are allowed for
pub done_more : {X : Type 0} (p : Site) (u v : TermsView) (a b : Work) (n m : ℕ) (r : Result X RuleStop) → n ≤ m → IsDone p u v a b n r → IsDone p u v a b m r
done_more p u v a b n m (Ok x) less h = done_ok m x less h
done_more p u v a b n m (Err e) less h = record { keeps = h.keeps; placed = h.placed; full = h.full; moved = tt }

-- nothing is placed
pub still_placed : (p : Site) (u v : TermsView) (P : Term → Type 0) → v ≡ u → PlacesCellsOf p.symbols.now u.pass v.pass P
still_placed p u v P same = places_none p.symbols.now u.pass v.pass P (ap (λ (w : TermsView). w.pass.placed) same)

-- a refusal for memory is none for room
pub memory_full : {X : Type 0} (Q : Type 0) (r : Result X RuleStop) → IsErrAnd r (λ e. e ≡ RuleStop.Memory) → IfErr r (λ e. e ≡ RuleStop.PoolFull → Q)
memory_full Q (Ok x) h = tt
memory_full Q (Err e) h = λ f. let both : RuleStop.Memory ≡ RuleStop.PoolFull = sym h ∙ f in cc
