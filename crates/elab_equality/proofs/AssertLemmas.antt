-- Private. Steps of one literal or more, with pivots or without, are added for a command.
use Rattle.std.proofs.Common.{◌≡◌, ◌⊎◌, inl, inr, ℕ, zero, suc, Bool, false, List, [], ◌∷◌, ◌++◌, length, slice_get, Some, Contains}
use Rattle.std.proofs.Common.{Result, Ok, Err, IsErrAnd, refl, sym, ◌∙◌, ap, subst, arith, length-append}
use Rattle.term_model.proofs.Lists.{contains_cases, contains_head, contains_later, contains_none}
use Rattle.term_model.specs.Terms.{Term}
use Rattle.term_parts.specs.declared.answers.RuleStop.{RuleStop}
use Rattle.term_pool.specs.Placing.{LacksRoomFor, PlacesTerm}
use Rattle.term_pool.specs.Views.{TermsView, KeepsTerms, RefersTo, ReferToAll}
use Rattle.term_pool.proofs.PlacedCells.{lacks_for_term, places_none, places_of_term}
use Rattle.term_pool.proofs.ReadingLemmas.{keeps-same}
use Rattle.proof_store.specs.AddedSteps.{AddedStep}
use Rattle.proof_store.specs.declared.added.Link.{Link}
use Rattle.equality_steps.specs.declared.site.Site.{Site}
use Rattle.equality_steps.specs.Blocks.{AddsStep, Extends, IsBlockAt}
use Rattle.flip_steps.specs.Memory.{AreForms, IsRemembered, count_of}
use Rattle.flip_steps.proofs.MemoryLemmas.{forms_later}
use Rattle.equality_blocks.specs.Made.{AreMadeSteps, IsMadeFor, IsMadeStep, IsPlacedFor, StandsForMade}
use Rattle.equality_blocks.proofs.StayLemmas.{made_later, made_steps_later}
use Rattle.elab_equality.specs.declared.work.Work.{Work}
use Rattle.elab_equality.specs.Work.{IsDone, IsMove, IsWork}
use Rattle.elab_equality.proofs.CommandStays.{cell_stays}
use Rattle.flip_steps.proofs.UnitLemmas.{extends_itself}
use Rattle.elab_equality.proofs.WorkLemmas.{links_stay, work_later}

-- the last item, or one before it
get_cases : {X : Type 0} (xs : List X) (x y : X) (k : ℕ) → slice_get (xs ++ x ∷ []) k ≡ Some y → (slice_get xs k ≡ Some y) ⊎ (x ≡ y)
get_cases [] x y zero e = inr cc
get_cases [] x y (suc k) e = cc
get_cases (z ∷ xs) x y zero e = inl e
get_cases (z ∷ xs) x y (suc k) e = get_cases xs x y k e

module _ (p : Site) (v : TermsView) where
  -- a reference of some terms stands for one of them
  refer_made : (rs : List ℕ) (ts : List Term) (r : ℕ) → ReferToAll p.symbols.now v rs ts → ((x : Term) → Contains ts x → IsMadeFor p v x) → Contains rs r
      → StandsForMade p v r
  refer_made [] ts r h made has = absurd (contains_none r has)
  refer_made (x ∷ rs) [] r h made has = absurd h
  refer_made (x ∷ rs) (t ∷ ts) r h made has = elim (contains_cases x r rs has) [
    | inl here ↦ record { term = t; refers = subst (λ q. RefersTo p.symbols.now v q t) here h.0; made = made t (contains_head t ts) }
    | inr later ↦ refer_made rs ts r h.1 (λ y there. made y (contains_later t y ts there)) later
  ]

  pub made_both : (t u : Term) → IsMadeFor p v t → IsMadeFor p v u → (x : Term) → Contains (t ∷ u ∷ []) x → IsMadeFor p v x
  made_both t u one other x has = elim (contains_cases t x (u ∷ []) has) [
    | inl same ↦ subst (IsMadeFor p v) same one
    | inr later ↦ elim (contains_cases u x [] later) [ inl same ↦ subst (IsMadeFor p v) same other | inr none ↦ absurd (contains_none x none) ]
  ]

  pub made_one : (t : Term) → IsMadeFor p v t → (x : Term) → Contains (t ∷ []) x → IsMadeFor p v x
  made_one t one x has = elim (contains_cases t x [] has) [ inl same ↦ subst (IsMadeFor p v) same one | inr none ↦ absurd (contains_none x none) ]

  pub no_pivots : (q : ℕ × Bool) → Contains [] q → StandsForMade p v q.0
  no_pivots q has = absurd (contains_none q has)

  pub one_pivot : (atom : ℕ) → StandsForMade p v atom → (q : ℕ × Bool) → Contains ((atom, false) ∷ []) q → StandsForMade p v q.0
  one_pivot atom made q has = elim (contains_cases (atom, false) q [] has) [
    | inl same ↦ subst (λ (x : ℕ × Bool). StandsForMade p v x.0) same made
    | inr none ↦ absurd (contains_none q none)
  ]

  steps_made : (steps : List AddedStep) (a : AddedStep) → AreMadeSteps p v steps → IsMadeStep p v a → AreMadeSteps p v (steps ++ a ∷ [])
  steps_made steps a h k number x there = elim (get_cases steps a x number there) [
    | inl before ↦ h number x before
    | inr last ↦ subst (IsMadeStep p v) last k
  ]

-- one step
module _ (p : Site) (u v : TermsView) (a b : Work) (clause : List Term) (pivots : List (ℕ × Bool)) (h : IsWork p u a) (keeps : KeepsTerms u v) (same : b.forms ≡ a.forms)
    (made : (x : Term) → Contains clause x → IsMadeFor p v x) (pivots_made : (q : ℕ × Bool) → Contains pivots q → StandsForMade p v q.0) where
  pub step_move : (l : Link) → IsBlockAt p v b.block → AddsStep p v a.block b.block l clause pivots → IsMove p v a b 1
  step_move l block adds =
      let more : Extends a.block b.block = record { added = adds.step ∷ []; is = adds.more } in
      record {
        work = record {
          block = block;
          forms = subst (AreForms p v b.block) (sym same) (forms_later links_stay p u v a.block b.block keeps more a.forms h.forms);
          made = subst (AreMadeSteps p v) (sym adds.more)
              (steps_made p v a.block adds.step (made_steps_later p u v keeps a.block h.made) (record {
                literals = λ r has. refer_made p v adds.step.clause clause r adds.stands made has;
                pivots = subst (λ qs. (q : ℕ × Bool) → Contains qs q → StandsForMade p v q.0) (sym adds.pivots_are) pivots_made;
              }));
          met = λ r k. cell_stays p u v keeps r (h.met r (subst (λ x. IsRemembered x r) same k));
        };
        more = more;
        few =
            let longer = ap length adds.more ∙ length-append a.block (adds.step ∷ []) in
            let counts = ap count_of same in
            omega (arith, longer, counts);
      }

-- a step that makes no term
pub move_done : {X : Type 0} (p : Site) (v : TermsView) (a b : Work) (n : ℕ) (x : X) → IsMove p v a b n → IsDone p v v a b n (Ok x)
move_done p v a b n x h = record {
  keeps = keeps-same v v refl;
  placed = places_none p.symbols.now v.pass v.pass (IsPlacedFor p v) refl;
  full = tt;
  moved = h;
}

-- a call that makes one term, which is made for the command
module _ {X : Type 0} (p : Site) (u v : TermsView) (a b : Work) (n : ℕ) (t : Term) (keeps : KeepsTerms u v) (made : IsMadeFor p u t)
    (placed : PlacesTerm p.symbols.now u.pass v.pass t) where
  pub term_done : (x : X) → IsMove p v a b n → IsDone p u v a b n (Ok x)
  term_done x move = record {
    keeps = keeps;
    placed = places_of_term p.symbols.now u.pass v.pass (IsPlacedFor p v) t (inl (made_later p u v keeps t made)) placed;
    full = tt;
    moved = move;
  }

  pub term_err : {e : RuleStop} (r : Result X RuleStop) → IsErrAnd r (λ x. x ≡ e) → (e ≡ RuleStop.PoolFull → LacksRoomFor p.symbols.now v.pass t)
      → IsDone p u v a b n r
  term_err (Ok x) is full = absurd is
  term_err (Err x) is full = record {
    keeps = keeps;
    placed = places_of_term p.symbols.now u.pass v.pass (IsPlacedFor p v) t (inl (made_later p u v keeps t made)) placed;
    full = λ f. lacks_for_term p.symbols.now v.pass (IsPlacedFor p v) t (inl (made_later p u v keeps t made)) (full (sym is ∙ f));
    moved = tt;
  }

-- no step
pub move_none : (p : Site) (u v : TermsView) → KeepsTerms u v → (a : Work) → IsWork p u a → IsMove p v a a 0
move_none p u v keeps a h = record { work = work_later p u v keeps a h; more = extends_itself a.block; few = omega arith }
