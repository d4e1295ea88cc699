-- Private. What is under way for a command: it stays as more terms are known, and one call comes behind another.
use Rattle.std.proofs.Common.{◌≡◌, ◌≤◌, ◌+◌, ◌⊎◌, inl, inr, ℕ, zero, suc, List, [], ◌∷◌, ◌++◌, length, slice_get, Some, None, nat_eq, Contains, append_assoc}
use Rattle.std.proofs.Common.{Result, Ok, Err, IfOk, IfErr, OnOk, IsErrAnd, refl, sym, ◌∙◌, ap, subst, arith}
use Rattle.std.specs.Map.{lookup}
use Rattle.std.specs.List.{AllByRecursion}
use Rattle.term_model.specs.Flips.{equality}
use Rattle.term_model.specs.Terms.{Term}
use Rattle.term_model.proofs.Lists.{contains_cases, contains_none}
use Rattle.term_parts.specs.declared.answers.RuleStop.{RuleStop}
use Rattle.term_pool.specs.Placing.{LacksRoomFor, PlacesTerm}
use Rattle.term_pool.specs.Views.{TermsView, KeepsTerms, RefersTo, ReferToAll}
use Rattle.term_pool.proofs.PlacedCells.{lacks_for_term, places_more, places_more_then, places_none, places_of_term}
use Rattle.term_pool.proofs.ReadingLemmas.{keeps-same}
use Rattle.proof_store.specs.AddedSteps.{AddedStep}
use Rattle.proof_store.specs.declared.added.Link.{Link}
use Rattle.equality_steps.specs.declared.site.Site.{Site}
use Rattle.equality_steps.specs.Blocks.{Adds, EndsBy, Extends, IsBlockAt}
use Rattle.rule_model.specs.declared.rules.Rule.{Rule}
use Rattle.rule_model.specs.RuleNames.{IsJudged, kind_of}
use Rattle.equality_steps.specs.Links.{LinkEquates, LinkSays}
use Rattle.equality_steps.proofs.StepLemmas.{block_later, says_later, says_more}
use Rattle.flip_steps.specs.declared.forms.Formed.{Formed}
use Rattle.flip_steps.specs.declared.forms.Forms.{Forms}
use Rattle.flip_steps.specs.Memory.{AreForms, IsRemembered, count_of}
use Rattle.flip_steps.specs.Units.{AddsUnits, IsUnitOf}
use Rattle.flip_steps.proofs.MemoryLemmas.{LinksStay, forms_later}
use Rattle.flip_steps.proofs.OrderLemmas.{keeps_then, refers_later}
use Rattle.flip_steps.proofs.UnitLemmas.{extends_itself, one_longer, units_extend, units_one}
use Rattle.equality_blocks.specs.Counts.{IsCellOf}
use Rattle.equality_blocks.specs.Made.{AreMadeSteps, StandsForMade, IsMadeFor, IsMadeStep, IsPlacedFor}
use Rattle.elab_equality.specs.declared.work.Work.{Work}
use Rattle.elab_equality.specs.Linked.{EndsIn}
use Rattle.elab_equality.specs.Work.{IsDone, IsMove, IsWork}
use Rattle.equality_blocks.proofs.StayLemmas.{made_later, made_steps_later, placed_later}
use Rattle.elab_equality.proofs.CommandStays.{cell_stays}

pub links_stay : LinksStay
links_stay p v w old new link clause keeps more h =
    subst (λ xs. LinkSays p w xs link clause) (sym more.is) (says_more p w old more.added link clause (says_later p v w keeps old link clause h))

-- nothing is remembered by a map without entries
pub nothing_remembered : (forms : Forms) (r : ℕ) → count_of forms ≡ 0 → IsRemembered forms r → ⊥
nothing_remembered forms r e h = go forms.formed.entries e h.is
  where
    go : (xs : List (ℕ × Formed)) → length xs ≡ 0 → lookup (nat_eq r) xs ≡ Some h.formed → ⊥
    go [] e f = cc
    go (x ∷ xs) e f = cc

-- the steps are made for the command
module _ (p : Site) (v : TermsView) where
  one_literal : (rs : List ℕ) (t : Term) (r : ℕ) → IsMadeFor p v t → ReferToAll p.symbols.now v rs (t ∷ []) → Contains rs r → StandsForMade p v r
  one_literal [] t r made h there = absurd h
  one_literal (x ∷ (y ∷ rs)) t r made h there = absurd h.1
  one_literal (x ∷ []) t r made h there = go (contains_cases x r [] there)
    where
      go : (x ≡ r) ⊎ Contains [] r → StandsForMade p v r
      go (inl e) = record { term = t; refers = subst (λ z. RefersTo p.symbols.now v z t) e h.0; made = made }
      go (inr none) = absurd (contains_none r none)

  made_unit : (a : AddedStep) → IsUnitOf p.symbols.now v (IsMadeFor p v) a → IsMadeStep p v a
  made_unit a h = record {
    literals = λ r there. one_literal a.clause h.literal r h.wanted h.stands there;
    pivots = λ q there. absurd (contains_none q (subst (λ xs. Contains xs q) h.pivots there));
  }

  made_units : (xs : List AddedStep) (k : ℕ) (a : AddedStep) → AllByRecursion (IsUnitOf p.symbols.now v (IsMadeFor p v)) xs → slice_get xs k ≡ Some a → IsMadeStep p v a
  made_units [] k a h there = cc
  made_units (x ∷ xs) zero a h there = let e : x ≡ a = cc in subst (IsMadeStep p v) e (made_unit x h.0)
  made_units (x ∷ xs) (suc k) a h there = made_units xs k a h.1 there

  made_behind : (old xs : List AddedStep) → AreMadeSteps p v old → AllByRecursion (IsUnitOf p.symbols.now v (IsMadeFor p v)) xs → AreMadeSteps p v (old ++ xs)
  made_behind [] xs h k number a there = made_units xs number a k there
  made_behind (x ∷ old) xs h k zero a there = h zero a there
  made_behind (x ∷ old) xs h k (suc n) a there = made_behind old xs (λ m b e. h (suc m) b e) k n a there

  pub units_made : (old new : List AddedStep) → AreMadeSteps p v old → AddsUnits p v old new (IsMadeFor p v) → AreMadeSteps p v new
  units_made old new h k = subst (AreMadeSteps p v) (sym k.is) (made_behind old k.added h k.units)

-- of no steps
pub made_none : (p : Site) (v : TermsView) → AreMadeSteps p v []
made_none p v number a there = absurd (let e : None ≡ Some a = there in cc)

-- what is under way stays
pub work_later : (p : Site) (u v : TermsView) → KeepsTerms u v → (a : Work) → IsWork p u a → IsWork p v a
work_later p u v keeps a h = record {
  block = block_later p u v keeps a.block h.block;
  forms = forms_later links_stay p u v a.block a.block keeps (extends_itself a.block) a.forms h.forms;
  made = made_steps_later p u v keeps a.block h.made;
  met = λ r k. cell_stays p u v keeps r (h.met r k);
}

-- further steps of one literal each
pub work_grown : (p : Site) (u v : TermsView) (a b : Work) → KeepsTerms u v → IsWork p u a → IsBlockAt p v b.block → AreForms p v b.block b.forms
    → AddsUnits p v a.block b.block (IsMadeFor p v) → ((r : ℕ) → IsRemembered b.forms r → IsRemembered a.forms r ⊎ IsCellOf p v r) → IsWork p v b
work_grown p u v a b keeps h block forms units met = record {
  block = block;
  forms = forms;
  made = units_made p v a.block b.block (made_steps_later p u v keeps a.block h.made) units;
  met = λ r k. go r (met r k);
}
  where
    go : (r : ℕ) → IsRemembered a.forms r ⊎ IsCellOf p v r → IsCellOf p v r
    go r (inl k) = cell_stays p u v keeps r (h.met r k)
    go r (inr k) = k

-- one call
module _ (p : Site) (u v : TermsView) (a b : Work) (t : Term) (h : IsWork p u a) (keeps : KeepsTerms u v) (made : IsMadeFor p u t) (same : b.forms ≡ a.forms) where
  one_move : (l : Link) → IsBlockAt p v b.block → Adds p v a.block b.block l (t ∷ []) → IsMove p v a b 1
  one_move l block adds =
      let more = units_one p v a.block b.block l t (IsMadeFor p v) adds (made_later p u v keeps t made) in
      record {
        work = work_grown p u v a b keeps h block
            (subst (AreForms p v b.block) (sym same) (forms_later links_stay p u v a.block b.block keeps (units_extend p v a.block b.block (IsMadeFor p v) more) a.forms h.forms))
            more (λ r k. inl (subst (λ x. IsRemembered x r) same k));
        more = units_extend p v a.block b.block (IsMadeFor p v) more;
        few = let longer = one_longer p v a.block b.block l (t ∷ []) adds in let counts = ap count_of same in omega (arith, longer, counts);
      }

  pub added_done : (r : Result Link RuleStop) → OnOk r (IsBlockAt p v b.block) → IfOk r (λ l. Adds p v a.block b.block l (t ∷ []))
      → PlacesTerm p.symbols.now u.pass v.pass t → IfErr r (λ e. e ≡ RuleStop.PoolFull → LacksRoomFor p.symbols.now v.pass t) → IsDone p u v a b 1 r
  added_done (Ok l) block adds placed full = record {
    keeps = keeps;
    placed = places_of_term p.symbols.now u.pass v.pass (IsPlacedFor p v) t (inl (made_later p u v keeps t made)) placed;
    full = tt;
    moved = one_move l block adds;
  }
  added_done (Err e) block adds placed full = record {
    keeps = keeps;
    placed = places_of_term p.symbols.now u.pass v.pass (IsPlacedFor p v) t (inl (made_later p u v keeps t made)) placed;
    full = λ f. lacks_for_term p.symbols.now v.pass (IsPlacedFor p v) t (inl (made_later p u v keeps t made)) (full f);
    moved = tt;
  }

-- the clause of a call on refusals, at two terms
pub full_at : {X : Type 0} (r : Result X RuleStop) (A B : Term → Type 0) (Room : Term → Term → Type 0) (t u : Term) → A t → B u
    → IfErr r (λ e. e ≡ RuleStop.PoolFull → (x y : Term) → A x → B y → Room x y) → IfErr r (λ e. e ≡ RuleStop.PoolFull → Room t u)
full_at (Ok l) A B Room t u left right h = tt
full_at (Err e) A B Room t u left right h = λ f. h f t u left right

pub full_at_one : {X : Type 0} (r : Result X RuleStop) (A : Term → Type 0) (Room : Term → Type 0) (t : Term) → A t
    → IfErr r (λ e. e ≡ RuleStop.PoolFull → (x : Term) → A x → Room x) → IfErr r (λ e. e ≡ RuleStop.PoolFull → Room t)
full_at_one (Ok l) A Room t here h = tt
full_at_one (Err e) A Room t here h = λ f. h f t here

-- what a call says of its link
pub equates_new : (p : Site) (u v : TermsView) (old new : List AddedStep) (a b : ℕ) (t u' : Term) (r : Result Link RuleStop) → KeepsTerms u v
    → RefersTo p.symbols.now u a t → RefersTo p.symbols.now u b u' → IfOk r (λ l. Adds p v old new l (equality t u' ∷ [])) → IfOk r (λ l. LinkEquates p v new l a b)
equates_new p u v old new a b t u' (Err e) keeps left right h = tt
equates_new p u v old new a b t u' (Ok l) keeps left right h = record {
  left = t;
  right = u';
  left_refers = refers_later p.symbols.now u v a t keeps left;
  right_refers = refers_later p.symbols.now u v b u' keeps right;
  says = h.says;
}

-- nothing is done
pub done_none : {X : Type 0} (p : Site) (v : TermsView) (a : Work) (n : ℕ) (x : X) → IsWork p v a → IsDone p v v a a n (Ok x)
done_none p v a n x h = record {
  keeps = keeps-same v v refl;
  placed = places_none p.symbols.now v.pass v.pass (IsPlacedFor p v) refl;
  full = tt;
  moved = record { work = h; more = extends_itself a.block; few = omega arith };
}

-- out of memory
pub done_memory : {X : Type 0} (p : Site) (v : TermsView) (a b : Work) (n : ℕ) (r : Result X RuleStop) → IsErrAnd r (λ e. e ≡ RuleStop.Memory) → IsDone p v v a b n r
done_memory p v a b n (Ok x) h = absurd h
done_memory p v a b n (Err e) h = record {
  keeps = keeps-same v v refl;
  placed = places_none p.symbols.now v.pass v.pass (IsPlacedFor p v) refl;
  full = λ f. let both : RuleStop.Memory ≡ RuleStop.PoolFull = sym h ∙ f in cc;
  moved = tt;
}

-- a refusal is handed on
pub done_err : {X Y : Type 0} {p : Site} {u v : TermsView} {a b : Work} {n : ℕ} {e : RuleStop} (c : Work) (m : ℕ) (r : Result Y RuleStop)
    → IsDone {X = X} p u v a b n (Err e) → IsErrAnd r (λ x. x ≡ e) → IsDone p u v a c m r
done_err c m (Ok y) h is = absurd is
done_err {p = p} {v = v} c m (Err x) h is = record {
  keeps = h.keeps;
  placed = h.placed;
  full = λ f. h.full (sym is ∙ f);
  moved = tt;
}

-- its clause on refusals
pub handed_on : {Y : Type 0} {e : RuleStop} (Q : Type 0) (r : Result Y RuleStop) → IsErrAnd r (λ x. x ≡ e) → (e ≡ RuleStop.PoolFull → Q)
    → IfErr r (λ x. x ≡ RuleStop.PoolFull → Q)
handed_on Q (Ok y) is full = absurd is
handed_on Q (Err x) is full = λ f. full (sym is ∙ f)

-- another value is returned, and there may be more steps
pub done_ok : {X Y : Type 0} {p : Site} {u v : TermsView} {a b : Work} {n : ℕ} {x : X} (m : ℕ) (y : Y) → n ≤ m → IsDone p u v a b n (Ok x) → IsDone p u v a b m (Ok y)
done_ok m y less h = record {
  keeps = h.keeps;
  placed = h.placed;
  full = tt;
  moved = record { work = h.moved.work; more = h.moved.more; few = let few = h.moved.few in omega (arith, few, less) };
}

extends_then : (a b c : List AddedStep) → Extends a b → Extends b c → Extends a c
extends_then a b c h k = record { added = h.added ++ k.added; is = k.is ∙ ap (λ xs. xs ++ k.added) h.is ∙ append_assoc a h.added k.added }

pub move_then : {p : Site} {v w : TermsView} {a b c : Work} {n m : ℕ} (k : ℕ) → n + m ≤ k → IsMove p v a b n → IsMove p w b c m → IsMove p w a c k
move_then {a = a} {b = b} {c = c} k less h g = record {
  work = g.work;
  more = extends_then a.block b.block c.block h.more g.more;
  few = let first = h.few in let last = g.few in omega (arith, first, last, less);
}

moved_on : {Y : Type 0} {p : Site} {v : TermsView} {a b : Work} {n : ℕ} (w : TermsView) (c : Work) (m k : ℕ) (r : Result Y RuleStop) → n + m ≤ k → IsMove p v a b n → OnOk r (IsMove p w b c m)
    → OnOk r (IsMove p w a c k)
moved_on w c m k (Ok y) less h f = move_then k less h f
moved_on w c m k (Err e) less h f = tt

-- one call behind another
pub done_then : {X Y : Type 0} {p : Site} {u v w : TermsView} {a b c : Work} {n m : ℕ} {x : X} {r : Result Y RuleStop} (k : ℕ) → n + m ≤ k
    → IsDone p u v a b n (Ok x) → IsDone p v w b c m r → IsDone p u w a c k r
done_then {p = p} {u = u} {v = v} {w = w} {c = c} {m = m} {r = r} k less h g = record {
  keeps = keeps_then u v w h.keeps g.keeps;
  placed = places_more_then p.symbols.now u.pass v.pass w.pass (IsPlacedFor p w) g.keeps.pass
      (places_more p.symbols.now u.pass v.pass (IsPlacedFor p v) (IsPlacedFor p w) (placed_later p v w g.keeps) h.placed) g.placed;
  full = g.full;
  moved = moved_on w c m k r less h.moved g.moved;
}

-- the last step says what its link says
last_one : (xs ys : List AddedStep) (x y : AddedStep) → xs ++ x ∷ [] ≡ ys ++ y ∷ [] → x ≡ y
last_one [] [] x y e = cc
last_one [] (z ∷ []) x y e = cc
last_one [] (z ∷ (w ∷ ys)) x y e = cc
last_one (z ∷ []) [] x y e = cc
last_one (z ∷ (w ∷ xs)) [] x y e = cc
last_one (z ∷ xs) (w ∷ ys) x y e = last_one xs ys x y cc

pub ends_new : (p : Site) (u v : TermsView) (old new : List AddedStep) (a b : ℕ) (t u' : Term) (rule : Rule) (r : Result Link RuleStop) → IsJudged (kind_of rule)
    → KeepsTerms u v → RefersTo p.symbols.now u a t → RefersTo p.symbols.now u b u' → IfOk r (λ l. Adds p v old new l (equality t u' ∷ []))
    → OnOk r (EndsBy new rule) → OnOk r (EndsIn p v new a b)
ends_new p u v old new a b t u' rule (Err e) judged keeps left right h by = tt
ends_new p u v old new a b t u' rule (Ok l) judged keeps left right h by = record {
  before = old;
  last = h.step;
  is = h.more;
  judged = subst (λ x. IsJudged (kind_of x)) (sym by.by ∙ ap (λ (x : AddedStep). x.rule) (last_one by.before old by.last h.step (sym by.is ∙ h.more))) judged;
  left = t;
  right = u';
  left_refers = refers_later p.symbols.now u v a t keeps left;
  right_refers = refers_later p.symbols.now u v b u' keeps right;
  stands = h.stands;
}
