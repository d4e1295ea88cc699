-- Cited by crates above. Steps with clauses of one literal: none, one, and some behind others.
use Rattle.std.proofs.Common.{◌≡◌, ◌+◌, List, [], ◌∷◌, ◌++◌, length, append_assoc, sym, ◌∙◌, ap}
use Rattle.std.proofs.lemmas.List.{append-nil, length-append}
use Rattle.std.specs.List.{AllByRecursion}
use Rattle.proof_store.specs.AddedSteps.{AddedStep}
use Rattle.proof_store.specs.declared.added.Link.{Link}
use Rattle.sym_table.specs.Table.{Table}
use Rattle.term_model.specs.Terms.{Term}
use Rattle.term_pool.specs.Views.{TermsView, KeepsTerms}
use Rattle.equality_steps.specs.Blocks.{Adds, Extends}
use Rattle.equality_steps.specs.declared.site.Site.{Site}
use Rattle.flip_steps.specs.Units.{IsUnitOf, AddsUnits}
use Rattle.flip_steps.proofs.RefillLemmas.{all_refer_later}

all_joined : {X : Type 0} (P : X → Type 0) (xs ys : List X) → AllByRecursion P xs → AllByRecursion P ys → AllByRecursion P (xs ++ ys)
all_joined P [] ys h k = k
all_joined P (x ∷ xs) ys h k = (h.0, all_joined P xs ys h.1 k)

all_weaker : {X : Type 0} (P Q : X → Type 0) → ((x : X) → P x → Q x) → (xs : List X) → AllByRecursion P xs → AllByRecursion Q xs
all_weaker P Q more [] h = tt
all_weaker P Q more (x ∷ xs) h = (more x h.0, all_weaker P Q more xs h.1)

unit_more : (s : Table) (v w : TermsView) (P Q : Term → Type 0) → KeepsTerms v w → ((x : Term) → P x → Q x) → (a : AddedStep) → IsUnitOf s v P a
    → IsUnitOf s w Q a
unit_more s v w P Q keeps more a h = record {
  literal = h.literal;
  stands = all_refer_later s v w keeps a.clause (h.literal ∷ []) h.stands;
  wanted = more h.literal h.wanted;
  pivots = h.pivots;
}

pub units_none : (p : Site) (v : TermsView) (old new : List AddedStep) (P : Term → Type 0) → new ≡ old → AddsUnits p v old new P
units_none p v old new P e = record { added = []; is = e ∙ sym (append-nil old); units = tt }

pub units_one : (p : Site) (v : TermsView) (old new : List AddedStep) (link : Link) (t : Term) (P : Term → Type 0) → Adds p v old new link (t ∷ []) → P t
    → AddsUnits p v old new P
units_one p v old new link t P h k = record {
  added = h.step ∷ [];
  is = h.more;
  units = (record { literal = t; stands = h.stands; wanted = k; pivots = h.pivots_are }, tt);
}

pub units_more : (p : Site) (v w : TermsView) (old new : List AddedStep) (P Q : Term → Type 0) → KeepsTerms v w → ((x : Term) → P x → Q x)
    → AddsUnits p v old new P
    → AddsUnits p w old new Q
units_more p v w old new P Q keeps more h = record {
  added = h.added;
  is = h.is;
  units = all_weaker (IsUnitOf p.symbols.now v P) (IsUnitOf p.symbols.now w Q) (unit_more p.symbols.now v w P Q keeps more) h.added h.units;
}

pub units_then : (p : Site) (v : TermsView) (a b c : List AddedStep) (P : Term → Type 0) → AddsUnits p v a b P → AddsUnits p v b c P → AddsUnits p v a c P
units_then p v a b c P h k = record {
  added = h.added ++ k.added;
  is = k.is ∙ ap (λ xs. xs ++ k.added) h.is ∙ append_assoc a h.added k.added;
  units = all_joined (IsUnitOf p.symbols.now v P) h.added k.added h.units k.units;
}

-- the block is the old one with further steps
pub units_extend : (p : Site) (v : TermsView) (a b : List AddedStep) (P : Term → Type 0) → AddsUnits p v a b P → Extends a b
units_extend p v a b P h = record { added = h.added; is = h.is }

pub one_extends : (p : Site) (v : TermsView) (a b : List AddedStep) (link : Link) (clause : List Term) → Adds p v a b link clause → Extends a b
one_extends p v a b link clause h = record { added = h.step ∷ []; is = h.more }

pub one_longer : (p : Site) (v : TermsView) (a b : List AddedStep) (link : Link) (clause : List Term) → Adds p v a b link clause → length b ≡ length a + 1
one_longer p v a b link clause h = ap length h.more ∙ length-append a (h.step ∷ [])

pub extends_itself : (a : List AddedStep) → Extends a a
extends_itself a = record { added = []; is = sym (append-nil a) }
