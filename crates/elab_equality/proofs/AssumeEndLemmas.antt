-- Private. The steps in the place of an assume, whole.
use Rattle.std.proofs.Common.{◌≡◌, ◌+◌, ◌⊎◌, inl, inr, ℕ, Bool, false, not, List, [], ◌∷◌, flat_map, length, Contains, Option, None, Some, refl, sym, ◌∙◌, ap, subst, length-append}
use Rattle.std.proofs.lemmas.List.Elements.{All-cons, All-nil, Contains-append_left}
use Rattle.term_model.proofs.Lists.{contains_cases, contains_head, contains_none}
use Rattle.term_model.specs.Terms.{Term, not_of}
use Rattle.term_pool.specs.Views.{TermsView, KeepsTerms, RefersTo}
use Rattle.term_pool.proofs.TermLemmas.{equal_where}
use Rattle.pair_pool.specs.Views.{IsOneToOne}
use Rattle.sym_table.specs.Table.{IsTable}
use Rattle.proof_store.specs.AddedSteps.{AddedStep}
use Rattle.proof_store.specs.declared.added.Link.{Link}
use Rattle.rule_model.specs.declared.rules.Rule.{Rule}
use Rattle.rule_model.specs.Reading.{clause_at, closes_at, premises_at}
use Rattle.rule_model.specs.Resolution.{IsResolvent, with_sign}
use Rattle.equality_steps.specs.declared.site.Site.{Site}
use Rattle.equality_steps.specs.Blocks.{Adds, EndsBy, Extends, IsBlockAt}
use Rattle.equality_steps.specs.Given.{AreOpposed, HasEachLiteral}
use Rattle.equality_steps.specs.Links.{LinkEquates}
use Rattle.equality_steps.specs.Sites.{AreLiteralsAt, IsLiteralAt}
use Rattle.flip_steps.specs.Memory.{IsEquatedBy}
use Rattle.flip_steps.proofs.OrderLemmas.{refers_later}
use Rattle.equality_blocks.specs.Blocks.{IsBlockFor}
use Rattle.equality_blocks.specs.Commands.{IsLiteralOfCommand, IsToElaborate, clause_of_command}
use Rattle.equality_blocks.specs.Counts.{IsFew}
use Rattle.equality_blocks.specs.Made.{IsMadeFor, StandsForMade, literal, stated}
use Rattle.equality_blocks.proofs.EndLemmas.{block_for, ends_in_literal}
use Rattle.term_pool.proofs.ReadingLemmas.{keeps-same}
use Rattle.elab_equality.specs.declared.work.Work.{Work}
use Rattle.elab_equality.specs.Assuming.{AreMadeLiterals, IsNegation, SaysImplied, SaysNoOther, SaysUnit}
use Rattle.elab_equality.specs.Work.{IsWork}
use Rattle.elab_equality.proofs.AssertLemmas.{made_one, no_pivots, step_move}
use Rattle.elab_equality.proofs.LiteralsHere.{literal_fits}
use Rattle.elab_equality.proofs.WorkLemmas.{links_stay}

-- the last step
module _ (p : Site) (v : TermsView) (job : IsToElaborate p v) (assumed : ℕ) (clause : clause_of_command p ≡ assumed ∷ []) where
  module _ (t : Term) (refers : RefersTo p.symbols.now v assumed t) where
    its_literal : IsLiteralOfCommand p v t
    its_literal = record {
      reference = assumed;
      among =
          Contains-append_left (clause_of_command p) (flat_map (clause_at p.proof.now) (premises_at p.proof.now p.command)) assumed
          (subst (λ rs. Contains rs assumed) (sym clause) (contains_head assumed []));
      refers = refers;
    }

    literals_here : AreLiteralsAt p v (assumed ∷ [])
    literals_here = record {
      clause = t ∷ [];
      refer = (refers, tt);
      fit = All-cons (IsLiteralAt p) t [] (literal_fits p v job t its_literal) (All-nil (IsLiteralAt p));
    }

  pub weakened : (steps : List AddedStep) (link : Link) → SaysNoOther p v steps link assumed → HasEachLiteral p v steps link (assumed ∷ [])
  weakened steps link h = record {
    given = h.clause;
    says = h.says;
    terms = h.term ∷ [];
    refer = (h.refers, tt);
    each = λ x has. subst (Contains (h.term ∷ [])) (sym (h.each x has)) (contains_head h.term []);
    literals = literals_here h.term h.refers;
  }

  pub whole_block : (closes : closes_at p.proof.now p.command ≡ None) (a b : Work) (t : Term) (link : Link) → IsWork p v a → b.forms ≡ a.forms → RefersTo p.symbols.now v assumed t
      → IsBlockAt p v b.block → Adds p v a.block b.block link (t ∷ []) → EndsBy b.block Rule.Weakening → IsFew p v (length a.block + 1) → IsBlockFor p v b.block
  whole_block closes a b t link work same refers block adds by few =
      let move = step_move p v v a b (t ∷ []) [] work (keeps-same v v refl) same (made_one p v t (stated t (literal t (its_literal t refers)))) (no_pivots p v) link block adds in
      block_for p v b.block job closes block move.work.made
      (subst (IsFew p v) (sym (ap length adds.more ∙ length-append a.block (adds.step ∷ []))) few)
      (ends_in_literal p v b.block a.block adds.step adds.more Rule.Weakening by (record { family = _; is = refl }) job.table job.known assumed t clause refers
      adds.stands)

-- the resolution
abbrev pub HaveOthers : Type 0
HaveOthers =
    (left right : List Term) (p : Term) (b : Bool) (result : List Term) (u : Term) → IsResolvent left right p b result → Contains result u →
    (Contains left u × (u ≡ with_sign p b → ⊥)) ⊎ (Contains right u × (u ≡ with_sign p (not b) → ⊥))

module _ (p : Site) (v : TermsView) (table : IsTable p.symbols.now) (one : IsOneToOne v.pass) (steps : List AddedStep) (left right : Link) (a b : ℕ)
    (on_left : SaysImplied p v steps left a b) (on_right : SaysUnit p v steps right a) (made : AreMadeLiterals p v a b) where
  atom_same : on_right.term ≡ on_left.left
  atom_same = (equal_where p.symbols.now v table one a a on_right.term on_left.left on_right.refers on_left.left_refers).0 refl

  left_same : made.left ≡ on_left.left
  left_same = (equal_where p.symbols.now v table one a a made.left on_left.left made.left_refers on_left.left_refers).0 refl

  right_same : made.right ≡ on_left.right
  right_same = (equal_where p.symbols.now v table one b b made.right on_left.right made.right_refers on_left.right_refers).0 refl

  pub atom_made : StandsForMade p v a
  atom_made = record { term = made.left; refers = made.left_refers; made = made.left_made }

  pub opposed : (negation : ℕ) → IsNegation p v a negation → AreOpposed p v steps left right a negation
  opposed negation h =
      let same : h.term ≡ on_left.left = (equal_where p.symbols.now v table one a a h.term on_left.left h.refers on_left.left_refers).0 refl in
      record {
        term = on_left.left;
        atom_refers = on_left.left_refers;
        negation_refers = subst (λ t. RefersTo p.symbols.now v negation (not_of t)) same h.negation_refers;
        left_clause = not_of on_left.left ∷ on_left.right ∷ [];
        left_says = on_left.says;
        left_has = contains_head (not_of on_left.left) (on_left.right ∷ []);
        right_clause = on_right.term ∷ [];
        right_says = on_right.says;
        right_has = subst (λ t. Contains (on_right.term ∷ []) t) atom_same (contains_head on_right.term []);
      }

  pub left_alone : HaveOthers → (result : List Term) → IsResolvent (not_of on_left.left ∷ on_left.right ∷ []) (on_right.term ∷ []) on_left.left false result
      → (x : Term) → Contains result x → x ≡ on_left.right
  left_alone others result h x has =
      elim (others (not_of on_left.left ∷ on_left.right ∷ []) (on_right.term ∷ []) on_left.left false result x h has) [
        | inl was ↦ elim (contains_cases (not_of on_left.left) x (on_left.right ∷ []) was.0) [
          | inl here ↦ absurd (was.1 (sym here))
          | inr later ↦ elim (contains_cases on_left.right x [] later) [ inl here ↦ sym here | inr none ↦ absurd (contains_none x none) ]
        ]
        | inr was ↦ elim (contains_cases on_right.term x [] was.0) [
          | inl here ↦ absurd (was.1 (sym here ∙ atom_same))
          | inr none ↦ absurd (contains_none x none)
        ]
      ]

  pub others_made : HaveOthers → (result : List Term) → IsResolvent (not_of on_left.left ∷ on_left.right ∷ []) (on_right.term ∷ []) on_left.left false result
      → (x : Term) → Contains result x → IsMadeFor p v x
  others_made others result h x has = subst (IsMadeFor p v) (right_same ∙ sym (left_alone others result h x has)) made.right_made

-- links go on saying so
module _ (p : Site) (v w : TermsView) (keeps : KeepsTerms v w) (old new : List AddedStep) (more : Extends old new) where
  pub unit_later : (link : Link) (a : ℕ) → SaysUnit p v old link a → SaysUnit p w new link a
  unit_later link a h = record {
    term = h.term;
    refers = refers_later p.symbols.now v w a h.term keeps h.refers;
    says = links_stay p v w old new link (h.term ∷ []) keeps more h.says;
  }

  pub implied_later : (link : Link) (a b : ℕ) → SaysImplied p v old link a b → SaysImplied p w new link a b
  implied_later link a b h = record {
    left = h.left;
    right = h.right;
    left_refers = refers_later p.symbols.now v w a h.left keeps h.left_refers;
    right_refers = refers_later p.symbols.now v w b h.right keeps h.right_refers;
    says = links_stay p v w old new link (not_of h.left ∷ h.right ∷ []) keeps more h.says;
  }

-- terms that are one
pub equated_none : (p : Site) (v : TermsView) (steps : List AddedStep) (o : Option Link) (a b : ℕ) → o ≡ None → IsEquatedBy p v steps o a b → a ≡ b
equated_none p v steps o a b is h = subst (λ x. IsEquatedBy p v steps x a b) is h

pub equated_some : (p : Site) (v : TermsView) (steps : List AddedStep) (o : Option Link) (link : Link) (a b : ℕ) → o ≡ Some link → IsEquatedBy p v steps o a b
    → LinkEquates p v steps link a b
equated_some p v steps o link a b is h = (subst (λ x. IsEquatedBy p v steps x a b) is h).1

pub unit_alone : (p : Site) (v : TermsView) (steps : List AddedStep) (link : Link) (a b : ℕ) → a ≡ b → SaysUnit p v steps link a → SaysNoOther p v steps link b
unit_alone p v steps link a b same h = record {
  term = h.term;
  refers = subst (λ r. RefersTo p.symbols.now v r h.term) same h.refers;
  clause = h.term ∷ [];
  says = h.says;
  each = λ x has. elim (contains_cases h.term x [] has) [ inl here ↦ sym here | inr none ↦ absurd (contains_none x none) ];
}

-- a reference stands for a literal that may stand there
pub literal_at : (p : Site) (v : TermsView) (r : ℕ) (t : Term) → RefersTo p.symbols.now v r t → IsLiteralAt p t → AreLiteralsAt p v (r ∷ [])
literal_at p v r t refers fits = record { clause = t ∷ []; refer = (refers, tt); fit = All-cons (IsLiteralAt p) t [] fits (All-nil (IsLiteralAt p)) }
