-- The steps that are made for one command that is no resolution.
use Rattle.std.proofs.Common.{◌≡◌, ◌<◌, ◌^◌, ◌⊎◌, inl, inr, ℕ, Bool, List, length, IsTrue, ◌↔◌, false, true, refl, sym, ◌∙◌, subst, All}
use Rattle.pair_pool.specs.Views.{IsOneToOne}
use Rattle.sym_table.specs.Table.{Table, IsTable}
use Rattle.term_model.specs.Terms.{Var, Term}
use Rattle.term_pool.specs.Placing.{LacksCellOf, PlacesCellsOf}
use Rattle.term_pool.specs.Views.{TermsView, KeepsTerms, ReferToAll}
use Rattle.term_pool.proofs.PlacedCells.{lacks_more, places_more}
use Rattle.proof_store.specs.AddedSteps.{AddedStep}
use Rattle.proof_store.specs.Meaning.{StandForItems}
use Rattle.rule_model.specs.declared.rules.Rule.{Rule}
use Rattle.rule_model.specs.declared.statuses.Status.{Status}
use Rattle.rule_model.specs.Proofs.{ProofItems}
use Rattle.rule_model.specs.Reading.{clause_at, premises_at, rule_at, scope_at}
use Rattle.rule_model.specs.Statuses.{IsStatusAt}
use Rattle.rule_model.specs.WellFormed.{IsWellFormed}
use Rattle.rule_model.specs.Scopes.{commands_in}
use Rattle.elaborator.specs.Pieces.{PlacesOnly}
use Rattle.elaboration_laws.proofs.Reading.{rule_same, scope_same}
use Rattle.equality_steps.specs.declared.site.Site.{Site}
use Rattle.equality_blocks.specs.Blocks.{IsReplacementFor}
use Rattle.equality_blocks.specs.Commands.{IsToElaborate, in_check_mode}
use Rattle.equality_blocks.specs.Made.{IsPlacedFor as IsPlacedForCommand}
use Rattle.elab_denials.specs.Rules.{IsElaboratedHere as IsDenialRule}
use Rattle.elab_equality.specs.Rules.{IsElaboratedHere as IsEqualityRule}
use Rattle.elaboration.specs.Elaborated.{IsPlacedFor, IsRelinked, IsSiteOf}
use Rattle.elaboration.specs.Replaced.{CanBeReplaced, HasTwoColumns, IsRelinking}
use Rattle.elaboration.proofs.Sites.{to_site}

-- the rule is one of those that are elaborated by steps of equality
pub by_equality : (rule : Rule) → HasTwoColumns rule → ((rule ≡ Rule.Resolution) ⊎ (rule ≡ Rule.ThResolution) → ⊥) → IsEqualityRule rule ⊎ IsDenialRule rule
by_equality rule (inl resolution) other = absurd (other resolution)
by_equality rule (inr h) other = h

pub only_equality : (rule : Rule) → IsEqualityRule rule ⊎ IsDenialRule rule → (b : Bool) → IsTrue b ↔ IsDenialRule rule → b ≡ false → IsEqualityRule rule
only_equality rule (inl h) b told e = h
only_equality rule (inr h) b told e = absurd (no b (told.1 h) e)
  where
    no : (t : Bool) → IsTrue t → t ≡ false → ⊥
    no true is f = cc
    no false is f = absurd (cc)

module _ (s : Table) (table : IsTable s) (v : TermsView) (known : IsOneToOne v.pass) (asserted : List ℕ) (refs : ProofItems ℕ ℕ) (strict : List Status)
    (can : CanBeReplaced s v asserted refs strict) (i : ℕ) (less : i < commands_in refs) (relinked : IsRelinked refs strict i) where
  same_rule : rule_at refs i ≡ rule_at can.proof i
  same_rule = rule_same s v refs can.proof can.stand i

  pub rule_elaborated : IsEqualityRule (rule_at refs i) ⊎ IsDenialRule (rule_at refs i)
  rule_elaborated =
      by_equality (rule_at refs i) (subst HasTwoColumns (sym same_rule) (can.ok i relinked.not_strict).two) relinked.other

  module _ (p : Site) (is : IsSiteOf s asserted refs i p) where
    pub rule_there : IsEqualityRule (rule_at p.proof.now p.command) ⊎ IsDenialRule (rule_at p.proof.now p.command)
    rule_there = to_site (λ z a r k. IsEqualityRule (rule_at r k) ⊎ IsDenialRule (rule_at r k)) s asserted refs i p is rule_elaborated

    pub job_there : IsToElaborate p v
    job_there =
        let one = can.ok i relinked.not_strict in
        record {
          table = to_site (λ z a r k. IsTable z) s asserted refs i p is table;
          known = known;
          proof = can.proof;
          stand = to_site (λ z a r k. StandForItems z v r can.proof) s asserted refs i p is can.stand;
          formed = to_site (λ z a r k. IsWellFormed r) s asserted refs i p is can.formed;
          sorted = can.well_sorted;
          assertions = can.assertions;
          asserted = to_site (λ z a r k. ReferToAll z v a can.assertions) s asserted refs i p is can.refer;
          truths = can.truths;
          within = to_site (λ z a r k. k < commands_in r) s asserted refs i p is less;
          few_literals = to_site (λ z a r k. length (clause_at r k) < 2 ^ 32) s asserted refs i p is (can.short.clauses i);
          few_premises = to_site (λ z a r k. length (premises_at r k) < 2 ^ 32) s asserted refs i p is (can.short.premises i);
          ok = to_site (λ z a r k. IsStatusAt (in_check_mode can.assertions) can.proof k Status.Ok) s asserted refs i p is one.ok;
          outer = to_site (λ z a r k. rule_at r k ≡ Rule.Assume → scope_at r k ≡ 0) s asserted refs i p is
              (λ e. scope_same s v refs can.proof can.stand i ∙ one.outer (sym same_rule ∙ e));
        }

    module _ (w : TermsView) (keeps : KeepsTerms v w) where
      pub relinking_is : (block : List AddedStep) → IsReplacementFor p w block → IsRelinking s w asserted refs strict i block
      relinking_is block steps = record {
        relinked = relinked;
        site = p;
        is_site = is;
        view = w;
        more = λ r tree h. h;
        steps = steps;
      }

      placed_for : (t : Term) → IsPlacedForCommand p w t → IsPlacedFor s w asserted refs strict t
      placed_for t made = inr (record { index = i; relinked = relinked; site = p; is_site = is; made = made })

      pub relinking_places : PlacesCellsOf s v.pass w.pass (IsPlacedForCommand p w) → PlacesOnly s (λ x. IsPlacedFor s x asserted refs strict) v w
      relinking_places h = record {
        keeps = keeps;
        placed = places_more s v.pass w.pass (IsPlacedForCommand p w) (IsPlacedFor s w asserted refs strict) placed_for h;
      }

      pub relinking_lacks : LacksCellOf s w.pass (IsPlacedForCommand p w) → LacksCellOf s w.pass (IsPlacedFor s w asserted refs strict)
      relinking_lacks h = lacks_more s w.pass (IsPlacedForCommand p w) (IsPlacedFor s w asserted refs strict) placed_for h
