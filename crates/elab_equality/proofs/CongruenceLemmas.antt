-- Private. What a cong that is Ok in check mode is, and the steps in its place.
use Rattle.std.proofs.Common.{◌≡◌, ◌≢◌, ◌≤◌, ◌+◌, ◌*◌, ℕ, List, [], ◌∷◌, length, None, Contains, flat_map, refl, sym, ◌∙◌, ap, subst, arith}
use Rattle.pair_pool.specs.Trees.{Tree}
use Rattle.pair_pool.specs.Views.{IsOneToOne}
use Rattle.sym_table.specs.Table.{IsTable}
use Rattle.term_model.proofs.Lists.{contains_head}
use Rattle.term_model.specs.Flips.{equality}
use Rattle.term_model.specs.Terms.{Term}
use Rattle.term_pool.specs.CellCounts.{CountsCells}
use Rattle.term_pool.specs.Views.{TermsView, KnowsAll, RefersTo, ReferToAll}
use Rattle.rule_model.specs.declared.kinds.Family.{Family}
use Rattle.rule_model.specs.declared.rules.Mode.{Mode}
use Rattle.rule_model.specs.declared.rules.Rule.{Rule}
use Rattle.rule_model.specs.Congruence.{AreCongruent, AreLinked, Equates, HangTogether, Head, applied}
use Rattle.rule_model.specs.Reading.{clause_at, premises_at, premise_clauses, closes_at}
use Rattle.elaboration_laws.proofs.Reading.{clause_stands}
use Rattle.equality_steps.specs.declared.site.Site.{Site}
use Rattle.flip_steps.specs.Memory.{IsCellWithinAny, IsRemembered, count_of}
use Rattle.flip_steps.specs.Subterms.{IsWithin, whole, argument}
use Rattle.equality_blocks.specs.Commands.{IsToElaborate, clause_of_command, literals_of_command, rule_of_command}
use Rattle.equality_blocks.specs.Counts.{IsFew, IsRootOf, asserted, literal, side}
use Rattle.equality_blocks.proofs.ConditionLemmas.{closes_nothing, met_rule}
use Rattle.equality_blocks.proofs.FewLemmas.{few_of, few_places}
use Rattle.equality_ways.proofs.Places.{contains_of_left}
use Rattle.elab_equality.specs.declared.work.Work.{Work}
use Rattle.elab_equality.specs.Linked.{ArePremises}
use Rattle.elab_equality.specs.Work.{IsWork}
use Rattle.elab_equality.proofs.ApplicationLemmas.{arguments_are}
use Rattle.elab_equality.proofs.GivenLemmas.{premises_stand}
use Rattle.elab_equality.proofs.LiteralTerms.{literal_term}

-- the clause is an equality of two applications of one head, whose arguments are linked by the premises
pub record IsCongruence (p : Site) (v : TermsView) : Type 0 where
  pub root : ℕ
  pub clause : clause_of_command p ≡ root ∷ []
  pub premises : List (List Term)
  pub are : ArePremises p v premises
  pub head : Head
  pub ts : List Term
  pub us : List Term
  pub some : ts ≢ []
  pub refers : RefersTo p.symbols.now v root (equality (applied head ts) (applied head us))
  pub linked : AreLinked head premises ts us

module _ (p : Site) (v : TermsView) (h : IsToElaborate p v) (rule : rule_of_command p ≡ Rule.Cong) where
  met : Equates (AreCongruent (HangTogether Mode.Check)) (premise_clauses h.proof p.command) (clause_at h.proof p.command)
  met = met_rule p v h Family.Congruence Rule.Cong rule refl (λ k never. never)

  pub cong_closes_nothing : closes_at p.proof.now p.command ≡ None
  cong_closes_nothing = closes_nothing p v h Family.Congruence Rule.Cong rule refl (λ k never. never)

  pub congruence_of : IsCongruence p v
  congruence_of =
      let g = met.given in
      go (clause_of_command p) refl
      (subst (ReferToAll p.symbols.now v (clause_of_command p))
      (met.literal ∙ ap (λ x. equality x met.right ∷ []) g.left_is ∙ ap (λ x. equality (applied g.head g.ts) x ∷ []) g.right_is)
      (clause_stands p.symbols.now v p.proof.now h.proof h.stand p.command))
    where
      go : (rs : List ℕ) → clause_of_command p ≡ rs → ReferToAll p.symbols.now v rs (equality (applied met.given.head met.given.ts) (applied met.given.head met.given.us) ∷ [])
          → IsCongruence p v
      go [] e k = absurd k
      go (r ∷ (q ∷ rs)) e k = absurd k.1
      go (r ∷ []) e k = record {
        root = r;
        clause = e;
        premises = premise_clauses h.proof p.command;
        are = premises_stand p v h;
        head = met.given.head;
        ts = met.given.ts;
        us = met.given.us;
        some = met.given.some;
        refers = k.0;
        linked = met.given.arguments;
      }

-- where the rule is no assume and no refl, roots are literals
root_literal : (p : Site) (v : TermsView) → rule_of_command p ≡ Rule.Cong → (r : ℕ) → IsRootOf p v r → Contains (literals_of_command p) r
root_literal p v rule r (literal h) = h
root_literal p v rule r (asserted t h) = absurd (let clash : Rule.Cong ≡ Rule.Assume = sym rule ∙ h.rule in cc)
root_literal p v rule r (side t u h k) = absurd (let clash : Rule.Cong ≡ Rule.Refl = sym rule ∙ h.rule in cc)

pub cong_few : (p : Site) (v : TermsView) → IsToElaborate p v → rule_of_command p ≡ Rule.Cong → IsTable p.symbols.now → IsOneToOne v.pass → (w : Work) → IsWork p v w
    → (h : IsCongruence p v) → ((roots : List ℕ) (trees : List Tree) (n : ℕ) → ((r : ℕ) → IsRemembered w.forms r → IsCellWithinAny p.symbols.now v roots r)
    → KnowsAll v.pass roots trees → CountsCells trees n → count_of w.forms ≤ n) → length w.block ≤ 3 * count_of w.forms + (2 * length h.ts + 3) → IsFew p v (length w.block)
cong_few p v job rule table one w work h cells bound =
    let whole_term = equality (applied h.head h.ts) (applied h.head h.us) in
    let there : Contains (literals_of_command p) h.root =
    contains_of_left (clause_of_command p) (flat_map (clause_at p.proof.now) (premises_at p.proof.now p.command)) h.root
    (subst (λ xs. Contains xs h.root) (sym h.clause) (contains_head h.root [])) in
    let inside : IsWithin whole_term (applied h.head h.ts) =
    argument whole_term (applied h.head h.ts) whole (contains_head (applied h.head h.ts) (applied h.head h.us ∷ [])) in
    few_of p v (literals_of_command p) (count_of w.forms) (length h.ts) (length w.block) (record {
      are = λ r has. literal has;
      terms = literal_term p v job;
      few = λ trees m known counts. cells (literals_of_command p) trees m (λ r k. let cell = work.met r k in record {
        root = cell.root;
        among = root_literal p v rule cell.root cell.is;
        within = cell.within;
      }) known counts;
      narrow = λ trees m known counts.
          subst (λ (ts : List Term). length ts ≤ m) (arguments_are h.head h.ts)
          (few_places p.symbols.now v one (literals_of_command p) trees m known counts h.root there whole_term (applied h.head h.ts) h.refers inside);
      bound = omega (arith, bound);
    })
