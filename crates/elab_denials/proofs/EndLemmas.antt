-- Private. The last step has the command's clause.
use Rattle.std.proofs.Common.{◌≡◌, ◌+◌, inl, inr, ℕ, None, List, [], ◌∷◌, length, Contains, refl, sym, ap, subst, ◌∙◌, length-append}
use Rattle.term_model.specs.Terms.{Term}
use Rattle.term_pool.proofs.References.{AreOne}
use Rattle.term_pool.specs.Views.{TermsView, RefersTo, ReferToAll}
use Rattle.proof_store.specs.AddedSteps.{AddedStep}
use Rattle.proof_store.specs.declared.added.Link.{Link}
use Rattle.rule_model.specs.declared.kinds.Family.{Family}
use Rattle.rule_model.specs.declared.rules.Rule.{Rule}
use Rattle.rule_model.specs.Reading.{closes_at}
use Rattle.equality_steps.specs.declared.site.Site.{Site}
use Rattle.equality_steps.specs.Blocks.{Adds, EndsBy, IsBlockAt}
use Rattle.equality_steps.specs.Given.{HasEachLiteral}
use Rattle.equality_steps.specs.Sites.{AreLiteralsAt}
use Rattle.equality_blocks.specs.Blocks.{IsBlockFor}
use Rattle.equality_blocks.specs.Commands.{IsToElaborate, clause_of_command}
use Rattle.equality_blocks.specs.Counts.{IsFew}
use Rattle.equality_blocks.proofs.EndLemmas.{ends_in_clause}
use Rattle.elab_denials.specs.declared.work.Work.{Work}
use Rattle.elab_denials.specs.Owing.{IsGiven, SaysGiven}
use Rattle.elab_denials.specs.Working.{IsWork}
use Rattle.elab_denials.proofs.OwingLemmas.{given_made}
use Rattle.elab_denials.proofs.WorkLemmas.{FormsStay, done_step, no_pivots, refer_among}

module _ (p : Site) (v : TermsView) (one : AreOne p.symbols.now v) where
  given_among : (rs : List ℕ) (ts : List Term) (r : ℕ) (x : Term) → ReferToAll p.symbols.now v rs ts → Contains rs r → RefersTo p.symbols.now v r x → Contains ts x
  given_among rs ts r x h has refers =
      let found = refer_among p v rs ts r h has in
      subst (Contains ts) ((one r r found.term x found.refers refers).0 refl) found.among

  refer_same : (rs qs : List ℕ) (ts : List Term) → ReferToAll p.symbols.now v rs ts → ReferToAll p.symbols.now v qs ts → rs ≡ qs
  refer_same [] [] [] h k = refl
  refer_same [] [] (t ∷ ts) h k = refl
  refer_same [] (q ∷ qs) [] h k = absurd k
  refer_same [] (q ∷ qs) (t ∷ ts) h k = absurd h
  refer_same (r ∷ rs) [] [] h k = absurd h
  refer_same (r ∷ rs) [] (t ∷ ts) h k = absurd k
  refer_same (r ∷ rs) (q ∷ qs) [] h k = absurd h
  refer_same (r ∷ rs) (q ∷ qs) (t ∷ ts) h k =
      ap (λ x. x ∷ rs) ((one r q t t h.0 k.0).1 refl) ∙ ap (λ xs. q ∷ xs) (refer_same rs qs ts h.1 k.1)

  pub has_each : (steps : List AddedStep) (link : Link) (clause : List ℕ) → clause ≡ clause_of_command p → AreLiteralsAt p v (clause_of_command p)
      → SaysGiven p v steps link → HasEachLiteral p v steps link clause
  has_each steps link clause is literals h = record {
    given = h.clause;
    says = h.says;
    terms = literals.clause;
    refer = subst (λ rs. ReferToAll p.symbols.now v rs literals.clause) (sym is) literals.refer;
    each = λ x has. let g = h.each x has in given_among (clause_of_command p) literals.clause g.reference x literals.refer g.among g.refers;
    literals = subst (AreLiteralsAt p v) (sym is) literals;
  }

  pub whole_block : FormsStay → (job : IsToElaborate p v) → closes_at p.proof.now p.command ≡ None → (literals : AreLiteralsAt p v (clause_of_command p)) (old : Work) (block : List AddedStep)
      (last : Link) → IsWork p v old → IsBlockAt p v block → Adds p v old.block block last literals.clause → EndsBy block Rule.Weakening → IsFew p v (length old.block + 1) → IsBlockFor p v block
  whole_block stay job here literals old block last work met adds by few =
      let done = done_step stay p v v old block last literals.clause [] (record { pool = refl; pass = record { places = refl; shares = refl; grows = λ r t k. k; sees = λ r a b k. k } })
      work met adds (λ x has. given_made p v x (given_of x has)) (no_pivots p v)
      in record {
        command = job;
        closes_nothing = here;
        steps = met;
        ends = ends_in_clause p v block old.block adds.step adds.more Rule.Weakening by (record { family = Family.Clausal; is = refl })
            (refer_same adds.step.clause (clause_of_command p) literals.clause adds.stands literals.refer);
        made = done.work.made;
        few = subst (IsFew p v) (sym (ap length adds.more ∙ length-append old.block (adds.step ∷ []))) few;
      }
    where
      of_terms : (rs : List ℕ) (ts : List Term) (x : Term) → ReferToAll p.symbols.now v rs ts → Contains ts x → ((r : ℕ) → Contains rs r → Contains (clause_of_command p) r) → IsGiven p v x
      of_terms [] [] x h has within = absurd (Rattle.term_model.proofs.Lists.contains_none x has)
      of_terms [] (t ∷ ts) x h has within = absurd h
      of_terms (r ∷ rs) [] x h has within = absurd h
      of_terms (r ∷ rs) (t ∷ ts) x h has within = elim (Rattle.term_model.proofs.Lists.contains_cases t x ts has) [
        | inl same ↦ record { reference = r; among = within r (Rattle.term_model.proofs.Lists.contains_head r rs); refers = subst (RefersTo p.symbols.now v r) same h.0 }
        | inr later ↦ of_terms rs ts x h.1 later (λ q there. within q (Rattle.term_model.proofs.Lists.contains_later r q rs there))
      ]

      given_of : (x : Term) → Contains literals.clause x → IsGiven p v x
      given_of x has = of_terms (clause_of_command p) literals.clause x literals.refer has (λ r there. there)
