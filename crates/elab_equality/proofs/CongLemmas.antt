-- Private. The steps in the place of a cong.
use Rattle.std.proofs.Common.{◌≡◌, ◌≤◌, ◌+◌, ◌*◌, ℕ, List, [], ◌∷◌, length, refl, sym, ◌∙◌, ap, subst, arith}
use Rattle.pair_pool.specs.Trees.{Tree}
use Rattle.term_model.specs.Flips.{equality}
use Rattle.term_model.proofs.Zips.{zip_length, zip_weaken}
use Rattle.term_pool.specs.CellCounts.{CountsCells}
use Rattle.term_pool.specs.Views.{TermsView, KeepsTerms, KnowsAll, RefersTo, ReferToAll}
use Rattle.term_pool.proofs.TermLemmas.{equal_where}
use Rattle.rule_model.specs.declared.rules.Rule.{Rule}
use Rattle.rule_model.specs.Congruence.{applied}
use Rattle.rule_model.specs.Reading.{premise_clauses}
use Rattle.equality_steps.specs.declared.site.Site.{Site}
use Rattle.equality_steps.proofs.StepLemmas.{refer_later}
use Rattle.flip_steps.specs.Memory.{IsCellWithinAny, IsRemembered, count_of}
use Rattle.flip_steps.proofs.OrderLemmas.{refers_later}
use Rattle.equality_blocks.specs.Blocks.{EndsInClause, IsBlockFor}
use Rattle.equality_blocks.specs.Commands.{IsToElaborate, rule_of_command}
use Rattle.equality_blocks.proofs.EndLemmas.{block_for}
use Rattle.elab_equality.specs.declared.matching.Applications.{Applications}
use Rattle.elab_equality.specs.declared.work.Work.{Work}
use Rattle.elab_equality.specs.Linked.{EndsIn}
use Rattle.elab_equality.specs.Matching.{AreApplications}
use Rattle.elab_equality.specs.Work.{IsMove, IsWork}
use Rattle.elab_equality.proofs.CongruenceLemmas.{IsCongruence, cong_closes_nothing, cong_few}

module _ (p : Site) (v : TermsView) (job : IsToElaborate p v) (rule : rule_of_command p ≡ Rule.Cong) (k : IsCongruence p v) (w : Work) (work : IsWork p v w) where
  -- the last step has the clause
  ends_here : (l r : ℕ) → EndsIn p v w.block l r → RefersTo p.symbols.now v l (applied k.head k.ts) → RefersTo p.symbols.now v r (applied k.head k.us)
      → EndsInClause p w.block
  ends_here l r e left right =
      let first = (equal_where p.symbols.now v job.table job.known l l e.left (applied k.head k.ts) e.left_refers left).0 refl in
      let second = (equal_where p.symbols.now v job.table job.known r r e.right (applied k.head k.us) e.right_refers right).0 refl in
      record {
        before = e.before;
        last = e.last;
        is = e.is;
        judged = e.judged;
        clause = go e.last.clause
            (subst (λ x. ReferToAll p.symbols.now v e.last.clause (equality (applied k.head k.ts) x ∷ [])) second
            (subst (λ x. ReferToAll p.symbols.now v e.last.clause (equality x e.right ∷ [])) first e.stands)) ∙ sym k.clause;
      }
    where
      go : (rs : List ℕ) → ReferToAll p.symbols.now v rs (equality (applied k.head k.ts) (applied k.head k.us) ∷ []) → rs ≡ k.root ∷ []
      go [] h = absurd h
      go (x ∷ (y ∷ rs)) h = absurd h.1
      go (x ∷ []) h =
          ap (λ z. z ∷ []) ((equal_where p.symbols.now v job.table job.known x k.root (equality (applied k.head k.ts) (applied k.head k.us))
          (equality (applied k.head k.ts) (applied k.head k.us)) h.0 k.refers).1 refl)

  pub cong_block : (l r : ℕ) → EndsIn p v w.block l r → RefersTo p.symbols.now v l (applied k.head k.ts) → RefersTo p.symbols.now v r (applied k.head k.us)
      → ((roots : List ℕ) (trees : List Tree) (n : ℕ) → ((q : ℕ) → IsRemembered w.forms q → IsCellWithinAny p.symbols.now v roots q) → KnowsAll v.pass roots trees
      → CountsCells trees n → count_of w.forms ≤ n) → length w.block ≤ 3 * count_of w.forms + (2 * length k.ts + 3) → IsBlockFor p v w.block
  cong_block l r e left right cells few =
      block_for p v w.block job (cong_closes_nothing p v job rule) work.block work.made (cong_few p v job rule job.table job.known w work k cells few)
      (ends_here l r e left right)

-- the sides of the clause, where more terms are known
congruence_later : (p : Site) (u v : TermsView) → KeepsTerms u v → (x : Applications) → AreApplications p u x → IsCongruence p v
congruence_later p u v keeps x h = record {
  root = h.literal;
  clause = h.clause;
  premises = h.linked.premises;
  are = zip_weaken (ReferToAll p.symbols.now u) (ReferToAll p.symbols.now v) (refer_later p u v keeps) (premise_clauses p.proof.now p.command) h.linked.premises
      h.linked.are;
  head = h.linked.head;
  ts = h.linked.ts;
  us = h.linked.us;
  some = h.some;
  refers = refers_later p.symbols.now u v h.literal (equality (applied h.linked.head h.linked.ts) (applied h.linked.head h.linked.us)) keeps h.literal_refers;
  linked = h.linked.linked;
}

-- of the law on remembered forms, at the terms that are known
abbrev pub AreOfCellsAt : Site → TermsView → Work → Type 0
AreOfCellsAt p v w =
    (roots : List ℕ) (trees : List Tree) (n : ℕ) → ((q : ℕ) → IsRemembered w.forms q → IsCellWithinAny p.symbols.now v roots q) → KnowsAll v.pass roots trees
    → CountsCells trees n → count_of w.forms ≤ n

-- steps that began with none
module _ (p : Site) (u v : TermsView) (job : IsToElaborate p v) (rule : rule_of_command p ≡ Rule.Cong) (keeps : KeepsTerms u v) (x : Applications)
    (h : AreApplications p u x) (a b : Work) (block : a.block ≡ []) (count : count_of a.forms ≡ 0) where
  pub cong_made : IsMove p v a b (2 * length x.lefts.items + 3) → EndsIn p v b.block x.left x.right → AreOfCellsAt p v b → IsBlockFor p v b.block
  unfolding congruence_later
  cong_made moved ends cells =
      cong_block p v job rule (congruence_later p u v keeps x h) b moved.work x.left x.right ends
      (refers_later p.symbols.now u v x.left (applied h.linked.head h.linked.ts) keeps h.left_refers)
      (refers_later p.symbols.now u v x.right (applied h.linked.head h.linked.us) keeps h.right_refers) cells
      (let few = moved.few in
      let none = ap length block in
      let size = zip_length (RefersTo p.symbols.now u) x.lefts.items h.linked.ts h.linked.lefts_refer in
      omega (arith, few, none, count, size))
