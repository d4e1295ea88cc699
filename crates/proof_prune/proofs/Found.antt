-- The numbers that are found are the core.
use Rattle.std.proofs.Common.{◌≡◌, inl, inr, ℕ, Bool, List, [], ◌∷◌, length, Contains, All, sym, ◌∙◌, ap, subst}
use Rattle.std.specs.List.{AllZip}
use Rattle.pair_pool.specs.Trees.{Tree}
use Rattle.pair_pool.specs.Views.{IsOneToOne}
use Rattle.sym_table.specs.Table.{Table}
use Rattle.term_model.proofs.Lists.{contains_none, contains_cases, contains_head, contains_later}
use Rattle.term_model.specs.Terms.{Var, Term}
use Rattle.term_pool.specs.StandsFor.{StandsFor}
use Rattle.term_pool.specs.Views.{TermsView, RefersTo, IsTerm}
use Rattle.proof_store.specs.Meaning.{StandForItems}
use Rattle.rule_model.specs.Proofs.{ProofItems}
use Rattle.rule_model.specs.Reading.{clause_at, rule_at, scope_at, is_assume}
use Rattle.rule_model.specs.Scopes.{commands_in}
use Rattle.pruned_proofs.specs.Core.{IsKeptAssume, IsCore, IsFirstEqual}
use Rattle.pruned_proofs.proofs.Nested.{all_if}
use Rattle.flip_keys.specs.Assertions.{IsFirstLike}
use Rattle.proof_prune.specs.Firsts.{AreFirsts, AreNumbersTo}
use Rattle.proof_prune.specs.Numbering.{AreAsserted}
use Rattle.proof_prune.specs.Wanted.{AreWantedTo}
use Rattle.proof_prune.proofs.Listing.{kept_within}
use Rattle.proof_prune.proofs.Wanted.{term_within}

-- what goes with an item
pub partner : {A B : Type 0} (R : A → B → Type 0) (xs : List A) (ys : List B) (x : A) → AllZip R xs ys → Contains xs x → (y : B) × Contains ys y × R x y
partner R [] ys x h has = absurd (contains_none x has)
partner R (a ∷ xs) [] x h has = absurd h
partner R (a ∷ xs) (b ∷ ys) x h has =
    elim (contains_cases a x xs has) [
      | inl e ↦ (b, contains_head b ys, subst (λ z. R z b) e h.0)
      | inr more ↦ (let p = partner R xs ys x h.1 more in (p.0, contains_later b p.0 ys p.1, p.2))
    ]

pub partner_back : {A B : Type 0} (R : A → B → Type 0) (xs : List A) (ys : List B) (y : B) → AllZip R xs ys → Contains ys y → (x : A) × Contains xs x × R x y
partner_back R [] [] y h has = absurd (contains_none y has)
partner_back R [] (b ∷ ys) y h has = absurd h
partner_back R (a ∷ xs) [] y h has = absurd h
partner_back R (a ∷ xs) (b ∷ ys) y h has =
    elim (contains_cases b y ys has) [
      | inl e ↦ (a, contains_head a xs, subst (λ z. R a z) e h.0)
      | inr more ↦ (let p = partner_back R xs ys y h.1 more in (p.0, contains_later a p.0 xs p.1, p.2))
    ]

pub one_reference : (s : Table) (v : TermsView) → IsOneToOne v.pass → ((a : Tree) (t u : Term) → StandsFor s a t → StandsFor s a u → t ≡ u) → (r : ℕ) (t u : Term) → RefersTo s v r t → RefersTo s v r u → t ≡ u
one_reference s v known one_term r t u h k =
    let same = known.one_tree r k.tree h.tree k.known h.known in
    one_term h.tree t u h.stands (subst (λ (a : Tree). StandsFor s a u) same k.stands)

module _ (s : Table) (v : TermsView) (refs : ProofItems ℕ ℕ) (proof : ProofItems Var Term) (stand : StandForItems s v refs proof)
    (rule : (i : ℕ) → rule_at refs i ≡ rule_at proof i) (scope : (i : ℕ) → scope_at refs i ≡ scope_at proof i) (clause : (i : ℕ) → AllZip (RefersTo s v) (clause_at refs i) (clause_at proof i))
    (marks : List Bool) where
  -- the assumes over references and over terms
  to_term : (i r : ℕ) → IsKeptAssume marks refs i r → (t : Term) × IsKeptAssume marks proof i t × RefersTo s v r t
  to_term i r h =
      let p = partner (RefersTo s v) (clause_at refs i) (clause_at proof i) r (clause i) h.term in
      (p.0, record { kept = h.kept; scope = sym (scope i) ∙ h.scope; assume = ap is_assume (sym (rule i)) ∙ h.assume; term = p.1 }, p.2)

  to_reference : (i : ℕ) (t : Term) → IsKeptAssume marks proof i t → (r : ℕ) × IsKeptAssume marks refs i r × RefersTo s v r t
  to_reference i t h =
      let p = partner_back (RefersTo s v) (clause_at refs i) (clause_at proof i) t (clause i) h.term in
      (p.0, record { kept = h.kept; scope = scope i ∙ h.scope; assume = ap is_assume (rule i) ∙ h.assume; term = p.1 }, p.2)

  pub wanted_terms : (list : List ℕ) → AreWantedTo marks refs (commands_in refs) list → All (IsTerm s v) list
  wanted_terms list h =
      all_if (IsTerm s v) list (λ r has. let o = h.only r has in let t = to_term o.index r o.assume in record { means = t.0; refers = t.2 })

  module _ (ts : List Term) (one : (r : ℕ) (t u : Term) → RefersTo s v r t → RefersTo s v r u → t ≡ u) (list : List ℕ)
      (wanted : AreWantedTo marks refs (commands_in refs) list) (chosen : List Bool) (firsts : AreFirsts s v ts list chosen) where
    first_equal : (n : ℕ) (t : Term) → IsFirstLike ts t n → IsFirstEqual ts t n
    first_equal n t h = record { assertion = h.term; there = h.there; equal = h.equal; first = h.others }

    pub found_core : AreAsserted marks ts proof → (numbers : List ℕ) → AreNumbersTo chosen (length chosen) numbers → IsCore marks ts proof numbers
    found_core asserted numbers are = record {
      rising = are.rising;
      only = λ n has.
          let o = firsts.only n (are.only n has) in
          let w = wanted.only o.reference o.there in
          let u = to_term w.index o.reference w.assume in
          record {
            index = w.index;
            term = u.0;
            assume = u.1;
            first = first_equal n u.0 (subst (λ t. IsFirstLike ts t n) (one o.reference o.term u.0 o.refers u.2) o.first);
          };
      each = λ i t h.
          let r = to_reference i t h in
          let has = wanted.each i r.0 (term_within refs i r.0 r.1.term) r.1 in
          let m = firsts.each r.0 t has r.2 (asserted i t h) in
          record { number = m.number; first = first_equal m.number t m.first; among = are.each m.number (kept_within chosen m.number m.marked) m.marked };
    }
