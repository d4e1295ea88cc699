-- Private. What a command by trans or refl states, and that its premises lead from side to side.
use Rattle.std.proofs.Common.{◌≡◌, ◌≤◌, ◌+◌, ℕ, List, [], ◌∷◌, length, flat_map, Contains, None, refl, sym, ◌∙◌, subst, arith}
use Rattle.std.proofs.lemmas.List.{length-append}
use Rattle.std.proofs.lemmas.List.Elements.{Contains-append_left}
use Rattle.term_model.proofs.Lists.{contains_head, contains_none, same_one}
use Rattle.term_model.specs.Flips.{equality}
use Rattle.term_model.specs.Terms.{Term}
use Rattle.term_pool.specs.Views.{TermsView, RefersTo, ReferToAll}
use Rattle.term_pool.proofs.OneTerm.{one_term}
use Rattle.term_pool.proofs.TermLemmas.{equal_where}
use Rattle.rule_model.specs.declared.kinds.Family.{Family}
use Rattle.rule_model.specs.declared.rules.Mode.{Mode}
use Rattle.rule_model.specs.declared.rules.Rule.{Rule}
use Rattle.rule_model.specs.Congruence.{AreSides, Equates, IsConnected, IsWay}
use Rattle.rule_model.specs.Reading.{clause_at, closes_at, premises_at, premise_clauses}
use Rattle.elaboration_laws.proofs.Ones.{one_list}
use Rattle.elaboration_laws.proofs.Reading.{clause_stands}
use Rattle.equality_steps.specs.declared.site.Site.{Site}
use Rattle.equality_steps.specs.Sites.{AreSides as MayBeEquated}
use Rattle.equality_steps.proofs.SiteLemmas.{sides_fit}
use Rattle.equality_blocks.specs.Commands.{IsToElaborate, IsLiteralOfCommand, clause_of_command, rule_of_command}
use Rattle.equality_blocks.specs.Counts.{IsFew}
use Rattle.equality_blocks.proofs.ConditionLemmas.{closes_nothing, met_rule}
use Rattle.elab_equality.specs.Linked.{ArePremises}
use Rattle.elab_equality.specs.Walking.{IsClauseOfSides, StatesEquality}
use Rattle.elab_equality.proofs.GivenLemmas.{premises_stand}
use Rattle.elab_equality.proofs.LiteralsHere.{literal_fits}

-- the clause over references, where the one over terms is an equality
record IsOneLiteral (p : Site) (v : TermsView) (t : Term) : Type 0 where
  pub literal : ℕ
  pub clause : clause_of_command p ≡ literal ∷ []
  pub refers : RefersTo p.symbols.now v literal t

module _ (p : Site) (v : TermsView) (h : IsToElaborate p v) where
  one_literal : (t : Term) → clause_at h.proof p.command ≡ t ∷ [] → IsOneLiteral p v t
  one_literal t is = go (clause_of_command p) refl (subst (ReferToAll p.symbols.now v (clause_of_command p)) is (clause_stands p.symbols.now v p.proof.now h.proof h.stand p.command))
    where
      go : (rs : List ℕ) → clause_of_command p ≡ rs → ReferToAll p.symbols.now v rs (t ∷ []) → IsOneLiteral p v t
      go [] e k = absurd k
      go (r ∷ (q ∷ rs)) e k = absurd k.1
      go (r ∷ []) e k = record { literal = r; clause = e; refers = k.0 }

  pub states_equality : (t u : Term) → clause_at h.proof p.command ≡ equality t u ∷ [] → StatesEquality p v
  states_equality t u is =
      let one = one_literal (equality t u) is in
      record { literal = one.literal; clause = one.clause; left = t; right = u; refers = one.refers }

  -- trans
  module _ (is : rule_of_command p ≡ Rule.Trans) where
    trans_met : Equates (IsWay Mode.Check) (premise_clauses h.proof p.command) (clause_at h.proof p.command)
    trans_met = met_rule p v h Family.Congruence Rule.Trans is refl (λ k met. met)

    pub trans_closes : closes_at p.proof.now p.command ≡ None
    trans_closes = closes_nothing p v h Family.Congruence Rule.Trans is refl (λ k met. met)

    pub trans_states : StatesEquality p v
    trans_states = states_equality trans_met.left trans_met.right trans_met.literal

  -- the clause is one literal, so its sides are those by which the condition is met
  pub same_clause : (a b : ℕ) (e : IsClauseOfSides p v a b) (t u : Term) → clause_at h.proof p.command ≡ equality t u ∷ [] → equality t u ≡ equality e.left e.right
  same_clause a b e t u is =
      let one = one_literal (equality t u) is in
      let same : one.literal ≡ e.literal = same_one one.literal e.literal (sym one.clause ∙ e.clause) in
      (equal_where p.symbols.now v h.table h.known one.literal e.literal (equality t u) (equality e.left e.right) one.refers e.literal_refers).0 same

  premises_are : (ps : List (List Term)) → ArePremises p v ps → premise_clauses h.proof p.command ≡ ps
  premises_are ps are =
      one_list p.symbols.now v h.known (one_term p.symbols.now h.table) (premise_clauses p.proof.now p.command) (premise_clauses h.proof p.command) ps
      (premises_stand p v h) are

  pub connected_here : rule_of_command p ≡ Rule.Trans → (a b : ℕ) (e : IsClauseOfSides p v a b) (ps : List (List Term)) → ArePremises p v ps
      → IsConnected (AreSides ps) e.left e.right
  connected_here is a b e ps are =
      let met = trans_met is in
      let same = same_clause a b e met.left met.right met.literal in
      let left : met.left ≡ e.left = cc in
      let right : met.right ≡ e.right = cc in
      subst (λ qs. IsConnected (AreSides qs) e.left e.right) (premises_are ps are)
      (subst (λ t. IsConnected (AreSides (premise_clauses h.proof p.command)) t e.right) left
      (subst (λ u. IsConnected (AreSides (premise_clauses h.proof p.command)) met.left u) right met.given))

  -- the sides of the clause
  pub clause_literal : (a b : ℕ) (e : IsClauseOfSides p v a b) → IsLiteralOfCommand p v (equality e.left e.right)
  clause_literal a b e = record {
    reference = e.literal;
    among =
        Contains-append_left (clause_of_command p) (flat_map (clause_at p.proof.now) (premises_at p.proof.now p.command)) e.literal
        (subst (λ rs. Contains rs e.literal) (sym e.clause) (contains_head e.literal []));
    refers = e.literal_refers;
  }

  pub clause_sides : (a b : ℕ) (e : IsClauseOfSides p v a b) → MayBeEquated p e.left e.right
  clause_sides a b e = sides_fit p e.left e.right (literal_fits p v h (equality e.left e.right) (clause_literal a b e))

-- few steps for literals alone
pub few_literals : (p : Site) (v : TermsView) (n : ℕ) → n ≤ length (flat_map (clause_at p.proof.now) (premises_at p.proof.now p.command)) + 1 → IsFew p v n
few_literals p v n less = record {
  roots = [];
  are = λ r has. absurd (contains_none r has);
  trees = [];
  known = tt;
  cells = 0;
  count = record { cells = []; apart = tt; sound = λ t has. absurd has; complete = λ t cell part. absurd part; count = refl };
  few = let size = length-append (clause_of_command p) (flat_map (clause_at p.proof.now) (premises_at p.proof.now p.command)) in omega (arith, less, size);
}
