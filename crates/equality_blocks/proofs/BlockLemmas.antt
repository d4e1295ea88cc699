-- Private. Steps in the place of a command are what an assembled proof asks for.
use Rattle.std.proofs.Common.{◌≡◌, ◌<◌, ◌≤◌, ◌+◌, ◌*◌, ◌-◌, ◌⊎◌, inl, inr, ℕ, suc, Bool, true, false, List, [], ◌∷◌, ◌++◌}
use Rattle.std.proofs.Common.{length, slice_get, Some, None, All, Contains, refl, sym, ◌∙◌, ap, subst, arith}
use Rattle.std.specs.List.{AllZip, AllByRecursion}
use Rattle.std.proofs.lemmas.List.{length-append}
use Rattle.std.proofs.lemmas.List.Elements.{All-cons, All-nil}
use Rattle.pair_pool.specs.Views.{IsOneToOne}
use Rattle.sym_table.specs.Table.{Table, IsTable}
use Rattle.term_model.proofs.Lists.{contains_head, contains_later, slice_get-last}
use Rattle.term_model.specs.Heights.{height}
use Rattle.term_model.specs.Terms.{Var, Term}
use Rattle.term_pool.specs.Views.{TermsView, RefersTo, ReferToAll}
use Rattle.term_pool.proofs.TermLemmas.{equal_where}
use Rattle.proof_store.specs.AddedSteps.{AddedStep}
use Rattle.proof_store.specs.Meaning.{IsPivotOf, StandForItems}
use Rattle.rule_model.specs.declared.kinds.Kind.{Kind}
use Rattle.rule_model.specs.declared.rules.Rule.{Rule}
use Rattle.rule_model.specs.declared.statuses.Status.{Status}
use Rattle.rule_model.specs.Commands.{IndexedCommand, assume, step, closing, Line, lines_in, own_scope}
use Rattle.rule_model.specs.Elaboration.{IsLowProof}
use Rattle.rule_model.specs.Judged.{Judged, anchors_at}
use Rattle.rule_model.specs.Proofs.{ProofItems}
use Rattle.rule_model.specs.Reading.{closes_at, is_assume, rule_at, rule_of, scope_at}
use Rattle.rule_model.specs.RuleNames.{kind_of, IsJudged}
use Rattle.rule_model.specs.Scopes.{Nesting, outermost, inside, Scope, at}
use Rattle.rule_model.specs.Statuses.{Checking, IsStatusBy, kind_under}
use Rattle.rule_model.specs.Writing.{MayAddHere}
use Rattle.rule_model.proofs.LineReading.{clause_is, rule_is, scope_is}
use Rattle.rule_model.proofs.RuleWords.{named_no_assume}
use Rattle.rule_model.proofs.Standing.{command_may}
use Rattle.elaborator.specs.Blocks.{IsBlockOf, MayBeAdded, MayBeReplaced, standing}
use Rattle.elaborator.specs.Sources.{looked_of, own_anchors}
use Rattle.elaboration_laws.specs.StrictBlocks.{IsFittingBlock, IsStrictBlock, IsStrictStep, MayBeLiteral, ReplacesStrictly, StandsForJudged}
use Rattle.elaboration_laws.proofs.Reading.{closes_same, rule_same}
use Rattle.equality_steps.specs.declared.site.Site.{Site}
use Rattle.equality_steps.specs.Blocks.{IsBlockAt, looked_in}
use Rattle.equality_steps.proofs.LawLemmas.{may_be_added, own_same, step_literals, strict_step}
use Rattle.equality_blocks.specs.Blocks.{EndsInClause, IsBlockFor}
use Rattle.equality_blocks.specs.Commands.{IsToElaborate, in_check_mode}
use Rattle.equality_blocks.specs.Made.{AreMadeSteps, IsMadeFor, IsMadeStep, StandsForMade}
use Rattle.equality_blocks.proofs.LowLemmas.{FromIsLow, StandForOne, made_low}

pub last_place : {X : Type 0} (before : List X) (last : X) (block : List X) → block ≡ before ++ last ∷ [] → slice_get block (length block - 1) ≡ Some last
last_place before last block e =
    let size = ap length e ∙ length-append before (last ∷ []) in
    let place : length before ≡ length block - 1 = omega arith in
    subst (λ b. slice_get b (length block - 1) ≡ Some last) (sym e)
    (subst (λ k. slice_get (before ++ last ∷ []) k ≡ Some last) place (slice_get-last before last))

pub not_empty : {X : Type 0} (before : List X) (last : X) (block : List X) → block ≡ before ++ last ∷ [] → block ≡ [] → ⊥
not_empty before last block e none =
    let size = ap length e ∙ length-append before (last ∷ []) in
    let zero_is = ap length none in
    absurd (omega arith)

-- what holds of the terms of references that are made for a command, holds of their terms
module _ (p : Site) (v : TermsView) (table : IsTable p.symbols.now) (one : IsOneToOne v.pass) (P : Term → Type 0)
    (holds : (t : Term) → IsMadeFor p v t → P t) where
  made_one : (r : ℕ) (t : Term) → RefersTo p.symbols.now v r t → StandsForMade p v r → P t
  made_one r t refers h = subst P ((equal_where p.symbols.now v table one r r h.term t h.refers refers).0 refl) (holds h.term h.made)

  made_all : (rs : List ℕ) (ts : List Term) → ReferToAll p.symbols.now v rs ts → ((r : ℕ) → Contains rs r → StandsForMade p v r) → All P ts
  made_all [] [] h f = All-nil P
  made_all [] (t ∷ ts) h f = absurd h
  made_all (r ∷ rs) [] h f = absurd h
  made_all (r ∷ rs) (t ∷ ts) h f =
      All-cons P t ts (made_one r t h.0 (f r (contains_head r rs))) (made_all rs ts h.1 (λ q has. f q (contains_later r q rs has)))

  made_pivots : (ps : List (ℕ × Bool)) (qs : List (Term × Bool)) → AllZip (IsPivotOf p.symbols.now v) ps qs
      → ((q : ℕ × Bool) → Contains ps q → StandsForMade p v q.0) → All (λ (q : Term × Bool). P q.0) qs
  made_pivots [] [] h f = All-nil (λ (q : Term × Bool). P q.0)
  made_pivots [] (q ∷ qs) h f = absurd h
  made_pivots (x ∷ ps) [] h f = absurd h
  made_pivots (x ∷ ps) (q ∷ qs) h f =
      All-cons (λ (y : Term × Bool). P y.0) q qs (made_one x.0 q.0 h.0.term (f x (contains_head x ps)))
      (made_pivots ps qs h.1 (λ y has. f y (contains_later x y ps has)))

-- none of the terms of steps that are made for a command is too high
pub steps_low : FromIsLow → StandForOne → (p : Site) (v : TermsView) (c : Checking) (proof : ProofItems Var Term) (steps : List AddedStep) → IsToElaborate p v
    → StandForItems p.symbols.now v p.proof.now proof → ReferToAll p.symbols.now v p.asserted.now c.assertions → AreMadeSteps p v steps
    → (h : ℕ) → All (λ t. height t ≤ h) c.assertions → IsLowProof h proof → (number : ℕ) (a : AddedStep) → slice_get steps number ≡ Some a
    → (ts : List Term) (ps : List (Term × Bool)) → ReferToAll p.symbols.now v a.clause ts → AllZip (IsPivotOf p.symbols.now v) a.pivots ps
    → All (λ t. height t ≤ 2 * h + 10) ts × All (λ (q : Term × Bool). height q.0 ≤ 2 * h + 10) ps
steps_low from_low one_of p v c proof steps command stand refer made h assertions low number a there ts ps clause pivots =
    let holds : (t : Term) → IsMadeFor p v t → height t ≤ 2 * h + 10 =
    λ x is_made. made_low from_low one_of p v proof c.assertions h x command stand refer assertions low is_made in
    let one = made number a there in (
      made_all p v command.table command.known (λ t. height t ≤ 2 * h + 10) holds a.clause ts clause one.literals,
      made_pivots p v command.table command.known (λ t. height t ≤ 2 * h + 10) holds a.pivots ps pivots one.pivots,
    )

module _ (p : Site) (v : TermsView) (c : Checking) (proof : ProofItems Var Term) (stand : StandForItems p.symbols.now v p.proof.now proof)
    (refer : ReferToAll p.symbols.now v p.asserted.now c.assertions) (block : List AddedStep) (h : IsBlockFor p v block) where
  pub block_strict : IsStrictBlock p.symbols.now v c p.proof.now proof p.command block
  block_strict = record {
    kept = λ none. absurd (not_empty h.ends.before h.ends.last block h.ends.is none);
    added = λ number a there below. strict_step p v c block number a h.steps refer there;
    last = λ a there.
        subst (λ o. ReplacesStrictly p.symbols.now v c proof (looked_of p.proof.now block (anchors_at p.proof.now p.command) a) p.command o)
        (sym (sym (closes_same p.symbols.now v p.proof.now proof stand p.command) ∙ h.closes_nothing))
        (subst (λ anchors. IsStrictStep p.symbols.now v c (looked_of p.proof.now block anchors a)) (own_same p.proof.now p.command h.closes_nothing)
        (strict_step p v c block (length block - 1) a h.steps refer there));
  }

  pub block_fits : FromIsLow → StandForOne → IsFittingBlock p.symbols.now v c p.proof.now proof p.command block
  block_fits from_low one_of = record {
    literals = λ sorted number a there below j stands. step_literals p v block number a j h.command.table h.command.known h.steps there stands;
    low = steps_low from_low one_of p v c proof block h.command stand refer h.made;
  }

-- a command that is Ok in check mode may be replaced
judged_kind : (k : Kind) (c : Checking) (proof : ProofItems Var Term) (i : ℕ) → IsStatusBy (kind_under false k) c proof i Status.Ok
    → (k ≡ Kind.Assumed → ⊥) → IsJudged k
judged_kind Kind.Assumed c proof i ok other = absurd (other refl)
judged_kind Kind.Hole c proof i ok other = absurd ok
judged_kind Kind.Unknown c proof i ok other = absurd ok
judged_kind (Kind.Judged family) c proof i ok other = record { family = family; is = refl }

assumed_kind : (rule : Rule) → is_assume rule ≡ false → kind_of rule ≡ Kind.Assumed → ⊥
assumed_kind Rule.Assume n e = absurd cc
assumed_kind rule n e = absurd cc

module _ (p : Site) (v : TermsView) (h : IsToElaborate p v) (line : Line ℕ ℕ) (there : slice_get (lines_in outermost p.proof.now) p.command ≡ Some line) where
  outer_nesting : (n : Nesting ℕ ℕ) (id : List ℕ) (t : ℕ) → own_scope n (assume id t) ≡ 0 → n ≡ outermost
  outer_nesting outermost id t e = refl
  outer_nesting (inside around before anchor) id t e = absurd (omega arith)

  rule_there : rule_at h.proof p.command ≡ rule_of line.command
  rule_there = sym (rule_same p.symbols.now v p.proof.now h.proof h.stand p.command) ∙ rule_is p.proof.now p.command line there

  judged_there : is_assume (rule_of line.command) ≡ false → IsJudged (kind_of (rule_of line.command))
  judged_there other =
      judged_kind (kind_of (rule_of line.command)) (in_check_mode h.assertions) h.proof p.command
      (subst (λ rule. IsStatusBy (kind_under false (kind_of rule)) (in_check_mode h.assertions) h.proof p.command Status.Ok) rule_there h.ok)
      (assumed_kind (rule_of line.command) other)

  pub replaced_there : MayBeReplaced line.scope.nesting line.command
  replaced_there =
      go line.scope line.command (command_may p.proof.now p.command line h.formed there) (rule_is p.proof.now p.command line there)
      (scope_is p.proof.now p.command line there) judged_there
    where
      go : (scope : Scope ℕ ℕ) (command : IndexedCommand ℕ) → MayAddHere scope command → rule_at p.proof.now p.command ≡ rule_of command
          → scope_at p.proof.now p.command ≡ own_scope scope.nesting command → (is_assume (rule_of command) ≡ false → IsJudged (kind_of (rule_of command)))
          → MayBeReplaced scope.nesting command
      go scope (assume id t) may rule number judged = outer_nesting scope.nesting id t (sym number ∙ h.outer rule)
      go scope (step s) may rule number judged = judged (ap is_assume may.rule.named ∙ named_no_assume s.rule_name)
      go scope (closing s) may rule number judged = close scope.nesting scope.items may judged
        where
          close : (n : Nesting ℕ ℕ) (items : ProofItems ℕ ℕ) → MayAddHere (at n items) (closing s) → (is_assume s.rule ≡ false → IsJudged (kind_of s.rule))
              → IsJudged (kind_of s.rule)
          close outermost items may judged = absurd may
          close (inside around before anchor) items may judged = judged (ap is_assume may.rule.named ∙ named_no_assume s.rule_name)

pub block_added : (p : Site) (v : TermsView) (line : Line ℕ ℕ) (block : List AddedStep) → slice_get (lines_in outermost p.proof.now) p.command ≡ Some line
    → IsBlockFor p v block → IsBlockOf line block
block_added p v line block there h = record {
  replaced = replaced_there p v h.command line there;
  each = λ k a e. may_be_added p v line h.command.formed there block k a h.steps e;
  last = h.ends.last;
  is_last = last_place h.ends.before h.ends.last block h.ends.is;
  judged = h.ends.judged;
  clause = h.ends.clause ∙ clause_is p.proof.now p.command line there;
}
