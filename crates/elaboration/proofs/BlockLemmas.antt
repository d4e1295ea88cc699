-- The steps in the place of a command may be added where it stands.
use Rattle.std.proofs.Common.{◌≡◌, ◌-◌, inl, inr, ℕ, List, [], ◌∷◌, ◌++◌}
use Rattle.std.proofs.Common.{length, take, slice_get, Some, sym, ◌∙◌, ap, subst, arith, Contains}
use Rattle.std.proofs.lemmas.List.{length-append}
use Rattle.std.proofs.lemmas.List.Elements.{All-contains, All-weaker}
use Rattle.sym_table.specs.Table.{Table}
use Rattle.term_model.proofs.Lists.{contains_none, slice_get-last}
use Rattle.term_pool.specs.Views.{TermsView}
use Rattle.proof_store.specs.AddedSteps.{AddedStep}
use Rattle.proof_store.specs.declared.added.Link.{Link}
use Rattle.rule_model.specs.declared.rules.Rule.{Rule}
use Rattle.rule_model.specs.declared.statuses.Status.{Status}
use Rattle.rule_model.specs.Commands.{IndexedCommand, assume, step, closing, Line, lines_in}
use Rattle.rule_model.specs.Proofs.{ProofItems}
use Rattle.rule_model.specs.Reading.{premises_of, rule_of, premises_at}
use Rattle.rule_model.specs.Scopes.{Nesting, outermost, inside, at, commands_in}
use Rattle.rule_model.specs.Visibility.{visible}
use Rattle.rule_model.specs.WellFormed.{IsWellFormed}
use Rattle.rule_model.specs.Writing.{MayAddHere}
use Rattle.rule_model.proofs.LineReading.{rule_is, clause_is, premises_are}
use Rattle.rule_model.proofs.Standing.{command_may, taken_few}
use Rattle.elab_resolution.specs.Adding.{EndsInClause, IsLinkFor}
use Rattle.elaborator.specs.Blocks.{standing, outside, IsLink, MayBeReplaced, IsBlockOf, AreBlocksOf}
use Rattle.elaborator.specs.Pieces.{AreMadeBy}
use Rattle.elaboration.specs.Elaborated.{IsResolution}
use Rattle.elaboration.specs.Replaced.{IsKeptOrReplaced, IsRelinking, IsReplacement}
use Rattle.elaboration.proofs.Rules.{added_judged, resolution_judged}

-- a premise is visible where the command belongs
seen_there : (l : Line ℕ ℕ) (c : IndexedCommand ℕ) (j : ℕ) → MayAddHere l.scope c → Contains (premises_of c) j
    → Contains (visible (standing l c).nesting (standing l c).items) j
seen_there l (assume id t) j may has = absurd (contains_none j has)
seen_there l (step s) j may has = All-contains (Contains (visible l.scope.nesting l.scope.items)) s.premises j may.premises has
seen_there l (closing s) j may has = close l.scope.nesting l.scope.items may
  where
    close : (n : Nesting ℕ ℕ) (items : ProofItems ℕ ℕ) → MayAddHere (at n items) (closing s) → Contains (visible (outside n).nesting (outside n).items) j
    close outermost items may = absurd may
    close (inside around before anchor) items may = All-contains (Contains (visible around before)) s.premises j may.premises has

may_replace : (n : Nesting ℕ ℕ) (c : IndexedCommand ℕ) → IsResolution (rule_of c) → MayBeReplaced n c
may_replace n (assume id t) (inl e) = absurd (no e)
  where
    no : Rule.Assume ≡ Rule.Resolution → ⊥
    no e = cc
may_replace n (assume id t) (inr e) = absurd (no e)
  where
    no : Rule.Assume ≡ Rule.ThResolution → ⊥
    no e = cc
may_replace n (step s) h = resolution_judged s.rule h
may_replace n (closing s) h = resolution_judged s.rule h

pub last_place : {X : Type 0} (before : List X) (last : X) (block : List X) → block ≡ before ++ last ∷ [] → slice_get block (length block - 1) ≡ Some last
last_place before last block e =
    let size = ap length e ∙ length-append before (last ∷ []) in
    let place : length before ≡ length block - 1 = omega arith in
    subst (λ b. slice_get b (length block - 1) ≡ Some last) (sym e)
    (subst (λ k. slice_get (before ++ last ∷ []) k ≡ Some last) place (slice_get-last before last))

pub not_empty : (clause : List ℕ) (block : List AddedStep) → EndsInClause clause block → block ≡ [] → ⊥
not_empty clause block ends none =
    let size = ap length ends.is ∙ length-append ends.before (ends.last ∷ []) in
    let zero_is = ap length none in
    absurd (omega arith)

module _ (s : Table) (v : TermsView) (refs : ProofItems ℕ ℕ) (strict : List Status) (formed : IsWellFormed refs) where
  block_of : (i : ℕ) (block : List AddedStep) (l : Line ℕ ℕ) → slice_get (lines_in outermost refs) i ≡ Some l
      → IsReplacement s v refs strict i block → IsBlockOf l block
  block_of i block l there h = record {
    replaced = may_replace l.scope.nesting l.command (subst IsResolution (rule_is refs i l there) h.short.replaced.rule);
    each = λ k a e.
        let one = h.each k a e in
        inl (record {
          judged = added_judged a.rule one.rule;
          pivots = elim one.rule [ inl resolution ↦ inl (inl resolution) | inr bridge ↦ inr bridge.1 ];
          links = All-weaker (IsLinkFor (premises_at refs i) (length (take k block)))
              (IsLink (visible (standing l l.command).nesting (standing l l.command).items) k) (link_seen k) a.premises one.links;
        });
    last = h.ends.last;
    is_last = last_place h.ends.before h.ends.last block h.ends.is;
    judged =
        let one = h.each (length block - 1) h.ends.last (last_place h.ends.before h.ends.last block h.ends.is) in
        added_judged h.ends.last.rule one.rule;
    clause = h.ends.ends ∙ clause_is refs i l there;
  }
    where
      link_seen : (k : ℕ) (x : Link) → IsLinkFor (premises_at refs i) (length (take k block)) x
          → IsLink (visible (standing l l.command).nesting (standing l l.command).items) k x
      link_seen k (Link.Old j) has =
          seen_there l l.command j (command_may refs i l formed there) (subst (λ js. Contains js j) (premises_are refs i l there) has)
      link_seen k (Link.New n) below = let few = taken_few k block in omega arith

  pub are_blocks : (asserted : List ℕ)
      → ((i : ℕ) (block : List AddedStep) (l : Line ℕ ℕ) → slice_get (lines_in outermost refs) i ≡ Some l → IsRelinking s v asserted refs strict i block
      → IsBlockOf l block)
      → (blocks : List (List AddedStep)) → AreMadeBy (IsKeptOrReplaced s v asserted refs strict) (commands_in refs) blocks → AreBlocksOf refs blocks
  are_blocks asserted relinked blocks made = record {
    count = made.count_is;
    each = λ i l block there e. elim (made.each i block e) [
      | inl kept ↦ inl kept.none
      | inr other ↦ elim other [
        | inl replacement ↦ inr (block_of i block l there replacement)
        | inr relinking ↦ inr (relinked i block l there relinking)
      ]
    ];
  }
