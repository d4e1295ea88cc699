-- The sides of the equality that a step states are determined, and whether it meets `refl` is told by them.
use Rattle.std.proofs.Common.{◌≡◌, ◌↔◌, ℕ, [], ◌∷◌, Bool, IsTrue, sym, ◌∙◌, ap, subst}
use Rattle.rule_model.specs.declared.kinds.Family.{Family}
use Rattle.rule_model.specs.declared.kinds.Kind.{Kind}
use Rattle.rule_model.specs.declared.rules.Mode.{Mode}
use Rattle.rule_model.specs.declared.rules.Rule.{Rule}
use Rattle.rule_model.specs.Conditions.{MeetsRule, Met, IsTooWide}
use Rattle.rule_model.specs.Contexts.{images}
use Rattle.rule_model.specs.Judged.{Judged}
use Rattle.rule_model.specs.Refl.{AreSame, MeetsRefl}
use Rattle.rule_model.specs.RuleNames.{kind_of}
use Rattle.rule_model.specs.Substitution.{put_in}
use Rattle.schema_match.specs.Equations.{StatesEquality}
use Rattle.sym_table.specs.Table.{Table}
use Rattle.term_model.specs.Flips.{equality}
use Rattle.term_model.specs.Terms.{Term}
use Rattle.term_model.proofs.Lists.{same_one}
use Rattle.term_parts.specs.Judging.{StandsForStep, Tells, met_if}
use Rattle.term_parts.specs.declared.steps.Step.{Step}
use Rattle.term_parts.proofs.JudgingLemmas.{is_narrow, tells_if}
use Rattle.term_pool.specs.Views.{TermsView}

left_same : (t u a b : Term) → equality t u ≡ equality a b → t ≡ a
left_same t u a b e = cc

right_same : (t u a b : Term) → equality t u ≡ equality a b → u ≡ b
right_same t u a b e = cc

asks : (rule : Rule) (j : Judged) → kind_of rule ≡ Kind.Judged Family.Refl → MeetsRule rule j ↔ MeetsRefl j.mode j.anchors j.premises j.clause
asks Rule.Refl j is = (λ h. h, λ h. h)
asks _ j is = absurd cc

-- the steps for which the references of a step stand
module _ {s : Table} {v : TermsView} (step : Step) (is : kind_of step.rule ≡ Kind.Judged Family.Refl) (j : Judged) (stands : StandsForStep s v step j) where
  kind : kind_of j.rule ≡ Kind.Judged Family.Refl
  kind = ap kind_of stands.rule ∙ is

  narrow : ¬ IsTooWide j
  narrow = is_narrow j.rule Family.Refl j (λ e. cc) kind

  refl_meets : Met j ↔ MeetsRefl j.mode j.anchors j.premises j.clause
  refl_meets = asks j.rule j kind

  -- none states an equality
  pub states_none : ((t u : Term) → j.premises ≡ [] → j.clause ≡ equality t u ∷ [] → ⊥) → (¬ IsTooWide j) × (¬ Met j)
  states_none never = (narrow, λ met. let h = refl_meets.0 met in never h.left h.right h.none h.literal)

  -- the sides become these
  module _ (p : ℕ × ℕ) (states : StatesEquality s v p j.premises j.clause) where
    abbrev pub Same : Mode → Type 0
    Same mode = AreSame mode (put_in (images j.anchors) states.left) (put_in (images j.anchors) states.right)

    there : Same j.mode → MeetsRefl j.mode j.anchors j.premises j.clause
    there same = record { left = states.left; right = states.right; none = states.none; literal = states.literal; same = same }

    back : MeetsRefl j.mode j.anchors j.premises j.clause → Same j.mode
    back h =
        let e = same_one _ _ (sym h.literal ∙ states.literal) in
        subst (λ x. AreSame j.mode (put_in (images j.anchors) x) (put_in (images j.anchors) states.right)) (left_same h.left h.right states.left states.right e)
        (subst (λ x. AreSame j.mode (put_in (images j.anchors) h.left) (put_in (images j.anchors) x)) (right_same h.left h.right states.left states.right e)
        h.same)

    pub told_by_sides : (b : Bool) → IsTrue b ↔ Same step.mode → Tells (met_if b) (IsTooWide j) (Met j)
    told_by_sides b told =
        let here = subst (λ m. IsTrue b ↔ Same m) (sym stands.mode) told in
        tells_if b narrow (λ h. refl_meets.1 (there (here.0 h)), λ h. here.1 (back (refl_meets.0 h)))

pub strictly : (mode : Mode) → mode ≡ Mode.Strict → (t u : Term) (b : Bool) → IsTrue b ↔ (t ≡ u) → IsTrue b ↔ AreSame mode t u
strictly mode is t u b h = subst (λ m. IsTrue b ↔ AreSame m t u) (sym is) h
