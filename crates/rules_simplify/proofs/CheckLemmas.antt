-- What the rules of this family ask of a step.
use Rattle.std.proofs.Common.{◌≡◌, ◌≢◌, ◌↔◌, ℕ, List, [], ◌∷◌, Bool, false, IsTrue, None, sym, ap, ◌∙◌}
use Rattle.sym_table.specs.Table.{Table}
use Rattle.term_model.specs.Flips.{equality}
use Rattle.term_model.specs.Terms.{Term, operation, terms_of}
use Rattle.term_pool.specs.Views.{TermsView}
use Rattle.rule_model.specs.declared.kinds.Family.{Family}
use Rattle.rule_model.specs.declared.kinds.Kind.{Kind}
use Rattle.rule_model.specs.declared.rules.Rule.{Rule}
use Rattle.rule_model.specs.Conditions.{Met, MeetsRule}
use Rattle.rule_model.specs.Judged.{Judged}
use Rattle.rule_model.specs.RuleNames.{kind_of}
use Rattle.rule_model.specs.Rewriting.{Simplifies}
use Rattle.rule_model.proofs.ArgumentLists.{same_sides}
use Rattle.schema_match.specs.Equations.{StatesEquality}
use Rattle.rules_simplify.specs.declared.joins.Junction.{Junction}
use Rattle.rules_simplify.specs.declared.tables.Simplification.{Simplification}
use Rattle.rules_simplify.specs.Joins.{IsJoined}
use Rattle.rules_simplify.specs.Steps.{MeetsByRows, MeetsBySome, MeetsUnder, way_of}
use Rattle.rules_simplify.specs.Tables.{rows_of}

module _ (s : Table) (v : TermsView) (p : ℕ × ℕ) where
  -- what a step meets under a junction, and by a table of rewrites
  pub joining_is : (j : Junction) (ps : List (List Term)) (ts : List Term) (told : Bool) (is : StatesEquality s v p ps ts) →
      IsTrue told ↔ IsJoined j is.left is.right → IsTrue told ↔ MeetsUnder j ps ts
  joining_is j ps ts told is test = (
    λ e.
        (let h = test.0 e in
        let literal = is.literal ∙ ap (λ z. equality z is.right ∷ []) h.is in
        record { arguments = h.arguments; right = is.right; none = is.none; literal = literal; joins = h.joins }),
    λ m.
        (let sides = same_sides is.left is.right (operation j.op (terms_of m.arguments)) m.right (sym is.literal ∙ m.literal) in
        test.1 (record { arguments = m.arguments; is = sides.0; joins = rw sides.1 m.joins })),
  )

  pub rewriting_is : (table : Simplification) (ps : List (List Term)) (ts : List Term) (told : Bool) (is : StatesEquality s v p ps ts) →
      IsTrue told ↔ Simplifies (rows_of table) is.left is.right → IsTrue told ↔ MeetsByRows table ps ts
  rewriting_is table ps ts told is test = (
    λ e. record { left = is.left; right = is.right; none = is.none; literal = is.literal; simplifies = test.0 e },
    λ m.
        (let sides = same_sides is.left is.right m.left m.right (sym is.literal ∙ m.literal) in
        test.1 (rw (sides.0, sides.1) m.simplifies)),
  )

module _ (ps : List (List Term)) (ts : List Term) where
  -- a step that states no equality
  pub no_joining : (j : Junction) → ((u w : Term) → ps ≡ [] → ts ≢ equality u w ∷ []) → IsTrue false ↔ MeetsUnder j ps ts
  no_joining j other = (λ e. absurd cc, λ m. absurd (other (operation j.op (terms_of m.arguments)) m.right m.none m.literal))

  pub no_rewriting : (table : Simplification) → ((u w : Term) → ps ≡ [] → ts ≢ equality u w ∷ []) → IsTrue false ↔ MeetsByRows table ps ts
  no_rewriting table other = (λ e. absurd cc, λ m. absurd (other m.left m.right m.none m.literal))

-- a rule of this family asks what its way asks
rule_meets : (rule : Rule) (j : Judged) → kind_of rule ≡ Kind.Judged Family.Simplify → MeetsRule rule j ↔ MeetsBySome (way_of rule) j.premises j.clause
rule_meets Rule.AndSimplify j is = (λ h. h, λ h. h)
rule_meets Rule.OrSimplify j is = (λ h. h, λ h. h)
rule_meets Rule.NotSimplify j is = (λ h. h, λ h. h)
rule_meets Rule.ImpliesSimplify j is = (λ h. h, λ h. h)
rule_meets Rule.EquivSimplify j is = (λ h. h, λ h. h)
rule_meets Rule.BoolSimplify j is = (λ h. h, λ h. h)
rule_meets Rule.IteSimplify j is = (λ h. h, λ h. h)
rule_meets Rule.EqSimplify j is = (λ h. h, λ h. h)
rule_meets Rule.CompSimplify j is = (λ h. h, λ h. h)
rule_meets _ j is = absurd cc

pub asks : (j : Judged) → kind_of j.rule ≡ Kind.Judged Family.Simplify → Met j ↔ MeetsBySome (way_of j.rule) j.premises j.clause
asks j is = rule_meets j.rule j is

-- each has one
pub has_way : (rule : Rule) → kind_of rule ≡ Kind.Judged Family.Simplify → way_of rule ≢ None
has_way Rule.AndSimplify is = λ none. cc
has_way Rule.OrSimplify is = λ none. cc
has_way Rule.NotSimplify is = λ none. cc
has_way Rule.ImpliesSimplify is = λ none. cc
has_way Rule.EquivSimplify is = λ none. cc
has_way Rule.BoolSimplify is = λ none. cc
has_way Rule.IteSimplify is = λ none. cc
has_way Rule.EqSimplify is = λ none. cc
has_way Rule.CompSimplify is = λ none. cc
has_way _ is = absurd cc
