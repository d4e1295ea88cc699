-- How rules are judged: which leave a hole, which can be met, and which close a scope.
use Rattle.std.proofs.Common.{◌≡◌, ◌↔◌, inl, inr, ℕ, List, [], ◌∷◌, Contains, refl, subst, arith}
use Rattle.term_model.specs.Terms.{Var, Term}
use Rattle.term_model.proofs.Lists.{contains_none, contains_cases}
use Rattle.rule_model.specs.declared.kinds.Family.{Family}
use Rattle.rule_model.specs.declared.kinds.Kind.{Kind}
use Rattle.rule_model.specs.declared.rules.Mode.{Mode}
use Rattle.rule_model.specs.declared.rules.Rule.{Rule}
use Rattle.rule_model.specs.Conditions.{MeetsRule, MeetsClosing}
use Rattle.rule_model.specs.Judged.{Judged}
use Rattle.rule_model.specs.Proofs.{ProofItems}
use Rattle.rule_model.specs.RuleNames.{kind_of, IsJudged, hole_rules}

-- those that are listed leave a hole
listed_is : (rules : List Rule) (rule : Rule) → (r : Rule) → Contains (r ∷ rules) rule → kind_of r ≡ Kind.Hole
    → (Contains rules rule → kind_of rule ≡ Kind.Hole) → kind_of rule ≡ Kind.Hole
listed_is rules rule r has here later =
    elim (contains_cases r rule rules has) [ inl same ↦ subst (λ x. kind_of x ≡ Kind.Hole) same here | inr other ↦ later other ]

leaves_hole : (rule : Rule) → Contains hole_rules rule → kind_of rule ≡ Kind.Hole
leaves_hole rule has =
    let none : Contains [] rule → kind_of rule ≡ Kind.Hole = λ has. absurd (contains_none rule has) in
    let last = listed_is [] rule Rule.AllSimplify in
    let third = listed_is (Rule.AllSimplify ∷ []) rule Rule.RareRewrite in
    let second = listed_is (Rule.RareRewrite ∷ Rule.AllSimplify ∷ []) rule Rule.LiaGeneric in
    listed_is (Rule.LiaGeneric ∷ Rule.RareRewrite ∷ Rule.AllSimplify ∷ []) rule Rule.Hole has refl
    (λ has. second has refl (λ has. third has refl (λ has. last has refl none)))

is_listed : (rule : Rule) → kind_of rule ≡ Kind.Hole → Contains hole_rules rule
is_listed Rule.Hole e = (0, omega arith, refl)
is_listed Rule.LiaGeneric e = (1, omega arith, refl)
is_listed Rule.RareRewrite e = (2, omega arith, refl)
is_listed Rule.AllSimplify e = (3, omega arith, refl)
is_listed rule e = absurd cc

pub holes_listed : (rule : Rule) → Contains hole_rules rule ↔ kind_of rule ≡ Kind.Hole
holes_listed rule = (leaves_hole rule, is_listed rule)

-- a rule that some step meets is judged
pub met_judged : (rule : Rule) (j : Judged) → MeetsRule rule j → IsJudged (kind_of rule)
met_judged Rule.Assume j met = absurd met
met_judged Rule.Unknown j met = absurd met
met_judged Rule.Hole j met = absurd met
met_judged Rule.LiaGeneric j met = absurd met
met_judged Rule.RareRewrite j met = absurd met
met_judged Rule.AllSimplify j met = absurd met
met_judged rule j met = record { family = _; is = refl }

-- and so is one by which a step closes a scope
pub closing_judged : (mode : Mode) (rule : Rule) (proof : ProofItems Var Term) (i k : ℕ) → MeetsClosing mode rule proof i k
    → kind_of rule ≡ Kind.Judged Family.Subproof
closing_judged mode Rule.Subproof proof i k met = refl
closing_judged mode Rule.Let proof i k met = refl
closing_judged mode rule proof i k met = absurd met
