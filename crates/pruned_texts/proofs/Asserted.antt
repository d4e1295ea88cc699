-- Each assume of the outermost scope of a valid proof is equal to an assertion.
use Rattle.std.proofs.Common.{◌≡◌, ℕ, zero, suc, ◌<◌, Bool, true, List, [], ◌∷◌, length, refl, sym, subst, arith, true≢false}
use Rattle.std.proofs.lemmas.List.Elements.{All-contains}
use Rattle.term_model.specs.Terms.{Var, Term}
use Rattle.rule_model.specs.declared.kinds.Kind.{Kind}
use Rattle.rule_model.specs.declared.rules.Mode.{Mode}
use Rattle.rule_model.specs.declared.rules.Rule.{Rule}
use Rattle.rule_model.specs.declared.statuses.Status.{Status}
use Rattle.rule_model.specs.declared.statuses.Verdict.{Verdict}
use Rattle.rule_model.specs.Proofs.{ProofItems}
use Rattle.rule_model.specs.Reading.{clause_at, rule_at, is_assume}
use Rattle.rule_model.specs.Statuses.{Checking, AreStatuses, IsAsserted, IsStatusBy, IsVerdict, kind_of_rule}
use Rattle.pruned_proofs.specs.Reached.{AreReachedMarks, is_kept}
use Rattle.pruned_proofs.proofs.Passing.{all_ok}
use Rattle.proof_prune.specs.Numbering.{AreAsserted}

marked_within : (marks : List Bool) (i : ℕ) → is_kept marks i ≡ true → i < length marks
marked_within [] i h = absurd (true≢false (sym h))
marked_within (m ∷ marks) zero h = omega arith
marked_within (m ∷ marks) (suc i) h = let less = marked_within marks i h in omega (arith, less)

-- an assume is judged as one
assume_kind : (c : Checking) (rule : Rule) → is_assume rule ≡ true → kind_of_rule c rule ≡ Kind.Assumed
assume_kind c Rule.Assume h = refl
assume_kind c rule h = absurd (true≢false (sym h))

pub asserted : (c : Checking) (proof : ProofItems Var Term) (statuses : List Status) (from : ℕ) (marks : List Bool) → c.mode ≡ Mode.Check
    → AreStatuses c proof statuses → IsVerdict statuses proof Verdict.Valid → AreReachedMarks proof from marks → AreAsserted marks c.assertions proof
asserted c proof statuses from marks check are valid reached index t h =
    let within = marked_within marks index h.kept in
    let count = reached.count in
    let status = all_ok c proof statuses are valid index (omega (arith, within, count)) in
    let may : IsStatusBy Kind.Assumed c proof index Status.Ok =
    subst (λ k. IsStatusBy k c proof index Status.Ok) (assume_kind c (rule_at proof index) h.assume) status in
    let is : IsAsserted c.mode c.assertions t = All-contains (IsAsserted c.mode c.assertions) (clause_at proof index) t (may h.scope) h.term in
    subst (λ mode. IsAsserted mode c.assertions t) check is
