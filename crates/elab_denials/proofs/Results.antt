-- Private. What is said of results.
use Rattle.std.proofs.Common.{◌≡◌, Result, Ok, Err, IfErr, IsErrAnd, sym, subst}
use Rattle.term_parts.specs.declared.answers.RuleStop.{RuleStop}

-- an error that is handed on
pub handed_on : {A E : Type 0} (r : Result A E) (e : E) (P : E → Type 0) → IsErrAnd r (λ x. x ≡ e) → P e → IfErr r P
handed_on (Ok a) e P is h = tt
handed_on (Err x) e P is h = subst P (sym is) h

-- a full pool, of which more is said
pub full_more : {A : Type 0} (r : Result A RuleStop) (P Q : Type 0) → (P → Q) → IfErr r (λ e. e ≡ RuleStop.PoolFull → P) → IfErr r (λ e. e ≡ RuleStop.PoolFull → Q)
full_more (Ok a) P Q more h = tt
full_more (Err e) P Q more h = λ full. more (h full)
