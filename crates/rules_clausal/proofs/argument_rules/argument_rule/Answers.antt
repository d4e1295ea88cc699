use Rattle.rules_clausal.proofs.argument_rules.argument_rule.Goals as goal

pub returns-in-AndPos : goal.returns-in-AndPos
returns-in-AndPos c = rw c.in-AndPos.is (λ premises clause. (λ h. h, λ h. h))

pub returns-in-AndNeg : goal.returns-in-AndNeg
returns-in-AndNeg c = rw c.in-AndNeg.is (λ premises clause. (λ h. h, λ h. h))

pub returns-in-OrPos : goal.returns-in-OrPos
returns-in-OrPos c = rw c.in-OrPos.is (λ premises clause. (λ h. h, λ h. h))

pub returns-in-OrNeg : goal.returns-in-OrNeg
returns-in-OrNeg c = rw c.in-OrNeg.is (λ premises clause. (λ h. h, λ h. h))

pub returns-in-And : goal.returns-in-And
returns-in-And c = rw c.in-And.is (λ premises clause. (λ h. h, λ h. h))

pub returns-in-Or : goal.returns-in-Or
returns-in-Or c = rw c.in-Or.is (λ premises clause. (λ h. h, λ h. h))

pub returns-in-NotOr : goal.returns-in-NotOr
returns-in-NotOr c = rw c.in-NotOr.is (λ premises clause. (λ h. h, λ h. h))

pub returns-in-NotAnd : goal.returns-in-NotAnd
returns-in-NotAnd c = rw c.in-NotAnd.is (λ premises clause. (λ h. h, λ h. h))
