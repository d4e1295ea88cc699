-- Public. What a judgement prints, and the status with which it ends.
use Rattle.std.specs.Prelude.{ℕ, List, [], ◌∷◌, ◌++◌, codes, decimal, flat_map}
use Rattle.sexpr.specs.declared.causes.Refusal.{Refusal}
use Rattle.sexpr.specs.Causes.{text_of_cause}
use Rattle.sexpr.specs.Printing.{printed_symbol}
use Rattle.rule_model.specs.declared.rules.StepCause.{StepCause}
use Rattle.judged_texts.specs.declared.judgement.Hole.{Hole}
use Rattle.judged_texts.specs.declared.judgement.Judgement.{Judgement}
use Rattle.judged_texts.specs.declared.judgement.Judgement.TheVariants.{Valid, Holey, NoEmptyClause, Faulty, TooWide, RefusedProblem, RefusedProof, PoolFull}

-- the end of a line
abbrev pub line_end : List ℕ
line_end = 10 ∷ []

-- why a command is faulty
abbrev pub text_of_step_cause : StepCause → List ℕ
text_of_step_cause StepCause.UnknownRule = codes "unknown rule"
text_of_step_cause StepCause.NotMet = codes "condition not met"
text_of_step_cause StepCause.NotAsserted = codes "not asserted"

-- the command that decides is named by the symbol of its id
abbrev pub step_text : List ℕ → List ℕ → List ℕ → List ℕ
step_text verdict id cause = verdict ++ (line_end ++ (codes "step " ++ (printed_symbol id ++ (codes ": " ++ (cause ++ line_end)))))

-- a hole by the symbols of its id and of its rule
abbrev pub hole_line : Hole → List ℕ
hole_line hole = codes "hole " ++ (printed_symbol hole.id.items ++ (codes " " ++ (printed_symbol hole.rule.items ++ line_end)))

-- a line for each hole
abbrev pub holey_text : List Hole → List ℕ
holey_text holes = codes "holey" ++ (line_end ++ flat_map hole_line holes)

abbrev pub refusal_text : List ℕ → Refusal → List ℕ
refusal_text which r = codes "refused" ++ (line_end ++ (which ++ (decimal r.at ++ (codes ": " ++ (text_of_cause r.cause ++ line_end)))))

abbrev pub text_of_judgement : Judgement → List ℕ
text_of_judgement Valid = codes "valid" ++ line_end
text_of_judgement (Holey holes) = holey_text holes.items
text_of_judgement NoEmptyClause = codes "invalid" ++ (line_end ++ (codes "no empty clause" ++ line_end))
text_of_judgement (Faulty id cause) = step_text (codes "invalid") id.items (text_of_step_cause cause)
text_of_judgement (TooWide id) = step_text (codes "unknown") id.items (codes "too wide")
text_of_judgement (RefusedProblem r) = refusal_text (codes "problem ") r
text_of_judgement (RefusedProof r) = refusal_text (codes "proof ") r
text_of_judgement PoolFull = codes "pool full" ++ line_end

abbrev pub status_of_judgement : Judgement → ℕ
status_of_judgement Valid = 0
status_of_judgement (Holey holes) = 2
status_of_judgement NoEmptyClause = 1
status_of_judgement (Faulty id cause) = 1
status_of_judgement (TooWide id) = 4
status_of_judgement (RefusedProblem r) = 3
status_of_judgement (RefusedProof r) = 3
status_of_judgement PoolFull = 8
