-- Private. A reply has a line for each command, so its text is longer than what it assumes.
use Rattle.std.proofs.Common.{◌≡◌, ◌+◌, ◌<◌, ◌≤◌, List, [], ◌∷◌, ◌++◌, length, refl, sym, ap, ◌∙◌, append_assoc, length-append, arith}
use Rattle.sexpr.specs.Items.{Item, Items, no_items, item}
use Rattle.sexpr.specs.Printed.{printed, printed_lines}
use Rattle.term_model.specs.Terms.{Var, Term}
use Rattle.rule_model.specs.Proofs.{Step, ProofItems, with_step}
use Rattle.rule_model.specs.Proofs as proof
use Rattle.problem_text.specs.Scripts.{Script}
use Rattle.printed_proofs.specs.PrintedProof.{joined, alone, proof_items}
use Rattle.accepted_replies.specs.Refutations.{reply_text}
use Rattle.accepted_replies.specs.Replies.{Inference, assumed_behind, assumes_behind, inferring, resolving, reply_of}

lines_joined : (is js : Items) → printed_lines (joined is js) ≡ printed_lines is ++ printed_lines js
lines_joined no_items js = refl
lines_joined (item i is) js =
    ap (λ bs. printed i ++ 10 ∷ bs) (lines_joined is js) ∙ sym (append_assoc (printed i) (10 ∷ printed_lines is) (printed_lines js))

one_line : (is : Items) (i : Item) → length (printed_lines is) < length (printed_lines (joined is (alone i)))
one_line is i =
    let all = ap length (lines_joined is (alone i)) ∙ length-append (printed_lines is) (printed i ++ 10 ∷ []) in
    let last = length-append (printed i) (10 ∷ []) in
    omega (arith, all, last)

assume_longer : (s : Script) (items : ProofItems Var Term) (t : Term) → length (reply_text s items) < length (reply_text s (assumed_behind items t))
assume_longer s items t = one_line (proof_items [] s items) _

step_longer : (s : Script) (items : ProofItems Var Term) (step : Step Term) → length (reply_text s items) < length (reply_text s (with_step items step))
step_longer s items step = one_line (proof_items [] s items) _

assumes_longer : (s : Script) (items : ProofItems Var Term) (ts : List Term)
    → length (reply_text s items) + length ts ≤ length (reply_text s (assumes_behind items ts))
assumes_longer s items [] = omega arith
assumes_longer s items (t ∷ ts) =
    let one = assume_longer s items t in let rest = assumes_longer s (assumed_behind items t) ts in omega (arith, one, rest)

pub reply_longer : (s : Script) (assumed : List Term) (x : Inference Term) → length assumed < length (reply_text s (reply_of assumed x))
reply_longer s assumed x =
    let before : ProofItems Var Term = assumes_behind proof.no_items assumed in
    let assumes = assumes_longer s proof.no_items assumed in
    let one = step_longer s before (inferring (length assumed) x) in
    let two = step_longer s (with_step before (inferring (length assumed) x)) (resolving (length assumed)) in
    omega (arith, assumes, one, two)
