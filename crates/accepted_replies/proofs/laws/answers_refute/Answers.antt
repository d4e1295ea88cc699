use Rattle.std.proofs.Common.{◌≤◌, Bool, false, List, [], ◌∷◌, Contains, replicate}
use Rattle.std.specs.List.{AllByRecursion}
use Rattle.std.proofs.lemmas.List.Elements.{All-replicate}
use Rattle.term_model.specs.declared.symbols.Sort.{Sort}
use Rattle.term_model.specs.Heights.{height}
use Rattle.term_model.specs.Terms.{Var, Term}
use Rattle.rule_model.specs.declared.statuses.Status.{Status}
use Rattle.rule_model.specs.Proofs.{ProofItems}
use Rattle.rule_model.specs.Scopes.{commands_in}
use Rattle.rule_model.specs.Statuses.{Passes}
use Rattle.problem_text.specs.Limits.{most_height}
use Rattle.problem_text.specs.Scripts.{Script}
use Rattle.problem_text.specs.Soundness.{IsRead}
use Rattle.accepted_replies.specs.Refutations.{Refutes, in_check_mode}
use Rattle.accepted_replies.specs.Replies.{Inference, IsAnswer, reply_of}
use Rattle.accepted_replies.proofs.InferenceRules.{inferring_has_rule, resolving_has_rule}
use Rattle.accepted_replies.proofs.ReplyReading.{can_be_read, one_of}
use Rattle.accepted_replies.proofs.ReplyStatuses.{all_ok, reaches}
use Rattle.accepted_replies.proofs.laws.answers_refute.Goals as goal

low : (ts : List Term) → AllByRecursion (λ t. IsRead (record { tree = t; sort = Sort.Bool })) ts → AllByRecursion (λ t. height t ≤ most_height) ts
low [] h = tt
low (t ∷ ts) h = (h.0.low, low ts h.1)

refuted : (unknown : Bool) (s : Script) (assumed : List Term) (x : Inference Term) → IsAnswer s assumed x
    → Refutes (in_check_mode unknown s) (reply_of {V = Var} assumed x)
refuted unknown s assumed x answer = record {
  ok =
      all_ok assumed x unknown s.assertions (λ t has. one_of (Contains s.assertions) assumed t answer.asserted has) answer.denied answer.may answer.met
      answer.narrow;
  empty = reaches assumed x;
}

pub returns-clause-refuted : goal.returns-clause-refuted
returns-clause-refuted c = λ unknown s assumed x answer. refuted unknown s assumed x answer

pub returns-clause-read : goal.returns-clause-read
returns-clause-read c = λ problem s assumed x stands formulas answer few.
    let whole : ProofItems Var Term = reply_of assumed x in
    let ok = (refuted false s assumed x answer).ok in
    let pass = All-replicate Passes (commands_in whole) Status.Ok tt in
    can_be_read s (c.scripts_are_well_named.ensures.names problem false s stands) assumed x answer formulas
    (low s.assertions (c.scripts_are_well_sorted.ensures problem false s stands).assertions)
    (c.proofs_that_pass_have_coefficients.ensures (in_check_mode false s) whole (replicate (commands_in whole) Status.Ok) ok pass) few
    (inferring_has_rule _ x answer.may) (resolving_has_rule _)
