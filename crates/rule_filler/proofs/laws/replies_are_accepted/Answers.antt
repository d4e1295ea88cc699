use Rattle.std.proofs.Common.{map, ap, sym, subst, ◌∙◌}
use Rattle.term_model.specs.Terms.{not_of}
use Rattle.accepted_replies.specs.Refutations.{reply_text, IsAccepted}
use Rattle.question_cells.specs.Definitions.{HasDefinitions}
use Rattle.question_reading.specs.Questions.{defining}
use Rattle.rule_filler.specs.Filling.{denied_clause}
use Rattle.rule_filler.specs.OneRule.{inferred, proof_by}
use Rattle.rule_filler.proofs.OneRule.{shown_answers}
use Rattle.rule_filler.proofs.Replies.{only_way, few_assumed}
use Rattle.rule_filler.proofs.laws.replies_are_accepted.Goals as goal

pub returns : goal.returns
returns c = λ question bytes unknown_are_holes reply.
    let script = reply.script in
    let shown = (only_way script reply.proof reply.by_first).shows in
    let ls = denied_clause script.assertions in
    let none : HasDefinitions question → ⊥ = λ h. reply.not_left_out (defining h) in
    let readable = c.assertions_are_readable.ensures question script reply.stands (c.plain_texts_are_small.ensures.macros question script reply.stands none)
    (c.plain_texts_are_small.ensures.named question script reply.stands none) in
    let few = few_assumed question script reply.not_left_out (c.plain_texts_are_small.ensures.assertions question script reply.stands none) in
    let answers = shown_answers c.lone_rules_are_unique.ensures.judged c.denials_are_denied.ensures.of_clause script
    (c.scripts_are_well_sorted.ensures question _ script reply.stands) reply.proof shown in
    let read = c.answers_refute.ensures.read question script (map not_of ls) (inferred shown.rule ls) reply.stands readable answers few in
    let refuted = c.answers_refute.ensures.refuted unknown_are_holes script (map not_of ls) (inferred shown.rule ls) answers in
    subst (IsAccepted question unknown_are_holes) (sym (reply.text ∙ ap (reply_text script) shown.by_rule))
    (c.refutations_are_accepted.ensures question unknown_are_holes script (proof_by shown.rule ls) reply.stands read refuted)
