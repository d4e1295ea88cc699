use Rattle.std.proofs.lemmas.Result.{IfOk-weaker}
use Rattle.accepted_replies.specs.Texts.{inference_of}
use Rattle.accepted_replies.proofs.ReplyTexts.{stands_for_some, has_sorts, is_text, is_accepted}
use Rattle.accepted_replies.proofs.printing.reply.Goals as goal

pub text_of-requires-clause-terms : goal.text_of-requires-clause-terms
text_of-requires-clause-terms c =
    stands_for_some c.args.symbols.now c.args.terms.now c.args.assumed.now (inference_of c.args.inference) c.in_ok-proof.proof c.in_ok-proof.ensures
    c.proofs_stand_for_one.ensures.some c.requires.assumed c.requires.clause

pub text_of-requires-clause-sorts : goal.text_of-requires-clause-sorts
text_of-requires-clause-sorts c =
    has_sorts c.args.symbols.now c.args.terms.now c.args.assumed.now (inference_of c.args.inference) c.in_ok-proof.proof c.in_ok-proof.ensures

pub returns-clause-text : goal.returns-clause-text
returns-clause-text c =
    IfOk-weaker c.text_of.result _ _
    (λ bytes. is_text c.args.symbols.now c.args.terms.now c.args.assumed.now (inference_of c.args.inference) c.in_ok-proof.proof c.in_ok-proof.ensures
    bytes.items) c.text_of.ensures.text

pub returns-clause-accepted : goal.returns-clause-accepted
returns-clause-accepted c =
    IfOk-weaker c.text_of.result _ _
    (λ bytes. is_accepted c.args.symbols.now c.args.terms.now c.args.assumed.now (inference_of c.args.inference) c.in_ok-proof.proof c.in_ok-proof.ensures
    c.requires.few c.answers_refute.ensures.read c.answers_refute.ensures.refuted bytes.items) c.text_of.ensures.accepted
