use Rattle.accepted_replies.specs.Texts.{inference_of}
use Rattle.accepted_replies.proofs.ReplyTexts.{is_long}
use Rattle.accepted_replies.proofs.printing.short_reply.Goals as goal

pub returns-then-assumed-most-clause-long : goal.returns-then-assumed-most-clause-long
returns-then-assumed-most-clause-long c =
    is_long c.args.symbols.now c.args.terms.now c.args.assumed.now (inference_of c.args.inference) c.args.most c.if-assumed-most.true
