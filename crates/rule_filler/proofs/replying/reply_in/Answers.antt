use Rattle.std.proofs.Common.{sym, subst}
use Rattle.std.proofs.lemmas.Result.{IfOk-weaker}
use Rattle.fillers.specs.Books.{reply_bytes}
use Rattle.term_parts.specs.Judging.{StandForTruths}
use Rattle.rule_filler.specs.Denials.{IsGivenByFirst}
use Rattle.rule_filler.proofs.Replies.{same_view}
use Rattle.rule_filler.proofs.replying.reply_in.Goals as goal

pub reply_over-requires : goal.reply_over-requires
reply_over-requires c =
    subst (λ v. StandForTruths c.args.symbols.now v c.args.assertions.now)
    (sym (same_view c.new-terms.result c.args.pool.now c.args.pass.view c.new-terms.ensures.pool c.new-terms.ensures.pass)) c.requires.truths

pub returns : goal.returns
returns c =
    IfOk-weaker c.reply_over.result _ _
    (λ found given.
    subst (λ v. IsGivenByFirst c.args.symbols.now v c.args.assertions.now (reply_bytes found))
    (same_view c.new-terms.result c.args.pool.now c.args.pass.view c.new-terms.ensures.pool c.new-terms.ensures.pass) given)
    c.reply_over.ensures
