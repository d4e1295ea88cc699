use Rattle.std.proofs.Common.{◌≡◌, false, true, sym, subst}
use Rattle.std.specs.Prelude.{All}
use Rattle.std.proofs.lemmas.List.Elements.{All-push}
use Rattle.std.proofs.lemmas.Result.{on_ok_weaker}
use Rattle.term_sharing.specs.NamedTerms.{MayHaveName}
use Rattle.term_sharing.specs.declared.marks.Mark.{Mark}
use Rattle.term_sharing.proofs.UsesLemmas.{right_after}
use Rattle.term_sharing.proofs.uses.Uses.leave.Goals as goal

pub returns-then-not-closed-clause-uses : goal.returns-then-not-closed-clause-uses
returns-then-not-closed-clause-uses c =
    on_ok_weaker c.put.result (λ now s v uses may. record {
      left = uses.left;
      marks =
          right_after s v c.args.self.now.marks.items c.put.new.marks.items c.args.r Mark.Open uses.marks now
          (λ e. absurd (let f : false ≡ true = e in cc));
      closed = uses.closed;
    }) c.put.ensures.marks

pub returns-clause-uses : goal.returns-clause-uses
returns-clause-uses c =
    on_ok_weaker c.put-2.result (λ now s v uses may. record {
      left = uses.left;
      marks =
          right_after s v c.args.self.now.marks.items c.put-2.new.marks.items c.args.r Mark.Closed uses.marks now
          (λ e. (may c.if-not-closed.false).closed);
      closed =
          subst (All (MayHaveName s v)) (sym c.in_ok-push.ensures.items)
          (All-push (MayHaveName s v) c.args.self.now.closed.items c.args.r uses.closed (may c.if-not-closed.false));
    }) c.put-2.ensures.marks
