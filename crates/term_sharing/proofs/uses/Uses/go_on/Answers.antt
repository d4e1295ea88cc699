use Rattle.std.proofs.Common.{◌≡◌, ◌∙◌, ◌^◌, false, true, ap, sym}
use Rattle.std.proofs.lemmas.Result.{on_ok_weaker}
use Rattle.term_sharing.specs.Marks.{mark_at, says_closed}
use Rattle.term_sharing.specs.declared.marks.Mark.{Mark}
use Rattle.term_sharing.proofs.ClosedTerms.{is_high}
use Rattle.term_sharing.proofs.UsesLemmas.{right_after}
use Rattle.term_sharing.proofs.uses.Uses.go_on.Goals as goal

pub returns-in_ok-push-in-Unmet-clause-uses : goal.returns-in_ok-push-in-Unmet-clause-uses
returns-in_ok-push-in-Unmet-clause-uses c =
    on_ok_weaker c.enter.result (λ left. record {
      left = left;
      marks =
          right_after c.args.symbols.now c.args.terms.now c.args.self.now.marks.items c.put.new.marks.items c.args.r Mark.Entered
          c.requires.uses.marks c.in_ok-put-in-Unmet.ensures.marks (λ e. absurd (let f : false ≡ true = e in cc));
      closed = c.requires.uses.closed;
    }) c.enter.ensures.left

pub returns-in_ok-closed-in-Entered-clause-uses : goal.returns-in_ok-closed-in-Entered-clause-uses
returns-in_ok-closed-in-Entered-clause-uses c =
    on_ok_weaker c.leave.result (λ kept.
    kept c.args.symbols.now c.args.terms.now c.requires.uses (λ closed. record {
      cell = is_high c.is_leaf.result c.args.r (2 ^ 30) c.if-is_leaf.false c.is_leaf.ensures.1;
      term = c.requires.term;
      closed = c.in_ok-closed-in-Entered.ensures.closed closed;
    })) c.leave.ensures.uses

pub returns-in-Closed-clause-uses : goal.returns-in-Closed-clause-uses
returns-in-Closed-clause-uses c =
    let at : mark_at c.args.self.now.marks.items c.args.r ≡ Mark.Closed = sym (rw c.deref.ensures.value at c.mark_of.ensures) ∙ c.in-Closed.is in
    on_ok_weaker c.put-in-Closed.result (λ now. record {
      left = c.requires.uses.left;
      marks =
          right_after c.args.symbols.now c.args.terms.now c.args.self.now.marks.items c.put-in-Closed.new.marks.items c.args.r
          Mark.Found c.requires.uses.marks now (λ e. c.requires.uses.marks c.args.r (ap says_closed at));
      closed = c.requires.uses.closed;
    }) c.put-in-Closed.ensures.marks

pub is_closed_below-requires-clause-marks : goal.is_closed_below-requires-clause-marks
is_closed_below-requires-clause-marks c = rw c.deref-in-Entered.ensures.value c.requires.uses.marks
