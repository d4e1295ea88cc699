use Rattle.text_items.specs.Stepping.{name_in}
use Rattle.std.proofs.Common.{ℕ, ap, sym, ◌∙◌}
use Rattle.sexpr.specs.declared.causes.Cause.TheVariants.{Repeated, LeftOut}
use Rattle.problem_text.specs.Words.{is_among, logics}
use Rattle.smtlib_reader.proofs.DeclaredLogics.{logic_repeated, logic_left_out, logic_done}
use Rattle.smtlib_reader.proofs.declaring.set_logic.Goals as goal

pub returns-then-session : goal.returns-then-session
returns-then-session c = record {
  performs = λ e s v sc is.
      logic_repeated s v _ e.replaces_lets (name_in c.args.items.now c.args.name) sc is c.refused.result c.if-session.true
      (c.refused.ensures ∙ ap (λ (p : ℕ). record { cause = Repeated; at = p }) c.node-place.ensures.start);
}

pub returns-then-not-is_logic : goal.returns-then-not-is_logic
returns-then-not-is_logic c = record {
  performs = λ e s v sc is.
      logic_left_out s v _ e.replaces_lets (name_in c.args.items.now c.args.name) sc is c.refused-then-not-is_logic.result c.if-session.false
      (sym (c.is_logic.ensures ∙ ap (is_among logics) c.name_of-spelled.ensures) ∙ c.if-not-is_logic.true)
      (c.refused-then-not-is_logic.ensures ∙ ap (λ (p : ℕ). record { cause = LeftOut; at = p }) c.node-place.ensures.start);
}

pub returns : goal.returns
returns c = record {
  performs = λ e s v sc is.
      logic_done s v _ e.replaces_lets (name_in c.args.items.now c.args.name) sc is c.if-session.false
      (sym (c.is_logic.ensures ∙ ap (is_among logics) c.name_of-spelled.ensures) ∙ c.if-not-is_logic.false);
}
