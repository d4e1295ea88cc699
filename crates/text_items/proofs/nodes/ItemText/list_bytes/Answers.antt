use Rattle.std.proofs.Common.{◌≡◌, ◌<◌, ◌≤◌, subst, sym, arith}
use Rattle.std.proofs.lemmas.Bool.Decides.{nat_tests}
use Rattle.sexpr.specs.Source.{source}
use Rattle.sexpr.specs.Tokens.{token_text}
use Rattle.sexpr.specs.declared.lexing.TokenKind.TheVariants.{Open}
use Rattle.text_items.specs.ItemsAt.{ItemsView}
use Rattle.text_items.specs.Stepping.{IsListThere}
use Rattle.text_items.proofs.NodeLemmas.{list_there}
use Rattle.text_items.proofs.nodes.ItemText.list_bytes.Goals as goal

pub text-requires-clause-start : goal.text-requires-clause-start
text-requires-clause-start c = let some = (c.self.invariant c.args.k c.node_at.result c.node_at.ensures).some in omega (arith, some)

pub text-requires-clause-within : goal.text-requires-clause-within
text-requires-clause-within c = (c.self.invariant c.args.k c.node_at.result c.node_at.ensures).within

pub returns-in-Open : goal.returns-in-Open
returns-in-Open c =
    let later : 0 < c.args.k = grind (arith, nat_tests, c.if-k-eq0.false) in
    subst (λ b. IsListThere c.args.self.now c.args.k b) (sym c.text.ensures)
    (subst (λ (items : ItemsView). IsListThere items c.args.k (token_text (source c.self.inside.text.now) c.node_at.result.token)) c.self.view_is
    (list_there (source c.self.inside.text.now) c.self.inside.nodes.now c.args.k c.node_at.result c.self.invariant c.node_at.ensures later c.in-Open.is))
