use Rattle.std.proofs.Common.{◌≡◌, ◌∙◌, IsTrue, false, sym, subst, rules}
use Rattle.rules_subproof.proofs.Variables.{leaves_of, values_of, variables_same}
use Rattle.rules_subproof.proofs.lets.let_values.Goals as goal

not_true : IsTrue false → ⊥
not_true e = cc

pub returns-then-not-binds_in_order-clause-none : goal.returns-then-not-binds_in_order-clause-none
returns-then-not-binds_in_order-clause-none c bs t u bound refers right zip h =
    let same : c.bindings.new.self ≡ c.args.terms.now = search rules in
    let bindings = (rw (same, c.new-vars.ensures.items, c.new-values.ensures.items) at c.in_ok-bindings.ensures.bindings) c.args.symbols.now bs t refers in
    let leaves = leaves_of c.args.symbols.now c.args.terms.now _ _ bs bindings in
    not_true (subst IsTrue c.if-not-binds_in_order.true (c.binds_in_order.ensures.1
    ((variables_same c.args.symbols.now c.args.terms.now c.leaves_differ.ensures.table c.args.anchor.now bound _ _ zip leaves).1 h.variables ∙ sym c.deref.ensures.value)))

pub returns-then-not-branch-clause-none : goal.returns-then-not-branch-clause-none
returns-then-not-branch-clause-none c bs t u bound refers right zip h =
    let same : c.bindings.new.self ≡ c.args.terms.now = search rules in
    let bindings = (rw (same, c.new-vars.ensures.items, c.new-values.ensures.items) at c.in_ok-bindings.ensures.bindings) c.args.symbols.now bs t refers in
    let leaves = leaves_of c.args.symbols.now c.args.terms.now _ _ bs bindings in
    let free = (rw (same, c.deref-2.ensures.value) at c.in_ok-none_free.ensures.free) _ u leaves right in
    not_true (subst IsTrue c.if-not-branch.true (free.1 h.hidden))

pub returns-clause-values : goal.returns-clause-values
returns-clause-values c bs t u bound refers right zip =
    let same : c.bindings.new.self ≡ c.args.terms.now = search rules in
    let bindings = (rw (same, c.new-vars.ensures.items, c.new-values.ensures.items) at c.in_ok-bindings.ensures.bindings) c.args.symbols.now bs t refers in
    let leaves = leaves_of c.args.symbols.now c.args.terms.now _ _ bs bindings in
    let free = (rw (same, c.deref-2.ensures.value) at c.in_ok-none_free.ensures.free) _ u leaves right in (
      record {
        variables = (variables_same c.args.symbols.now c.args.terms.now c.leaves_differ.ensures.table c.args.anchor.now bound _ _ zip leaves).0
            (c.binds_in_order.ensures.0 c.if-not-binds_in_order.false ∙ c.deref.ensures.value);
        hidden = free.0 c.if-not-branch.false;
      },
      values_of c.args.symbols.now c.args.terms.now _ _ bs bindings,
    )
