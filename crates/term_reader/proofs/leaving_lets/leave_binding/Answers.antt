-- The bindings that were read are one more.
use Rattle.std.proofs.Common.{arith, rules, ◌∙◌, ℕ, ◌*◌, ◌^◌, ◌<◌, ◌≤◌, ap, drop, length}
use Rattle.std.proofs.lemmas.List.{take_rest}
use Rattle.sexpr.specs.declared.causes.Cause.TheVariants.{Repeated}
use Rattle.term_names.specs.Entries.{EntriesView}
use Rattle.term_names.specs.Known.{base_of}
use Rattle.term_names.specs.Scope.{all_names}
use Rattle.term_reader.specs.ReadingViews.{reader_in}
use Rattle.term_reader.proofs.LeavingBindings.{leaf_there, bindings_bound, more_nodes_there, body_next, binding_next, binding_faulty}
use Rattle.term_reader.proofs.leaving_lets.leave_binding.Goals as goal

pub offset_bounds-deref-leaves : goal.offset_bounds-deref-leaves
offset_bounds-deref-leaves c =
    let (v, g, h) = c.requires.read in
    let (k, leaf_is, leaves_are) = c.in_ok-add_variable.ensures.added in
    let within : c.args.form.now.leaves < length c.deref.result.now = rw (c.deref.ensures.value ∙ leaves_are) (leaf_there _ _ _ _ _ _ _ _ h k) in
    let small = c.deref.type_inv.1 in
    let below : c.args.form.now.leaves * 4 < 2 ^ 64 = omega arith in
    search (rules, below)

pub slice_bounds-variables-count : goal.slice_bounds-variables-count
slice_bounds-variables-count c =
    let (v, g, h) = c.requires.read in
    let (k, leaf_is, leaves_are) = c.in_ok-add_variable.ensures.added in
    let within : c.args.form.now.leaves < length c.deref.result.now = rw (c.deref.ensures.value ∙ leaves_are) (leaf_there _ _ _ _ _ _ _ _ h k) in
    omega (arith, within)

pub slice_bounds-variables-start : goal.slice_bounds-variables-start
slice_bounds-variables-start c =
    let (v, g, h) = c.requires.read in
    let (k, leaf_is, leaves_are) = c.in_ok-add_variable.ensures.added in
    let within : c.args.form.now.leaves < length c.deref.result.now = rw (c.deref.ensures.value ∙ leaves_are) (leaf_there _ _ _ _ _ _ _ _ h k) in
    let below : c.args.form.now.leaves ≤ length c.deref.result.now = omega (arith, within) in
    search (rules, below)

pub bind-requires-clause-bound : goal.bind-requires-clause-bound
bind-requires-clause-bound c =
    let (v, g, h) = c.requires.read in
    rw (take_rest c.deref.result.now c.args.form.now.leaves ∙ ap (drop c.args.form.now.leaves) c.deref.ensures.value)
    (bindings_bound _ _ _ _ _ _ _ _ h _ _ _
    (record { adds = c.add_variable.ensures.symbols; leaf = c.in_ok-add_variable.ensures.added; values_are = c.in_ok-push.ensures.pushed }))

pub returns-then-n-body-clause-leaves : goal.returns-then-n-body-clause-leaves
returns-then-n-body-clause-leaves c = λ v g h.
    let (inner, split, each) = c.in_ok-bind.ensures.inner in
    body_next _ _ _ _ _ _ _ _ h _
    (record (reader_in c.args.settings.now c.args.reader.now) {
      names = all_names c.args.settings.now c.bind.new.names;
      values = c.push.new.self;
      leaves = c.add_variable.new.leaves;
      frames = c.push-then-n-body.new.self;
    })
    (record { adds = c.add_variable.ensures.symbols; leaf = c.in_ok-add_variable.ensures.added; values_are = c.in_ok-push.ensures.pushed })
    c.add_variable.ensures.one_more c.if-n-body.true inner _
    (ap (λ (own : EntriesView). record { base = base_of c.args.settings.now.base; own = own }) c.bind.ensures.own)
    (take_rest c.deref.result.now c.args.form.now.leaves ∙ ap (drop c.args.form.now.leaves) c.deref.ensures.value)
    c.in_ok-bind.ensures.bound split each c.in_ok-push-2.ensures.pushed

pub overflow_add-n : goal.overflow_add-n
overflow_add-n c = let (v, g, h) = c.requires.read in omega (arith, more_nodes_there _ _ _ _ _ _ _ _ h c.if-n-body.false, c.count-count.ensures)

pub overflow_add-n-2 : goal.overflow_add-n-2
overflow_add-n-2 c = let (v, g, h) = c.requires.read in omega (arith, more_nodes_there _ _ _ _ _ _ _ _ h c.if-n-body.false, c.count-count.ensures)

pub overflow_add-result : goal.overflow_add-result
overflow_add-result c = let (v, g, h) = c.requires.read in omega (arith, more_nodes_there _ _ _ _ _ _ _ _ h c.if-n-body.false, c.count-count.ensures)

pub place_at-requires : goal.place_at-requires
place_at-requires c =
    let (v, g, h) = c.requires.read in
    let below = more_nodes_there _ _ _ _ _ _ _ _ h c.if-n-body.false in
    omega (arith, below)

pub returns-then-n-repeat-clause-leaves : goal.returns-then-n-repeat-clause-leaves
returns-then-n-repeat-clause-leaves c = λ v g h.
    binding_faulty _ _ _ _ _ _ _ _ h c.add_variable.new.symbols _ c.if-n-body.false c.if-n-repeat.true c.refused.result
    (c.refused.ensures ∙ ap (λ (p : ℕ). record { cause = Repeated; at = p }) c.place_at.ensures)

pub returns-clause-leaves : goal.returns-clause-leaves
returns-clause-leaves c = λ v g h.
    binding_next _ _ _ _ _ _ _ _ h _
    (record (reader_in c.args.settings.now c.args.reader.now) { values = c.push.new.self; leaves = c.add_variable.new.leaves; frames = c.push-2.new.self })
    (record { adds = c.add_variable.ensures.symbols; leaf = c.in_ok-add_variable.ensures.added; values_are = c.in_ok-push.ensures.pushed })
    c.add_variable.ensures.one_more c.if-n-body.false c.if-n-repeat.false c.in_ok-push-3.ensures.pushed
