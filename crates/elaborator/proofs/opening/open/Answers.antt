use Rattle.std.proofs.Common.{◌≡◌, length, refl, ◌∙◌, ap, arith}
use Rattle.elaborator.specs.Names.{name_of}
use Rattle.elaborator.specs.Reached.{state_of, job_of}
use Rattle.elaborator.specs.Steps.{front}
use Rattle.elaborator.proofs.OpenCalls.{opening_now}
use Rattle.elaborator.proofs.opening.open.Goals as goal

pub bounds-parts-scope : goal.bounds-parts-scope
bounds-parts-scope c =
    let e : c.len-scope.result ≡ length c.args.written.now.opened.items = omega arith in
    let within = (opening_now (job_of c.args.parts.now) c.requires.job c.args.i (state_of c.args.written.now) c.requires.way c.requires.further c.len-scope.result e _ refl).closers in
    omega arith

pub block-requires : goal.block-requires
block-requires c =
    let e : c.len-scope.result ≡ length c.args.written.now.opened.items = omega arith in
    (opening_now (job_of c.args.parts.now) c.requires.job c.args.i (state_of c.args.written.now) c.requires.way c.requires.further c.len-scope.result e _ refl).block

pub add_all-requires-clause-may : goal.add_all-requires-clause-may
add_all-requires-clause-may c =
    let e : c.len-scope.result ≡ length c.args.written.now.opened.items = omega arith in
    (opening_now (job_of c.args.parts.now) c.requires.job c.args.i (state_of c.args.written.now) c.requires.way c.requires.further c.len-scope.result e c.front.result.now
    (c.front.ensures ∙ ap (λ xs. front xs) c.block.ensures)).may

pub add_all-requires-clause-few : goal.add_all-requires-clause-few
add_all-requires-clause-few c =
    let e : c.len-scope.result ≡ length c.args.written.now.opened.items = omega arith in
    (opening_now (job_of c.args.parts.now) c.requires.job c.args.i (state_of c.args.written.now) c.requires.way c.requires.further c.len-scope.result e c.front.result.now
    (c.front.ensures ∙ ap (λ xs. front xs) c.block.ensures)).few

pub bindings-requires : goal.bindings-requires
bindings-requires c =
    let e : c.len-scope.result ≡ length c.args.written.now.opened.items = omega arith in
    let within = (opening_now (job_of c.args.parts.now) c.requires.job c.args.i (state_of c.args.written.now) c.requires.way c.requires.further c.len-scope.result e _ refl).scope in
    omega arith

pub anchor-requires-clause-may : goal.anchor-requires-clause-may
anchor-requires-clause-may c =
    let e : c.len-scope.result ≡ length c.args.written.now.opened.items = omega arith in
    let now = opening_now (job_of c.args.parts.now) c.requires.job c.args.i (state_of c.args.written.now) c.requires.way c.requires.further c.len-scope.result e c.front.result.now
    (c.front.ensures ∙ ap (λ xs. front xs) c.block.ensures) in
    (now.opened (state_of c.add_all.new.written) c.in_ok-start.ensures.extended c.id_of-id.result c.bindings.result.now (c.id_of-id.ensures ∙ ap name_of c.new_name-name.ensures) c.bindings.ensures).may

pub anchor-requires-clause-few : goal.anchor-requires-clause-few
anchor-requires-clause-few c =
    let e : c.len-scope.result ≡ length c.args.written.now.opened.items = omega arith in
    (opening_now (job_of c.args.parts.now) c.requires.job c.args.i (state_of c.args.written.now) c.requires.way c.requires.further c.len-scope.result e c.front.result.now
    (c.front.ensures ∙ ap (λ xs. front xs) c.block.ensures)).few_scopes (state_of c.add_all.new.written) c.in_ok-start.ensures.extended

pub returns-clause-way : goal.returns-clause-way
returns-clause-way c =
    let e : c.len-scope.result ≡ length c.args.written.now.opened.items = omega arith in
    let now = opening_now (job_of c.args.parts.now) c.requires.job c.args.i (state_of c.args.written.now) c.requires.way c.requires.further c.len-scope.result e c.front.result.now
    (c.front.ensures ∙ ap (λ xs. front xs) c.block.ensures) in
    (now.opened (state_of c.add_all.new.written) c.in_ok-start.ensures.extended c.id_of-id.result c.bindings.result.now (c.id_of-id.ensures ∙ ap name_of c.new_name-name.ensures) c.bindings.ensures).way
    (record { start = c.in_ok-start.start; name = c.new_name-name.result }) _ _ _ c.in_ok-start.ensures.start c.new_name-name.ensures c.in_ok-anchor.ensures.written refl c.in_ok-push.ensures.items
