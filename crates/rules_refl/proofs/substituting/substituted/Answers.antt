use Rattle.sym_table.proofs.Tables.{keeps_table}
use Rattle.rule_model.specs.Contexts.{images}
use Rattle.rule_model.specs.Substitution.{put_in}
use Rattle.rules_refl.proofs.SideLemmas.{known_later, refers_later, left_placed, both_placed, left_lacks, right_lacks}
use Rattle.rules_refl.proofs.substituting.substituted.Goals as goal

pub returns-in-Err-clause-placed : goal.returns-in-Err-clause-placed
returns-in-Err-clause-placed c anchors t u sides =
    let here = sides.here in
    left_placed c.args.symbols.now c.args.terms.now.pass c.substitute.new.terms.pass (put_in (images anchors) t) (put_in (images anchors) u)
    (c.substitute.ensures.placed here.proof anchors t here.stand here.are_open sides.left)

pub returns-in-Err-clause-full : goal.returns-in-Err-clause-full
returns-in-Err-clause-full c is anchors t u sides =
    let here = sides.here in
    left_lacks c.args.symbols.now c.args.terms.now.pass c.substitute.new.terms.pass (put_in (images anchors) t) (put_in (images anchors) u)
    (c.in-Err.ensures.full (c.refused.ensures.full is) here.proof anchors t here.stand here.are_open sides.left)

pub returns-in-Err-substitute-clause-placed : goal.returns-in-Err-substitute-clause-placed
returns-in-Err-substitute-clause-placed c anchors t u sides =
    let s = c.args.symbols.now in
    let v = c.args.terms.now in
    let w = c.substitute.new.terms in
    let here = sides.here in
    let later = c.proofs_stay.ensures s s v w c.args.proof.now here.proof (keeps_table s) c.substitute.ensures.keeps here.stand in
    both_placed s v.pass w.pass c.substitute-2.new.terms.pass (put_in (images anchors) t) (put_in (images anchors) u) c.substitute-2.ensures.keeps.pass
    (c.substitute.ensures.placed here.proof anchors t here.stand here.are_open sides.left)
    (c.substitute-2.ensures.placed here.proof anchors u later (rw c.substitute.ensures.scope here.are_open)
    (refers_later s v w c.args.sides.1 u c.substitute.ensures.keeps sides.right))

pub returns-in-Err-substitute-clause-full : goal.returns-in-Err-substitute-clause-full
returns-in-Err-substitute-clause-full c is anchors t u sides =
    let s = c.args.symbols.now in
    let v = c.args.terms.now in
    let w = c.substitute.new.terms in
    let here = sides.here in
    let later = c.proofs_stay.ensures s s v w c.args.proof.now here.proof (keeps_table s) c.substitute.ensures.keeps here.stand in
    right_lacks s v.pass c.substitute-2.new.terms.pass (put_in (images anchors) t) (put_in (images anchors) u)
    (c.in-Err-substitute.ensures.full (c.refused-in-Err-substitute.ensures.full is) here.proof anchors u later
    (rw c.substitute.ensures.scope here.are_open) (refers_later s v w c.args.sides.1 u c.substitute.ensures.keeps sides.right))

pub returns-clause-left : goal.returns-clause-left
returns-clause-left c anchors t u sides =
    let here = sides.here in
    refers_later c.args.symbols.now c.substitute.new.terms c.substitute-2.new.terms c.in-Ok.left (put_in (images anchors) t)
    c.substitute-2.ensures.keeps (c.in-Ok.ensures.term here.proof anchors t here.stand here.are_open sides.left)

pub returns-clause-right : goal.returns-clause-right
returns-clause-right c anchors t u sides =
    let s = c.args.symbols.now in
    let v = c.args.terms.now in
    let w = c.substitute.new.terms in
    let here = sides.here in
    c.in-Ok-substitute.ensures.term here.proof anchors u
    (c.proofs_stay.ensures s s v w c.args.proof.now here.proof (keeps_table s) c.substitute.ensures.keeps here.stand)
    (rw c.substitute.ensures.scope here.are_open) (refers_later s v w c.args.sides.1 u c.substitute.ensures.keeps sides.right)

pub returns-clause-placed : goal.returns-clause-placed
returns-clause-placed c anchors t u sides =
    let s = c.args.symbols.now in
    let v = c.args.terms.now in
    let w = c.substitute.new.terms in
    let here = sides.here in
    let later = c.proofs_stay.ensures s s v w c.args.proof.now here.proof (keeps_table s) c.substitute.ensures.keeps here.stand in
    both_placed s v.pass w.pass c.substitute-2.new.terms.pass (put_in (images anchors) t) (put_in (images anchors) u) c.substitute-2.ensures.keeps.pass
    (c.substitute.ensures.placed here.proof anchors t here.stand here.are_open sides.left)
    (c.substitute-2.ensures.placed here.proof anchors u later (rw c.substitute.ensures.scope here.are_open)
    (refers_later s v w c.args.sides.1 u c.substitute.ensures.keeps sides.right))

pub returns-clause-known_left : goal.returns-clause-known_left
returns-clause-known_left c =
    known_later c.substitute.new.terms c.substitute-2.new.terms c.in-Ok.left c.substitute-2.ensures.keeps c.in-Ok.ensures.known
