use Rattle.std.proofs.Common.{sym, subst, arith}
use Rattle.rule_model.specs.Congruence.{applied}
use Rattle.term_model.proofs.Zips.{zip_length}
use Rattle.term_pool.proofs.References.{refer_are_terms}
use Rattle.term_pool.specs.Views.{RefersTo, ReferToAll}
use Rattle.equality_steps.specs.Sites.{AreSides}
use Rattle.equality_steps.proofs.DeniedLemmas.{refer_later, term_later, unplaced_before}
use Rattle.equality_steps.proofs.Results.{err_more}
use Rattle.equality_steps.proofs.StepLemmas.{refers_later}
use Rattle.equality_steps.proofs.clauses.add_arguments.Goals as goal

pub arguments_of-requires : goal.arguments_of-requires
arguments_of-requires c = record { means = applied c.requires.head c.requires.ts; refers = c.requires.left_refers }

pub arguments_of-requires-2 : goal.arguments_of-requires-2
arguments_of-requires-2 c =
    term_later c.args.at.now.symbols.now c.args.terms.now c.arguments_of.new.terms c.arguments_of.ensures.keeps c.args.b
    (record { means = applied c.requires.head c.requires.us; refers = c.requires.right_refers })

pub add_denials-requires-clause-left : goal.add_denials-requires-clause-left
add_denials-requires-clause-left c =
    let s = c.args.at.now.symbols.now in
    let v = c.args.terms.now in
    let w = c.arguments_of.new.terms in
    let x = c.arguments_of-2.new.terms in
    refer_are_terms s x c.deref.result.now c.requires.ts
    (subst (λ rs. ReferToAll s x rs c.requires.ts) (sym c.deref.ensures.value)
    (refer_later s w x c.arguments_of-2.ensures.keeps c.in_ok-left.left.items c.requires.ts
    (c.in_ok-left.ensures.arguments c.requires.head c.requires.ts c.requires.left_refers)))

pub add_denials-requires-clause-right : goal.add_denials-requires-clause-right
add_denials-requires-clause-right c =
    let s = c.args.at.now.symbols.now in
    let v = c.args.terms.now in
    let w = c.arguments_of.new.terms in
    let x = c.arguments_of-2.new.terms in
    refer_are_terms s x c.deref-2.result.now c.requires.us
    (subst (λ rs. ReferToAll s x rs c.requires.us) (sym c.deref-2.ensures.value)
    (c.in_ok-right.ensures.arguments c.requires.head c.requires.us
    (refers_later c.args.at.now v w c.arguments_of.ensures.keeps c.args.b (applied c.requires.head c.requires.us) c.requires.right_refers)))

pub add_denials-requires-clause-long : goal.add_denials-requires-clause-long
add_denials-requires-clause-long c =
    let s = c.args.at.now.symbols.now in
    let v = c.args.terms.now in
    let w = c.arguments_of.new.terms in
    let x = c.arguments_of-2.new.terms in
    let one =
    zip_length (RefersTo s x) c.deref.result.now c.requires.ts
    (subst (λ rs. ReferToAll s x rs c.requires.ts) (sym c.deref.ensures.value)
    (refer_later s w x c.arguments_of-2.ensures.keeps c.in_ok-left.left.items c.requires.ts
    (c.in_ok-left.ensures.arguments c.requires.head c.requires.ts c.requires.left_refers))) in
    let other =
    zip_length (RefersTo s x) c.deref-2.result.now c.requires.us
    (subst (λ rs. ReferToAll s x rs c.requires.us) (sym c.deref-2.ensures.value)
    (c.in_ok-right.ensures.arguments c.requires.head c.requires.us
    (refers_later c.args.at.now v w c.arguments_of.ensures.keeps c.args.b (applied c.requires.head c.requires.us) c.requires.right_refers))) in
    let same = zip_length (AreSides c.args.at.now) c.requires.ts c.requires.us c.requires.arguments in
    omega arith

pub returns-clause-added : goal.returns-clause-added
returns-clause-added c head ts us l r =
    let s = c.args.at.now.symbols.now in
    let v = c.args.terms.now in
    let w = c.arguments_of.new.terms in
    let x = c.arguments_of-2.new.terms in
    c.add_denials.ensures.added ts us
    (subst (λ rs. ReferToAll s x rs ts) (sym c.deref.ensures.value)
    (refer_later s w x c.arguments_of-2.ensures.keeps c.in_ok-left.left.items ts (c.in_ok-left.ensures.arguments head ts l)))
    (subst (λ rs. ReferToAll s x rs us) (sym c.deref-2.ensures.value)
    (c.in_ok-right.ensures.arguments head us (refers_later c.args.at.now v w c.arguments_of.ensures.keeps c.args.b (applied head us) r)))

pub returns-clause-placed : goal.returns-clause-placed
returns-clause-placed c head ts us l r =
    let s = c.args.at.now.symbols.now in
    let v = c.args.terms.now in
    let w = c.arguments_of.new.terms in
    let x = c.arguments_of-2.new.terms in
    unplaced_before s v w x c.add_denials.new.terms _ c.arguments_of.ensures.unchanged.placed c.arguments_of-2.ensures.unchanged.placed
    (c.add_denials.ensures.placed ts us
    (subst (λ rs. ReferToAll s x rs ts) (sym c.deref.ensures.value)
    (refer_later s w x c.arguments_of-2.ensures.keeps c.in_ok-left.left.items ts (c.in_ok-left.ensures.arguments head ts l)))
    (subst (λ rs. ReferToAll s x rs us) (sym c.deref-2.ensures.value)
    (c.in_ok-right.ensures.arguments head us (refers_later c.args.at.now v w c.arguments_of.ensures.keeps c.args.b (applied head us) r))))

pub returns-clause-full : goal.returns-clause-full
returns-clause-full c =
    err_more c.add_denials.result _ _ (λ e lacks is head ts us l r.
    let s = c.args.at.now.symbols.now in
    let v = c.args.terms.now in
    let w = c.arguments_of.new.terms in
    let x = c.arguments_of-2.new.terms in
    lacks is ts us
    (subst (λ rs. ReferToAll s x rs ts) (sym c.deref.ensures.value)
    (refer_later s w x c.arguments_of-2.ensures.keeps c.in_ok-left.left.items ts (c.in_ok-left.ensures.arguments head ts l)))
    (subst (λ rs. ReferToAll s x rs us) (sym c.deref-2.ensures.value)
    (c.in_ok-right.ensures.arguments head us (refers_later c.args.at.now v w c.arguments_of.ensures.keeps c.args.b (applied head us) r))))
    c.add_denials.ensures.full
