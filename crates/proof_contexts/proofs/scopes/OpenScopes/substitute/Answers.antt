use Rattle.std.proofs.Common.{refl}
use Rattle.std.proofs.lemmas.Result.{IfOk-weaker, IfErr-weaker}
use Rattle.sym_table.proofs.Tables.{keeps_table}
use Rattle.rule_model.specs.Contexts.{images}
use Rattle.proof_contexts.proofs.Levels.{stand_for_images, kept_later}
use Rattle.proof_contexts.proofs.scopes.OpenScopes.substitute.Goals as goal

pub returns-clause-term : goal.returns-clause-term
returns-clause-term c =
    IfOk-weaker c.put_in.result _ _
    (λ i term of anchors t stand here refers.
    term t (images anchors) refers (stand_for_images c.args.symbols.now c.args.terms.now c.args.proof.now c.args.self.now c.requires.kept c.leaves_differ.ensures.table c.one_to_one.ensures (c.proofs_stand_for_one.ensures.one c.args.symbols.now c.args.terms.now c.args.proof.now) of anchors stand here))
    c.put_in.ensures.term

pub returns-clause-placed : goal.returns-clause-placed
returns-clause-placed c of anchors t stand here refers =
    c.put_in.ensures.placed t (images anchors) refers (stand_for_images c.args.symbols.now c.args.terms.now c.args.proof.now c.args.self.now c.requires.kept c.leaves_differ.ensures.table c.one_to_one.ensures (c.proofs_stand_for_one.ensures.one c.args.symbols.now c.args.terms.now c.args.proof.now) of anchors stand here)

pub returns-clause-full : goal.returns-clause-full
returns-clause-full c =
    IfErr-weaker c.put_in.result _ _
    (λ e full is of anchors t stand here refers.
    full is t (images anchors) refers (stand_for_images c.args.symbols.now c.args.terms.now c.args.proof.now c.args.self.now c.requires.kept c.leaves_differ.ensures.table c.one_to_one.ensures (c.proofs_stand_for_one.ensures.one c.args.symbols.now c.args.terms.now c.args.proof.now) of anchors stand here))
    c.put_in.ensures.full

pub returns-clause-kept : goal.returns-clause-kept
returns-clause-kept c =
    kept_later c.args.symbols.now c.args.terms.now c.args.proof.now c.args.self.now c.requires.kept c.substitutions_stay.ensures.bindings c.put_in.new.terms c.put_in.ensures.keeps
    (record { alloc = c.args.self.now.alloc; around = c.args.self.now.around; here = c.args.self.now.here; substitution = c.put_in.new.self })
    (c.proofs_stay.ensures c.args.symbols.now c.args.symbols.now c.args.terms.now c.put_in.new.terms c.args.proof.now c.requires.kept.proof (keeps_table c.args.symbols.now) c.put_in.ensures.keeps c.requires.kept.stand)
    refl c.put_in.ensures.same c.put_in.ensures.right
