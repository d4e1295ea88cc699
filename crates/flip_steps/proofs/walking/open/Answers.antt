use Rattle.std.proofs.Common.{◌++◌, ◌∷◌, [], map, append_assoc, ap, ◌∙◌, refl, sym, subst}
use Rattle.term_pool.specs.Reading.{arguments_of}
use Rattle.term_pool.specs.Views.{RefersTo, ReferToAll}
use Rattle.flip_steps.specs.declared.forms.Formed.{Formed}
use Rattle.flip_steps.specs.declared.visits.Visit.TheVariants as Visit
use Rattle.flip_steps.specs.Remembering.{Notes}
use Rattle.flip_steps.specs.Walks.{was_let, was_opened}
use Rattle.flip_steps.proofs.MemoryLemmas.{applied_no_let}
use Rattle.flip_steps.proofs.walking.open.Goals as goal

pub returns-in_default-head_of-clause-first : goal.returns-in_default-head_of-clause-first
returns-in_default-head_of-clause-first c =
    was_let c.requires.means c.requires.refers
    (c.in_default-head_of.ensures.let_term c.args.at.now.symbols.now c.requires.means c.leaves_differ.ensures.table c.requires.refers)
    (subst (λ (x : Formed). Notes c.args.forms.now c.note.new.self c.args.r x) c.alone.ensures c.in_ok-note.ensures) refl

pub returns-clause-first : goal.returns-clause-first
returns-clause-first c =
    let s = c.args.at.now.symbols.now in
    let t = c.requires.means in
    let same = c.head_of.ensures.same in
    let no_let = applied_no_let s c.in-Some-head_of._head (arguments_of t) t
    (c.in-Some-head_of.ensures.application s t c.leaves_differ.ensures.table c.requires.refers) in
    let refer = subst (λ v. ReferToAll s v c.in_ok-args.args.items (arguments_of t)) same
    (c.in_ok-args.ensures.arguments s t (subst (λ v. RefersTo s v c.args.r t) (sym same) c.requires.refers) no_let) in
    was_opened t c.deref.result.now c.requires.refers no_let
    (subst (λ xs. ReferToAll s c.args.terms.now xs (arguments_of t)) (sym c.deref.ensures.value) refer)
    (sym c.find.ensures ∙ c.in_default.is) refl
    (c.in_ok-open_all.ensures ∙ ap (λ xs. xs ++ map (λ q. Visit.Open q) c.deref.result.now) c.in_ok-push.ensures.items
    ∙ append_assoc c.args.visits.now.items (Visit.Close c.args.r ∷ []) (map (λ q. Visit.Open q) c.deref.result.now))
