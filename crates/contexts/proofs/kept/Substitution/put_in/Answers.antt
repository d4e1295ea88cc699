use Rattle.std.proofs.Common.{[], refl}
use Rattle.std.proofs.lemmas.Result.{IfOk-weaker, IfErr-weaker}
use Rattle.term_pool.proofs.Keeping.{placed-none}
use Rattle.contexts.specs.Becoming.{becomes}
use Rattle.contexts.proofs.ClosedLemmas.{closed_later}
use Rattle.contexts.proofs.FirstLemmas.{term_is, places_are, room_lacks}
use Rattle.contexts.proofs.KeptFrames.{walked_here, right_walked}
use Rattle.contexts.proofs.Links.{term_shape}
use Rattle.contexts.proofs.kept.Substitution.put_in.Goals as goal

pub put-requires-clause-shaped : goal.put-requires-clause-shaped
put-requires-clause-shaped c =
    rw c.look_through.ensures.same (record {
      tree = c.requires.term.refers.tree;
      known = c.requires.term.refers.known;
      shape = term_shape _ c.leaves_differ.ensures.table c.requires.term.means c.requires.term.refers.tree c.requires.term.refers.stands;
    })

pub put-requires-clause-closed : goal.put-requires-clause-closed
put-requires-clause-closed c = rw c.look_through.ensures.same c.look_through.ensures.closed

pub look_through-requires-clause-known : goal.look_through-requires-clause-known
look_through-requires-clause-known c = record { tree = c.requires.term.refers.tree; stands = c.requires.term.refers.known }

pub put-requires-clause-walked : goal.put-requires-clause-walked
put-requires-clause-walked c = rw c.look_through.ensures.same (walked_here _ _ c.requires.right)

pub returns-clause-term : goal.returns-clause-term
returns-clause-term c =
    IfOk-weaker c.put.result _ _
    (λ i image t q refers h. term_is _ c.leaves_differ.ensures.table _ _ c.args.self.now.images c.requires.right.images c.put.new.terms c.args.r i image t q refers h)
    (rw c.look_through.ensures.same at c.put.ensures.image)

pub returns-clause-placed : goal.returns-clause-placed
returns-clause-placed c = λ t q refers h. places_are _ c.leaves_differ.ensures.table _ _ c.args.self.now.images c.requires.right.images c.put.new.terms.pass c.args.r (rw c.look_through.ensures.same at c.put.ensures.placed) t q refers h

pub returns-clause-full : goal.returns-clause-full
returns-clause-full c =
    IfErr-weaker c.put.result _ _
    (λ e full is t q refers h. room_lacks _ c.leaves_differ.ensures.table _ _ c.args.self.now.images c.requires.right.images c.put.new.terms.pass c.args.r (full is) t q refers h)
    (rw c.look_through.ensures.same at c.put.ensures.full)

pub returns-clause-known : goal.returns-clause-known
returns-clause-known c =
    IfOk-weaker c.put.result _ _
    (λ i image.
    let refers = term_is _ c.leaves_differ.ensures.table _ _ c.args.self.now.images c.requires.right.images c.put.new.terms c.args.r i image c.requires.term.means c.requires.bindings.means c.requires.term.refers c.requires.bindings.are in
    record { tree = refers.tree; stands = refers.known })
    (rw c.look_through.ensures.same at c.put.ensures.image)

pub returns-clause-right : goal.returns-clause-right
returns-clause-right c =
    let keeps = rw c.look_through.ensures.same at c.put.ensures.keeps in
    right_walked _ _ c.args.self.now c.put.new.walked c.look_through.new.closed keeps c.put.ensures.walked (closed_later _ _ keeps.pass _ _ c.look_through.ensures.closed)
    c.requires.right

pub returns-in_err-look_through-clause-placed : goal.returns-in_err-look_through-clause-placed
returns-in_err-look_through-clause-placed c t q refers h =
    rw c.look_through.ensures.same
    (places_are _ c.leaves_differ.ensures.table _ _ c.args.self.now.images c.requires.right.images c.args.terms.now.pass c.args.r
    (λ f u are known. placed-none c.args.terms.now.pass c.args.terms.now.pass (becomes f [] u) refl) t q refers h)
