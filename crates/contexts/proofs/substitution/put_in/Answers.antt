use Rattle.std.proofs.lemmas.Result.{IfOk-weaker, IfErr-weaker}
use Rattle.contexts.specs.Becoming.{look_of}
use Rattle.contexts.proofs.FirstLemmas.{have_images, term_is, places_are, room_lacks, places_none}
use Rattle.contexts.proofs.Links.{term_shape}
use Rattle.contexts.proofs.substitution.put_in.Goals as goal

pub returns-in_err-images-clause-placed : goal.returns-in_err-images-clause-placed
returns-in_err-images-clause-placed c = λ t q refers h. places_none _ c.leaves_differ.ensures.table _ c.args.bindings.now c.args.r t q refers h

pub returns-in_err-walked-clause-placed : goal.returns-in_err-walked-clause-placed
returns-in_err-walked-clause-placed c = λ t q refers h. places_none _ c.leaves_differ.ensures.table _ c.args.bindings.now c.args.r t q refers h

pub put-requires-clause-shaped : goal.put-requires-clause-shaped
put-requires-clause-shaped c = record {
  tree = c.requires.term.refers.tree;
  known = c.requires.term.refers.known;
  shape = term_shape _ c.leaves_differ.ensures.table c.requires.term.means c.requires.term.refers.tree c.requires.term.refers.stands;
}

pub put-requires-clause-walked : goal.put-requires-clause-walked
put-requires-clause-walked c =
    let h = have_images _ c.leaves_differ.ensures.table _ _ c.in_ok-images.images c.in_ok-images.ensures c.requires.bindings in
    c.in_ok-walked.ensures _ (look_of c.in_ok-images.images) h.trees h.are

pub returns-clause-term : goal.returns-clause-term
returns-clause-term c =
    IfOk-weaker c.put.result _ _
    (λ i image t q refers h. term_is _ c.leaves_differ.ensures.table _ _ c.in_ok-images.images c.in_ok-images.ensures c.put.new.terms c.args.r i image t q refers h)
    c.put.ensures.image

pub returns-clause-placed : goal.returns-clause-placed
returns-clause-placed c = λ t q refers h. places_are _ c.leaves_differ.ensures.table _ _ c.in_ok-images.images c.in_ok-images.ensures c.put.new.terms.pass c.args.r c.put.ensures.placed t q refers h

pub returns-clause-full : goal.returns-clause-full
returns-clause-full c =
    IfErr-weaker c.put.result _ _
    (λ e full is t q refers h. room_lacks _ c.leaves_differ.ensures.table _ _ c.in_ok-images.images c.in_ok-images.ensures c.put.new.terms.pass c.args.r (full is) t q refers h)
    c.put.ensures.full

pub returns-clause-known : goal.returns-clause-known
returns-clause-known c =
    IfOk-weaker c.put.result _ _
    (λ i image.
    let refers = term_is _ c.leaves_differ.ensures.table _ _ c.in_ok-images.images c.in_ok-images.ensures c.put.new.terms c.args.r i image c.requires.term.means c.requires.bindings.means c.requires.term.refers c.requires.bindings.are in
    record { tree = refers.tree; stands = refers.known })
    c.put.ensures.image
