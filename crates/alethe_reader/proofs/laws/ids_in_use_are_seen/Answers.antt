-- The ids in use are those of the commands that are seen, and of the open anchors.
use Rattle.std.proofs.Common.{◌≡◌, None, false, find, subst}
use Rattle.std.specs.Str.{bytes_eq}
use Rattle.problem_text.specs.Words.{is_among}
use Rattle.alethe_reader.specs.IdsInUse.{ids_in, sight_at}
use Rattle.alethe_reader.proofs.IdsInUse.{found_seen, unseen, not_open, sights_seen, anchors_open, unused_new}
use Rattle.alethe_reader.proofs.laws.ids_in_use_are_seen.Goals as goal

pub returns-clause-used : goal.returns-clause-used
returns-clause-used c = λ scope id f h.
    subst (λ cs. find (λ c. bytes_eq c.id id) cs ≡ sight_at f.role f.number id) (sights_seen scope) (found_seen (ids_in scope) id f h)

pub returns-clause-unseen : goal.returns-clause-unseen
returns-clause-unseen c = λ scope id h. subst (λ cs. find (λ c. bytes_eq c.id id) cs ≡ None) (sights_seen scope) (unseen (ids_in scope) id h)

pub returns-clause-not_open : goal.returns-clause-not_open
returns-clause-not_open c = λ scope id h. subst (λ ids. is_among ids id ≡ false) (anchors_open scope) (not_open (ids_in scope) id h)

pub returns-clause-new : goal.returns-clause-new
returns-clause-new c = unused_new
